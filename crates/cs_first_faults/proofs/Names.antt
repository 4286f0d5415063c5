-- Errors of a declared type are at the name, and come after the error that the name is declared twice.
use Rattle.std.proofs.Common.{◌≡◌, refl, sym, ap, ◌∙◌, ℕ, ℤ, pos, Bool, true, false, if◌then◌else◌, ◌&&◌, not, List, [], ◌∷◌}
use Rattle.std.proofs.Common.{◌++◌, Option, Some, None, append-nil}
use Rattle.std.specs.Prelude.{is_some, unsigned_abs, nat_le}
use Rattle.std.specs.Option.{option_or}
use Rattle.cs_types.specs.declared.data_model.DataModel.{DataModel}
use Rattle.cs_types.specs.declared.structs.StructType.{StructType}
use Rattle.cs_types.specs.Kinds.{is_complete}
use Rattle.cs_types.specs.Shape.{Shape, void, integer, pointer, array, struct}
use Rattle.cs_ast.specs.declared.place.Place.{Place}
use Rattle.cs_ast.specs.declared.raw.declaration.RawDeclarator.{RawDeclarator}
use Rattle.cs_ast.specs.declared.raw.declaration.RawInit.{RawInit}
use Rattle.cs_ast.specs.declared.raw.declaration.RawParameter.{RawParameter}
use Rattle.cs_ast.specs.declared.raw.expression.RawExpr.{RawExpr}
use Rattle.cs_scopes.specs.declared.context.Context.{Context}
use Rattle.cs_scopes.specs.declared.refusal.TypeCode.{TypeCode}
use Rattle.cs_scopes.specs.declared.refusal.TypeCode.TheVariants as codes
use Rattle.cs_scopes.specs.Faults.{lesser}
use Rattle.cs_scopes.specs.Sizes.{bytes_in}
use Rattle.cs_scopes.specs.TypeNames.{starred, complete_at, array_of, arrayed, is_array_size}
use Rattle.cs_scopes.specs.Verdicts.{Verdict, Fine, Fault, lift, number_of}
use Rattle.cs_folding.specs.TypedParts.{type_of}
use Rattle.cs_expressions.specs.Conversions.{converted}
use Rattle.cs_expressions.specs.Integers.{raised}
use Rattle.cs_expressions.specs.Operators.{tested}
use Rattle.cs_expressions.specs.Primary.{Literals}
use Rattle.cs_consts.specs.declared.purpose.Purpose.TheVariants.{Run, Constant}
use Rattle.cs_consts.specs.Roles.{number_of_constant, value_of, operand_of, assigned_value, test_of, selector_of, discarded_value}
use Rattle.cs_consts.specs.Typing.{judged}
use Rattle.cs_declarations.specs.Bodies.{declarator_type}
use Rattle.cs_declarations.specs.Objects.{count_given, object_type}
use Rattle.cs_declarations.specs.Parameters.{place_of, plainly_passed, array_passed, passed, parameter_passed}
use Rattle.cs_declarations.specs.Sizes.{sizes_said, fault_in, refused_bound, unless_refused, all_said, bounded, element_of}
use Rattle.cs_declarations.specs.Sizes.{Extent, Whole, Unsized, outermost, extent_of, filled}
use Rattle.cs_first_faults.specs.Failures.{FailingPlace, least_of, first_failure, failing_at, unless, codes_of, if_typed, IsFirst}
use Rattle.cs_first_faults.specs.Roles.{constant_failures, value_asked_failures, assigned_failures, test_failures, selector_failures, dropped_failures}
use Rattle.cs_first_faults.specs.Declarators.{bounds_failures, named_type, declarator_codes, object_codes, passed_type, parameter_codes}
use Rattle.cs_first_faults.proofs.Firsts.{no_some, no_none, first-fails, first-ahead}
use Rattle.cs_first_faults.proofs.Expressions.{formed-first, done-first, value-first, operand-first}

-- ---- roles

pub value_of-first : (c : Context) (e : RawExpr) → IsFirst (value_of c e) (constant_failures c e)
unfolding value_of
value_of-first c e =
    first-fails number_of_constant (judged c Constant [] None e) _
    (done-first c Constant _ _ (formed-first c Constant [] None e.place e.kind.value))

pub operand_of-first : (c : Context) (literals : Literals) (target : Option Shape) (e : RawExpr)
    → IsFirst (operand_of c literals target e) (value_asked_failures c literals target e)
unfolding operand_of
operand_of-first c literals target e = operand-first c Run _ _ (formed-first c Run literals target e.place e.kind.value)

pub assigned-first : (c : Context) (literals : Literals) (at : Place) (target : Shape) (e : RawExpr)
    → IsFirst (assigned_value c literals at target e) (assigned_failures c literals at target e)
unfolding assigned_value operand_of
assigned-first c literals at target e =
    first-ahead (λ v. converted c.model at v target (type_of v)) (operand_of c literals (Some target) e) _
    (operand_of-first c literals (Some target) e)

pub test-first : (c : Context) (literals : Literals) (at : Place) (e : RawExpr) → IsFirst (test_of c literals at e) (test_failures c literals at e)
unfolding test_of operand_of
test-first c literals at e = first-ahead (tested at) (operand_of c literals None e) _ (operand_of-first c literals None e)

pub selector-first : (c : Context) (literals : Literals) (at : Place) (e : RawExpr)
    → IsFirst (selector_of c literals at e) (selector_failures c literals at e)
unfolding selector_of operand_of
selector-first c literals at e =
    first-ahead (λ v. raised c.model at v (type_of v)) (operand_of c literals None e) _ (operand_of-first c literals None e)

pub dropped-first : (c : Context) (literals : Literals) (e : RawExpr) → IsFirst (discarded_value c literals e) (dropped_failures c literals e)
unfolding discarded_value
dropped-first c literals e = value-first c Run _ _ (formed-first c Run literals None e.place e.kind.value)

-- ---- codes of a name

-- a code that comes after that of a second declaration
abbrev pub IsAfterTwice : TypeCode → Type 0
IsAfterTwice code = lesser codes.DeclaredTwice code ≡ codes.DeclaredTwice

abbrev pub AreAfterTwice : List TypeCode → Type 0
AreAfterTwice [] = Unit {0}
AreAfterTwice (code ∷ others) = IsAfterTwice code × AreAfterTwice others

lesser-after : (code other : TypeCode) → IsAfterTwice code → IsAfterTwice other → IsAfterTwice (lesser code other)
lesser-after code other h k = by_test (nat_le (number_of code) (number_of other)) where
  by_test : (test : Bool) → IsAfterTwice (if test then code else other)
  by_test true = h
  by_test false = k

least-after : (code : TypeCode) (others : List TypeCode) → IsAfterTwice code → AreAfterTwice others → IsAfterTwice (least_of code others)
least-after code [] h k = h
least-after code (other ∷ others) h k = lesser-after code (least_of other others) h (least-after other others k.0 k.1)

pub twice-least : (others : List TypeCode) → AreAfterTwice others → least_of codes.DeclaredTwice others ≡ codes.DeclaredTwice
twice-least [] k = refl
twice-least (other ∷ others) k = least-after other others k.0 k.1

pub after-both : (some more : List TypeCode) → AreAfterTwice some → AreAfterTwice more → AreAfterTwice (some ++ more)
after-both [] more h k = k
after-both (code ∷ others) more h k = (h.0, after-both others more h.1 k)

-- an error, if the result is one, is at a name, and comes after that of a second declaration
abbrev pub IsNamed : {A : Type 0} → Place → Verdict A → Type 0
IsNamed at (Fine value) = Unit {0}
IsNamed at (Fault code place) = (place ≡ at) × IsAfterTwice code

pub named-codes : {A : Type 0} (at : Place) (v : Verdict A) → IsNamed at v → AreAfterTwice (codes_of v)
named-codes at (Fine value) is = tt
named-codes at (Fault code place) is = (is.1, tt)

pub lift-named : {A B : Type 0} (at : Place) (rule : A → Verdict B) (v : Verdict A) → IsNamed at v → ((a : A) → IsNamed at (rule a))
    → IsNamed at (lift rule v)
unfolding lift
lift-named at rule (Fine a) h k = k a
lift-named at rule (Fault code place) h k = h

pub if-named : {A : Type 0} (at : Place) (test : Bool) (v w : Verdict A) → IsNamed at v → IsNamed at w → IsNamed at (if test then v else w)
if-named at true v w h k = h
if-named at false v w h k = k

array_of-named : (model : DataModel) (table : List StructType) (at : Place) (n : ℤ) (element : Shape) → IsNamed at (array_of model table at n element)
unfolding array_of
array_of-named model table at n element =
    if-named at (is_array_size n && is_some (bytes_in model table (array element (unsigned_abs n)))) _ _ tt (refl, refl)

arrayed-named : (model : DataModel) (table : List StructType) (at : Place) (base : Shape) (ns : List ℤ) → IsNamed at (arrayed model table at base ns)
arrayed-named model table at base [] = tt
arrayed-named model table at base (n ∷ ns) =
    lift-named at (array_of model table at n) (arrayed model table at base ns) (arrayed-named model table at base ns) (array_of-named model table at n)

pub complete-named : (table : List StructType) (at : Place) (ty : Shape) → IsNamed at (complete_at table at ty)
unfolding complete_at
complete-named table at ty = if-named at (is_complete table ty) _ _ tt (refl, refl)

bounded-named : (c : Context) (at : Place) (base : Shape) (bounds : List (Option RawExpr)) → IsNamed at (bounded c at base bounds)
bounded-named c at base [] = tt
bounded-named c at base (bound ∷ bounds) = complete-named c.table.list at base

all_said-named : (at : Place) (sizes : List (Option ℤ)) → IsNamed at (all_said at sizes)
all_said-named at [] = tt
all_said-named at (None ∷ others) = (refl, refl)
all_said-named at (Some n ∷ others) = lift-named at (λ ns. Fine (n ∷ ns)) (all_said at others) (all_said-named at others) (λ ns. tt)

element_of-named : (c : Context) (at : Place) (base : Shape) (others : List (Option ℤ)) → IsNamed at (element_of c at base others)
element_of-named c at base others =
    lift-named at (arrayed c.model c.table.list at base) (all_said at others) (all_said-named at others) (arrayed-named c.model c.table.list at base)

outermost-named : (c : Context) (at : Place) (size : Option ℤ) (element : Shape) → IsNamed at (outermost c at size element)
outermost-named c at (Some n) element =
    lift-named at (λ ty. Fine (Whole ty)) (array_of c.model c.table.list at n element) (array_of-named c.model c.table.list at n element) (λ ty. tt)
outermost-named c at None element = tt

extent-named : (c : Context) (at : Place) (base : Shape) (sizes : List (Option ℤ)) → IsNamed at (extent_of c at base sizes)
extent-named c at base [] = tt
extent-named c at base (first ∷ others) =
    lift-named at (outermost c at first) (element_of c at base others) (element_of-named c at base others) (outermost-named c at first)

filled-named : (c : Context) (at : Place) (count : Option ℕ) (extent : Extent) → IsNamed at (filled c at count extent)
filled-named c at count (Whole ty) = tt
filled-named c at (Some n) (Unsized element) = array_of-named c.model c.table.list at (pos n) element
filled-named c at None (Unsized element) = (refl, refl)

pub named_type-named : (c : Context) (base : Shape) (count : Option ℕ) (d : RawDeclarator) → IsNamed d.place (named_type c base count d)
named_type-named c base count d =
    lift-named d.place (λ whole. lift (filled c d.place count) (extent_of c d.place whole (sizes_said c d.bounds.items)))
    (bounded c d.place (starred d.pointers.items base) d.bounds.items)
    (bounded-named c d.place (starred d.pointers.items base) d.bounds.items)
    (λ whole. lift-named d.place (filled c d.place count) (extent_of c d.place whole (sizes_said c d.bounds.items))
    (extent-named c d.place whole (sizes_said c d.bounds.items)) (filled-named c d.place count))

-- ---- bounds

pub first-of-two : {A B : Type 0} (made : A → B) (v : Verdict A) (rest : Option (TypeCode × Place)) (one other : List FailingPlace) → IsFirst v one
    → rest ≡ first_failure other → option_or (fault_in (lift (λ a. Fine (made a)) v)) rest ≡ first_failure (one ++ other)
unfolding lift
first-of-two made (Fine a) rest [] other h k = k
first-of-two made (Fine a) rest (f ∷ fs) other h k = no_some _ h
first-of-two made (Fault code place) rest [] other h k = no_none _ h
first-of-two made (Fault code place) rest (f ∷ fs) other h k = h

pub bounds-first : (c : Context) (bounds : List (Option RawExpr)) → refused_bound c bounds ≡ first_failure (bounds_failures c bounds)
bounds-first c [] = refl
bounds-first c (None ∷ bounds) = bounds-first c bounds
bounds-first c (Some e ∷ bounds) =
    first-of-two (λ v. Some v.1) (value_of c e) (refused_bound c bounds) (constant_failures c e) (bounds_failures c bounds) (value_of-first c e)
    (bounds-first c bounds)

unless-first : {A : Type 0} (refused : Option (TypeCode × Place)) (found : A) (following : List FailingPlace) → refused ≡ first_failure following
    → IsFirst (unless_refused refused found) following
unfolding lift
unless-first None found following h = h
unless-first (Some fault) found following h = h

-- an error at a name comes before those of the bounds after it
pub named-first : {A B : Type 0} (at : Place) (rule : B → Verdict A) (v : Verdict B) (refused : Option (TypeCode × Place)) (following : List FailingPlace)
    → IsNamed at (lift rule v) → refused ≡ first_failure following
    → IsFirst (lift (λ whole. lift (unless_refused refused) (rule whole)) v) (failing_at at (codes_of (lift rule v)) ++ following)
unfolding lift
named-first at rule (Fault code place) refused following is h = ap (λ p. Some (code, p)) is.0
named-first {A = A} at rule (Fine b) refused following is h = found (rule b) is where
  found : (w : Verdict A) → IsNamed at w → IsFirst (lift (unless_refused refused) w) (failing_at at (codes_of w) ++ following)
  found (Fine a) named = unless-first refused a following h
  found (Fault code place) named = ap (λ p. Some (code, p)) named.0

pub declarator-first : (c : Context) (base : Shape) (count : Option ℕ) (d : RawDeclarator)
    → IsFirst (declarator_type c base count d) (failing_at d.place (declarator_codes c base count d) ++ bounds_failures c d.bounds.items)
declarator-first c base count d =
    named-first d.place (λ whole. lift (filled c d.place count) (extent_of c d.place whole (sizes_said c d.bounds.items)))
    (bounded c d.place (starred d.pointers.items base) d.bounds.items) (refused_bound c d.bounds.items) (bounds_failures c d.bounds.items)
    (named_type-named c base count d) (bounds-first c d.bounds.items)

-- ---- more rules at a name

-- a rule on what is declared, with the others of the name
pub rule-at-name : {A B : Type 0} (at : Place) (rule : A → Verdict B) (v : Verdict A) (some : List TypeCode) (following : List FailingPlace)
    → IsFirst v (failing_at at some ++ following) → ((a : A) → IsNamed at (rule a))
    → IsFirst (lift rule v) (failing_at at (some ++ if_typed (λ a. codes_of (rule a)) v) ++ following)
unfolding lift
rule-at-name {B = B} at rule (Fine a) [] following h is = one (rule a) (is a) where
  one : (w : Verdict B) → IsNamed at w → IsFirst w (failing_at at (codes_of w) ++ following)
  one (Fine b) named = h
  one (Fault code place) named = ap (λ p. Some (code, p)) named.0
rule-at-name at rule (Fine a) (x ∷ xs) following h is = no_some _ h
rule-at-name at rule (Fault code place) [] following h is = h
rule-at-name at rule (Fault code place) (x ∷ xs) following h is = h ∙ ap (λ ys. Some (least_of x ys, at)) (sym (append-nil xs))

-- a name that is declared twice
pub twice-first : {A : Type 0} (at : Place) (declared : Bool) (v : Verdict A) (some : List TypeCode) (following : List FailingPlace)
    → AreAfterTwice some → IsFirst v (failing_at at some ++ following)
    → IsFirst (if declared then Fault codes.DeclaredTwice at else v) (failing_at at (unless (not declared) codes.DeclaredTwice ++ some) ++ following)
twice-first at true v some following after h = ap (λ x. Some (x, at)) (sym (twice-least some after))
twice-first at false v some following after h = h

-- a value made from one: it has the same failing positions
pub first-made : {A B : Type 0} (made : A → B) (v : Verdict A) (failures : List FailingPlace) → IsFirst v failures
    → IsFirst (lift (λ a. Fine (made a)) v) failures
unfolding lift
first-made made (Fine a) failures h = h
first-made made (Fault code place) failures h = h

pub object-first : (c : Context) (base : Shape) (d : RawInit)
    → IsFirst (object_type c base d) (failing_at d.declarator.place (object_codes c base d) ++ bounds_failures c d.declarator.bounds.items)
object-first c base d =
    rule-at-name d.declarator.place (complete_at c.table.list d.declarator.place) (declarator_type c base (count_given d.initial) d.declarator)
    (declarator_codes c base (count_given d.initial) d.declarator) (bounds_failures c d.declarator.bounds.items)
    (declarator-first c base (count_given d.initial) d.declarator) (complete-named c.table.list d.declarator.place)

pub rule-after : {A B : Type 0} (at : Place) (rule : A → Verdict B) (v : Verdict A) → ((a : A) → IsNamed at (rule a))
    → AreAfterTwice (if_typed (λ a. codes_of (rule a)) v)
rule-after at rule (Fine a) is = named-codes at (rule a) (is a)
rule-after at rule (Fault code place) is = tt

pub declarator-after : (c : Context) (base : Shape) (count : Option ℕ) (d : RawDeclarator) → AreAfterTwice (declarator_codes c base count d)
declarator-after c base count d = named-codes d.place (named_type c base count d) (named_type-named c base count d)

pub object-after : (c : Context) (base : Shape) (d : RawInit) → AreAfterTwice (object_codes c base d)
object-after c base d =
    after-both (declarator_codes c base (count_given d.initial) d.declarator) _ (declarator-after c base (count_given d.initial) d.declarator)
    (rule-after d.declarator.place (complete_at c.table.list d.declarator.place) (declarator_type c base (count_given d.initial) d.declarator)
    (complete-named c.table.list d.declarator.place))

-- ---- parameters

plainly-named : (at : Place) (ty : Shape) → IsNamed at (plainly_passed at ty)
plainly-named at void = (refl, refl)
plainly-named at (struct number) = (refl, refl)
plainly-named at (array element count) = tt
plainly-named at (integer ty) = tt
plainly-named at (pointer target) = tt

array_passed-named : (c : Context) (at : Place) (size : Option ℤ) (element : Shape) → IsNamed at (array_passed c at size element)
array_passed-named c at (Some n) element =
    lift-named at _ (array_of c.model c.table.list at n element) (array_of-named c.model c.table.list at n element) (λ whole. tt)
array_passed-named c at None element = tt

passed-named : (c : Context) (at : Place) (base : Shape) (sizes : List (Option ℤ)) → IsNamed at (passed c at base sizes)
passed-named c at base [] = plainly-named at base
passed-named c at base (first ∷ others) =
    lift-named at (array_passed c at first) (element_of c at base others) (element_of-named c at base others) (array_passed-named c at first)

pub passed_type-named : (c : Context) (p : RawParameter) (base : Shape) → IsNamed (place_of p.place p.name) (passed_type c p base)
passed_type-named c p base =
    let at = place_of p.place p.name in
    lift-named at (λ whole. passed c at whole (sizes_said c p.bounds.items)) (bounded c at base p.bounds.items)
    (bounded-named c at base p.bounds.items) (λ whole. passed-named c at whole (sizes_said c p.bounds.items))

pub parameter-after : (c : Context) (p : RawParameter) (base : Shape) → AreAfterTwice (parameter_codes c p base)
parameter-after c p base = named-codes (place_of p.place p.name) (passed_type c p base) (passed_type-named c p base)

pub parameter-first : (c : Context) (p : RawParameter) (base : Shape)
    → IsFirst (parameter_passed c p base) (failing_at (place_of p.place p.name) (parameter_codes c p base) ++ bounds_failures c p.bounds.items)
parameter-first c p base =
    let at = place_of p.place p.name in
    named-first at (λ whole. passed c at whole (sizes_said c p.bounds.items)) (bounded c at base p.bounds.items) (refused_bound c p.bounds.items)
    (bounds_failures c p.bounds.items) (passed_type-named c p base) (bounds-first c p.bounds.items)
