-- The code that the rules of operators return at a position is the least one there: for each production of expressions.
use Rattle.std.proofs.Common.{◌≡◌, refl, sym, ap, ℕ, zero, suc, Bool, true, false, if◌then◌else◌, ◌&&◌, ◌||◌, ◌==◌, not, List, []}
use Rattle.std.proofs.Common.{◌∷◌, ◌++◌}
use Rattle.std.proofs.Common.{Option, Some, None}
use Rattle.std.specs.Prelude.{option_to_list}
use Rattle.cs_types.specs.declared.data_model.DataModel.{DataModel}
use Rattle.cs_types.specs.declared.structs.StructType.{StructType}
use Rattle.cs_types.specs.Kinds.{is_void, is_scalar, is_complete}
use Rattle.cs_types.specs.Layout.{members_of}
use Rattle.cs_types.specs.Members.{Member}
use Rattle.cs_types.specs.Shape.{Shape, void, integer, pointer, array, struct, same_shape}
use Rattle.cs_ast.specs.declared.place.Place.{Place}
use Rattle.cs_ast.specs.declared.raw.operator.AssignOp.{AssignOp}
use Rattle.cs_ast.specs.declared.raw.operator.PrefixOp.{PrefixOp}
use Rattle.cs_ast.specs.declared.typed.operator.BinOp.{BinOp}
use Rattle.cs_ast.specs.declared.typed.operator.Gives.{Gives}
use Rattle.cs_ast.specs.TypedTree.{Typed, Of, Form}
use Rattle.cs_scopes.specs.declared.context.Context.{Context}
use Rattle.cs_scopes.specs.declared.refusal.TypeCode.{TypeCode}
use Rattle.cs_scopes.specs.declared.refusal.TypeCode.TheVariants as codes
use Rattle.cs_scopes.specs.Scalars.{has_few_scalars}
use Rattle.cs_scopes.specs.Verdicts.{Verdict, Fine, Fault, lift, lift2, lift3}
use Rattle.cs_folding.specs.Folding.{is_null}
use Rattle.cs_folding.specs.TypedParts.{type_of}
use Rattle.cs_scopes.specs.Faults.{lesser}
use Rattle.cs_expressions.specs.Conversions.{Pair, converted, pointed, recast, pointer_cast, pointers_met}
use Rattle.cs_expressions.specs.Objects.{is_object, operand}
use Rattle.cs_expressions.specs.Operators.{met, tested, chosen, chosen_pair, alike}
use Rattle.cs_expressions.specs.Places.{address_of, selected, selected_through, struct_number, struct_after}
use Rattle.cs_scopes.specs.Members.{member_found}
use Rattle.cs_expressions.specs.Stores.{is_additive, assignable, assigned, assigned_fault, updatable, updatable_as, updated, updated_fault, weighed}
use Rattle.cs_expressions.specs.Stores.{moved_by_step}
use Rattle.cs_expressions.specs.Stores.{steppable, stepped}
use Rattle.cs_consts.specs.Typing.{is_plain, operator_of, left_side, left_fault, stored_by, stored, stored_to, cast_type, cast_operand, cast_to}
use Rattle.cs_consts.specs.Typing.{chosen_values, prefixed, prefixed_value, is_address, stepped_object, arrow_on}
use Rattle.cs_declarations.specs.Sizes.{fault_in}
use Rattle.cs_first_faults.specs.Failures.{FailingPlace, least_of, failing, failing_at, unless, codes_of, if_typed, if_both_typed, fails, fails_on_both}
use Rattle.cs_first_faults.specs.Failures.{IsFirst}
use Rattle.cs_first_faults.specs.Expressions.{something, address_codes, member_failures, arrow_failures, step_codes, left_codes, store_codes}
use Rattle.cs_first_faults.specs.Expressions.{choice_codes, cast_codes, recast_codes}
use Rattle.cs_first_faults.proofs.Firsts.{no_some, no_none, IsAt, if_at, lift_at, first-failing-last, first-before, first-then-nothing, first-stored}

-- ---- the errors of these rules are at their operator's position

pub converted-at : (model : DataModel) (at : Place) (e : Typed) (target source : Shape) → IsAt at (converted model at e target source)
unfolding converted pointed
converted-at model at e (integer t) (integer s) = tt
converted-at model at e (integer t) (pointer s) = refl
converted-at model at e (pointer t) (integer s) = if_at at (is_null model e) _ _ tt refl
converted-at model at e (pointer t) (pointer s) =
    if_at at (same_shape t s) _ _ tt (if_at at (is_null model e) _ _ tt (if_at at (is_void t) _ _ tt refl))
converted-at model at e (struct n) (struct m) = if_at at (n == m) _ _ tt refl
converted-at model at e (integer t) void = refl
converted-at model at e (integer t) (array s n) = refl
converted-at model at e (integer t) (struct n) = refl
converted-at model at e (pointer t) void = refl
converted-at model at e (pointer t) (array s n) = refl
converted-at model at e (pointer t) (struct n) = refl
converted-at model at e (struct n) void = refl
converted-at model at e (struct n) (integer t) = refl
converted-at model at e (struct n) (pointer t) = refl
converted-at model at e (struct n) (array t m) = refl
converted-at model at e void source = refl
converted-at model at e (array t n) source = refl

updated-at : (model : DataModel) (op : BinOp) (at : Place) (object value : Typed) (t s : Shape) → IsAt at (updated model op at object value t s)
unfolding updated
updated-at model op at object value (integer t) (integer s) = tt
updated-at model op at object value (integer t) void = refl
updated-at model op at object value (integer t) (pointer s) = refl
updated-at model op at object value (integer t) (array s n) = refl
updated-at model op at object value (integer t) (struct n) = refl
updated-at model op at object value (pointer t) (integer s) = tt
updated-at model op at object value (pointer t) void = refl
updated-at model op at object value (pointer t) (pointer s) = refl
updated-at model op at object value (pointer t) (array s n) = refl
updated-at model op at object value (pointer t) (struct n) = refl
updated-at model op at object value void s = refl
updated-at model op at object value (array t n) s = refl
updated-at model op at object value (struct n) s = refl

pub stored_by-at : (c : Context) (op : AssignOp) (at : Place) (object value : Typed) → IsAt at (stored_by c op at object value)
unfolding stored_by
stored_by-at c op at object value =
    if_at at (is_plain op) _ _
    (lift_at at (assigned at object) _ (converted-at c.model at value (type_of object) (type_of value)) (λ v. tt))
    (updated-at c.model (operator_of op) at object value (type_of object) (type_of value))

recast-at : (model : DataModel) (at : Place) (e : Typed) (target source : Shape) → IsAt at (recast model at e target source)
unfolding recast pointer_cast
recast-at model at e void source = tt
recast-at model at e (integer t) (integer s) = tt
recast-at model at e (integer t) (pointer s) = refl
recast-at model at e (integer t) void = refl
recast-at model at e (integer t) (array s n) = refl
recast-at model at e (integer t) (struct n) = refl
recast-at model at e (pointer t) (integer s) = if_at at (is_null model e) _ _ tt refl
recast-at model at e (pointer t) (pointer s) = if_at at (same_shape t s || is_void t) _ _ tt (if_at at (is_null model e) _ _ tt refl)
recast-at model at e (pointer t) void = refl
recast-at model at e (pointer t) (array s n) = refl
recast-at model at e (pointer t) (struct n) = refl
recast-at model at e (array t n) source = refl
recast-at model at e (struct n) source = refl

-- two values without a common type are an error of operand types
abbrev pub IsMismatch : {A : Type 0} → Place → Verdict A → Type 0
IsMismatch at (Fine value) = Unit {0}
IsMismatch at (Fault code place) = (code ≡ codes.OperandTypes) × (place ≡ at)

if_mismatch : {A : Type 0} (at : Place) (test : Bool) (v w : Verdict A) → IsMismatch at v → IsMismatch at w → IsMismatch at (if test then v else w)
if_mismatch at true v w h k = h
if_mismatch at false v w h k = k

pub met-mismatch : (model : DataModel) (at : Place) (one other : Typed) (t s : Shape) → IsMismatch at (met model at one other t s)
unfolding met pointers_met
met-mismatch model at one other (integer t) (integer s) = tt
met-mismatch model at one other (pointer t) (pointer s) =
    if_mismatch at (same_shape t s) _ _ tt
    (if_mismatch at (is_null model other) _ _ tt
    (if_mismatch at (is_null model one) _ _ tt (if_mismatch at (is_void t) _ _ tt (if_mismatch at (is_void s) _ _ tt (refl, refl)))))
met-mismatch model at one other (pointer t) (integer s) = if_mismatch at (is_null model other) _ _ tt (refl, refl)
met-mismatch model at one other (integer t) (pointer s) = if_mismatch at (is_null model one) _ _ tt (refl, refl)
met-mismatch model at one other (pointer t) void = (refl, refl)
met-mismatch model at one other (pointer t) (array s n) = (refl, refl)
met-mismatch model at one other (pointer t) (struct n) = (refl, refl)
met-mismatch model at one other (integer t) void = (refl, refl)
met-mismatch model at one other (integer t) (array s n) = (refl, refl)
met-mismatch model at one other (integer t) (struct n) = (refl, refl)
met-mismatch model at one other void s = (refl, refl)
met-mismatch model at one other (array t n) s = (refl, refl)
met-mismatch model at one other (struct n) s = (refl, refl)

-- ---- prefix and postfix operators

lvalue : (at : Place) (object : Bool) (v : Typed)
    → IsFirst (if object then Fine v else Fault codes.NotLvalue at) (failing_at at (unless object codes.NotLvalue) ++ [])
lvalue at true v = refl
lvalue at false v = refl

-- `&`
pub address-first : (at : Place) (e : Typed)
    → IsFirst (address_of at e) (failing_at at (if_typed address_codes (something e)) ++ fails something (Fine e))
unfolding address_of
address-first at (Of p void form) = refl
address-first at (Of p (integer t) form) = lvalue at (is_object form) _
address-first at (Of p (pointer t) form) = lvalue at (is_object form) _
address-first at (Of p (array t n) form) = lvalue at (is_object form) _
address-first at (Of p (struct n) form) = lvalue at (is_object form) _

-- `.`
found-object : (at : Place) (object : Bool) (found : Verdict Member) (rule : Member → Typed)
    → IsFirst (if object then lift (λ m. Fine (rule m)) found else Fault codes.NotLvalue at)
    (failing_at at (unless object codes.NotLvalue) ++ failing found)
unfolding lift
found-object at true (Fine m) rule = refl
found-object at true (Fault code place) rule = refl
found-object at false found rule = refl

pub member-first : (table : List StructType) (at name_at : Place) (name : List ℕ) (e : Typed)
    → IsFirst (selected table at name_at name e)
    (fails something (Fine e) ++ if_typed (λ found. member_failures table at name_at name found (struct_number (type_of found))) (something e))
unfolding selected
member-first table at name_at name (Of p void form) = refl
member-first table at name_at name (Of p (integer t) form) = refl
member-first table at name_at name (Of p (pointer t) form) = refl
member-first table at name_at name (Of p (array t n) form) = refl
member-first table at name_at name (Of p (struct n) form) = found-object at (is_object form) (member_found name_at name (members_of table n)) _

-- `->`
found-through : (found : Verdict Member) (rule : Member → Typed) → IsFirst (lift (λ m. Fine (rule m)) found) (failing found)
unfolding lift
found-through (Fine m) rule = refl
found-through (Fault code place) rule = refl

pub arrow-first : (c : Context) (at name_at : Place) (name : List ℕ) (e : Typed)
    → IsFirst (arrow_on c at name_at name e) (arrow_failures c.table.list at name_at name (struct_after (type_of e)))
unfolding selected_through
arrow-first c at name_at name (Of p (pointer (struct n)) form) = found-through (member_found name_at name (members_of c.table.list n)) _
arrow-first c at name_at name (Of p (pointer void) form) = refl
arrow-first c at name_at name (Of p (pointer (integer t)) form) = refl
arrow-first c at name_at name (Of p (pointer (pointer t)) form) = refl
arrow-first c at name_at name (Of p (pointer (array t n)) form) = refl
arrow-first c at name_at name (Of p void form) = refl
arrow-first c at name_at name (Of p (integer t) form) = refl
arrow-first c at name_at name (Of p (array t n) form) = refl
arrow-first c at name_at name (Of p (struct n) form) = refl

-- `++` and `--`
abbrev stepped_at : Context → BinOp → Gives → Place → Typed → Verdict Typed
stepped_at c op gives at e = lift (stepped_object c op gives at) (steppable c.table.list op at e)

-- codes that come after those of an object that isn't an lvalue, or of a type that the operator doesn't support
abbrev IsLater : Option TypeCode → Type 0
IsLater None = Unit {0}
IsLater (Some code) = (lesser codes.NotLvalue code ≡ codes.NotLvalue) × (lesser codes.OperandTypes code ≡ codes.OperandTypes)

if_later : (test : Bool) (one other : Option TypeCode) → IsLater one → IsLater other → IsLater (if test then one else other)
if_later true one other h k = h
if_later false one other h k = k

-- a pointer, by whether it is an lvalue and the operator supports it
moved-object : (c : Context) (op : BinOp) (gives : Gives) (at p : Place) (target : Shape) (form : Form) (object additive : Bool)
    (fault : Option TypeCode) (move : Typed → Verdict Typed) → IsLater fault
    → move (Of p (pointer target) form) ≡ weighed at fault (Fine (Of p (pointer target) form))
    → IsFirst
    (lift (stepped_object c op gives at)
    (lift move
    (if object && true then (if additive then Fine (Of p (pointer target) form) else Fault codes.OperandTypes at) else Fault codes.NotLvalue at)))
    (failing_at at (unless (object && true) codes.NotLvalue ++ unless additive codes.OperandTypes ++ option_to_list fault))
unfolding lift stepped
moved-object c op gives at p target form true true None move late is = ap (λ v. fault_in (lift (stepped_object c op gives at) v)) is
moved-object c op gives at p target form true true (Some x) move late is = ap (λ v. fault_in (lift (stepped_object c op gives at) v)) is
moved-object c op gives at p target form true false None move late is = refl
moved-object c op gives at p target form true false (Some x) move late is = ap (λ y. Some (y, at)) (sym late.1)
moved-object c op gives at p target form false true None move late is = refl
moved-object c op gives at p target form false true (Some x) move late is = ap (λ y. Some (y, at)) (sym late.0)
moved-object c op gives at p target form false false None move late is = refl
moved-object c op gives at p target form false false (Some x) move late is = ap (λ y. Some (y, at)) (sym (ap (lesser codes.NotLvalue) late.1))

pub step-first : (c : Context) (op : BinOp) (gives : Gives) (at : Place) (e : Typed)
    → IsFirst (stepped_at c op gives at e) (fails something (Fine e) ++ failing_at at (if_typed (step_codes c op) (something e)))
unfolding steppable updatable updatable_as updated_fault lift stepped
step-first c op gives at (Of p void form) = refl
step-first c op gives at (Of p (integer t) form) = plain (is_object form) where
  plain : (object : Bool)
      → IsFirst
      (lift (stepped_object c op gives at)
      (lift (moved_by_step c.table.list at) (if object && true then Fine (Of p (integer t) form) else Fault codes.NotLvalue at)))
      (failing_at at (unless (object && true) codes.NotLvalue ++ [] ++ []))
  plain true = refl
  plain false = refl
step-first c op gives at (Of p (pointer t) form) =
    moved-object c op gives at p t form (is_object form) (is_additive op) _ (moved_by_step c.table.list at)
    (if_later (is_complete c.table.list t) None (Some codes.IncompleteType) tt (refl, refl)) refl
step-first c op gives at (Of p (array t n) form) = none (is_object form) where
  none : (object : Bool)
      → IsFirst
      (lift (stepped_object c op gives at)
      (lift (moved_by_step c.table.list at) (if object && false then Fault codes.OperandTypes at else Fault codes.NotLvalue at)))
      (failing_at at (unless (object && false) codes.NotLvalue ++ codes.OperandTypes ∷ [] ++ []))
  none true = refl
  none false = refl
step-first c op gives at (Of p (struct n) form) = none (is_object form) where
  none : (object : Bool)
      → IsFirst
      (lift (stepped_object c op gives at)
      (lift (moved_by_step c.table.list at) (if object && true then Fault codes.OperandTypes at else Fault codes.NotLvalue at)))
      (failing_at at (unless (object && true) codes.NotLvalue ++ codes.OperandTypes ∷ [] ++ []))
  none true = refl
  none false = refl

pub step_before-first : (c : Context) (op : BinOp) (gives : Gives) (at : Place) (e : Typed)
    → IsFirst (stepped_at c op gives at e) (failing_at at (if_typed (step_codes c op) (something e)) ++ fails something (Fine e))
unfolding steppable updatable lift
step_before-first c op gives at (Of p void form) = refl
step_before-first c op gives at (Of p (integer t) form) = first-then-nothing _ _ (step-first c op gives at (Of p (integer t) form))
step_before-first c op gives at (Of p (pointer t) form) = first-then-nothing _ _ (step-first c op gives at (Of p (pointer t) form))
step_before-first c op gives at (Of p (array t n) form) = first-then-nothing _ _ (step-first c op gives at (Of p (array t n) form))
step_before-first c op gives at (Of p (struct n) form) = first-then-nothing _ _ (step-first c op gives at (Of p (struct n) form))

-- ---- assignment operators

left_fault-later : (c : Context) (op : AssignOp) (ty : Shape) → IsLater (left_fault c op ty)
unfolding left_fault assigned_fault updated_fault
left_fault-later c op ty =
    if_later (is_plain op) _ _
    (if_later (not (is_complete c.table.list ty)) _ _ (refl, refl) (if_later (has_few_scalars c.table.list ty) _ _ tt (refl, refl)))
    (updated ty)
  where
    updated : (ty : Shape) → IsLater (updated_fault c.table.list ty)
    updated (pointer t) = if_later (is_complete c.table.list t) _ _ tt (refl, refl)
    updated void = tt
    updated (integer t) = tt
    updated (array t n) = tt
    updated (struct n) = tt

-- the left operand, by whether it is an lvalue, and has a type that the operator supports
abbrev left_by : Place → Typed → Bool → Bool → Verdict Typed
left_by at e stored taken = if stored then (if taken then Fine e else Fault codes.OperandTypes at) else Fault codes.NotLvalue at

store-sides : (at : Place) (stored taken : Bool) (fault : Option TypeCode) (e : Typed) (store : Typed → Verdict Typed)
    (both : Typed → Typed → List TypeCode) (right : Verdict Typed) (following : List FailingPlace) → IsLater fault
    → IsFirst (store e) (failing_at at (option_to_list fault ++ if_typed (both e) right) ++ following)
    → IsFirst (lift store (left_by at e stored taken))
    (failing_at at
    ((unless stored codes.NotLvalue ++ unless taken codes.OperandTypes ++ option_to_list fault)
    ++ if_both_typed both (left_by at e stored taken) right) ++ following)
unfolding lift
store-sides at true true fault e store both (Fine v) following late h = h
store-sides at true true fault e store both (Fault code place) following late h = h
store-sides at true false None e store both right following late h = refl
store-sides at true false (Some x) e store both right following late h = ap (λ y. Some (y, at)) (sym late.1)
store-sides at false true None e store both right following late h = refl
store-sides at false true (Some x) e store both right following late h = ap (λ y. Some (y, at)) (sym late.0)
store-sides at false false None e store both right following late h = refl
store-sides at false false (Some x) e store both right following late h =
    ap (λ y. Some (y, at)) (sym (ap (lesser codes.NotLvalue) late.1))

store-typed : (at : Place) (plain stored taken : Bool) (fault : Option TypeCode) (e : Typed) (store : Typed → Verdict Typed)
    (both : Typed → Typed → List TypeCode) (right : Verdict Typed) (following : List FailingPlace) → IsLater fault
    → IsFirst (store e) (failing_at at (option_to_list fault ++ if_typed (both e) right) ++ following)
    → IsFirst (lift store (if plain then left_by at e stored true else left_by at e stored taken))
    (failing_at at
    ((unless stored codes.NotLvalue ++ unless (plain || taken) codes.OperandTypes ++ option_to_list fault)
    ++ if_both_typed both (if plain then left_by at e stored true else left_by at e stored taken) right) ++ following)
store-typed at true stored taken fault e store both right following late h = store-sides at stored true fault e store both right following late h
store-typed at false stored taken fault e store both right following late h = store-sides at stored taken fault e store both right following late h

store-void : (plain : Bool) (at p : Place) (store : Typed → Verdict Typed) (both : Typed → Typed → List TypeCode) (right : Verdict Typed)
    (following : List FailingPlace)
    → IsFirst (lift store (if plain then Fault codes.VoidValue p else Fault codes.VoidValue p))
    (failing_at p (codes.VoidValue ∷ [])
    ++ failing_at at ([] ++ if_both_typed both (if plain then Fault codes.VoidValue p else Fault codes.VoidValue p) right) ++ following)
unfolding lift
store-void true at p store both right following = refl
store-void false at p store both right following = refl

pub store-first : (c : Context) (op : AssignOp) (at : Place) (e : Typed) (right : Verdict Typed) (following : List FailingPlace)
    → IsFirst right following
    → IsFirst (lift (stored_to c op at right) (left_side op at e))
    (fails something (Fine e)
    ++ failing_at at (if_typed (left_codes c op) (something e) ++ if_both_typed (store_codes c op at) (left_side op at e) right) ++ following)
unfolding left_side assignable updatable updatable_as stored
store-first c op at (Of p void form) right following h = store-void (is_plain op) at p (stored_to c op at right) (store_codes c op at) right following
store-first c op at (Of p (integer t) form) right following h =
    store-typed at (is_plain op) (is_object form && true) true (left_fault c op (integer t)) (Of p (integer t) form) (stored_to c op at right)
    (store_codes c op at) right following (left_fault-later c op (integer t))
    (first-stored at (left_fault c op (integer t)) (stored_by c op at (Of p (integer t) form)) right following h
    (stored_by-at c op at (Of p (integer t) form)))
store-first c op at (Of p (pointer t) form) right following h =
    store-typed at (is_plain op) (is_object form && true) (is_additive (operator_of op)) (left_fault c op (pointer t)) (Of p (pointer t) form)
    (stored_to c op at right) (store_codes c op at) right following (left_fault-later c op (pointer t))
    (first-stored at (left_fault c op (pointer t)) (stored_by c op at (Of p (pointer t) form)) right following h
    (stored_by-at c op at (Of p (pointer t) form)))
store-first c op at (Of p (array t n) form) right following h =
    store-typed at (is_plain op) (is_object form && false) false (left_fault c op (array t n)) (Of p (array t n) form)
    (stored_to c op at right) (store_codes c op at) right following (left_fault-later c op (array t n))
    (first-stored at (left_fault c op (array t n)) (stored_by c op at (Of p (array t n) form)) right following h
    (stored_by-at c op at (Of p (array t n) form)))
store-first c op at (Of p (struct n) form) right following h =
    store-typed at (is_plain op) (is_object form && true) false (left_fault c op (struct n)) (Of p (struct n) form)
    (stored_to c op at right) (store_codes c op at) right following (left_fault-later c op (struct n))
    (first-stored at (left_fault c op (struct n)) (stored_by c op at (Of p (struct n) form)) right following h
    (stored_by-at c op at (Of p (struct n) form)))

-- ---- values that an operator converts to one type

-- `?:`
choice-met : (at : Place) (test alike_values : Typed) (same : Bool) (pair : Verdict Pair) → IsMismatch at pair
    → IsFirst (if same then Fine alike_values else lift (chosen_pair at test) pair) (failing_at at (if same then [] else codes_of pair) ++ [] ++ [])
unfolding lift
choice-met at test alike_values true pair is = refl
choice-met at test alike_values false (Fine pair) is = refl
choice-met at test alike_values false (Fault code place) is = ap (λ p. Some (code, p)) is.1

untested : (at : Place) (same : Bool) (pair : Verdict Pair) → IsMismatch at pair
    → least_of codes.OperandTypes (if same then [] else codes_of pair) ≡ codes.OperandTypes
untested at true pair is = refl
untested at false (Fine pair) is = refl
untested at false (Fault code place) is = ap (lesser codes.OperandTypes) is.0

choice-values : (c : Context) (at : Place) (test : Typed) (one other : Verdict Typed) (first second : List FailingPlace)
    → IsFirst one first → IsFirst other second
    → IsFirst (lift3 (chosen_values c at) (Fine test) one other)
    (failing_at at ([] ++ if_both_typed (choice_codes c at) one other) ++ first ++ second)
unfolding lift3 chosen
choice-values c at test (Fine a) (Fine b) [] [] h k =
    choice-met at test _ (alike (type_of a) (type_of b)) (met c.model at a b (type_of a) (type_of b))
    (met-mismatch c.model at a b (type_of a) (type_of b))
choice-values c at test (Fine a) (Fine b) (f ∷ fs) second h k = no_some _ h
choice-values c at test (Fine a) (Fine b) [] (g ∷ gs) h k = no_some _ k
choice-values c at test (Fine a) (Fault code place) [] [] h k = no_none _ k
choice-values c at test (Fine a) (Fault code place) [] (g ∷ gs) h k = k
choice-values c at test (Fine a) (Fault code place) (f ∷ fs) second h k = no_some _ h
choice-values c at test (Fault code place) other [] second h k = no_none _ h
choice-values c at test (Fault code place) other (f ∷ fs) second h k = h

choice-untested : (c : Context) (at : Place) (one other : Verdict Typed)
    → least_of codes.OperandTypes (if_both_typed (choice_codes c at) one other) ≡ codes.OperandTypes
choice-untested c at (Fine a) (Fine b) =
    untested at (alike (type_of a) (type_of b)) (met c.model at a b (type_of a) (type_of b)) (met-mismatch c.model at a b (type_of a) (type_of b))
choice-untested c at (Fine a) (Fault code place) = refl
choice-untested c at (Fault code place) other = refl

choice-tested : (c : Context) (at : Place) (t : Typed) (scalar : Bool) (one other : Verdict Typed) (first second : List FailingPlace)
    → IsFirst one first → IsFirst other second
    → IsFirst (lift3 (chosen_values c at) (if scalar then Fine t else Fault codes.OperandTypes at) one other)
    (failing_at at
    (codes_of (let v : Verdict Typed = if scalar then Fine t else Fault codes.OperandTypes at in v) ++ if_both_typed (choice_codes c at) one other)
    ++ first ++ second)
unfolding lift3
choice-tested c at t true one other first second h k = choice-values c at t one other first second h k
choice-tested c at t false one other first second h k = ap (λ y. Some (y, at)) (sym (choice-untested c at one other))

pub choice-first : (c : Context) (at : Place) (asked one other : Verdict Typed) (before first second : List FailingPlace)
    → IsFirst asked before → IsFirst one first → IsFirst other second
    → IsFirst (lift3 (chosen_values c at) (lift (tested at) asked) one other)
    (before ++ failing_at at (if_typed (λ t. codes_of (tested at t)) asked ++ if_both_typed (choice_codes c at) one other) ++ first ++ second)
unfolding lift lift3 tested
choice-first c at (Fine t) one other [] first second g h k = choice-tested c at t (is_scalar (type_of t)) one other first second h k
choice-first c at (Fine t) one other (f ∷ fs) first second g h k = no_some _ g
choice-first c at (Fault code place) one other [] first second g h k = no_none _ g
choice-first c at (Fault code place) one other (f ∷ fs) first second g h k = g

-- ---- casts

cast-value : (c : Context) (at : Place) (target : Shape) (v : Verdict Typed)
    → IsFirst (lift (λ e. recast c.model at e target (type_of e)) v)
    (failing_at at (if_typed (λ e. codes_of (recast c.model at e target (type_of e))) v) ++ [] ++ [] ++ failing v)
unfolding lift
cast-value c at target (Fault code place) = refl
cast-value c at target (Fine e) = whole (recast c.model at e target (type_of e)) (recast-at c.model at e target (type_of e)) where
  whole : (w : Verdict Typed) → IsAt at w → IsFirst w (failing_at at (codes_of w) ++ [] ++ [] ++ [])
  whole (Fine x) is = refl
  whole (Fault code place) is = ap (λ p. Some (code, p)) is

cast-typed : (c : Context) (at : Place) (target : Shape) (e : Verdict Typed) (following : List FailingPlace) → IsFirst e following
    → IsFirst (lift2 (cast_to c at) (Fine target) e)
    (failing_at at ([] ++ if_both_typed (recast_codes c at) (Fine target) e) ++ [] ++ following ++ fails_on_both (cast_operand c) (Fine target) e)
unfolding lift2 cast_to
cast-typed c at target (Fine e) [] h = cast-value c at target (cast_operand c target e)
cast-typed c at target (Fine e) (f ∷ fs) h = no_some _ h
cast-typed c at target (Fault code place) [] h = no_none _ h
cast-typed c at target (Fault code place) (f ∷ fs) h = h

pub cast-first : (c : Context) (at : Place) (bounds : ℕ) (base : Verdict Shape) (e : Verdict Typed) (following : List FailingPlace)
    → IsFirst e following
    → IsFirst (lift2 (cast_to c at) (cast_type at bounds base) e)
    (failing_at at (cast_codes bounds base at ++ if_both_typed (recast_codes c at) (cast_type at bounds base) e)
    ++ failing base ++ following ++ fails_on_both (cast_operand c) (cast_type at bounds base) e)
unfolding cast_type lift lift2
cast-first c at (suc n) base e following h = refl
cast-first c at zero (Fault code place) e following h = refl
cast-first c at zero (Fine (array t n)) e following h = refl
cast-first c at zero (Fine (struct n)) e following h = refl
cast-first c at zero (Fine void) e following h = cast-typed c at void e following h
cast-first c at zero (Fine (integer t)) e following h = cast-typed c at (integer t) e following h
cast-first c at zero (Fine (pointer t)) e following h = cast-typed c at (pointer t) e following h

-- ---- operators on one operand

value-first : (rule : Typed → Verdict Typed) (v : Verdict Typed) → IsFirst (lift rule v) (fails rule v ++ failing v)
unfolding lift
value-first rule (Fine e) = first-failing-last (rule e)
value-first rule (Fault code place) = refl

pub prefix-first : (c : Context) (op : PrefixOp) (at : Place) (v : Verdict Typed) (failures : List FailingPlace) → IsFirst v failures
    → IsFirst (lift (prefixed c op at) v)
    (if is_address op
    then failing_at at (if_typed address_codes (lift something v)) ++ (failures ++ fails something v)
    else fails (prefixed_value c op at) (lift (operand c.table.list) v) ++ (failures ++ fails (operand c.table.list) v))
unfolding prefixed lift
prefix-first c op at v failures h = by_kind (is_address op) where
  by_kind : (address : Bool)
      → IsFirst (lift (λ e. if address then address_of at e else lift (prefixed_value c op at) (operand c.table.list e)) v)
      (if address
      then failing_at at (if_typed address_codes (lift something v)) ++ (failures ++ fails something v)
      else fails (prefixed_value c op at) (lift (operand c.table.list) v) ++ (failures ++ fails (operand c.table.list) v))
  by_kind true =
      first-before (address_of at) v failures (fails something) (λ w. failing_at at (if_typed address_codes (lift something w))) h
      (λ code place. refl) (address-first at)
  by_kind false =
      first-before (λ e. lift (prefixed_value c op at) (operand c.table.list e)) v failures (fails (operand c.table.list))
      (λ w. fails (prefixed_value c op at) (lift (operand c.table.list) w)) h (λ code place. refl)
      (λ e. value-first (prefixed_value c op at) (operand c.table.list e))
