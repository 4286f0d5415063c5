-- Declared objects and parameters are refused at their first failing position.
use Rattle.std.proofs.Common.{◌≡◌, refl, sym, ap, ◌∙◌, Bool, true, false, if◌then◌else◌, not, List, [], ◌∷◌, ◌++◌, Option, Some}
use Rattle.std.proofs.Common.{None, append-nil}
use Rattle.std.specs.Prelude.{is_some, length}
use Rattle.cs_types.specs.Shape.{Shape, same_shape}
use Rattle.cs_ast.specs.declared.place.Place.{Place}
use Rattle.cs_ast.specs.declared.raw.declaration.RawDeclarator.{RawDeclarator}
use Rattle.cs_ast.specs.declared.raw.declaration.RawFirstValue.{RawFirstValue}
use Rattle.cs_ast.specs.declared.raw.declaration.RawInit.{RawInit}
use Rattle.cs_ast.specs.declared.raw.declaration.RawParameter.{RawParameter}
use Rattle.cs_ast.specs.declared.raw.declaration.RawParameters.{RawParameters}
use Rattle.cs_ast.specs.declared.raw.declaration.RawParameters.TheVariants as parameter_lists
use Rattle.cs_ast.specs.declared.raw.declaration.RawSpecs.{RawSpecs}
use Rattle.cs_ast.specs.TypedProgram.{Variable}
use Rattle.cs_scopes.specs.declared.refusal.TypeCode.{TypeCode}
use Rattle.cs_scopes.specs.declared.refusal.TypeCode.TheVariants as codes
use Rattle.cs_scopes.specs.Meanings.{Meaning, Typedef, Constant, Global, Local, Function}
use Rattle.cs_scopes.specs.TypeNames.{starred}
use Rattle.cs_scopes.specs.Verdicts.{Verdict, Fine, Fault, lift}
use Rattle.cs_declarations.specs.Bodies.{Typing, specs_type}
use Rattle.cs_declarations.specs.Environment.{Environment, is_declared_here, meaning_here}
use Rattle.cs_declarations.specs.Initializers.{InFile, InFunction, initial_typed}
use Rattle.cs_declarations.specs.Objects.{object_type}
use Rattle.cs_declarations.specs.Parameters.{Head, Passed, place_of, name_in, is_free_name, naming, may_write, twice_after, after_twice, with_parameter}
use Rattle.cs_declarations.specs.Parameters.{parameter_passed, parameters_after, parameters_typed}
use Rattle.cs_declarations.specs.Sizes.{fault_in}
use Rattle.cs_statements.specs.Locals.{Inside, with_local, local_initialized, local_added, TypedStatements, after_local, locals_added}
use Rattle.cs_file_scope.specs.Objects.{Filed, Object, may_be_object, is_completed, object_of, object_initialized, object_added, objects_added}
use Rattle.cs_first_faults.specs.Failures.{FailingPlace, first_failure, failing_at, unless, codes_of, if_typed, IsFirst}
use Rattle.cs_first_faults.specs.Declarators.{bounds_failures, object_codes, parameter_codes}
use Rattle.cs_first_faults.specs.Objects.{parameters_failures, parameter_list_failures, file_initial_failures}
use Rattle.cs_first_faults.specs.Objects.{object_failures, objects_failures, local_initial_failures, local_failures, locals_failures}
use Rattle.cs_first_faults.specs.Types.{specs_failures}
use Rattle.cs_first_faults.proofs.Firsts.{no_some, no_none, first-then}
use Rattle.cs_first_faults.proofs.Initials.{initial-first}
use Rattle.cs_first_faults.proofs.Names.{IsNamed, AreAfterTwice, twice-least, after-both, rule-at-name, rule-after, first-made, object-first, object-after}
use Rattle.cs_first_faults.proofs.Names.{parameter-after, parameter-first}
use Rattle.cs_first_faults.proofs.Types.{specs-first}

-- ---- parameters

-- a head, unless one of its names is declared twice
abbrev pub unless_twice : Option Place → Head → Verdict Head
unless_twice None head = Fine head
unless_twice (Some at) head = Fault codes.DeclaredTwice at

abbrev pub once : Head → Verdict Head
once head = unless_twice head.twice head

-- a parameter name that is declared twice is an error, whatever comes after it
twice-counts : (at : Place) (ps : List RawParameter) (variables : List Variable) (written : List Bool) (k : Environment)
    → fault_in (lift once (parameters_after ps (record { variables = variables; written = written; twice = Some at; known = k })))
    ≡ Some (codes.DeclaredTwice, at)
unfolding lift
twice-counts at [] variables written k = refl
twice-counts at (p ∷ ps) variables written k = of_specs (specs_type k p.place p.specs) (twice-counts at ps) where
  of_passed : (found : Environment) (v : Verdict Passed)
      → ((variables : List Variable) (written : List Bool) (k : Environment)
      → fault_in (lift once (parameters_after ps (record { variables = variables; written = written; twice = Some at; known = k })))
      ≡ Some (codes.DeclaredTwice, at))
      → fault_in
      (lift once
      (lift (parameters_after ps)
      (lift (with_parameter p (record { variables = variables; written = written; twice = Some at; known = k }) found) (after_twice (Some at) v))))
      ≡ Some (codes.DeclaredTwice, at)
  of_passed found (Fine one) again = again _ _ _
  of_passed found (Fault code place) again = refl

  of_specs : (v : Verdict Typing)
      → ((variables : List Variable) (written : List Bool) (k : Environment)
      → fault_in (lift once (parameters_after ps (record { variables = variables; written = written; twice = Some at; known = k })))
      ≡ Some (codes.DeclaredTwice, at))
      → fault_in
      (lift once
      (lift (parameters_after ps)
      (lift (λ (found : Typing).
      lift (with_parameter p (record { variables = variables; written = written; twice = Some at; known = k }) found.1)
      (after_twice (Some at) (parameter_passed found.1.context p (starred p.pointers.items found.0))))
      (after_twice (Some at) v))))
      ≡ Some (codes.DeclaredTwice, at)
  of_specs (Fine found) again = of_passed found.1 (parameter_passed found.1.context p (starred p.pointers.items found.0)) again
  of_specs (Fault code place) again = refl

-- the parameters after one whose name isn't declared yet
free-then : (ps : List RawParameter) (next : Passed → Head) (v : Verdict Passed) (failures : List FailingPlace) → IsFirst v failures
    → ((one : Passed) → IsFirst (lift once (parameters_after ps (next one))) (parameters_failures ps (next one)))
    → IsFirst (lift once (lift (parameters_after ps) (lift (λ one. Fine (next one)) (after_twice None v))))
    (failures ++ if_typed (λ (head : Head). parameters_failures ps head) (lift (λ one. Fine (next one)) (after_twice None v)))
unfolding lift
free-then ps next (Fine one) [] h k = k one
free-then ps next (Fine one) (f ∷ fs) h k = no_some _ h
free-then ps next (Fault code place) [] h k = no_none _ h
free-then ps next (Fault code place) (f ∷ fs) h k = h

-- the same for one whose name may be declared already
named-then : (at : Place) (free : Bool) (ps : List RawParameter) (next : Option Place → Passed → Head) (v : Verdict Passed) (some : List TypeCode)
    (bounds : List FailingPlace) → AreAfterTwice some → IsFirst v (failing_at at some ++ bounds)
    → ((one : Passed) → IsFirst (lift once (parameters_after ps (next None one))) (parameters_failures ps (next None one)))
    → ((one : Passed) → fault_in (lift once (parameters_after ps (next (Some at) one))) ≡ Some (codes.DeclaredTwice, at))
    → IsFirst
    (lift once
    (lift (parameters_after ps)
    (lift (λ one. Fine (next (if free then None else Some at) one)) (after_twice (if free then None else Some at) v))))
    ((failing_at at (unless free codes.DeclaredTwice ++ some) ++ bounds)
    ++ if_typed (λ (head : Head). parameters_failures ps head)
    (lift (λ one. Fine (next (if free then None else Some at) one)) (after_twice (if free then None else Some at) v)))
unfolding lift
named-then at true ps next v some bounds after h k t = free-then ps (next None) v (failing_at at some ++ bounds) h k
named-then at false ps next (Fine one) some bounds after h k t = t one ∙ ap (λ x. Some (x, at)) (sym (twice-least some after))
named-then at false ps next (Fault code place) some bounds after h k t = ap (λ x. Some (x, at)) (sym (twice-least some after))

parameters-first : (ps : List RawParameter) (variables : List Variable) (written : List Bool) (k : Environment)
    → IsFirst (lift once (parameters_after ps (record { variables = variables; written = written; twice = None; known = k })))
    (parameters_failures ps (record { variables = variables; written = written; twice = None; known = k }))
unfolding lift
parameters-first [] variables written k = refl
parameters-first (p ∷ ps) variables written k =
    of_specs (specs_type k p.place p.specs) (specs_failures k p.place p.specs) (specs-first k p.place p.specs) (parameters-first ps) where
      of_specs : (v : Verdict Typing) (failures : List FailingPlace) → IsFirst v failures
          → ((variables : List Variable) (written : List Bool) (k : Environment)
          → IsFirst (lift once (parameters_after ps (record { variables = variables; written = written; twice = None; known = k })))
          (parameters_failures ps (record { variables = variables; written = written; twice = None; known = k })))
          → IsFirst
          (lift once
          (lift (parameters_after ps)
          (lift (λ (found : Typing).
          lift (with_parameter p (record { variables = variables; written = written; twice = None; known = k }) found.1)
          (after_twice (twice_after p None found.1) (parameter_passed found.1.context p (starred p.pointers.items found.0))))
          (after_twice None v))))
          (failures
          ++ if_typed (λ (found : Typing).
          failing_at (place_of p.place p.name)
          (unless (is_free_name p.name found.1) codes.DeclaredTwice ++ parameter_codes found.1.context p (starred p.pointers.items found.0))
          ++ bounds_failures found.1.context p.bounds.items) v
          ++ if_typed (λ (head : Head). parameters_failures ps head)
          (lift (λ (found : Typing).
          lift (with_parameter p (record { variables = variables; written = written; twice = None; known = k }) found.1)
          (after_twice (twice_after p None found.1) (parameter_passed found.1.context p (starred p.pointers.items found.0))))
          (after_twice None v)))
      of_specs (Fine found) [] h again =
          named-then (place_of p.place p.name) (is_free_name p.name found.1) ps
          (λ twice one. record {
            variables = variables ++ record { name = name_in p.name; ty = one.ty; block = one.block } ∷ [];
            written = written ++ may_write p one.ty ∷ [];
            twice = twice;
            known = naming p.name (length variables) one.ty found.1;
          })
          (parameter_passed found.1.context p (starred p.pointers.items found.0))
          (parameter_codes found.1.context p (starred p.pointers.items found.0)) (bounds_failures found.1.context p.bounds.items)
          (parameter-after found.1.context p (starred p.pointers.items found.0))
          (parameter-first found.1.context p (starred p.pointers.items found.0))
          (λ one. again _ _ _)
          (λ one. twice-counts (place_of p.place p.name) ps _ _ _)
      of_specs (Fine found) (f ∷ fs) h again = no_some _ h
      of_specs (Fault code place) [] h again = no_none _ h
      of_specs (Fault code place) (f ∷ fs) h again = h

pub parameter_list-first : (k : Environment) (list : RawParameters) → IsFirst (lift once (parameters_typed k list)) (parameter_list_failures k list)
unfolding lift
parameter_list-first k parameter_lists.Empty = refl
parameter_list-first k parameter_lists.Void = refl
parameter_list-first k (parameter_lists.List list) = parameters-first list.items [] [] k

-- ---- objects of a file

object_of-named : (f : Filed) (d : RawDeclarator) (before : Option Meaning) (ty : Shape) → IsNamed d.place (object_of f d before ty)
object_of-named f d (Some (Global number other)) ty = by_test (same_shape other ty) where
  by_test : (test : Bool) → IsNamed {A = Object} d.place (if test then Fine (record { number = number; filed = f }) else Fault codes.DeclaredTwice d.place)
  by_test true = tt
  by_test false = (refl, refl)
object_of-named f d (Some (Typedef other)) ty = tt
object_of-named f d (Some (Constant value)) ty = tt
object_of-named f d (Some (Local number other)) ty = tt
object_of-named f d (Some (Function signature)) ty = tt
object_of-named f d None ty = tt

file_initial-first : (ty : Shape) (value : Option RawFirstValue) (o : Object)
    → IsFirst (object_initialized ty value o) (file_initial_failures ty value o)
file_initial-first ty None o = refl
file_initial-first ty (Some value) o =
    first-made _ (initial_typed o.filed.known.context o.filed.known.literals InFile value.place ty value.initial) _
    (initial-first o.filed.known.context o.filed.known.literals InFile value.place ty value.initial)

-- an object, by whether its name may be declared so
admitted-first : {A B C : Type 0} (at : Place) (admitted : Bool) (rule : A → Verdict B) (made : B → C) (store : A → C → Verdict Filed)
    (next : A → C → List FailingPlace) (v : Verdict A) (some : List TypeCode) (bounds : List FailingPlace)
    → AreAfterTwice (some ++ if_typed (λ a. codes_of (rule a)) v)
    → IsFirst (lift rule v) (failing_at at (some ++ if_typed (λ a. codes_of (rule a)) v) ++ bounds)
    → ((a : A) (c : C) → IsFirst (store a c) (next a c))
    → IsFirst (if admitted then lift (λ a. lift (store a) (lift (λ b. Fine (made b)) (rule a))) v else Fault codes.DeclaredTwice at)
    (failing_at at (unless admitted codes.DeclaredTwice ++ (some ++ if_typed (λ a. codes_of (rule a)) v)) ++ bounds
    ++ if_typed (λ (o : A × C). next o.0 o.1) (lift (λ a. lift (λ c. Fine (a, c)) (lift (λ b. Fine (made b)) (rule a))) v))
unfolding lift
admitted-first at false rule made store next v some bounds after h k =
    ap (λ x. Some (x, at)) (sym (twice-least (some ++ if_typed (λ a. codes_of (rule a)) v) after))
admitted-first {A = A} {B = B} {C = C} at true rule made store next (Fault code place) some bounds after h k =
    h ∙ ap first_failure (sym (append-nil (failing_at at (some ++ []) ++ bounds)))
admitted-first {A = A} {B = B} {C = C} at true rule made store next (Fine a) some bounds after h k =
    of_rule (rule a) (failing_at at (some ++ codes_of (rule a)) ++ bounds) h
  where
    of_rule : (w : Verdict B) (failures : List FailingPlace) → IsFirst w failures
        → IsFirst (lift (store a) (lift (λ b. Fine (made b)) w))
        (failures ++ if_typed (λ (o : A × C). next o.0 o.1) (lift (λ c. Fine (a, c)) (lift (λ b. Fine (made b)) w)))
    of_rule (Fine b) [] g = k a (made b)
    of_rule (Fine b) (f ∷ fs) g = no_some _ g
    of_rule (Fault code place) [] g = no_none _ g
    of_rule (Fault code place) (f ∷ fs) g = g

file_object-first : (s : RawSpecs) (base : Shape) (d : RawInit) (f : Filed) → IsFirst (object_added s base d f) (object_failures s base d f)
file_object-first s base d f =
    let before = meaning_here d.declarator.name f.known in
    admitted-first d.declarator.place (may_be_object f.globals (is_completed f base d.declarator) (is_some d.initial) before)
    (object_of f d.declarator before) _ (λ ty o. object_initialized ty d.initial o) (λ ty o. file_initial_failures ty d.initial o)
    (object_type f.known.context base d) (object_codes f.known.context base d) (bounds_failures f.known.context d.declarator.bounds.items)
    (after-both (object_codes f.known.context base d) _ (object-after f.known.context base d)
    (rule-after d.declarator.place (object_of f d.declarator before) (object_type f.known.context base d) (object_of-named f d.declarator before)))
    (rule-at-name d.declarator.place (object_of f d.declarator before) (object_type f.known.context base d) (object_codes f.known.context base d)
    (bounds_failures f.known.context d.declarator.bounds.items) (object-first f.known.context base d) (object_of-named f d.declarator before))
    (λ ty o. file_initial-first ty d.initial o)

pub objects-first : (s : RawSpecs) (base : Shape) (ds : List RawInit) (f : Filed) → IsFirst (objects_added s base ds f) (objects_failures s base ds f)
objects-first s base [] f = refl
objects-first s base (d ∷ ds) f =
    first-then (objects_added s base ds) (object_added s base d f) (object_failures s base d f) (objects_failures s base ds)
    (file_object-first s base d f) (objects-first s base ds)

-- ---- locals

local_initial-first : (number : _) (ty : Shape) (at : Place) (value : Option RawFirstValue) (i : Inside)
    → IsFirst (local_initialized number ty at value i) (local_initial_failures ty value i)
local_initial-first number ty at None i = refl
local_initial-first number ty at (Some value) i =
    first-made _ (initial_typed i.known.context i.known.literals InFunction value.place ty value.initial) _
    (initial-first i.known.context i.known.literals InFunction value.place ty value.initial)

declared-then : {A B : Type 0} (at : Place) (declared : Bool) (rule : A → Verdict B) (v : Verdict A) (some : List TypeCode)
    (bounds : List FailingPlace) (next : A → List FailingPlace) → AreAfterTwice some → IsFirst v (failing_at at some ++ bounds)
    → ((a : A) → IsFirst (rule a) (next a))
    → IsFirst (if declared then Fault codes.DeclaredTwice at else lift rule v)
    (failing_at at (unless (not declared) codes.DeclaredTwice ++ some) ++ bounds ++ if_typed next v)
declared-then at true rule v some bounds next after h k = ap (λ x. Some (x, at)) (sym (twice-least some after))
declared-then at false rule v some bounds next after h k = first-then rule v (failing_at at some ++ bounds) next h k

local-first : (base : Shape) (d : RawInit) (i : Inside) → IsFirst (local_added base d i) (local_failures base d i)
local-first base d i =
    declared-then d.declarator.place (is_declared_here d.declarator.name i.known) _ (object_type i.known.context base d)
    (object_codes i.known.context base d) (bounds_failures i.known.context d.declarator.bounds.items)
    (λ ty. local_initial_failures ty d.initial (with_local d.declarator.name ty i)) (object-after i.known.context base d)
    (object-first i.known.context base d)
    (λ ty. local_initial-first (length i.variables) ty d.declarator.place d.initial (with_local d.declarator.name ty i))

pub locals-first : (base : Shape) (ds : List RawInit) (so_far : TypedStatements) → IsFirst (locals_added base ds so_far) (locals_failures base ds so_far)
locals-first base [] so_far = refl
locals-first base (d ∷ ds) so_far =
    first-then (locals_added base ds) (lift (after_local so_far.statements) (local_added base d so_far.inside)) (local_failures base d so_far.inside)
    (locals_failures base ds) (first-made _ (local_added base d so_far.inside) _ (local-first base d so_far.inside)) (locals-first base ds)
