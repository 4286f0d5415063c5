-- The first failing position of calls and of `sizeof` with bounds: the least code at one position, before what follows it.
use Rattle.std.proofs.Common.{◌≡◌, refl, sym, ap, subst, ◌∙◌, ℕ, ℤ, Bool, true, false, if◌then◌else◌, List, [], ◌∷◌, ◌++◌}
use Rattle.std.proofs.Common.{Option, Some, None}
use Rattle.std.specs.Prelude.{option_to_list, is_some, ◌&&◌, unsigned_abs}
use Rattle.cs_types.specs.declared.data_model.DataModel.{DataModel}
use Rattle.cs_types.specs.declared.structs.StructType.{StructType}
use Rattle.cs_types.specs.Kinds.{is_complete}
use Rattle.cs_types.specs.Shape.{Shape, void, integer, pointer, array, struct}
use Rattle.cs_ast.specs.declared.place.Place.{Place}
use Rattle.cs_ast.specs.declared.raw.expression.RawExprKind.{Row_of-RawExpr, end_of-RawExpr, more_of-RawExpr}
use Rattle.cs_ast.specs.declared.typed.operator.Allocator.{Allocator}
use Rattle.cs_ast.specs.TypedTree.{Typed, TypedList, NoMore, Further}
use Rattle.cs_scopes.specs.declared.context.Context.{Context}
use Rattle.cs_scopes.specs.declared.refusal.TypeCode.{TypeCode}
use Rattle.cs_scopes.specs.declared.refusal.TypeCode.TheVariants as codes
use Rattle.cs_scopes.specs.declared.scope.Callee.{Callee}
use Rattle.cs_scopes.specs.declared.scope.Callee.TheVariants as callee
use Rattle.cs_scopes.specs.Faults.{least_code, code_in, unless_fault}
use Rattle.cs_scopes.specs.Meanings.{Signature}
use Rattle.cs_scopes.specs.Sizes.{bytes_in}
use Rattle.cs_scopes.specs.TypeNames.{complete_at, array_of, arrayed, is_array_size}
use Rattle.cs_scopes.specs.Verdicts.{Verdict, Fine, Fault, lift, lift2}
use Rattle.cs_folding.specs.TypedParts.{type_of}
use Rattle.cs_expressions.specs.Calls.{call_fault, before_others, converted_list, allocated, freed, call_by, call_of}
use Rattle.cs_expressions.specs.Conversions.{converted}
use Rattle.cs_expressions.specs.Objects.{measured, measure_of}
use Rattle.cs_expressions.specs.Primary.{Literals}
use Rattle.cs_consts.specs.declared.purpose.Purpose.{Purpose}
use Rattle.cs_consts.specs.Typing.{literals_after, literals_past, operand_in, formed, passing_fault, arguments_fault, call_with, call_or_not}
use Rattle.cs_consts.specs.Typing.{measured_arrays, measured_type_name, size_alone}
use Rattle.cs_first_faults.specs.Failures.{FailingPlace, least_of, failing, failing_at, codes_of, if_typed, IsFirst}
use Rattle.cs_first_faults.specs.Expressions.{argument_codes, or_call_codes, call_codes, callee_failures, size_codes}
use Rattle.cs_first_faults.proofs.Firsts.{no_some, no_none, IsAt, lift_at, first-codes}

-- the least of some codes, if there are any
abbrev pub least_among : List TypeCode → Option TypeCode
least_among [] = None
least_among (code ∷ others) = Some (least_of code others)

pub least-before : (code : TypeCode) (others : List TypeCode) → least_code (Some code) (least_among others) ≡ least_among (code ∷ others)
least-before code [] = refl
least-before code (other ∷ others) = refl

-- the codes of arguments
passing : (c : Context) (at : Place) (ty : Shape) (v : Verdict Typed) (rest : List TypeCode)
    → least_code (passing_fault c at ty v) (least_among rest) ≡ least_among (if_typed (λ e. codes_of (converted c.model at e ty (type_of e))) v ++ rest)
passing c at ty (Fault code place) rest = refl
passing c at ty (Fine e) rest = by_verdict (converted c.model at e ty (type_of e)) where
  by_verdict : (v : Verdict Typed) → least_code (code_in v) (least_among rest) ≡ least_among (codes_of v ++ rest)
  by_verdict (Fine x) = refl
  by_verdict (Fault code place) = least-before code rest

pub arguments-least : (c : Context) (purpose : Purpose) (literals : Literals) (at : Place) (types : List Shape) {n : _} (row : Row_of-RawExpr n)
    → arguments_fault c purpose literals at types row ≡ least_among (argument_codes c purpose literals at types row)
arguments-least c purpose literals at types end_of-RawExpr = refl
arguments-least c purpose literals at [] (more_of-RawExpr place p k rest) = refl
arguments-least c purpose literals at (ty ∷ types) (more_of-RawExpr place p k rest) =
    let value = operand_in c purpose (formed c purpose literals (Some ty) place k) in
    ap (least_code (passing_fault c at ty value)) (arguments-least c purpose (literals_past value (literals_after literals k)) at types rest)
    ∙ passing c at ty value (argument_codes c purpose (literals_past value (literals_after literals k)) at types rest)

-- an error of a call whose parts have none is at its position
converted_list-at : (model : DataModel) (at : Place) (types : List Shape) (values : TypedList) → IsAt at (converted_list model at types values)
converted_list-at model at [] values = tt
converted_list-at model at (ty ∷ types) NoMore = tt
converted_list-at model at (ty ∷ types) (Further e others) =
    before-at (converted model at e ty (type_of e)) (converted_list model at types others)
  where
    before-at : (v : Verdict Typed) (w : Verdict TypedList) → IsAt at (before_others at v w)
    before-at (Fine x) (Fine xs) = tt
    before-at (Fine x) (Fault code place) = refl
    before-at (Fault code place) (Fine xs) = refl
    before-at (Fault code place) (Fault other there) = refl

freed-at : (at : Place) (values : TypedList) → IsAt at (freed at values)
freed-at at NoMore = refl
freed-at at (Further e NoMore) = tt
freed-at at (Further e (Further x others)) = refl

allocated-at : (at : Place) (allocator : Allocator) (values : TypedList) (target : Option Shape) → IsAt at (allocated at allocator values target)
allocated-at at allocator values (Some (pointer t)) = tt
allocated-at at allocator values (Some void) = refl
allocated-at at allocator values (Some (integer t)) = refl
allocated-at at allocator values (Some (array t n)) = refl
allocated-at at allocator values (Some (struct n)) = refl
allocated-at at allocator values None = refl

call_by-at : (at : Place) (target : Option Shape) (function : Callee) (ty : Shape) (values : TypedList) → IsAt at (call_by at target function ty values)
call_by-at at target (callee.Numbered number) ty values = tt
call_by-at at target callee.Malloc ty values = allocated-at at _ values target
call_by-at at target callee.Calloc ty values = allocated-at at _ values target
call_by-at at target callee.Free ty values = freed-at at values

call_with-at : (c : Context) (at : Place) (target : Option Shape) (f : Signature) (values : TypedList) → IsAt at (call_with c at target f values)
unfolding call_with call_of lift
call_with-at c at target f values = called-at (converted_list c.model at f.parameters values) (converted_list-at c.model at f.parameters values) where
  called-at : (v : Verdict TypedList) → IsAt at v → IsAt at (lift (call_of at target f) v)
  called-at (Fine all) is = call_by-at at target f.callee f.result all
  called-at (Fault code place) is = is

-- a call of a function
call-least : (c : Context) (at : Place) (target : Option Shape) (f : Signature) (codes : List TypeCode) (values : Verdict TypedList)
    (following : List FailingPlace) → IsFirst values following
    → IsFirst (unless_fault at (least_among codes) (lift (call_with c at target f) values))
    (failing_at at (or_call_codes c at target f values codes) ++ following)
unfolding lift
call-least c at target f (code ∷ others) values following h = refl
call-least c at target f [] (Fine all) following h = first-codes at (call_with c at target f all) following (call_with-at c at target f all) (sym h)
call-least c at target f [] (Fault code place) following h = h

call-fault-first : (fault : Option TypeCode) (arguments : List TypeCode)
    → least_code fault (least_among arguments) ≡ least_among (option_to_list fault ++ arguments)
call-fault-first None arguments = refl
call-fault-first (Some code) arguments = least-before code arguments

pub call-first : (c : Context) (at : Place) (target : Option Shape) (function : Option Signature) (count : ℕ) (v : Verdict Typed)
    (before : List FailingPlace) (fault : Option TypeCode) (arguments : List TypeCode) (values : Verdict TypedList) (following : List FailingPlace)
    → IsFirst v before → IsFirst values following → fault ≡ least_among arguments
    → IsFirst (call_or_not c at target function count v fault values)
    (callee_failures function before ++ failing_at at (call_codes c at target function count v arguments values) ++ following)
unfolding call_or_not lift
call-first c at target None count (Fine e) [] fault arguments values following h k is = refl
call-first c at target None count (Fine e) (f ∷ fs) fault arguments values following h k is = no_some _ h
call-first c at target None count (Fault code place) [] fault arguments values following h k is = no_none _ h
call-first c at target None count (Fault code place) (f ∷ fs) fault arguments values following h k is = h
call-first c at target (Some f) count v before fault arguments values following h k is =
    let codes_here = option_to_list (call_fault target count f) ++ arguments in
    subst (λ code. IsFirst (unless_fault at code (lift (call_with c at target f) values))
    (failing_at at (or_call_codes c at target f values codes_here) ++ following))
    (sym (ap (least_code (call_fault target count f)) is ∙ call-fault-first (call_fault target count f) arguments))
    (call-least c at target f codes_here values following k)

-- ---- `sizeof` with bounds

array_of-at : (model : DataModel) (table : List StructType) (at : Place) (n : ℤ) (element : Shape) → IsAt at (array_of model table at n element)
unfolding array_of
array_of-at model table at n element =
    by_test (is_array_size n && is_some (bytes_in model table (array element (unsigned_abs n)))) where
      by_test : (test : Bool) → IsAt at (if test then Fine (array element (unsigned_abs n)) else Fault codes.Size at)
      by_test true = tt
      by_test false = refl

pub arrayed-at : (model : DataModel) (table : List StructType) (at : Place) (base : Shape) (ns : List ℤ) → IsAt at (arrayed model table at base ns)
arrayed-at model table at base [] = tt
arrayed-at model table at base (n ∷ ns) =
    lift_at at (array_of model table at n) (arrayed model table at base ns) (arrayed-at model table at base ns) (array_of-at model table at n)

pub measured-at : (model : DataModel) (table : List StructType) (at : Place) (ty : Shape) → IsAt at (measured model table at ty)
unfolding measured
measured-at model table at ty = by_test (is_complete table ty) (bytes_in model table ty) where
  by_test : (complete : Bool) (bytes : Option ℕ) → IsAt at (if complete then measure_of model at bytes else Fault codes.IncompleteType at)
  by_test true (Some bytes) = tt
  by_test true None = refl
  by_test false bytes = refl

pub complete-at : (table : List StructType) (at : Place) (ty : Shape) → IsAt at (complete_at table at ty)
unfolding complete_at
complete-at table at ty = by_test (is_complete table ty) where
  by_test : (complete : Bool) → IsAt at (if complete then Fine ty else Fault codes.IncompleteType at)
  by_test true = tt
  by_test false = refl

size-at : (c : Context) (at : Place) (ns : List ℤ) (ty : Shape) → IsAt at (lift (measured_arrays c at ns) (complete_at c.table.list at ty))
unfolding measured_arrays
size-at c at ns ty =
    lift_at at (measured_arrays c at ns) (complete_at c.table.list at ty) (complete-at c.table.list at ty)
    (λ whole. lift_at at (measured c.model c.table.list at) (arrayed c.model c.table.list at whole ns) (arrayed-at c.model c.table.list at whole ns)
    (measured-at c.model c.table.list at))

size-bounds : (at : Place) (size : Verdict Typed) (bounds : Verdict (Unit {0})) (following : List FailingPlace) → IsAt at size → IsFirst bounds following
    → IsFirst (lift2 size_alone size bounds) (failing_at at (codes_of size) ++ [] ++ following)
unfolding lift2
size-bounds at (Fine e) (Fine taken) following is h = h
size-bounds at (Fine e) (Fault code place) following is h = h
size-bounds at (Fault code place) bounds following is h = ap (λ p. Some (code, p)) is

pub size-first : (c : Context) (at : Place) (base : Verdict Shape) (ns : List ℤ) (bounds : Verdict (Unit {0})) (following : List FailingPlace)
    → IsFirst bounds following
    → IsFirst (measured_type_name c at base ns bounds) (failing_at at (size_codes c at ns base) ++ failing base ++ following)
unfolding lift lift2
size-first c at (Fine ty) ns bounds following h =
    size-bounds at (lift (measured_arrays c at ns) (complete_at c.table.list at ty)) bounds following (size-at c at ns ty) h
size-first c at (Fault code place) ns bounds following h = refl
