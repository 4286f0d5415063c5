-- Checking parameters one by one: for the contracts of `can_start` and the functions that it calls.
use Rattle.std.proofs.Common.{◌≡◌, ◌<◌, ◌≤◌, inl, inr, ℕ, List, Option, None, Some, length, map, slice_get, refl, sym, ap, ◌∙◌, subst}
use Rattle.std.proofs.Common.{arith}
use Rattle.std.specs.Option.{option_map}
use Rattle.std.proofs.lemmas.Bool.{cases_order}
use Rattle.std.proofs.lemmas.Option.{none-some, same_Some, slice_get-map, slice_get_within}
use Rattle.cs_types.specs.Shape.{Shape, shape_of, pointer}
use Rattle.cs_types.specs.Layout.{HasSmallSizes}
use Rattle.cs_ast.specs.declared.typed.program.Local.{Local}
use Rattle.cs_ast.specs.TypedProgram.{TypedProgram, Variable, variable}
use Rattle.cs_state.specs.Starting.{HaveSizes, HasSizes, DifferInName}
use Rattle.cs_engine.specs.Parameters.{DiffersFromBefore}

-- the parameter of a variable
record IsOf (parameters : List Local) (number : ℕ) (v : Variable) : Type 0 where
  parameter : Local
  there : slice_get parameters number ≡ Some parameter
  is : variable parameter ≡ v

of_variable : (parameters : List Local) (number : ℕ) (v : Variable) → slice_get (map variable parameters) number ≡ Some v
    → IsOf parameters number v
of_variable parameters number v at = by (slice_get parameters number) refl (sym (slice_get-map variable parameters number) ∙ at)
  where
    by : (found : Option Local) → slice_get parameters number ≡ found → option_map variable found ≡ Some v → IsOf parameters number v
    by None there e = absurd (none-some v e)
    by (Some parameter) there e = record { parameter = parameter; there = there; is = same_Some (variable parameter) v e }

-- the type that this parameter points to has small sizes
abbrev pub IsSized : TypedProgram → List Local → ℕ → Type 0
IsSized program parameters number = (parameter : Local) → slice_get parameters number ≡ Some parameter
    → HasSizes program (shape_of parameter.ty)

pub sized : (program : TypedProgram) (parameters : List Local) (number : ℕ) (parameter : Local)
    → slice_get parameters number ≡ Some parameter → HasSizes program (shape_of parameter.ty) → IsSized program parameters number
sized program parameters number parameter there has other at =
    subst (λ (p : Local). HasSizes program (shape_of p.ty)) (same_Some parameter other (sym there ∙ at)) has

pub all_sized : (program : TypedProgram) (parameters : List Local) (count : ℕ) → length parameters ≤ count
    → ((number : ℕ) → number < count → IsSized program parameters number) → HaveSizes program (map variable parameters)
all_sized program parameters count all have number v target at is =
    let found = of_variable parameters number v at in
    let within = slice_get_within parameters number found.parameter found.there in
    have number (omega (arith, all, within)) found.parameter found.there target (ap (λ (w : Variable). w.ty) found.is ∙ is)

-- the names of two parameters
same_names : (parameters : List Local) (one other : ℕ) (v w : Variable) (first : IsOf parameters one v) (second : IsOf parameters other w)
    → v.name ≡ w.name → first.parameter.name ≡ second.parameter.name
same_names parameters one other v w first second same =
    ap (λ (x : Variable). x.name) first.is ∙ same ∙ ap (λ (x : Variable). x.name) (sym second.is)

pub all_differ : (parameters : List Local) (count : ℕ) → length parameters ≤ count
    → ((number : ℕ) → number < count → DiffersFromBefore parameters number) → DifferInName (map variable parameters)
all_differ parameters count all differ one other v w at_one at_other same =
    let first = of_variable parameters one v at_one in
    let second = of_variable parameters other w at_other in
    let one_within = slice_get_within parameters one first.parameter first.there in
    let other_within = slice_get_within parameters other second.parameter second.there in
    let names = same_names parameters one other v w first second same in
    elim (cases_order one other) [
      | inl equal ↦ equal
      | inr apart ↦ elim apart [
        | inl before ↦ absurd (differ other (omega (arith, all, other_within)) one first.parameter second.parameter before first.there
            second.there names)
        | inr behind ↦ absurd (differ one (omega (arith, all, one_within)) other second.parameter first.parameter behind second.there
            first.there (sym names))
      ]
    ]

-- an earlier parameter has another name
abbrev pub IsOther : List Local → ℕ → ℕ → Type 0
IsOther parameters number earlier = (v w : Local) → slice_get parameters earlier ≡ Some v → slice_get parameters number ≡ Some w → v.name ≡ w.name
    → ⊥

pub is_other : (parameters : List Local) (number earlier : ℕ) (one other : Local) → slice_get parameters earlier ≡ Some one
    → slice_get parameters number ≡ Some other → (one.name ≡ other.name → ⊥) → IsOther parameters number earlier
is_other parameters number earlier one other at_one at_other differ v w at_v at_w same =
    differ (ap (λ (p : Local). p.name) (same_Some one v (sym at_one ∙ at_v)) ∙ same
    ∙ ap (λ (p : Local). p.name) (sym (same_Some other w (sym at_other ∙ at_w))))

pub differs : (parameters : List Local) (number : ℕ) → ((earlier : ℕ) → earlier < number → IsOther parameters number earlier)
    → DiffersFromBefore parameters number
differs parameters number others earlier v w before at_v at_w same = others earlier before v w at_v at_w same

-- the target of a pointer
pub pointer_sized : (program : TypedProgram) (target : Shape) → HasSmallSizes program.model program.table target
    → HasSizes program (pointer target)
pointer_sized program target small other e =
    let same : target ≡ other = cc in
    subst (HasSmallSizes program.model program.table) same small
