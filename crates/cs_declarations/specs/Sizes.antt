-- The bounds of declarators and the arrays that they declare (C11 6.7.6.2).
use Rattle.std.specs.Prelude.{ℕ, ℤ, pos, List, [], ◌∷◌, map, Option, Some, None}
use Rattle.std.specs.Option.{option_or}
use Rattle.cs_types.specs.Shape.{Shape}
use Rattle.cs_ast.specs.declared.place.Place.{Place}
use Rattle.cs_ast.specs.declared.raw.expression.RawExpr.{RawExpr}
use Rattle.cs_scopes.specs.declared.context.Context.{Context}
use Rattle.cs_scopes.specs.declared.refusal.TypeCode.{TypeCode}
use Rattle.cs_scopes.specs.declared.refusal.TypeCode.TheVariants.{Size}
use Rattle.cs_scopes.specs.Verdicts.{Verdict, Fine, Fault, lift}
use Rattle.cs_consts.specs.Roles.{value_of}
use Rattle.cs_scopes.specs.TypeNames.{array_of, arrayed, complete_at}

-- the size in a bound, if it has one
abbrev pub size_said : Context → Option RawExpr → Verdict (Option ℤ)
size_said c None = Fine None
size_said c (Some e) = lift (λ v. Fine (Some v.1)) (value_of c e)

-- the size of a bound; that of a refused one counts as 1, so that its array is as small as possible
abbrev pub size_or_one : Verdict (Option ℤ) → Option ℤ
size_or_one (Fine size) = size
size_or_one (Fault code place) = Some (pos 1)

-- the sizes of bounds, the outermost first
abbrev pub sizes_said : Context → List (Option RawExpr) → List (Option ℤ)
sizes_said c bounds = map (λ bound. size_or_one (size_said c bound)) bounds

-- the code and the position of a refusal
abbrev pub fault_in : {A : Type 0} → Verdict A → Option (TypeCode × Place)
fault_in (Fine value) = None
fault_in (Fault code place) = Some (code, place)

-- the first bound that is refused
abbrev pub refused_bound : Context → List (Option RawExpr) → Option (TypeCode × Place)
refused_bound c [] = None
refused_bound c (bound ∷ bounds) = option_or (fault_in (size_said c bound)) (refused_bound c bounds)

-- no bound is refused
abbrev pub bounds_taken : Option (TypeCode × Place) → Verdict (Unit {0})
bounds_taken None = Fine tt
bounds_taken (Some fault) = Fault fault.0 fault.1

-- what a name declares, if no bound after it is refused
abbrev pub unless_refused : {A : Type 0} → Option (TypeCode × Place) → A → Verdict A
unless_refused refused found = lift (λ _. Fine found) (bounds_taken refused)

-- the sizes in these bounds, of which each needs one
abbrev pub all_said : Place → List (Option ℤ) → Verdict (List ℤ)
all_said at [] = Fine []
all_said at (None ∷ others) = Fault Size at
all_said at (Some n ∷ others) = lift (λ ns. Fine (n ∷ ns)) (all_said at others)

-- the type before bounds, which has to be complete if there are any (C11 6.7.6.2, paragraph 1): for that they needn't be read
abbrev pub bounded : Context → Place → Shape → List (Option RawExpr) → Verdict Shape
bounded c at base [] = Fine base
bounded c at base (bound ∷ bounds) = complete_at c.table.list at base

-- the element type of the outermost array, whose bound is followed by these
abbrev pub element_of : Context → Place → Shape → List (Option ℤ) → Verdict Shape
element_of c at base others = lift (arrayed c.model c.table.list at base) (all_said at others)

-- what is declared: something of a type, or an array of these elements without a size
pub data Extent : Type 0 where
  Whole : (ty : Shape) → Extent
  Unsized : (element : Shape) → Extent

-- an array with or without a size
abbrev pub outermost : Context → Place → Option ℤ → Shape → Verdict Extent
outermost c at (Some n) element = lift (λ ty. Fine (Whole ty)) (array_of c.model c.table.list at n element)
outermost c at None element = Fine (Unsized element)

-- what a declarator declares, at its name; `base` is its type with the pointers
abbrev pub extent_of : Context → Place → Shape → List (Option ℤ) → Verdict Extent
extent_of c at base [] = Fine (Whole base)
extent_of c at base (first ∷ others) = lift (outermost c at first) (element_of c at base others)

-- the type of what is declared; an array without a size has `count` elements
abbrev pub filled : Context → Place → Option ℕ → Extent → Verdict Shape
filled c at count (Whole ty) = Fine ty
filled c at (Some n) (Unsized element) = array_of c.model c.table.list at (pos n) element
filled c at None (Unsized element) = Fault Size at
