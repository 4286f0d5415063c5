-- Parameters and the heads of functions (C11 6.7.6.3).
use Rattle.std.specs.Prelude.{ℕ, ℤ, unsigned_abs, Bool, true, false, not, ◌&&◌, if◌then◌else◌, List, [], ◌∷◌, ◌++◌, length, Option}
use Rattle.std.specs.Prelude.{Some, None}
use Rattle.cs_types.specs.Shape.{Shape, void, pointer, array, struct}
use Rattle.cs_ast.specs.declared.place.Place.{Place}
use Rattle.cs_ast.specs.declared.raw.name.RawName.{RawName}
use Rattle.cs_ast.specs.declared.raw.declaration.RawParameter.{RawParameter}
use Rattle.cs_ast.specs.declared.raw.declaration.RawParameters.{RawParameters}
use Rattle.cs_ast.specs.declared.raw.declaration.RawParameters.TheVariants as parameter_lists
use Rattle.cs_ast.specs.TypedProgram.{Variable}
use Rattle.cs_scopes.specs.declared.context.Context.{Context}
use Rattle.cs_scopes.specs.declared.refusal.TypeCode.TheVariants.{DeclaredTwice, IncompleteType}
use Rattle.cs_scopes.specs.declared.refusal.TypeRefusal.{TypeRefusal}
use Rattle.cs_scopes.specs.declared.refusal.TypeRefusal.TheVariants as refusals
use Rattle.cs_scopes.specs.Verdicts.{Verdict, Fine, Fault, lift}
use Rattle.cs_scopes.specs.Meanings.{Local}
use Rattle.cs_scopes.specs.TypeNames.{array_of, starred}
use Rattle.cs_declarations.specs.Environment.{Environment, declaring, is_declared_here}
use Rattle.cs_declarations.specs.Sizes.{sizes_said, refused_bound, unless_refused, bounded, element_of}
use Rattle.cs_declarations.specs.Bodies.{Typing, specs_type}
use Rattle.cs_scopes.specs.Constness.{points_to_const}

-- the position of a parameter: its name, or its first token if it has none
abbrev pub place_of : Place → Option RawName → Place
place_of at (Some name) = name.place
place_of at None = at

-- the name of a parameter, which may be missing
abbrev pub name_in : Option RawName → List ℕ
name_in (Some name) = name.name
name_in None = []

-- the type of a parameter, and, if it was written with a bound, how many elements the block has that it points to
pub record Passed : Type 0 where
  pub ty : Shape
  pub block : Option ℕ

-- a pointer to elements in place of an array of them (C11 6.7.6.3, paragraph 7)
abbrev pub elements_passed : Shape → Option ℕ → Passed
elements_passed element block = record { ty = pointer element; block = block }

-- a parameter without bounds: an array by a typedef becomes a pointer too, and structs aren't supported
abbrev pub plainly_passed : Place → Shape → Verdict Passed
plainly_passed at void = Fault IncompleteType at
plainly_passed at (struct number) = Fault IncompleteType at
plainly_passed at (array element count) = Fine (elements_passed element (Some count))
plainly_passed at ty = Fine (record { ty = ty; block = None })

-- a parameter whose first bound may have a size
abbrev pub array_passed : Context → Place → Option ℤ → Shape → Verdict Passed
array_passed c at (Some n) element = lift (λ whole. Fine (elements_passed element (Some (unsigned_abs n)))) (array_of c.model c.table.list at n element)
array_passed c at None element = Fine (elements_passed element None)

abbrev pub passed : Context → Place → Shape → List (Option ℤ) → Verdict Passed
passed c at base [] = plainly_passed at base
passed c at base (first ∷ others) = lift (array_passed c at first) (element_of c at base others)

abbrev pub is_pointer : Shape → Bool
is_pointer (pointer target) = true
is_pointer other = false

-- a function without a body may write through the parameter
abbrev pub may_write : RawParameter → Shape → Bool
may_write p ty = is_pointer ty && not (points_to_const p.specs p.pointers.items p.bounds.items)

-- parameters so far: each with its name, and whether it may be written through; the first name that is declared twice among them
-- (C11 6.7, paragraph 3), whose parameter has a type nevertheless; what is known after them
pub record Head : Type 0 where
  pub variables : List Variable
  pub written : List Bool
  pub twice : Option Place
  pub known : Environment

-- after the name of a parameter, if it has one
abbrev pub naming : Option RawName → ℕ → Shape → Environment → Environment
naming None number ty k = k
naming (Some name) number ty k = declaring name.name (Local number ty) k

abbrev pub is_free_name : Option RawName → Environment → Bool
is_free_name None k = true
is_free_name (Some name) k = not (is_declared_here name.name k)

-- after a parameter with a type: the first name that is declared twice
abbrev pub twice_after : RawParameter → Option Place → Environment → Option Place
twice_after p (Some at) k = Some at
twice_after p None k = if is_free_name p.name k then None else Some (place_of p.place p.name)

-- a verdict on what follows such a name, if there is one: if both fail, the name is reported
abbrev pub after_twice : {A : Type 0} → Option Place → Verdict A → Verdict A
after_twice twice (Fine value) = Fine value
after_twice None (Fault code place) = Fault code place
after_twice (Some at) (Fault code place) = Fault DeclaredTwice at

-- the same for a refusal
abbrev pub refused_after : Option Place → TypeRefusal → TypeRefusal
refused_after None refusal = refusal
refused_after (Some at) (refusals.Code code place) = refusals.Code DeclaredTwice at
refused_after (Some at) refusals.Memory = refusals.Memory

abbrev pub with_parameter : RawParameter → Head → Environment → Passed → Verdict Head
with_parameter p before k found = Fine (record {
  variables = before.variables ++ record { name = name_in p.name; ty = found.ty; block = found.block } ∷ [];
  written = before.written ++ may_write p found.ty ∷ [];
  twice = twice_after p before.twice k;
  known = naming p.name (length before.variables) found.ty k;
})

-- how a parameter is passed; `base` is its type with the pointers
abbrev pub parameter_passed : Context → RawParameter → Shape → Verdict Passed
parameter_passed c p base =
    lift (λ whole.
    lift (unless_refused (refused_bound c p.bounds.items)) (passed c (place_of p.place p.name) whole (sizes_said c p.bounds.items)))
    (bounded c (place_of p.place p.name) base p.bounds.items)

-- the parameters after one more
abbrev pub parameter_typed : RawParameter → Head → Verdict Head
parameter_typed p before =
    lift (λ (found : Typing).
    lift (with_parameter p before found.1)
    (after_twice (twice_after p before.twice found.1) (parameter_passed found.1.context p (starred p.pointers.items found.0))))
    (after_twice before.twice (specs_type before.known p.place p.specs))

abbrev pub parameters_after : List RawParameter → Head → Verdict Head
parameters_after [] before = Fine before
parameters_after (p ∷ ps) before = lift (parameters_after ps) (parameter_typed p before)

abbrev pub no_parameter : Environment → Head
no_parameter k = record { variables = []; written = []; twice = None; known = k }

-- the parameters between the parentheses of a function's head
abbrev pub parameters_typed : Environment → RawParameters → Verdict Head
parameters_typed k parameter_lists.Empty = Fine (no_parameter k)
parameters_typed k parameter_lists.Void = Fine (no_parameter k)
parameters_typed k (parameter_lists.List list) = parameters_after list.items (no_parameter k)
