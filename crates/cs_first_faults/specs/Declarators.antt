-- The failing positions of declarators (C11 6.7.6): faults of a declared type are at the name, before its bounds.
use Rattle.std.specs.Prelude.{ℕ, [], ◌∷◌, ◌++◌, List, Option, Some, None}
use Rattle.cs_types.specs.Shape.{Shape}
use Rattle.cs_ast.specs.declared.raw.declaration.RawDeclarator.{RawDeclarator}
use Rattle.cs_ast.specs.declared.raw.declaration.RawInit.{RawInit}
use Rattle.cs_ast.specs.declared.raw.declaration.RawParameter.{RawParameter}
use Rattle.cs_ast.specs.declared.raw.expression.RawExpr.{RawExpr}
use Rattle.cs_scopes.specs.declared.context.Context.{Context}
use Rattle.cs_scopes.specs.declared.refusal.TypeCode.{TypeCode}
use Rattle.cs_scopes.specs.TypeNames.{starred, complete_at}
use Rattle.cs_scopes.specs.Verdicts.{Verdict, lift}
use Rattle.cs_declarations.specs.Bodies.{declarator_type}
use Rattle.cs_declarations.specs.Objects.{count_given}
use Rattle.cs_declarations.specs.Parameters.{Passed, place_of, passed}
use Rattle.cs_declarations.specs.Sizes.{sizes_said, bounded, extent_of, filled}
use Rattle.cs_first_faults.specs.Failures.{FailingPlace, failing_at, codes_of, if_typed}
use Rattle.cs_first_faults.specs.Roles.{constant_failures}

-- bounds, each of which is optional
abbrev pub bounds_failures : Context → List (Option RawExpr) → List FailingPlace
bounds_failures c [] = []
bounds_failures c (None ∷ bounds) = bounds_failures c bounds
bounds_failures c (Some e ∷ bounds) = constant_failures c e ++ bounds_failures c bounds

-- the type of a declarator, with the bounds that have numbers: elements of arrays are complete (6), an array has 1 to 65,536 elements
-- and a size that objects may have, and `[]` comes first and before an initializer (7)
abbrev pub named_type : Context → Shape → Option ℕ → RawDeclarator → Verdict Shape
named_type c base count d =
    lift (λ whole. lift (filled c d.place count) (extent_of c d.place whole (sizes_said c d.bounds.items)))
    (bounded c d.place (starred d.pointers.items base) d.bounds.items)

abbrev pub declarator_codes : Context → Shape → Option ℕ → RawDeclarator → List TypeCode
declarator_codes c base count d = codes_of (named_type c base count d)

abbrev pub named_failures : Context → Shape → Option ℕ → RawDeclarator → List FailingPlace
named_failures c base count d = failing_at d.place (declarator_codes c base count d) ++ bounds_failures c d.bounds.items

-- an object, whose type is complete (6)
abbrev pub object_codes : Context → Shape → RawInit → List TypeCode
object_codes c base d =
    declarator_codes c base (count_given d.initial) d.declarator
    ++ if_typed (λ ty. codes_of (complete_at c.table.list d.declarator.place ty)) (declarator_type c base (count_given d.initial) d.declarator)

-- a parameter: elements of arrays are complete, and it is neither a struct nor `void` (6); sizes of arrays (7)
abbrev pub passed_type : Context → RawParameter → Shape → Verdict Passed
passed_type c p base =
    lift (λ whole. passed c (place_of p.place p.name) whole (sizes_said c p.bounds.items))
    (bounded c (place_of p.place p.name) base p.bounds.items)

abbrev pub parameter_codes : Context → RawParameter → Shape → List TypeCode
parameter_codes c p base = codes_of (passed_type c p base)
