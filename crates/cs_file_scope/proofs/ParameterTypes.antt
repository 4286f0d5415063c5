-- The types of parameters: for the declaration of a function, by which calls are typed, and for its further declarations.
use Rattle.std.proofs.Common.{◌≡◌, ◌≤◌, false, List, [], ◌∷◌, length, map, refl, ap, arith}
use Rattle.cs_types.specs.declared.ctype.CType.{CType}
use Rattle.cs_types.specs.Shape.{shape_of}
use Rattle.cs_ast.specs.declared.typed.program.Local.{Local}
use Rattle.cs_ast.specs.TypedProgram.{variable}
use Rattle.cs_file_scope.specs.Functions.{same_types, types_of}

pub types_of-variables : (parameters : List Local) → map (λ (p : Local). shape_of p.ty) parameters ≡ types_of (map variable parameters)
types_of-variables [] = refl
types_of-variables (first ∷ others) = ap (λ types. shape_of first.ty ∷ types) (types_of-variables others)

-- one list has one more type
pub more_types : (types : List CType) (parameters : List Local) → 1 ≤ length types → length parameters ≡ 0
    → false ≡ same_types (map (λ (ty : CType). shape_of ty) types) (types_of (map variable parameters))
more_types [] parameters some none = absurd (omega (arith, some))
more_types (ty ∷ types) [] some none = refl
more_types (ty ∷ types) (first ∷ others) some none = absurd (omega (arith, none))

pub fewer_types : (types : List CType) (parameters : List Local) → length types ≡ 0 → 1 ≤ length parameters
    → false ≡ same_types (map (λ (ty : CType). shape_of ty) types) (types_of (map variable parameters))
fewer_types types [] none some = absurd (omega (arith, some))
fewer_types [] (first ∷ others) none some = refl
fewer_types (ty ∷ types) (first ∷ others) none some = absurd (omega (arith, none))
