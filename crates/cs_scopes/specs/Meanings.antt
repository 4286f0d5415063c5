-- The meanings of names, without the boxes of their types: what contracts see of declarations.
use Rattle.std.specs.Prelude.{ℕ, ℤ, List, map}
use Rattle.cs_types.specs.declared.ctype.CType.{CType}
use Rattle.cs_types.specs.Shape.{Shape, shape_of}
use Rattle.cs_scopes.specs.declared.scope.Callee.{Callee}
use Rattle.cs_scopes.specs.declared.scope.DeclaredFunction.{DeclaredFunction as Declared}
use Rattle.cs_scopes.specs.declared.scope.Meaning.{Meaning as Said}
use Rattle.cs_scopes.specs.declared.scope.Meaning.TheVariants as said
use Rattle.cs_scopes.specs.declared.scope.Declaration.{Declaration as Written}

-- a function: what a call of it does, and the types of its result and its parameters
pub record Signature : Type 0 where
  pub callee : Callee
  pub result : Shape
  pub parameters : List Shape

-- what a name denotes; objects have numbers
pub data Meaning : Type 0 where
  Typedef : (ty : Shape) → Meaning
  Constant : (value : ℤ) → Meaning
  Global : (number : ℕ) (ty : Shape) → Meaning
  Local : (number : ℕ) (ty : Shape) → Meaning
  Function : (signature : Signature) → Meaning

-- a declared name and its meaning
pub record Declaration : Type 0 where
  pub name : List ℕ
  pub meaning : Meaning

-- the same, computed from the types in the code
abbrev pub signature_of : Declared → Signature
signature_of f = record { callee = f.callee; result = shape_of f.result; parameters = map (λ (ty : CType). shape_of ty) f.parameters.items }

abbrev pub meaning_of : Said → Meaning
meaning_of (said.Typedef ty) = Typedef (shape_of ty)
meaning_of (said.Constant value) = Constant value
meaning_of (said.Global number ty) = Global number (shape_of ty)
meaning_of (said.Local number ty) = Local number (shape_of ty)
meaning_of (said.Function f) = Function (signature_of f)

abbrev pub declaration_of : Written → Declaration
declaration_of d = record { name = d.name; meaning = meaning_of d.meaning }
