-- The members of a struct, without the boxes of their types.
use Rattle.std.specs.Prelude.{ℕ, List}
use Rattle.cs_types.specs.Shape.{Shape}

-- a member with its type, and its offset in bytes from the struct's start
pub record Member : Type 0 where
  pub name : List ℕ
  pub ty : Shape
  pub offset : ℕ
