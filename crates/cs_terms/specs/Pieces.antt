-- A range, split by the wrap quotient of a term's values.
use Rattle.std.specs.Prelude.{◌≡◌, ◌≢◌, ◌↔◌, IsTrue, ℤ, pos, negsuc, ◌*ℤ◌, List, Option, None, Some}
use Rattle.cs_ranges.specs.declared.range_set.Interval.{Interval}
use Rattle.cs_ranges.specs.RangeSet.{contains, IsInhabited}
use Rattle.cs_types.specs.declared.data_model.DataModel.{DataModel}
use Rattle.cs_types.specs.declared.int_type.IntType.{IntType}
use Rattle.cs_types.specs.Wrap.{wrap_quotient, wrapped}
use Rattle.cs_terms.specs.declared.term.Lin.{Lin}
use Rattle.cs_terms.specs.declared.pieces.Pieces.{Pieces}
use Rattle.cs_terms.specs.declared.product.Piece.{Piece}
use Rattle.cs_terms.specs.declared.product.ProductPieces.{ProductPieces}
use Rattle.cs_terms.specs.Term.{value_at, IsTerm, HasNoOtherSymbol}

-- a wrap quotient for each number of a symbol
abbrev pub Quotients : Type 0
Quotients = ℤ → ℤ

-- the numbers of the range with this quotient
abbrev pub IsPiece : Quotients → List Interval → ℤ → List Interval → Type 0
IsPiece quotient range q piece = (x : ℤ) → IsTrue (contains piece x) ↔ (IsTrue (contains range x) × (quotient x ≡ q))

-- a quotient other than -1, 0 and 1
abbrev pub IsFar : ℤ → Type 0
IsFar q = (q ≢ negsuc 0) × (q ≢ pos 0) × (q ≢ pos 1)

-- the numbers of the range with any other quotient
abbrev pub IsFarPiece : Quotients → List Interval → List Interval → Type 0
IsFarPiece quotient range piece = (x : ℤ) → IsTrue (contains piece x) ↔ (IsTrue (contains range x) × IsFar (quotient x))

-- the four pieces of the range, by quotients
pub record ArePieces (quotient : Quotients) (range : List Interval) (pieces : Pieces) : Type 0 where
  pub under : IsPiece quotient range (negsuc 0) pieces.under
  pub same : IsPiece quotient range (pos 0) pieces.same
  pub past : IsPiece quotient range (pos 1) pieces.past
  pub far : IsFarPiece quotient range pieces.far

-- the wrap quotient of a term's values
abbrev pub quotient_of : DataModel → IntType → Lin → Quotients
quotient_of model ty term x = wrap_quotient model ty (value_at term x)

-- the wrap quotient of a term's values times a factor
abbrev pub product_quotient_of : DataModel → IntType → Lin → ℤ → Quotients
product_quotient_of model ty term factor x = wrap_quotient model ty (value_at term x *ℤ factor)

-- all numbers of the range have the same quotient
abbrev pub HasOneQuotient : Quotients → List Interval → Type 0
HasOneQuotient quotient range = (x y : ℤ) → IsTrue (contains range x) → IsTrue (contains range y) → quotient x ≡ quotient y

-- a range on which a term over the symbol has the wrapped product's value
pub record IsProductOn (model : DataModel) (ty : IntType) (term : Lin) (factor : ℤ) (piece : Piece) : Type 0 where
  pub inhabited : IsInhabited piece.range
  pub value : (x : ℤ) → IsTrue (contains piece.range x) → value_at piece.product x ≡ wrapped model ty (value_at term x *ℤ factor)
  pub is_term : IsTerm piece.product
  pub symbol : HasNoOtherSymbol piece.product.sym term.sym

-- the numbers of the range with this quotient, and the wrapped product on them; none if no number has it
abbrev pub IsProductPiece : DataModel → IntType → Lin → ℤ → List Interval → ℤ → Option Piece → Type 0
IsProductPiece model ty term factor range q None = (x : ℤ) → IsTrue (contains range x) → product_quotient_of model ty term factor x ≢ q
IsProductPiece model ty term factor range q (Some piece) = IsPiece (product_quotient_of model ty term factor) range q piece.range
    × IsProductOn model ty term factor piece

-- the four pieces of the range, by quotients of the products
pub record AreProductPieces (model : DataModel) (ty : IntType) (term : Lin) (factor : ℤ) (range : List Interval) (pieces : ProductPieces) : Type 0 where
  pub under : IsProductPiece model ty term factor range (negsuc 0) pieces.under
  pub same : IsProductPiece model ty term factor range (pos 0) pieces.same
  pub past : IsProductPiece model ty term factor range (pos 1) pieces.past
  pub far : IsFarPiece (product_quotient_of model ty term factor) range pieces.far
