-- The pieces of operations whose exact results wrap.
use Rattle.std.specs.Prelude.{◌≡◌, ◌⊎◌, ℕ, ℤ, pos, List, [], ◌∷◌, ◌++◌, Option, None, Some}
use Rattle.cs_ranges.specs.declared.range_set.Interval.{Interval}
use Rattle.cs_ranges.specs.RangeSet.{IsEmpty}
use Rattle.cs_types.specs.declared.data_model.DataModel.{DataModel}
use Rattle.cs_types.specs.declared.int_type.IntType.{IntType}
use Rattle.cs_types.specs.Wrap.{wrap_quotient, wrapped}
use Rattle.cs_ast.specs.declared.typed.operator.BinOp.{BinOp}
use Rattle.cs_ast.specs.declared.typed.operator.UnOp.{UnOp}
use Rattle.cs_terms.specs.declared.symbol.Sym.{Sym}
use Rattle.cs_terms.specs.declared.term.Lin.{Lin}
use Rattle.cs_terms.specs.declared.product.Piece.{Piece as Part}
use Rattle.cs_terms.specs.declared.product.ProductPieces.{ProductPieces as Parts}
use Rattle.cs_terms.specs.Bounds.{StaysWithin}
use Rattle.cs_terms.specs.Pieces.{IsFar, AreProductPieces}
use Rattle.cs_terms.specs.Term.{Valuation, value_of, IsTerm, HaveTwoSymbols, HasNoOtherSymbol}
use Rattle.cs_constraints.specs.Constraints.{Sets, set_of, Fits, AreInhabited, IsNarrowed}
use Rattle.cs_events.specs.declared.event.Label.TheVariants as label
use Rattle.cs_events.specs.declared.event.Wrap.{Wrap}
use Rattle.cs_events.specs.declared.event.Wrap.TheVariants.{Under, Same, Past, Guessed}
use Rattle.cs_events.specs.Operations.{exact_of_one, wrap_of}
use Rattle.cs_state.specs.declared.asked.Asks.TheVariants as asks
use Rattle.cs_eval.specs.declared.guesses.Inexact.{Inexact}
use Rattle.cs_eval.specs.declared.piece.Piece.{Piece}
use Rattle.cs_eval.specs.Guesses.{IsGuessPiece, HasNumbers}
use Rattle.cs_eval.specs.Parts.{number_term, unguessed}
use Rattle.cs_eval.specs.Recorded.{RecordsInexact}

-- an operator of two integers that is guessed
abbrev pub asked_of : BinOp → IntType → Lin → Lin → Inexact
asked_of op ty left right = record { asks = asks.Binary op ty; left = left; right = right; fact = None }

-- the earlier pieces, followed by some more
pub record IsExtended (before : List Piece) (Are : List Piece → Type 0) (after : List Piece) : Type 0 where
  pub added : List Piece
  pub made : after ≡ before ++ added
  pub are : Are added

-- the piece of one wrap quotient: exactly these numbers of the symbol remain, and the wrapped result is the answer
pub record IsPartPiece (sets : Sets) (sym : Sym) (wrap : Wrap) (part : Part) (piece : Piece) : Type 0 where
  pub shown : piece.label ≡ label.Wrap wrap
  pub unguessed : piece.guessed ≡ None
  pub narrowed : IsNarrowed sets sym.0 part.range piece.constraints
  pub inhabited : AreInhabited piece.constraints
  pub answer : (v : Valuation) → Fits v piece.constraints → value_of v piece.answer ≡ value_of v part.product

-- the piece of a part; none if the part has no number
abbrev pub IsOfPart : Sets → Sym → Wrap → Option Part → List Piece → Type 0
IsOfPart sets sym wrap None pieces = pieces ≡ []
IsOfPart sets sym wrap (Some part) pieces =
    (IsEmpty part.range × (pieces ≡ [])) ⊎ ((piece : Piece) × (pieces ≡ piece ∷ []) × IsPartPiece sets sym wrap part piece)

-- the piece of a guess: any of the numbers that the operation may be guessed as
pub record IsWrapGuess (model : DataModel) (sets : Sets) (guess : ℕ) (inexact : Inexact) (piece : Piece) : Type 0 where
  pub numbers : Interval
  pub are : HasNumbers model inexact numbers
  pub piece_is : IsGuessPiece sets guess (label.Wrap Guessed) numbers piece

-- the one piece of an operation that is guessed as a whole
pub record IsWholeGuess (model : DataModel) (sets : Sets) (guess : ℕ) (inexact : Inexact) (pieces : List Piece) : Type 0 where
  pub piece : Piece
  pub made : pieces ≡ piece ∷ []
  pub guessed : IsWrapGuess model sets guess inexact piece
  pub records : RecordsInexact sets inexact piece

-- the piece of the far wrap quotients: exactly these numbers of the symbol remain, and the result is guessed
pub record IsFarGuess (model : DataModel) (sets : Sets) (guess : ℕ) (sym : Sym) (far : List Interval) (inexact : Inexact) (piece : Piece) : Type 0 where
  pub between : Sets
  pub narrowed : IsNarrowed sets sym.0 far between
  pub guessed : IsWrapGuess model between guess inexact piece
  pub records : RecordsInexact sets inexact piece

-- the piece of the far wrap quotients; none if no number has one. Without an operation to guess, no number has one
abbrev pub IsOfFar : DataModel → Sets → ℕ → Sym → List Interval → Option Inexact → List Piece → Type 0
IsOfFar model sets guess sym far None pieces = IsEmpty far × (pieces ≡ [])
IsOfFar model sets guess sym far (Some inexact) pieces =
    (IsEmpty far × (pieces ≡ [])) ⊎ ((piece : Piece) × (pieces ≡ piece ∷ []) × IsFarGuess model sets guess sym far inexact piece)

-- the pieces of a symbol's numbers, by wrap quotients
pub record AreOfParts (model : DataModel) (sets : Sets) (guess : ℕ) (sym : Sym) (parts : Parts) (asked : Option Inexact) (pieces : List Piece) : Type 0 where
  pub under : List Piece
  pub same : List Piece
  pub past : List Piece
  pub far : List Piece
  pub made : pieces ≡ ((under ++ same) ++ past) ++ far
  pub under_is : IsOfPart sets sym Under parts.under under
  pub same_is : IsOfPart sets sym Same parts.same same
  pub past_is : IsOfPart sets sym Past parts.past past
  pub far_is : IsOfFar model sets guess sym parts.far asked far

-- the pieces of a term's values times a factor, by their wrap quotients
pub record AreOfProduct (model : DataModel) (sets : Sets) (guess : ℕ) (ty : IntType) (term : Lin) (factor : ℤ) (asked : Option Inexact)
    (pieces : List Piece) : Type 0 where
  pub sym : Sym
  pub range : List Interval
  pub over : term.sym ≡ Some sym
  pub known : set_of sets sym.0 ≡ Some range
  pub parts : Parts
  pub cut : AreProductPieces model ty term factor range parts
  pub made : AreOfParts model sets guess sym parts asked pieces

-- a number's wrap quotient is near, or there is no operation to guess
abbrev pub IsNearOrUnasked : ℤ → Option Inexact → Type 0
IsNearOrUnasked quotient None = Unit {0}
IsNearOrUnasked quotient (Some inexact) = ¬ IsFar quotient

-- a constant converted to a type
abbrev pub constant_pieces : DataModel → IntType → ℤ → Sets → List Piece
constant_pieces model ty number sets =
    unguessed (label.Wrap (wrap_of (wrap_quotient model ty number))) (number_term (wrapped model ty number)) sets ∷ []

-- the one piece of a constant
pub record IsOfConstant (model : DataModel) (sets : Sets) (ty : IntType) (number : ℤ) (asked : Option Inexact) (pieces : List Piece) : Type 0 where
  pub made : pieces ≡ constant_pieces model ty number sets
  pub near : IsNearOrUnasked (wrap_quotient model ty number) asked
  pub inhabited : AreInhabited sets

-- the one piece of a constant with a far quotient, if there is an operation to guess
pub record IsOfFarConstant (model : DataModel) (sets : Sets) (guess : ℕ) (ty : IntType) (number : ℤ) (asked : Option Inexact)
    (pieces : List Piece) : Type 0 where
  pub inexact : Inexact
  pub asked_for : asked ≡ Some inexact
  pub far : IsFar (wrap_quotient model ty number)
  pub whole : IsWholeGuess model sets guess inexact pieces

-- the piece of a constant
abbrev pub IsConvertedConstant : DataModel → Sets → ℕ → IntType → ℤ → Option Inexact → List Piece → Type 0
IsConvertedConstant model sets guess ty number asked pieces =
    IsOfConstant model sets ty number asked pieces ⊎ IsOfFarConstant model sets guess ty number asked pieces

-- the one piece of a term whose values are in the type's range
pub record IsOfUnwrapped (model : DataModel) (sets : Sets) (ty : IntType) (exact : Lin) (pieces : List Piece) : Type 0 where
  pub sym : Sym
  pub range : List Interval
  pub over : exact.sym ≡ Some sym
  pub known : set_of sets sym.0 ≡ Some range
  pub within : StaysWithin model ty exact range
  pub made : pieces ≡ unguessed (label.Wrap Same) exact sets ∷ []
  pub inhabited : AreInhabited sets

-- the pieces of an exact result that is converted to a type. There is an operation to guess if the far numbers aren't followed
abbrev pub AreConverted : DataModel → Sets → ℕ → IntType → Lin → Option Inexact → List Piece → Type 0
AreConverted model sets guess ty exact asked pieces =
    ((exact.sym ≡ None) × IsConvertedConstant model sets guess ty exact.value asked pieces)
    ⊎ (IsOfUnwrapped model sets ty exact pieces ⊎ AreOfProduct model sets guess ty exact (pos 1) asked pieces)

-- the pieces of a sum, which is guessed if it isn't one term
abbrev pub AreSummed : DataModel → Sets → ℕ → IntType → Option Lin → Inexact → List Piece → Type 0
AreSummed model sets guess ty None inexact pieces = IsWholeGuess model sets guess inexact pieces
AreSummed model sets guess ty (Some exact) inexact pieces = AreConverted model sets guess ty exact (Some inexact) pieces

-- the exact result of an operator of one integer, as a term over at most the operand's symbol
pub record IsExactOfOne (op : UnOp) (term exact : Lin) : Type 0 where
  pub value : (v : Valuation) → value_of v exact ≡ exact_of_one op (value_of v term)
  pub symbol : HasNoOtherSymbol exact.sym term.sym

-- the sum as one term, or none if the terms have two symbols
pub record IsSumOf (left right : Lin) (number : Valuation → ℤ) (sum : Option Lin) : Type 0 where
  pub value : (exact : Lin) (v : Valuation) → sum ≡ Some exact → value_of v exact ≡ number v
  pub is_term : (exact : Lin) → sum ≡ Some exact → IsTerm exact
  pub symbol : (exact : Lin) (s : Sym) → sum ≡ Some exact → exact.sym ≡ Some s → (left.sym ≡ Some s) ⊎ (right.sym ≡ Some s)
  pub one : (exact : Lin) → sum ≡ Some exact → ¬ HaveTwoSymbols left.sym right.sym
  pub none : sum ≡ None → HaveTwoSymbols left.sym right.sym
