-- The pieces of a question: what each represents, and that there is one for each label that the operation may show.
use Rattle.std.specs.Prelude.{◌≡◌, ◌≢◌, ◌⊎◌, ℕ, ℤ, List, [], ◌∷◌, Option, None, Some}
use Rattle.cs_types.specs.declared.data_model.DataModel.{DataModel}
use Rattle.cs_terms.specs.declared.symbol.Sym.{Sym}
use Rattle.cs_terms.specs.Term.{Valuation, value_of}
use Rattle.cs_constraints.specs.Constraints.{Sets, set_of, Fits}
use Rattle.cs_events.specs.declared.operation.Operation.{Operation}
use Rattle.cs_events.specs.Operations.{own_result, shows}
use Rattle.cs_eval.specs.declared.piece.Piece.{Piece}
use Rattle.cs_eval.specs.declared.piece.Guessed.{Guessed}
use Rattle.cs_eval.specs.Parts.{with_number}

-- a question, or a `switch`: the operation of the run under each valuation, whether it is followed exactly, and which numbers may replace
-- its own result
pub record Asking : Type 1 where
  pub operation : Valuation → Operation
  pub IsFollowed : Valuation → Type 0
  pub IsGuess : Valuation → ℤ → Type 0
  pub Mentions : Sym → Type 0

-- an exact piece keeps exactly the valuations under which the operation is followed and shows the label, and its answer is the operation's own result
pub record IsExact (model : DataModel) (before : Sets) (asking : Asking) (piece : Piece) : Type 0 where
  pub from : (v : Valuation) → Fits v piece.constraints
      → Fits v before × asking.IsFollowed v × (shows model (asking.operation v) None ≡ piece.label)
  pub back : (v : Valuation) → Fits v before → asking.IsFollowed v → shows model (asking.operation v) None ≡ piece.label
      → Fits v piece.constraints
  pub answer : (v : Valuation) → Fits v piece.constraints → value_of v piece.answer ≡ own_result model (asking.operation v)

-- a piece with a guess keeps exactly the valuations under which the operation isn't followed and shows the label with the number of the
-- guess symbol. This may be any number that may be guessed, and it is the answer
pub record IsOfGuess (model : DataModel) (before : Sets) (guess : ℕ) (asking : Asking) (piece : Piece) : Type 0 where
  pub from : (v : Valuation) → Fits v piece.constraints
      → Fits v before × ¬ asking.IsFollowed v × asking.IsGuess v (v guess) × (shows model (asking.operation v) (Some (v guess)) ≡ piece.label)
  pub back : (v : Valuation) (number : ℤ) → Fits v before → ¬ asking.IsFollowed v → asking.IsGuess v number
      → shows model (asking.operation v) (Some number) ≡ piece.label → Fits (with_number guess number v) piece.constraints
  pub answer : (v : Valuation) → Fits v piece.constraints → value_of v piece.answer ≡ v guess

-- what a piece represents, depending on whether something was guessed
abbrev pub IsPieceWith : DataModel → Sets → ℕ → Asking → Option Guessed → Piece → Type 0
IsPieceWith model before guess asking None piece = IsExact model before asking piece
IsPieceWith model before guess asking (Some guessed) piece = IsOfGuess model before guess asking piece

-- each symbol that isn't mentioned, other than the guess, keeps its numbers
abbrev pub KeepsOthers : Sets → ℕ → Asking → Piece → Type 0
KeepsOthers before guess asking piece =
    (other : Sym) → other.0 ≢ guess → ¬ asking.Mentions other → set_of piece.constraints other.0 ≡ set_of before other.0

pub record IsPieceOf (model : DataModel) (before : Sets) (guess : ℕ) (asking : Asking) (piece : Piece) : Type 0 where
  pub meaning : IsPieceWith model before guess asking piece.guessed piece
  pub some : (v : Valuation) × Fits v piece.constraints
  pub others : KeepsOthers before guess asking piece

-- each of the pieces has the property
abbrev pub Each : (Piece → Type 0) → List Piece → Type 0
Each IsSo [] = Unit {0}
Each IsSo (piece ∷ pieces) = IsSo piece × Each IsSo pieces

-- no two pieces have the same label
abbrev pub HaveOwnLabels : List Piece → Type 0
HaveOwnLabels [] = Unit {0}
HaveOwnLabels (piece ∷ pieces) = Each (λ other. other.label ≢ piece.label) pieces × HaveOwnLabels pieces

-- the valuation is in the piece; for one with a guess, after the guess symbol gets the operation's own result
abbrev pub IsIn : DataModel → ℕ → Asking → Valuation → Option Guessed → Piece → Type 0
IsIn model guess asking v None piece = Fits v piece.constraints
IsIn model guess asking v (Some guessed) piece = Fits (with_number guess (own_result model (asking.operation v)) v) piece.constraints

-- the valuation is in some piece
abbrev pub IsCovered : DataModel → ℕ → Asking → Valuation → List Piece → Type 0
IsCovered model guess asking v [] = ⊥
IsCovered model guess asking v (piece ∷ pieces) = IsIn model guess asking v piece.guessed piece ⊎ IsCovered model guess asking v pieces

-- the pieces of a question: one for each label that the operation shows under some valuation, and no other
pub record IsSplit (model : DataModel) (before : Sets) (guess : ℕ) (asking : Asking) (pieces : List Piece) : Type 0 where
  pub each : Each (IsPieceOf model before guess asking) pieces
  pub labels : HaveOwnLabels pieces
  pub covers : (v : Valuation) → Fits v before → IsCovered model guess asking v pieces
