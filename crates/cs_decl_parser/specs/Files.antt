-- The result of the parser of files.
use Rattle.std.specs.Prelude.{◌≡◌, ℕ, List, [], ◌∷◌, ◌++◌, Option, Some, None, map}
use Rattle.cs_ast.specs.declared.place.Place.{Place}
use Rattle.cs_ast.specs.declared.token.Token.{Token}
use Rattle.cs_ast.specs.declared.token.TokenKind.{TokenKind}
use Rattle.cs_ast.specs.declared.raw.external.RawExternal.{RawExternal}
use Rattle.cs_ast.specs.RawStatements.{External}
use Rattle.cs_ast.specs.RawStatementView.{external}
use Rattle.cs_grammar.specs.declared.refusal.Reason.{Reason}
use Rattle.cs_grammar.specs.declared.refusal.SyntaxRefusal.{SyntaxRefusal}
use Rattle.cs_grammar.specs.declared.refusal.SyntaxRefusal.TheVariants as refusal
use Rattle.cs_grammar.specs.Text.{Kinds}
use Rattle.cs_grammar.specs.FileText.{file_text}
use Rattle.cs_grammar.specs.FilePhrases.{IsFile, AreLow, BeginsLowFile}
use Rattle.cs_grammar.specs.FileRefusals.{IsFileReason}
use Rattle.cs_expr_parser.specs.Positions.{kinds}
use Rattle.cs_expr_parser.specs.Parts.{Spells}
use Rattle.cs_expr_parser.specs.Expression.{kind_at, IsRefusalFor}

-- the external declarations of a file, without positions
abbrev pub parts_of : List RawExternal → List External
parts_of externals = map external externals

-- the tokens are this file, whose parts have a height of at most 200, and no other
pub record IsTheFile (tokens : List Token) (file : List External) : Type 0 where
  pub is_file : IsFile [] file
  pub low : AreLow 200 file
  pub spelled : kinds tokens ≡ file_text file
  pub only : (other : List External) → IsFile [] other → file_text other ≡ file_text file → other ≡ file

-- a file within the limit begins with the tokens and the next one; if there is no next one, the tokens are such a file
abbrev pub GoesOnLow : ℕ → Kinds → Option TokenKind → Type 0
GoesOnLow limit front (Some next) = BeginsLowFile limit (front ++ next ∷ [])
GoesOnLow limit front None = (file : List External) × IsFile [] file × AreLow limit file × (file_text file ≡ front)

-- a token, or the end of input, is the first that is refused: a file within the limit begins with the tokens before it, and none
-- continues with it, for this reason
pub record IsFileRefusedAt (tokens : List Token) (at : ℕ) (reason : Reason) : Type 0 where
  pub front : Kinds
  pub spelled : Spells tokens 0 at (λ rest. front ++ rest)
  pub begun : BeginsLowFile 200 front
  pub furthest : GoesOnLow 200 front (kind_at tokens at) → ⊥
  pub why : IsFileReason front (kind_at tokens at) reason

-- memory runs out, or the refusal of the first token, or of the end of input, with which no file within the limit continues
abbrev pub IsFileRefusal : List Token → Place → SyntaxRefusal → Type 0
IsFileRefusal tokens end refusal.Memory = Unit {0}
IsFileRefusal tokens end other = (at : ℕ) × (reason : Reason) × IsRefusalFor tokens end at reason other × IsFileRefusedAt tokens at reason

-- tokens have at most one refusal; out of memory doesn't count
abbrev pub RefusalsAreOne : Type 0
RefusalsAreOne =
    (tokens : List Token) (end : Place) (one other : SyntaxRefusal) → IsFileRefusal tokens end one → IsFileRefusal tokens end other
    → (one ≡ refusal.Memory → ⊥) → (other ≡ refusal.Memory → ⊥) → one ≡ other

-- tokens that are a file have no refusal
abbrev pub FilesAreNotRefused : Type 0
FilesAreNotRefused = (tokens : List Token) (end : Place) (file : List External) (one : SyntaxRefusal) → IsTheFile tokens file → IsFileRefusal tokens end one
    → one ≡ refusal.Memory
