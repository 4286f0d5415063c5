-- The cutting of a text into pieces, with its tokens and files.
use Rattle.std.specs.Prelude.{◌≡◌, ℕ, pos, zero, suc, ◌<◌, List, [], ◌∷◌, ◌++◌, length, take, drop, codes, Option, Some, None}
use Rattle.std.specs.Prelude.{if◌then◌else◌}
use Rattle.cs_ast.specs.declared.place.Place.{Place}
use Rattle.cs_ast.specs.declared.token.Token as tokens
use Rattle.cs_ast.specs.declared.token.TokenKind.{TokenKind}
use Rattle.cs_ast.specs.declared.token.TokenKind.TheVariants.{Text, Character}
use Rattle.cs_lexer.specs.declared.lexeme.Fault.{Fault}
use Rattle.cs_lexer.specs.declared.lexeme.Lexeme.TheVariants as found
use Rattle.cs_lexer.specs.declared.spot.Spot.{Spot}
use Rattle.cs_lexer.specs.declared.cut.End.{End}
use Rattle.cs_lexer.specs.declared.cut.End.TheVariants.{Whole, Refused}
use Rattle.cs_lexer.specs.declared.cut.Cutting.{Cutting}
use Rattle.cs_lexer.specs.Classes.{begins_with}
use Rattle.cs_lexer.specs.Files.{file_number, with_file}
use Rattle.cs_lexer.specs.Pieces.{Begins}
use Rattle.cs_lexer.specs.Spots.{start, line_of, spot_after}

-- a token at a position
abbrev pub token_at : TokenKind → Place → tokens.Token
token_at kind place = record { kind = kind; place = place }

-- the files after a linemarker
abbrev pub files_after : List (List ℕ) → Option (List ℕ) → List (List ℕ)
files_after files None = files
files_after files (Some name) = with_file files name

-- the file after a linemarker: the one that it names, or else the current one
abbrev pub file_after : List (List ℕ) → Spot → Option (List ℕ) → ℕ
file_after files spot None = spot.place.file
file_after files spot (Some name) = file_number files name

-- the position of the byte after a linemarker: the beginning of the line that the marker names, in its file
abbrev pub marked_spot : Spot → ℕ → Option ℕ → List ℕ → Spot
marked_spot spot file None bytes = spot_after spot bytes
marked_spot spot file (Some line) bytes = line_of file line

-- the text is cut into pieces up to this rest, which is at the spot; the pieces name these files and have these tokens
pub data Reaches (text : List ℕ) : List (List ℕ) → List tokens.Token → Spot → List ℕ → Type 0 where
  begins : Reaches text (codes "<input>" ∷ []) [] start text
  gap : {files : List (List ℕ)} {list : List tokens.Token} {spot : Spot} {rest : List ℕ} (size : ℕ) → Reaches text files list spot rest
      → 0 < length rest → Begins spot.is_line_start rest (found.Gap size) → Reaches text files list (spot_after spot (take size rest)) (drop size rest)
  marker : {files : List (List ℕ)} {list : List tokens.Token} {spot : Spot} {rest : List ℕ} (size : ℕ) (next : Option ℕ) (name : Option (List ℕ))
      → Reaches text files list spot rest → 0 < length rest → Begins spot.is_line_start rest (found.Marker size next name)
      → Reaches text (files_after files name) list (marked_spot spot (file_after files spot name) next (take size rest)) (drop size rest)
  token : {files : List (List ℕ)} {list : List tokens.Token} {spot : Spot} {rest : List ℕ} (size : ℕ) (kind : TokenKind)
      → Reaches text files list spot rest → 0 < length rest → Begins spot.is_line_start rest (found.Token size kind)
      → Reaches text files (list ++ token_at kind spot.place ∷ []) (spot_after spot (take size rest)) (drop size rest)

-- a fault after the first byte of a piece is in a token that has begun; of that token it only matters whether it is a string
-- literal
abbrev pub begun_kind : List ℕ → TokenKind
begun_kind rest = if begins_with 34 rest then Text [] else Character (pos 0)

abbrev pub begun : List ℕ → ℕ → Place → List tokens.Token
begun rest zero place = []
begun rest (suc size) place = token_at (begun_kind rest) place ∷ []

-- the whole text is cut
pub record IsWhole (text : List ℕ) (files : List (List ℕ)) (list : List tokens.Token) (place : Place) : Type 0 where
  pub spot : Spot
  pub reaches : Reaches text files list spot []
  pub at_end : place ≡ spot.place

-- the text is cut up to a piece with a fault; the tokens are those that begin before the fault's position
pub record IsRefusedAt (text : List ℕ) (files : List (List ℕ)) (list : List tokens.Token) (place : Place) (fault : Fault) : Type 0 where
  pub before : List tokens.Token
  pub spot : Spot
  pub rest : List ℕ
  pub size : ℕ
  pub reaches : Reaches text files before spot rest
  pub some : 0 < length rest
  pub begins : Begins spot.is_line_start rest (found.Refused fault size)
  pub tokens_are : list ≡ before ++ begun rest size spot.place
  pub place_is : place ≡ (spot_after spot (take size rest)).place

abbrev pub EndsAs : List ℕ → List (List ℕ) → List tokens.Token → Place → End → Type 0
EndsAs text files list place Whole = IsWhole text files list place
EndsAs text files list place (Refused fault) = IsRefusedAt text files list place fault

-- the cutting of a text, up to its end or to its first fault
abbrev pub IsCutting : List ℕ → Cutting → Type 0
IsCutting text cutting = EndsAs text cutting.files cutting.tokens.items cutting.place cutting.end
