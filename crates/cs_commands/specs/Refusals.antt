-- Why a file is refused, and the line that states this.
use Rattle.std.specs.Prelude.{◌≡◌, ◌≤◌, ◌<◌, ℕ, List, [], ◌++◌, length, codes, slice_index_or}
use Rattle.std.specs.Fmt.{decimal}
use Rattle.cs_limits.specs.declared.TheConstants.{MOST_BYTES}
use Rattle.cs_types.specs.declared.data_model.DataModel.{DataModel}
use Rattle.cs_ast.specs.declared.place.Place.{Place}
use Rattle.cs_ast.specs.declared.raw.external.RawExternal.{RawExternal}
use Rattle.cs_lexer.specs.declared.lexer.Lexed.{Lexed}
use Rattle.cs_lexer.specs.declared.refusal.LexRefusal.{LexRefusal}
use Rattle.cs_lexer.specs.declared.refusal.LexRefusal.TheVariants.{BadByte, Unclosed, WideNumber, BadLine, TooManyTokens, Memory}
use Rattle.cs_lexer.specs.Lexing.{Lexes, IsRefused}
use Rattle.cs_grammar.specs.declared.refusal.SyntaxRefusal.{SyntaxRefusal}
use Rattle.cs_grammar.specs.declared.refusal.SyntaxRefusal.TheVariants as syntax
use Rattle.cs_decl_parser.specs.Files.{IsFileRefusal}
use Rattle.cs_scopes.specs.declared.refusal.TypeCode.{TypeCode}
use Rattle.cs_scopes.specs.declared.refusal.TypeRefusal.{TypeRefusal}
use Rattle.cs_scopes.specs.declared.refusal.TypeRefusal.TheVariants as refused
use Rattle.cs_scopes.specs.Verdicts.{Fault, number_of}
use Rattle.cs_report.specs.RefusalLines.{refusal_line}
use Rattle.cs_program.specs.declared.refusal.FileRefusal.{FileRefusal}
use Rattle.cs_program.specs.declared.refusal.FileRefusal.TheVariants as file_refusal
use Rattle.cs_program.specs.Trees.{Parses, typed_tree}

-- the line for a file that can't be split into tokens; there is none if memory runs out
abbrev pub IsLexLine : LexRefusal → List ℕ → Type 0
IsLexLine (BadByte place file) text = text ≡ refusal_line (codes "refused lex 1 ") file place
IsLexLine (Unclosed place file) text = text ≡ refusal_line (codes "refused lex 2 ") file place
IsLexLine (WideNumber place file) text = text ≡ refusal_line (codes "refused lex 3 ") file place
IsLexLine (BadLine place file) text = text ≡ refusal_line (codes "refused lex 4 ") file place
IsLexLine TooManyTokens text = text ≡ codes "refused too-many-tokens 400001\n"
IsLexLine Memory text = ⊥

-- the line of a refusal at a position in one of these files
abbrev pub line_in : List (List ℕ) → List ℕ → Place → List ℕ
line_in files words place = refusal_line words (slice_index_or files place.file []) place

-- the line for tokens that aren't a file, where positions name files by number; there is none if memory runs out
abbrev pub IsSyntaxLine : List (List ℕ) → SyntaxRefusal → List ℕ → Type 0
IsSyntaxLine files (syntax.Syntax place) text = text ≡ line_in files (codes "refused syntax ") place
IsSyntaxLine files (syntax.Unsupported place word) text = text ≡ line_in files (codes "refused left-out " ++ word ++ codes " ") place
IsSyntaxLine files (syntax.TooDeep place) text = text ≡ line_in files (codes "refused too-deep ") place
IsSyntaxLine files syntax.Memory text = ⊥

-- the line for a tree that doesn't type-check; there is none if memory runs out
abbrev pub type_line : List (List ℕ) → TypeCode → Place → List ℕ
type_line files code place = line_in files (codes "refused type " ++ (decimal (number_of code) ++ codes " ")) place

abbrev pub IsTypeLine : List (List ℕ) → TypeRefusal → List ℕ → Type 0
IsTypeLine files (refused.Code code place) text = text ≡ type_line files code place
IsTypeLine files refused.Memory text = ⊥

-- the line for a file that is refused
abbrev pub IsFileLine : FileRefusal → List ℕ → Type 0
IsFileLine file_refusal.TooLong text = text ≡ codes "refused too-long 4194305\n"
IsFileLine (file_refusal.Tokens refusal) text = IsLexLine refusal text
IsFileLine (file_refusal.Syntax refusal files) text = IsSyntaxLine files.items refusal text
IsFileLine (file_refusal.Types refusal files) text = IsTypeLine files.items refusal text

-- the first check that a file fails, with the line that states this: it is too long; it can't be split into tokens; the tokens aren't a
-- file; the tree doesn't type-check
pub data IsRefusal (model : DataModel) (file text : List ℕ) : Type 0 where
  too_long : MOST_BYTES < length file → text ≡ codes "refused too-long 4194305\n" → IsRefusal model file text
  by_lexing : length file ≤ MOST_BYTES → (refusal : LexRefusal) → IsRefused file refusal → IsLexLine refusal text → IsRefusal model file text
  by_syntax : length file ≤ MOST_BYTES → (lexed : Lexed) → Lexes file lexed
      → (refusal : SyntaxRefusal) → IsFileRefusal lexed.list.items lexed.end refusal → IsSyntaxLine lexed.files.items refusal text
      → IsRefusal model file text
  by_type : (lexed : Lexed) → (tree : List RawExternal) → Parses file lexed tree
      → (code : TypeCode) → (place : Place) → typed_tree model lexed tree ≡ Fault code place → text ≡ type_line lexed.files.items code place
      → IsRefusal model file text
