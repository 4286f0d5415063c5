-- The tree of a file, and the program of the tree.
use Rattle.std.specs.Prelude.{◌≡◌, ◌≤◌, ℕ, List, length}
use Rattle.cs_limits.specs.declared.TheConstants.{MOST_BYTES}
use Rattle.cs_types.specs.declared.data_model.DataModel.{DataModel}
use Rattle.cs_ast.specs.declared.raw.external.RawExternal.{RawExternal}
use Rattle.cs_ast.specs.TypedProgram.{TypedProgram}
use Rattle.cs_lexer.specs.declared.lexer.Lexed.{Lexed}
use Rattle.cs_lexer.specs.Lexing.{Lexes}
use Rattle.cs_decl_parser.specs.Files.{parts_of, IsTheFile}
use Rattle.cs_decl_parser.specs.FilePlaces.{AreFilePlaced}
use Rattle.cs_scopes.specs.Verdicts.{Verdict, Fine}
use Rattle.cs_typing.specs.Programs.{typed}

-- the file isn't too long, has these tokens, and their only tree is this one, of height at most 200 and with the positions of the tokens
pub record Parses (file : List ℕ) (lexed : Lexed) (tree : List RawExternal) : Type 0 where
  pub short : length file ≤ MOST_BYTES
  pub has_tokens : Lexes file lexed
  pub is_the_file : IsTheFile lexed.list.items (parts_of tree)
  pub placed : AreFilePlaced tree lexed.list.items

-- the typing of a tree of these tokens
abbrev pub typed_tree : DataModel → Lexed → List RawExternal → Verdict TypedProgram
typed_tree model lexed tree = typed model lexed.files.items lexed.list.items tree

-- the file has this tree, which is typed as this program
pub record HasProgram (model : DataModel) (file : List ℕ) (lexed : Lexed) (tree : List RawExternal) (program : TypedProgram) : Type 0 where
  pub parsed : Parses file lexed tree
  pub typed : typed_tree model lexed tree ≡ Fine program
