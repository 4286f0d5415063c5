-- The result for a file: its program, or the first check that it doesn't pass.
use Rattle.std.specs.Prelude.{◌≡◌, ◌≤◌, ◌<◌, ℕ, List, length}
use Rattle.cs_limits.specs.declared.TheConstants.{MOST_BYTES}
use Rattle.cs_types.specs.declared.data_model.DataModel.{DataModel}
use Rattle.cs_ast.specs.declared.raw.external.RawExternal.{RawExternal}
use Rattle.cs_ast.specs.TypedProgram.{typed_program}
use Rattle.cs_lexer.specs.declared.lexer.Lexed.{Lexed}
use Rattle.cs_lexer.specs.Lexing.{Lexes, IsRefused}
use Rattle.cs_grammar.specs.declared.refusal.SyntaxRefusal.{SyntaxRefusal}
use Rattle.cs_decl_parser.specs.Files.{IsFileRefusal}
use Rattle.cs_scopes.specs.declared.refusal.TypeRefusal.{TypeRefusal}
use Rattle.cs_scopes.specs.Verdicts as verdicts
use Rattle.cs_program.specs.declared.program.FileProgram.{FileProgram}
use Rattle.cs_program.specs.declared.refusal.FileRefusal.{FileRefusal}
use Rattle.cs_program.specs.declared.refusal.FileRefusal.TheVariants.{TooLong, Tokens, Syntax, Types}
use Rattle.cs_program.specs.Trees.{Parses, HasProgram, typed_tree}

-- the file is this program, whose positions are in files of these names
pub record IsProgramOf (model : DataModel) (file : List ℕ) (found : FileProgram) : Type 0 where
  pub lexed : Lexed
  pub tree : List RawExternal
  pub accepted : HasProgram model file lexed tree (typed_program found.program)
  pub names : found.files.items ≡ lexed.files.items

-- the file isn't too long and has tokens, which are refused
pub record IsSyntaxRefused (file : List ℕ) (refusal : SyntaxRefusal) (files : List (List ℕ)) : Type 0 where
  pub lexed : Lexed
  pub short : length file ≤ MOST_BYTES
  pub has_tokens : Lexes file lexed
  pub refused : IsFileRefusal lexed.list.items lexed.end refusal
  pub names : files ≡ lexed.files.items

-- the file has a tree, which typing refuses
pub record IsTypeRefused (model : DataModel) (file : List ℕ) (refusal : TypeRefusal) (files : List (List ℕ)) : Type 0 where
  pub lexed : Lexed
  pub tree : List RawExternal
  pub parsed : Parses file lexed tree
  pub refused : verdicts.IsRefused (typed_tree model lexed tree) refusal
  pub names : files ≡ lexed.files.items

-- the check that a file doesn't pass
abbrev pub IsRefusedFor : DataModel → List ℕ → FileRefusal → Type 0
IsRefusedFor model file TooLong = MOST_BYTES < length file
IsRefusedFor model file (Tokens refusal) = (length file ≤ MOST_BYTES) × IsRefused file refusal
IsRefusedFor model file (Syntax refusal files) = IsSyntaxRefused file refusal files.items
IsRefusedFor model file (Types refusal files) = IsTypeRefused model file refusal files.items
