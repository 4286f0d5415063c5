-- What is known of the tree of a file from its text.
use Rattle.std.specs.Prelude.{ℕ, ◌≤◌, List, length}
use Rattle.cs_limits.specs.declared.TheConstants.{MOST_BYTES}
use Rattle.cs_ast.specs.declared.raw.external.RawExternal.{RawExternal}
use Rattle.cs_lexer.specs.declared.lexer.Lexed.{Lexed}
use Rattle.cs_lexer.specs.Lexing.{Lexes}
use Rattle.cs_decl_parser.specs.Files.{parts_of, IsTheFile}
use Rattle.cs_decl_parser.specs.FilePlaces.{AreFilePlaced}
use Rattle.cs_well_formed.specs.Files.{IsFileTree}

-- these are the tokens of a file that isn't too long
abbrev pub IsOfFile : Lexed → Type 0
IsOfFile lexed = (file : List ℕ) × (length file ≤ MOST_BYTES) × Lexes file lexed

-- if a text of at most `MOST_BYTES` bytes is lexed, and its tokens are a tree with their positions, that tree is as typing requires it
abbrev pub LexedFilesHaveTrees : Type 0
LexedFilesHaveTrees =
    (text : List ℕ) (lexed : Lexed) (tree : List RawExternal) → length text ≤ MOST_BYTES → Lexes text lexed
    → IsTheFile lexed.list.items (parts_of tree)
    → AreFilePlaced tree lexed.list.items → IsFileTree lexed.files.items lexed.list.items tree
