-- A file has one tree, and so one program.
use Rattle.std.specs.Prelude.{◌≡◌, ℕ, List}
use Rattle.cs_types.specs.declared.data_model.DataModel.{DataModel}
use Rattle.cs_ast.specs.declared.token.Token.{Token}
use Rattle.cs_ast.specs.declared.raw.external.RawExternal.{RawExternal}
use Rattle.cs_decl_parser.specs.Files.{parts_of, IsTheFile}
use Rattle.cs_decl_parser.specs.FilePlaces.{AreFilePlaced}
use Rattle.cs_typing.specs.Programs.{typed}
use Rattle.cs_one_program.specs.SameTrees.{SameTree}

-- the tokens are this tree, which has their positions
pub record IsTreeOf (tokens : List Token) (tree : List RawExternal) : Type 0 where
  pub is_the_file : IsTheFile tokens (parts_of tree)
  pub placed : AreFilePlaced tree tokens

-- two trees of the same tokens have the same parts at the same positions
abbrev pub FilesHaveOneTree : Type 0
FilesHaveOneTree = (tokens : List Token) (tree other : List RawExternal) → IsTreeOf tokens tree → IsTreeOf tokens other → SameTree tree other

-- the result of typing depends only on the parts of the tree and their positions: the program, or the code and the position of the refusal
abbrev pub TypingSeesPartsAndPlaces : Type 0
TypingSeesPartsAndPlaces =
    (model : DataModel) (files : List (List ℕ)) (tokens : List Token) (tree other : List RawExternal) → SameTree tree other
    → typed model files tokens tree ≡ typed model files tokens other

-- with both: the same tokens are one program, or are refused at one position with one code, whichever of their trees is taken
abbrev pub FilesHaveOneProgram : Type 0
FilesHaveOneProgram =
    (model : DataModel) (files : List (List ℕ)) (tokens : List Token) (tree other : List RawExternal) → IsTreeOf tokens tree → IsTreeOf tokens other
    → typed model files tokens tree ≡ typed model files tokens other
