-- The laws of this crate.
use Rattle.std.proofs.Common.{◌∙◌, sym}
use Rattle.cs_decl_parser.specs.Files.{parts_of}
use Rattle.cs_one_program.specs.Laws.{FilesHaveOneTree, TypingSeesPartsAndPlaces, FilesHaveOneProgram}
use Rattle.cs_one_program.proofs.TypedFiles.{typed_same}
use Rattle.cs_one_program.proofs.PlacedFiles.{file_alike}

pub files_have_one_tree : FilesHaveOneTree
files_have_one_tree tokens tree other is is_other =
    file_alike tree other tokens is.placed is_other.placed
    (sym (is.is_the_file.only (parts_of other) is_other.is_the_file.is_file (sym is_other.is_the_file.spelled ∙ is.is_the_file.spelled)))

pub typing_sees_parts_and_places : TypingSeesPartsAndPlaces
typing_sees_parts_and_places = typed_same

pub files_have_one_program : FilesHaveOneProgram
files_have_one_program model files tokens tree other is is_other =
    typed_same model files tokens tree other (files_have_one_tree tokens tree other is is_other)
