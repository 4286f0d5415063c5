-- The tree of a lexed file has the constants, positions and size that its text allows: for `lexed_files_have_trees`.
use Rattle.std.proofs.Common.{◌≤◌, length, ap, arith}
use Rattle.std.specs.List.{sum_by}
use Rattle.cs_grammar.specs.FileText.{file_text}
use Rattle.cs_lexer.specs.Extent.{token_extent}
use Rattle.cs_lexer.proofs.HeldTokens.{lexed_tokens_are_held}
use Rattle.cs_lexer.proofs.ShortTokens.{lexed_tokens_are_short}
use Rattle.cs_lexer.proofs.TokensInFiles.{lexed_tokens_have_files, lexed_files_are_few}
use Rattle.cs_decl_parser.specs.Files.{parts_of}
use Rattle.cs_well_formed.specs.Places.{IsOfFiles}
use Rattle.cs_well_formed.specs.Sizes.{text_size}
use Rattle.cs_parsed_files.specs.Trees.{LexedFilesHaveTrees}
use Rattle.cs_parsed_files.proofs.HeldFiles.{tree_held}
use Rattle.cs_parsed_files.proofs.PlacesAmong.{file-among}
use Rattle.cs_parsed_files.proofs.ShortFiles.{size_is_extent}

pub lexed_files_have_trees : LexedFilesHaveTrees
lexed_files_have_trees text lexed tree low lexes is placed =
    let tokens = lexed.list.items in
    let files = length lexed.files.items in
    let in_files = lexed_tokens_have_files text lexed lexes in
    let extent : sum_by token_extent tokens ≤ length text = lexed_tokens_are_short text lexed lexes in
    let short : text_size (file_text (parts_of tree)) ≤ length text = omega (arith, size_is_extent tokens, ap text_size is.spelled) in
    record {
      held = tree_held tokens tree (lexed_tokens_are_held text lexed lexes) is;
      some_file = in_files.some_file;
      placed = file-among (IsOfFiles files) tree tokens (record { each = in_files.each }) placed;
      short = omega arith;
      few_tokens = omega (arith, lexes.few);
      few_files = omega (arith, lexed_files_are_few text lexed lexes);
    }
