-- What is known of the tree of a lexed file and its tokens.
use Rattle.std.specs.Prelude.{ℕ, ◌≤◌, ◌^◌, List, length, map}
use Rattle.std.specs.List.{All}
use Rattle.cs_ast.specs.declared.token.Token.{Token}
use Rattle.cs_ast.specs.declared.raw.external.RawExternal.{RawExternal}
use Rattle.cs_ast.specs.HeldTokens.{IsHeldToken}
use Rattle.cs_ast.specs.RawStatementView.{external}
use Rattle.cs_grammar.specs.FileText.{file_text}
use Rattle.cs_well_formed.specs.Places.{IsOfFiles}
use Rattle.cs_well_formed.specs.Sizes.{text_size}
use Rattle.cs_well_formed.specs.WrittenPlaces.{ExternalAmong}

-- the tree of a file with these file names and tokens: no constant is too large for the types of its list (C11 6.4.4, paragraph 2), its
-- positions are in its files, of which there is at least one, and it is no longer than lexed files are
pub record IsFileTree (files : List (List ℕ)) (tokens : List Token) (file : List RawExternal) : Type 0 where
  pub held : All IsHeldToken (file_text (map external file))
  pub some_file : 1 ≤ length files
  pub placed : All (ExternalAmong (IsOfFiles (length files))) file
  pub short : text_size (file_text (map external file)) ≤ 2 ^ 23
  pub few_tokens : length tokens ≤ 2 ^ 23
  pub few_files : length files ≤ 2 ^ 23
