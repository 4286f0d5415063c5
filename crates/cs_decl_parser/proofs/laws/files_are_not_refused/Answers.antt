use Rattle.cs_decl_parser.proofs.WholeFiles.{file_or_refused}
use Rattle.cs_decl_parser.proofs.laws.files_are_not_refused.Goals as goal

pub returns : goal.returns
returns c = file_or_refused
