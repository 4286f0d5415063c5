use Rattle.cs_parsed_files.proofs.FileTrees.{lexed_files_have_trees}
use Rattle.cs_parsed_files.proofs.lexed_files_have_trees.Goals as goal

pub returns : goal.returns
returns c = lexed_files_have_trees
