use Rattle.cs_one_program.proofs.Laws.{files_have_one_tree}
use Rattle.cs_one_program.proofs.files_have_one_tree.Goals as goal

pub returns : goal.returns
returns c = files_have_one_tree
