use Rattle.cs_one_program.proofs.Laws.{files_have_one_program}
use Rattle.cs_one_program.proofs.files_have_one_program.Goals as goal

pub returns : goal.returns
returns c = files_have_one_program
