use Rattle.cs_first_faults.proofs.Laws.{files_are_refused_where_they_fail_first}
use Rattle.cs_first_faults.proofs.files_are_refused_where_they_fail_first.Goals as goal

pub returns : goal.returns
returns c = files_are_refused_where_they_fail_first
