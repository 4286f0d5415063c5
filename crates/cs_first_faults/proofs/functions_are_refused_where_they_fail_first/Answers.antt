use Rattle.cs_first_faults.proofs.Laws.{functions_are_refused_where_they_fail_first}
use Rattle.cs_first_faults.proofs.functions_are_refused_where_they_fail_first.Goals as goal

pub returns : goal.returns
returns c = functions_are_refused_where_they_fail_first
