use Rattle.cs_first_faults.proofs.Laws.{constants_are_refused_where_they_fail_first}
use Rattle.cs_first_faults.proofs.constants_are_refused_where_they_fail_first.Goals as goal

pub returns : goal.returns
returns c = constants_are_refused_where_they_fail_first
