use Rattle.cs_first_faults.proofs.Laws.{initializers_are_refused_where_they_fail_first}
use Rattle.cs_first_faults.proofs.initializers_are_refused_where_they_fail_first.Goals as goal

pub returns : goal.returns
returns c = initializers_are_refused_where_they_fail_first
