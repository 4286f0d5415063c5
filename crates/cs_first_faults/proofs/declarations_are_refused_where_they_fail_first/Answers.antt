use Rattle.cs_first_faults.proofs.Laws.{declarations_are_refused_where_they_fail_first}
use Rattle.cs_first_faults.proofs.declarations_are_refused_where_they_fail_first.Goals as goal

pub returns : goal.returns
returns c = declarations_are_refused_where_they_fail_first
