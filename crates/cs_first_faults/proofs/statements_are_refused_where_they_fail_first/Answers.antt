use Rattle.cs_first_faults.proofs.Laws.{statements_are_refused_where_they_fail_first}
use Rattle.cs_first_faults.proofs.statements_are_refused_where_they_fail_first.Goals as goal

pub returns : goal.returns
returns c = statements_are_refused_where_they_fail_first
