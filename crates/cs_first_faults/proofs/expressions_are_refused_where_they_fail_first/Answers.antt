use Rattle.cs_first_faults.proofs.Laws.{expressions_are_refused_where_they_fail_first}
use Rattle.cs_first_faults.proofs.expressions_are_refused_where_they_fail_first.Goals as goal

pub returns : goal.returns
returns c = expressions_are_refused_where_they_fail_first
