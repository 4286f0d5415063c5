use Rattle.cs_completeness.proofs.EveryRun.{misses_none}
use Rattle.cs_completeness.proofs.laws.no_run_is_missed.Goals as goal

pub returns : goal.returns
returns c = misses_none
