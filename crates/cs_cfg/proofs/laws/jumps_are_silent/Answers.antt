use Rattle.cs_cfg.proofs.SpotStates.{silent}
use Rattle.cs_cfg.proofs.laws.jumps_are_silent.Goals as goal

pub returns : goal.returns
returns c = λ code program budgets setting m last log way. silent code program budgets setting log m way
