use Rattle.cs_cfg.proofs.SpotStates.{goes_by_spot}
use Rattle.cs_cfg.proofs.laws.steps_go_by_spots.Goals as goal

pub returns : goal.returns
returns c = λ code program budgets m. goes_by_spot code program budgets m
