use Rattle.cs_cfg.proofs.Touched.{steps_as_reported}
use Rattle.cs_cfg.proofs.laws.steps_touch_as_reported.Goals as goal

pub returns : goal.returns
returns c = λ code program budgets spot setting m log e. steps_as_reported code program budgets spot setting m log e
