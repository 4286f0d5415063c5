use Rattle.cs_cfg.proofs.FollowingFlow.{code_follows}
use Rattle.cs_cfg.proofs.laws.lowered_code_follows_flow.Goals as goal

pub returns : goal.returns
returns c = λ code program lowered entry body run budgets e. code_follows code program lowered entry body run budgets e
