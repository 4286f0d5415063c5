use Rattle.cs_cfg.proofs.FollowingToo.{program_ends}
use Rattle.cs_cfg.proofs.laws.frames_end_as_the_flow.Goals as goal

pub returns : goal.returns
returns c = λ code program placed entry body run budgets e. program_ends code program placed entry body run budgets e
