use Rattle.cs_cfg.proofs.FollowingFlow.{code_follows}
use Rattle.cs_cfg.proofs.FollowingToo.{program_follows}
use Rattle.cs_cfg.proofs.ReadOff.{reads_off}
use Rattle.cs_cfg.proofs.Returned.{is_lowered}
use Rattle.cs_cfg.proofs.laws.programs_follow_flow.Goals as goal

pub returns : goal.returns
returns c = λ code program placed fit entry body run budgets e.
    program_follows code program placed entry body run budgets e
    (code_follows code program (is_lowered code program placed (reads_off code program placed fit)) entry body run budgets e)
