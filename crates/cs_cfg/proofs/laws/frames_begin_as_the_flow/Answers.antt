use Rattle.cs_cfg.proofs.FollowingFlow.{code_begins}
use Rattle.cs_cfg.proofs.FollowingToo.{program_begins}
use Rattle.cs_cfg.proofs.laws.frames_begin_as_the_flow.Goals as goal

pub returns : goal.returns
returns c = λ code program placed entry body run budgets e.
    let begins = code_begins code program placed entry body run budgets e in
    (begins, program_begins code program placed entry body run budgets e begins)
