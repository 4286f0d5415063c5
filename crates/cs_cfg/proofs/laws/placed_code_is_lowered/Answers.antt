use Rattle.cs_cfg.proofs.ReadOff.{reads_off}
use Rattle.cs_cfg.proofs.Returned.{is_lowered}
use Rattle.cs_cfg.proofs.laws.placed_code_is_lowered.Goals as goal

pub returns : goal.returns
returns c = λ code program placed fit. is_lowered code program placed (reads_off code program placed fit)
