use Rattle.cs_cfg.proofs.Passing.{passes_alike}
use Rattle.cs_cfg.proofs.laws.lowered_code_passes_alike.Goals as goal

pub returns : goal.returns
returns c = λ code program lowered. passes_alike code program lowered.runs
