use Rattle.cs_cfg.proofs.Returned.{runs_alike}
use Rattle.cs_cfg.proofs.laws.placed_code_runs_alike.Goals as goal

pub returns : goal.returns
returns c = λ code program placed. runs_alike code program placed
