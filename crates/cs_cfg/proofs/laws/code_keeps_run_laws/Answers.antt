use Rattle.cs_cfg.specs.CodeSteps.{code_step}
use Rattle.cs_cfg.proofs.LawsOfRuns.{keeps_run_laws}
use Rattle.cs_cfg.proofs.laws.code_keeps_run_laws.Goals as goal

pub returns : goal.returns
returns c = λ code program budgets. keeps_run_laws (code_step code program budgets)
