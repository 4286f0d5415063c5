use Rattle.cs_meaning.specs.Steps.{step}
use Rattle.cs_cfg.proofs.LawsOfRuns.{keeps_run_laws}
use Rattle.cs_cfg.proofs.laws.programs_keep_run_laws.Goals as goal

pub returns : goal.returns
returns c = λ program budgets. keeps_run_laws (step program budgets)
