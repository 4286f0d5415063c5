use Rattle.cs_completeness.proofs.CutNodes.{reasons_found}
use Rattle.cs_completeness.proofs.laws.cuts_have_reasons.Goals as goal

pub returns : goal.returns
returns c = reasons_found
