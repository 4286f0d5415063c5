use Rattle.cs_compared.specs.Agreement.{AgreeTo}
use Rattle.cs_compared.proofs.agreement.agree.Given as goal

abbrev pub invariant-loop-index : goal.invariant-loop-index
invariant-loop-index l = AgreeTo l.index l.one l.other
