use Rattle.std.proofs.Common.{subst}
use Rattle.std.proofs.lemmas.Result.{IfOk-weaker}
use Rattle.cs_progress.specs.Locals.{MayBeIn, IsOverKnown}
use Rattle.cs_terms.specs.Term.{HasNoOtherSymbol}
use Rattle.cs_terms.specs.declared.term.Lin.{Lin}
use Rattle.cs_progress.proofs.operands.number_in.Goals as goal

pub returns-in-Number-clause-over : goal.returns-in-Number-clause-over
returns-in-Number-clause-over c =
    let state = c.args.state.now in
    IfOk-weaker c.known.result (λ other. HasNoOtherSymbol other.sym c.in-Number.term.sym) (λ term. MayBeIn state c.args.value → IsOverKnown state term)
    (λ (term : Lin). λ no_other inside program bases known have symbol there.
    (subst (MayBeIn state) c.in-Number.is inside) program bases known have symbol (no_other symbol there)) c.known.ensures.symbol
