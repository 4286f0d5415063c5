use Rattle.std.proofs.Common.{sym, subst}
use Rattle.cs_judge.specs.Agreement.{AreShares}
use Rattle.cs_judge.proofs.Reality.{shows_real}
use Rattle.cs_judge.proofs.judging.are_real.Goals as goal

pub is_certificate-requires : goal.is_certificate-requires
is_certificate-requires c =
    subst (AreShares c.shown_events-shown.result.now c.args.pool.now) (sym c.as_slice.ensures.value) c.in_ok-shares.ensures

pub returns-clause-real : goal.returns-clause-real
returns-clause-real c passes = shows_real c.args.model c.args.pool.now (c.is_certificate.ensures.real passes)
