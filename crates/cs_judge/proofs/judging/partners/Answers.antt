use Rattle.std.proofs.Common.{sym, subst}
use Rattle.cs_judge.specs.Agreement.{AreShares}
use Rattle.cs_judge.proofs.judging.partners.Goals as goal

pub all_partners-requires : goal.all_partners-requires
all_partners-requires c =
    subst (AreShares c.shown_events-shown.result.now c.args.pool.now) (sym c.as_slice.ensures.value) c.in_ok-shares.ensures
