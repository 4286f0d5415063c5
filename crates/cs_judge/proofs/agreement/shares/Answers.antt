use Rattle.std.proofs.Common.{◌≡◌, ◌++◌, [], ◌∷◌, length, Some, slice_get, subst, sym, ap, ◌∙◌, arith}
use Rattle.std.proofs.lemmas.List.{length-append}
use Rattle.cs_compared.specs.Agreement.{AgreeTo}
use Rattle.cs_judge.specs.Agreement.{AreShares}
use Rattle.cs_judge.proofs.Places.{place_of, one_more_share}
use Rattle.cs_judge.proofs.agreement.shares.Goals as goal

pub loop-replay-preserved : goal.loop-replay-preserved
loop-replay-preserved c =
    let made : c.push.new.self.items ≡ c.loop-replay.shares.items ++ c.common.result ∷ [] = c.in_ok-push.ensures.items in
    let count = c.loop-replay.invariant.count in
    let there = place_of c.args.pool.now c.loop-replay.replay-index c.replay-item.result c.loop-replay-test.true (sym c.replay-item.is) in
    let alike : AgreeTo c.common.result c.replay-item.result.events.items c.args.shown.now =
    subst (λ e. AgreeTo c.common.result e c.args.shown.now) c.as_slice.ensures.value c.common.ensures in
    record {
      count = ap length made ∙ length-append c.loop-replay.shares.items (c.common.result ∷ []) ∙ omega (arith, count);
      are_shares = subst (AreShares c.args.shown.now c.args.pool.now) (sym made)
          (one_more_share c.args.shown.now c.args.pool.now c.loop-replay.shares.items c.common.result c.replay-item.result c.loop-replay.invariant.are_shares
          (subst (λ n. slice_get c.args.pool.now n ≡ Some c.replay-item.result) (sym count) there) alike);
    }
