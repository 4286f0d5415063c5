use Rattle.std.proofs.Common.{◌≡◌, length, refl, subst, arith}
use Rattle.cs_witness.specs.Ranks.{AreRanked}
use Rattle.cs_witness.proofs.ListedOutcomes.{ranked_push, ranked_sorted}
use Rattle.cs_witness.proofs.witness.ranked.Goals as goal

pub loop-number-init : goal.loop-number-init
loop-number-init c number below = absurd (omega arith)

pub loop-number-preserved : goal.loop-number-preserved
loop-number-preserved c =
    ranked_push c.loop-number.number c.loop-number.ranks.items c.push.new.self.items _ c.in_ok-push.ensures.items refl c.loop-number.invariant

pub returns : goal.returns
returns c =
    let suspects = c.args.suspects.now in
    let number = c.loop-number.number in
    let all : number ≡ length suspects = omega arith in
    subst (λ n. AreRanked n c.sort.new.self.items) all
    (ranked_sorted number c.loop-number.ranks.items c.sort.new.self.items c.in_ok-sort.ensures.permutation c.loop-number.invariant)
