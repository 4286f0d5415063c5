use Rattle.std.proofs.Common.{ℕ, ◌+◌, List, length, slice_get, sym, ap, ◌∙◌, subst}
use Rattle.std.proofs.lemmas.List.{length_push}
use Rattle.cs_results.specs.declared.finding.Ground.{Ground}
use Rattle.cs_witness.specs.Grounding.{IsGroundIn}
use Rattle.cs_witness.proofs.Groundings.{each_more_at}
use Rattle.cs_witness.proofs.grounds.grounds_for.Goals as goal

pub loop-place-preserved : goal.loop-place-preserved
loop-place-preserved c =
    let grounds = c.loop-place.grounds.items in
    let Is : ℕ → Ground → Type 0 = IsGroundIn c.args.pool.now c.args.mine.now c.args.inputs.now in
    let here : Is c.loop-place.place c.in-Some.ground = rw c.in-Some.is at c.in_ok-ground.ensures.ground in
    let one : Is (length grounds) c.in-Some.ground = subst (λ (n : ℕ). Is n c.in-Some.ground) (sym c.loop-place.invariant.count) here in
    let pushed = c.in_ok-push-in-Some.ensures.items in
    record {
      count = ap length pushed ∙ length_push grounds c.in-Some.ground ∙ ap (λ (n : ℕ). n + 1) c.loop-place.invariant.count;
      each = λ number ground there.
          each_more_at Is grounds c.in-Some.ground c.loop-place.invariant.each one number ground
          (sym (ap (λ (l : List Ground). slice_get l number) pushed) ∙ there);
    }
