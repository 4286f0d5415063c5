use Rattle.std.proofs.Common.{◌≡◌, ◌&&◌, ℤ, int_le, inl, inr, refl, sym, subst, to_z, of_z, rules}
use Rattle.std.specs.Int.{w128}
use Rattle.cs_ranges.specs.RangeSet.{contains}
use Rattle.cs_access.specs.declared.reaching.ReachedOffset.{ReachedOffset}
use Rattle.cs_access.proofs.Splits.{part_of}
use Rattle.cs_access.proofs.Stepping.{reached_at, never_reached}
use Rattle.cs_access.proofs.reaching.push_part.Goals as goal

pub returns-in_ok-push-in-Some : goal.returns-in_ok-push-in-Some
returns-in_ok-push-in-Some c =
    let same : to_z w128 (of_z w128 c.args.offset) ≡ c.args.offset = search rules in
    let kept = rw c.in-Some.is at c.in_ok-state.ensures in
    let step : ReachedOffset = record { offset = to_z w128 (of_z w128 c.args.offset); state = c.in-Some.state } in
    let part = part_of c.args.state.now c.args.term c.args.only.now c.in-Some.state kept.0 kept.1 kept.2 in
    let only = subst (λ (n : ℤ). (x : ℤ) → contains c.args.only.now x ≡ (int_le n x && int_le x n)) (sym same) c.requires.only in
    inr (step, same, reached_at c.args.state.now c.args.term c.args.only.now step only part, c.in_ok-push-in-Some.ensures.items)

pub returns-in-None : goal.returns-in-None
returns-in-None c =
    let out = rw c.in-None.is at c.in_ok-state.ensures in
    inl (never_reached c.args.state.now c.args.term c.args.only.now c.args.offset c.requires.only out, refl)
