use Rattle.std.proofs.Common.{◌≡◌, ◌&&◌, ◌||◌, false, ℤ, ◌<ℤ◌, sym, ap, ◌∙◌, arith}
use Rattle.std.specs.Int.{int_max, int_min}
use Rattle.std.proofs.lemmas.Int.{ints, clamps}
use Rattle.cs_ranges.specs.declared.range_set.Interval.{Interval}
use Rattle.cs_ranges.specs.Interval.{in_interval}
use Rattle.cs_ranges.specs.RangeSet.{contains}
use Rattle.cs_ranges.proofs.Members.{in_interval_yields, or-false}
use Rattle.cs_ranges.proofs.range_set.RangeSet.push_common.Goals as goal

-- the numbers that two intervals have in common
common : (a b i : Interval) (x : ℤ) → i.low ≡ int_max a.low b.low → i.high ≡ int_min a.high b.high
    → in_interval i x ≡ (in_interval a x && in_interval b x)
common a b i x e f =
    grind (arith, ints, clamps, in_interval_yields a x, in_interval_yields b x, in_interval_yields i x)

apart : (a b : Interval) (x : ℤ) → int_min a.high b.high <ℤ int_max a.low b.low → (in_interval a x && in_interval b x) ≡ false
apart a b x h = grind (arith, ints, clamps, in_interval_yields a x, in_interval_yields b x)

pub returns-in_ok-push-clause-members : goal.returns-in_ok-push-clause-members
returns-in_ok-push-clause-members c =
    λ x. c.in_ok-push.ensures.members x
    ∙ ap (λ b. contains c.args.self.now x || b) (common c.args.a c.args.b _ x (omega (arith, ints, clamps)) (omega (arith, ints, clamps)))

pub returns-else-low-high-clause-members : goal.returns-else-low-high-clause-members
returns-else-low-high-clause-members c =
    λ x. sym (ap (λ b. contains c.args.self.now x || b) (apart c.args.a c.args.b x (omega (arith, ints, clamps))) ∙ or-false _)
