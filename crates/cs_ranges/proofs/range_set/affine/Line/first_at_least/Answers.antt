use Rattle.std.proofs.Common.{◌≡◌, ◌<◌, ◌-◌, pos, ◌+ℤ◌, int_le, ap, ◌∙◌, arith}
use Rattle.std.proofs.lemmas.Int.{ints}
use Rattle.cs_ranges.proofs.Lines.{slope_positive, reaches_low, always_low, never_low, over_yields}
use Rattle.cs_ranges.proofs.range_set.affine.Line.first_at_least.Goals as goal

pub returns-then-low-self-clause-value : goal.returns-then-low-self-clause-value
returns-then-low-self-clause-value c =
    let line = c.args.self.now in
    λ s over.
    let within = over_yields line.first line.last s over in
    always_low line.slope line.first line.start c.args.low s (omega (arith, ints, line.inside)) within.0
    ∙ ap (λ r. int_le r s) (omega (arith, ints, line.over))

pub returns-then-self-low-clause-value : goal.returns-then-self-low-clause-value
returns-then-self-low-clause-value c =
    let line = c.args.self.now in
    λ s over.
    let within = over_yields line.first line.last s over in
    never_low line.slope line.first line.last line.start line.end c.args.low s line.reaches_end (omega (arith, ints, line.inside)) within.0 within.1
    ∙ ap (λ r. int_le r s) (omega (arith, ints, line.over))

pub returns-else-self-low-clause-value : goal.returns-else-self-low-clause-value
returns-else-self-low-clause-value c =
    let line = c.args.self.now in
    let low = c.args.low in
    let k_pos : 0 < line.slope = slope_positive line.slope line.first line.last line.start line.end line.reaches_end line.over.2
    (omega (arith, ints, line.inside)) in
    let rise : low ≡ (line.start +ℤ pos (c.abs_diff.result - 1)) +ℤ pos 1 = omega (arith, ints, line.inside) in
    λ s over.
    let within = over_yields line.first line.last s over in
    reaches_low line.slope _ line.first line.start low s k_pos rise within.0
    ∙ ap (λ r. int_le r s) (omega (arith, ints, line.over, c.steps_within-before.ensures))

pub overflow_add-result-else-self-low-2 : goal.overflow_add-result-else-self-low-2
overflow_add-result-else-self-low-2 c =
    omega (arith, ints, c.args.self.now.over, c.steps_within-before.ensures)

pub returns-else-self-low-clause-from : goal.returns-else-self-low-clause-from
returns-else-self-low-clause-from c =
    omega (arith, ints, c.args.self.now.over, c.steps_within-before.ensures)
