use Rattle.std.proofs.Common.{◌≡◌, ◌<◌, pos, ◌+ℤ◌, int_le, ap, ◌∙◌, arith}
use Rattle.std.proofs.lemmas.Int.{ints}
use Rattle.cs_ranges.proofs.Lines.{slope_positive, stays_high, always_high, never_high, over_yields}
use Rattle.cs_ranges.proofs.range_set.affine.Line.last_at_most.Goals as goal

pub returns-then-self-high-clause-value : goal.returns-then-self-high-clause-value
returns-then-self-high-clause-value c =
    let line = c.args.self.now in
    λ s over.
    let within = over_yields line.first line.last s over in
    always_high line.slope line.first line.last line.start line.end c.args.high s line.reaches_end (omega (arith, ints, line.inside)) within.0 within.1
    ∙ ap (λ r. int_le s r) (omega (arith, ints, line.over))

pub returns-then-high-self-clause-value : goal.returns-then-high-self-clause-value
returns-then-high-self-clause-value c =
    let line = c.args.self.now in
    λ s over.
    let within = over_yields line.first line.last s over in
    never_high line.slope line.first line.start c.args.high s (omega (arith, ints, line.inside)) within.0
    ∙ ap (λ r. int_le s r) (omega (arith, ints, line.over))

pub returns-else-high-self-clause-value : goal.returns-else-high-self-clause-value
returns-else-high-self-clause-value c =
    let line = c.args.self.now in
    let high = c.args.high in
    let k_pos : 0 < line.slope = slope_positive line.slope line.first line.last line.start line.end line.reaches_end line.over.2
    (omega (arith, ints, line.inside)) in
    let rise : high ≡ line.start +ℤ pos c.abs_diff.result = omega (arith, ints, line.inside) in
    λ s over.
    let within = over_yields line.first line.last s over in
    stays_high line.slope _ line.first line.start high s k_pos rise within.0
    ∙ ap (λ r. int_le s r) (omega (arith, ints, line.over, c.steps_within-steps.ensures))
