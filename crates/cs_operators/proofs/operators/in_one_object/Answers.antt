use Rattle.std.proofs.Common.{slice_get, ◌∙◌}
use Rattle.cs_meaning.specs.Operators as operators
use Rattle.cs_operators.proofs.Objects.{one_region, two_regions}
use Rattle.cs_operators.proofs.operators.in_one_object.Goals as goal

pub returns-then-base-other_base : goal.returns-then-base-other_base
returns-then-base-other_base c = λ bases v one other once left_named right_named left right.
    let first = rw c.in-At.is at left in
    let second = rw (c.in-At-right.is, ← c.if-base-other_base.true) at right in
    let named = rw c.in-At.is at left_named in
    (λ i. operators.in_one_object (first i) (second i)) ∙ one_region (slice_get bases c.in-At.base) _ _ named

pub returns-else-base-other_base : goal.returns-else-base-other_base
returns-else-base-other_base c = λ bases v one other once left_named right_named left right.
    let first = rw c.in-At.is at left in
    let second = rw c.in-At-right.is at right in
    (λ i. operators.in_one_object (first i) (second i)) ∙ two_regions bases c.in-At.base c.in-At-right.other_base _ _ once c.if-base-other_base.false
