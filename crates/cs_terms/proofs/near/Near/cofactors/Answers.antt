use Rattle.std.proofs.Common.{rules, ◌≡◌, to_z, of_z}
use Rattle.std.specs.Int.{w128}
use Rattle.cs_terms.proofs.near.Near.cofactors.Goals as goal

pub returns-clause-under : goal.returns-clause-under
returns-clause-under c =
    let factor : to_z w128 (of_z w128 c.args.factor) ≡ c.args.factor = search rules in
    λ x h. rw factor at (c.cofactors.ensures.numbers x h)

pub returns-clause-same : goal.returns-clause-same
returns-clause-same c =
    let factor : to_z w128 (of_z w128 c.args.factor) ≡ c.args.factor = search rules in
    λ x h. rw factor at (c.cofactors-2.ensures.numbers x h)

pub returns-clause-past : goal.returns-clause-past
returns-clause-past c =
    let factor : to_z w128 (of_z w128 c.args.factor) ≡ c.args.factor = search rules in
    λ x h. rw factor at (c.cofactors-3.ensures.numbers x h)
