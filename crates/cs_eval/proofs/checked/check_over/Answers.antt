use Rattle.std.proofs.Common.{rules, ◌≡◌, refl, to_z, of_z}
use Rattle.std.specs.Int.{w128}
use Rattle.std.proofs.lemmas.Int.{to_z-of_z}
use Rattle.cs_ranges.specs.Affine.{affine}
use Rattle.cs_terms.proofs.Narrow.{inside_same}
use Rattle.cs_eval.specs.Operands.{IsBetween}
use Rattle.cs_eval.proofs.CheckedTerms.{from_ends}
use Rattle.cs_eval.proofs.checked.check_over.Goals as goal

pub returns-then-is_between-2 : goal.returns-then-is_between-2
returns-then-is_between-2 c = λ x member.
    let term = c.args.term in
    let ends = c.in-Some-Some in
    let values = c.in-Some-Some-2 in
    let low = to_z-of_z w128 c.args.low c.ranges.low in
    let high = to_z-of_z w128 c.args.high c.ranges.high in
    let first_same : to_z w128 (of_z w128 values.first) ≡ values.first = search rules in
    let last_same : to_z w128 (of_z w128 values.last) ≡ values.last = search rules in
    let at_first : values.first ≡ affine term.slope term.at term.value ends.least =
    rw (inside_same ends.least ends.ensures.inside) at values.ensures in
    let at_last : values.last ≡ affine term.slope term.at term.value ends.greatest =
    rw (inside_same ends.greatest ends.ensures'.inside) at values.ensures' in
    let a : IsBetween c.args.low c.args.high values.first = rw (low, high, first_same) at c.if-is_between.ensures refl in
    let b : IsBetween c.args.low c.args.high values.last = rw (low, high, last_same) at c.if-is_between-2.ensures refl in
    from_ends term c.args.range.now c.args.low c.args.high ends.least ends.greatest values.first values.last x c.requires ends.ensures.least
    ends.ensures'.greatest at_first at_last a b member
