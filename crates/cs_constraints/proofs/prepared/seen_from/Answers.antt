use Rattle.std.proofs.Common.{rules, ◌≡◌, refl, ap, ◌∙◌, to_z, of_z}
use Rattle.std.specs.Int.{w128}
use Rattle.std.proofs.lemmas.Int.{to_z-of_z}
use Rattle.cs_terms.proofs.Cutting.{affine-inside}
use Rattle.cs_terms.proofs.Narrow.{inside_same}
use Rattle.cs_constraints.proofs.PreparedTerms.{seen_from}
use Rattle.cs_constraints.proofs.prepared.seen_from.Goals as goal

pub affine_value-requires : goal.affine_value-requires
affine_value-requires c =
    let term = c.args.term in
    let slope : to_z w128 (of_z w128 term.slope) ≡ term.slope = search rules in
    let at : to_z w128 (of_z w128 term.at) ≡ term.at = search rules in
    let value : to_z w128 (of_z w128 term.value) ≡ term.value = search rules in
    rw (slope, at, value, to_z-of_z w128 c.args.at c.ranges.at) (affine-inside term c.args.at c.requires.term c.requires.inside)

pub returns-clause-function : goal.returns-clause-function
returns-clause-function c =
    let term = c.args.term in
    let slope : to_z w128 (of_z w128 term.slope) ≡ term.slope = search rules in
    let at : to_z w128 (of_z w128 term.at) ≡ term.at = search rules in
    let value : to_z w128 (of_z w128 term.value) ≡ term.value = search rules in
    let place = to_z-of_z w128 c.args.at c.ranges.at in
    let made = rw (slope, at, value, place) at c.affine_value.ensures in
    let inside = affine-inside term c.args.at c.requires.term c.requires.inside in
    let same = ap (λ x. to_z w128 (of_z w128 x)) made ∙ inside_same _ inside in
    record { symbol = refl; slope = slope; values = λ x. rw (slope, place, same) (seen_from term c.args.at _ x c.requires.term refl) }
