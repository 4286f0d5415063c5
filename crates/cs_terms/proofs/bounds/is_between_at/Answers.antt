use Rattle.std.proofs.Common.{rules, ◌≡◌, sym, ◌∙◌, to_z, of_z}
use Rattle.std.specs.Int.{w128}
use Rattle.std.proofs.lemmas.Int.{to_z-of_z}
use Rattle.cs_terms.specs.Term.{value_at}
use Rattle.cs_terms.proofs.Cutting.{value_at-affine, affine-inside}
use Rattle.cs_terms.proofs.Narrow.{inside_same}
use Rattle.cs_terms.proofs.bounds.is_between_at.Goals as goal

pub affine_value-value-requires : goal.affine_value-value-requires
affine_value-value-requires c =
    let term = c.args.term in
    let slope : to_z w128 (of_z w128 term.slope) ≡ term.slope = search rules in
    let at : to_z w128 (of_z w128 term.at) ≡ term.at = search rules in
    let value : to_z w128 (of_z w128 term.value) ≡ term.value = search rules in
    rw (slope, at, value, to_z-of_z w128 c.args.number c.ranges.number) (affine-inside term c.args.number c.requires.term c.requires.inside)

pub returns : goal.returns
returns c =
    let term = c.args.term in
    let slope : to_z w128 (of_z w128 term.slope) ≡ term.slope = search rules in
    let at : to_z w128 (of_z w128 term.at) ≡ term.at = search rules in
    let value : to_z w128 (of_z w128 term.value) ≡ term.value = search rules in
    let made = rw (slope, at, value, to_z-of_z w128 c.args.number c.ranges.number) at c.affine_value-value.ensures in
    let is = made ∙ sym (value_at-affine term c.args.number c.requires.term) in
    rw (is, inside_same (value_at term c.args.number) c.requires.inside, to_z-of_z w128 c.args.low c.ranges.low, to_z-of_z w128 c.args.high c.ranges.high)
    at c.is_between.ensures
