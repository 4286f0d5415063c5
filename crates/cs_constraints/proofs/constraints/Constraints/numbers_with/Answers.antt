use Rattle.std.proofs.Common.{rules, ◌≡◌, sym, to_z, of_z}
use Rattle.std.specs.Int.{w128}
use Rattle.cs_constraints.proofs.constraints.Constraints.numbers_with.Goals as goal

pub affine_preimage-requires : goal.affine_preimage-requires
affine_preimage-requires c =
    let term = c.args.term in
    let slope : to_z w128 (of_z w128 term.slope) ≡ term.slope = search rules in
    let at : to_z w128 (of_z w128 term.at) ≡ term.at = search rules in
    let value : to_z w128 (of_z w128 term.value) ≡ term.value = search rules in
    let values = c.requires.values c.args.sym c.in-Some.range.now c.requires.symbol (sym c.in-Some.ensures.set) in
    rw (slope, at, value) (record { values_inside = λ x t. rw c.requires.symbol at (values x t) })
