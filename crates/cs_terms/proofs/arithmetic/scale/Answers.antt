use Rattle.std.proofs.Common.{rules, ◌≡◌, ◌*ℤ◌, ◌∙◌, arith, FitsSigned, to_z, of_z}
use Rattle.std.specs.Int.{w128}
use Rattle.std.proofs.lemmas.Int.{ints, to_z-of_z}
use Rattle.cs_terms.proofs.Values.{value_with-scale}
use Rattle.cs_terms.proofs.arithmetic.scale.Goals as goal

scaled_slope : (c : goal.After-affine) → to_z w128 (of_z w128 (to_z w128 (of_z w128 c.args.term.slope) *ℤ to_z w128 (of_z w128 c.args.factor)))
    ≡ c.args.term.slope *ℤ c.args.factor
scaled_slope c =
    let slope : to_z w128 (of_z w128 c.args.term.slope) ≡ c.args.term.slope = search rules in
    let factor : to_z w128 (of_z w128 c.args.factor) ≡ c.args.factor = search rules in
    let fits : FitsSigned w128 (c.args.term.slope *ℤ c.args.factor) = omega (arith, ints, c.requires.room.scaled_slope) in
    rw (slope, factor) (to_z-of_z w128 _ fits)

scaled_value : (c : goal.After-affine) → to_z w128 (of_z w128 (to_z w128 (of_z w128 c.args.term.value) *ℤ to_z w128 (of_z w128 c.args.factor)))
    ≡ c.args.term.value *ℤ c.args.factor
scaled_value c =
    let value : to_z w128 (of_z w128 c.args.term.value) ≡ c.args.term.value = search rules in
    let factor : to_z w128 (of_z w128 c.args.factor) ≡ c.args.factor = search rules in
    let fits : FitsSigned w128 (c.args.term.value *ℤ c.args.factor) = omega (arith, ints, c.requires.room.scaled_value) in
    rw (value, factor) (to_z-of_z w128 _ fits)

pub returns-clause-value : goal.returns-clause-value
returns-clause-value c =
    let t = c.args.term in
    let at : to_z w128 (of_z w128 t.at) ≡ t.at = search rules in
    λ v. (rw (scaled_slope c, at, scaled_value c) at (c.affine.ensures.value v)) ∙ value_with-scale v t.sym t.slope t.at t.value c.args.factor

pub returns-clause-slope : goal.returns-clause-slope
returns-clause-slope c = c.affine.ensures.parts.0 ∙ scaled_slope c

pub returns-clause-value_there : goal.returns-clause-value_there
returns-clause-value_there c = c.affine.ensures.parts.2 ∙ scaled_value c
