use Rattle.std.proofs.Common.{◌≡◌, ◌-ℤ◌, ◌*ℤ◌, to_z, of_z, sym, ◌∙◌, subst, arith, rules}
use Rattle.std.proofs.lemmas.Int.{ints, to_z-of_z}
use Rattle.std.specs.Int.{w128}
use Rattle.std.specs.Int.RustNames.{FitsSigned}
use Rattle.cs_access.proofs.known.is_inside_at.Goals as goal

pub returns : goal.returns
returns c = λ yes.
    let term = c.args.term in
    let slope : to_z w128 (of_z w128 term.slope) ≡ term.slope = search rules in
    let at : to_z w128 (of_z w128 term.at) ≡ term.at = search rules in
    let value : to_z w128 (of_z w128 term.value) ≡ term.value = search rules in
    let number : to_z w128 (of_z w128 c.args.number) ≡ c.args.number = to_z-of_z w128 c.args.number c.ranges.number in
    let far = c.in-Some.distance in
    let far_fits : FitsSigned w128 far = subst (FitsSigned w128) (sym c.in-Some.ensures.1) c.in-Some.ensures.0 in
    let far_is : far ≡ c.args.number -ℤ term.at = c.in-Some.ensures.1 ∙ (λ j. number j -ℤ at j) in
    let rise = c.in-Some-checked_mul.rise in
    let rise_fits : FitsSigned w128 rise = subst (FitsSigned w128) (sym c.in-Some-checked_mul.ensures.1) c.in-Some-checked_mul.ensures.0 in
    let rise_is : rise ≡ term.slope *ℤ (c.args.number -ℤ term.at) =
    c.in-Some-checked_mul.ensures.1 ∙ (λ j. slope j *ℤ (to_z-of_z w128 far far_fits ∙ far_is) j) in
    let sum = c.is_sum_inside.ensures yes in
    let same = to_z-of_z w128 rise rise_fits in
    (omega (arith, ints, sum.0, value, same, rise_is), omega (arith, ints, sum.1, value, same, rise_is))
