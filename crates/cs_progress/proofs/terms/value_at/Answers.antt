use Rattle.std.proofs.Common.{◌≡◌, ◌+ℤ◌, ◌-ℤ◌, ◌*ℤ◌, to_z, of_z, sym, ◌∙◌, subst, rules}
use Rattle.std.proofs.lemmas.Int.{to_z-of_z}
use Rattle.std.specs.Int.{w128}
use Rattle.std.specs.Int.RustNames.{FitsSigned}
use Rattle.cs_progress.proofs.terms.value_at.Goals as goal

pub returns : goal.returns
returns c =
    let term = c.args.term in
    let slope : to_z w128 (of_z w128 term.slope) ≡ term.slope = search rules in
    let at : to_z w128 (of_z w128 term.at) ≡ term.at = search rules in
    let value : to_z w128 (of_z w128 term.value) ≡ term.value = search rules in
    let number : to_z w128 (of_z w128 c.args.number) ≡ c.args.number = to_z-of_z w128 c.args.number c.ranges.number in
    let steps = c.in-Some.steps in
    let steps_fit : FitsSigned w128 steps = subst (FitsSigned w128) (sym c.in-Some.ensures.1) c.in-Some.ensures.0 in
    let steps_are : steps ≡ c.args.number -ℤ term.at = c.in-Some.ensures.1 ∙ (λ j. number j -ℤ at j) in
    let rise = c.in-Some-checked_mul.rise in
    let rise_fits : FitsSigned w128 rise = subst (FitsSigned w128) (sym c.in-Some-checked_mul.ensures.1) c.in-Some-checked_mul.ensures.0 in
    let rise_is : rise ≡ term.slope *ℤ (c.args.number -ℤ term.at) =
    c.in-Some-checked_mul.ensures.1 ∙ (λ j. slope j *ℤ (to_z-of_z w128 steps steps_fit ∙ steps_are) j) in
    let sum = c.in-Some-checked_add.sum in
    let sum_fits : FitsSigned w128 sum = subst (FitsSigned w128) (sym c.in-Some-checked_add.ensures.1) c.in-Some-checked_add.ensures.0 in
    to_z-of_z w128 sum sum_fits ∙ c.in-Some-checked_add.ensures.1 ∙ (λ j. value j +ℤ (to_z-of_z w128 rise rise_fits ∙ rise_is) j)
