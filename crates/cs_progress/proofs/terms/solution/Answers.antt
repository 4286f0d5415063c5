use Rattle.std.proofs.Common.{◌≡◌, ◌-ℤ◌, ◌*ℤ◌, ◌<◌, ℤ, pos, Some, to_z, of_z, ap, sym, ◌∙◌, subst, arith, rules}
use Rattle.std.specs.Prelude.{unsigned_abs}
use Rattle.std.specs.Int.{w128, cast_unsigned, CanDivide}
use Rattle.std.specs.Int.RustNames.{FitsSigned, int_div, int_rem}
use Rattle.std.proofs.lemmas.Int.{ints, to_z-of_z}
use Rattle.cs_progress.proofs.Dividing.{has_size, no_rest, quotient_of}
use Rattle.cs_progress.proofs.terms.solution.Goals as goal

can_divide : (x y : ℤ) → y ≡ pos 0 → CanDivide w128 x y → ⊥
can_divide x y e can =
    let nothing : 0 < cast_unsigned w128 (pos 0) = subst (λ (n : ℤ). 0 < cast_unsigned w128 n) e can.0 in
    absurd (omega (arith, nothing))

pub returns-then-rest-ne0 : goal.returns-then-rest-ne0
returns-then-rest-ne0 c = λ number e.
    let term = c.args.term in
    let slope : to_z w128 (of_z w128 term.slope) ≡ term.slope = search rules in
    let old : to_z w128 (of_z w128 term.value) ≡ term.value = search rules in
    let target = to_z-of_z w128 c.args.value c.ranges.value in
    let away = c.in-Some.away in
    let away_fits : FitsSigned w128 away = subst (FitsSigned w128) (sym c.in-Some.ensures.1) c.in-Some.ensures.0 in
    let away_is : away ≡ c.args.value -ℤ term.value = c.in-Some.ensures.1 ∙ (λ j. target j -ℤ old j) in
    let multiple : away ≡ term.slope *ℤ (number -ℤ term.at) = omega (arith, ints, away_is, e) in
    let some : 0 < unsigned_abs term.slope = has_size term.slope (λ none. can_divide _ _ (slope ∙ none) c.in-Some-checked_rem.ensures.0) in
    let parts : to_z w128 (of_z w128 away) ≡ away = to_z-of_z w128 away away_fits in
    let none : c.in-Some-checked_rem.rest ≡ pos 0 =
    c.in-Some-checked_rem.ensures.1 ∙ (λ j. int_rem (parts j) (slope j)) ∙ no_rest away term.slope (number -ℤ term.at) multiple some in
    absurd (grind (arith, ints, none, c.if-rest-ne0.true))

pub returns : goal.returns
returns c = λ number e.
    let term = c.args.term in
    let slope : to_z w128 (of_z w128 term.slope) ≡ term.slope = search rules in
    let old : to_z w128 (of_z w128 term.value) ≡ term.value = search rules in
    let target = to_z-of_z w128 c.args.value c.ranges.value in
    let away = c.in-Some.away in
    let away_fits : FitsSigned w128 away = subst (FitsSigned w128) (sym c.in-Some.ensures.1) c.in-Some.ensures.0 in
    let away_is : away ≡ c.args.value -ℤ term.value = c.in-Some.ensures.1 ∙ (λ j. target j -ℤ old j) in
    let multiple : away ≡ term.slope *ℤ (number -ℤ term.at) = omega (arith, ints, away_is, e) in
    let some : 0 < unsigned_abs term.slope = has_size term.slope (λ none. can_divide _ _ (slope ∙ none) c.in-Some-checked_rem.ensures.0) in
    let parts : to_z w128 (of_z w128 away) ≡ away = to_z-of_z w128 away away_fits in
    let at : to_z w128 (of_z w128 term.at) ≡ term.at = search rules in
    let steps = c.in-Some-checked_div.steps in
    let steps_fit : FitsSigned w128 steps = subst (FitsSigned w128) (sym c.in-Some-checked_div.ensures.1) c.in-Some-checked_div.ensures.0.1 in
    let steps_are : steps ≡ number -ℤ term.at =
    c.in-Some-checked_div.ensures.1 ∙ (λ j. int_div (parts j) (slope j)) ∙ quotient_of away term.slope (number -ℤ term.at) multiple some in
    let found = c.in-Some-checked_add.number in
    let found_fits : FitsSigned w128 found = subst (FitsSigned w128) (sym c.in-Some-checked_add.ensures.1) c.in-Some-checked_add.ensures.0 in
    let sum : found ≡ number =
    omega (arith, ints, c.in-Some-checked_add.ensures.1, at, to_z-of_z w128 steps steps_fit, steps_are) in
    ap (λ (n : ℤ). Some n) (to_z-of_z w128 found found_fits ∙ sum)
