use Rattle.std.proofs.Common.{◌≡◌, ◌*ℤ◌, ℤ, pos, to_z, of_z, sym, ap, subst, ◌∙◌, rules}
use Rattle.std.specs.Int.{w128}
use Rattle.std.specs.Int.RustNames.{FitsSigned}
use Rattle.std.proofs.lemmas.Int.{to_z-of_z}
use Rattle.cs_terms.specs.Term.{value_of, value_with}
use Rattle.std.proofs.Math.IntN.{*ℤ-zero}
use Rattle.cs_terms.proofs.Values.{value_with-scale}
use Rattle.cs_progress.proofs.terms.scaled.Goals as goal

pub returns-then-factor-eq0-clause-value : goal.returns-then-factor-eq0-clause-value
returns-then-factor-eq0-clause-value c = λ v.
    let zero : c.args.factor ≡ pos 0 = sym (to_z-of_z w128 c.args.factor c.ranges.factor) ∙ ap (to_z w128) c.if-factor-eq0.true in
    ap (value_of v) c.constant.ensures ∙ sym (ap (λ (n : ℤ). value_of v c.args.term *ℤ n) zero ∙ *ℤ-zero (value_of v c.args.term))

pub returns-clause-value : goal.returns-clause-value
returns-clause-value c = λ v.
    let term = c.args.term in
    let slope : to_z w128 (of_z w128 term.slope) ≡ term.slope = search rules in
    let at : to_z w128 (of_z w128 term.at) ≡ term.at = search rules in
    let old : to_z w128 (of_z w128 term.value) ≡ term.value = search rules in
    let factor = to_z-of_z w128 c.args.factor c.ranges.factor in
    let value = c.in-Some.value in
    let fits : FitsSigned w128 value = subst (FitsSigned w128) (sym c.in-Some.ensures.1) c.in-Some.ensures.0 in
    let is : value ≡ term.value *ℤ c.args.factor = c.in-Some.ensures.1 ∙ (λ j. old j *ℤ factor j) in
    let rise = c.in-Some-checked_mul.slope in
    let rise_fits : FitsSigned w128 rise = subst (FitsSigned w128) (sym c.in-Some-checked_mul.ensures.1) c.in-Some-checked_mul.ensures.0 in
    let rise_is : rise ≡ term.slope *ℤ c.args.factor = c.in-Some-checked_mul.ensures.1 ∙ (λ j. slope j *ℤ factor j) in
    rw (at, to_z-of_z w128 value fits, to_z-of_z w128 rise rise_fits) (
    (λ j. value_with v term.sym (rise_is j) term.at (is j)) ∙ value_with-scale v term.sym term.slope term.at term.value c.args.factor
    )
