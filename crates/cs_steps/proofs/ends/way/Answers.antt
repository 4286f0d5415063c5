use Rattle.std.proofs.Common.{◌≡◌, ℤ, true, false, pos, get_or, to_z, of_z, rules, sym, ap, ◌∙◌}
use Rattle.std.specs.Int.{w128}
use Rattle.std.specs.Ordering.{int_eq}
use Rattle.cs_terms.specs.Term.{value_of}
use Rattle.cs_spots.proofs.Ways.{next_led}
use Rattle.cs_steps.proofs.ends.way.Goals as goal

pub returns-in-Some-true-clause-leads : goal.returns-in-Some-true-clause-leads
returns-in-Some-true-clause-leads c = λ v fits.
    let truth = rw c.in-Some-true.is at c.in_ok-has_value.ensures.truth in
    let number = value_of v c.args.term in
    let case = get_or c.args.cases.now c.loop-case.case-index (record { value = pos 0; block = 0 }) in
    let same : to_z w128 (of_z w128 case.value) ≡ case.value = search rules in
    c.loop-case.invariant v fits
    ∙ next_led c.args.otherwise number c.args.cases.now c.loop-case.case-index (record { value = pos 0; block = 0 }) true
    c.loop-case-test.true (ap (λ (value : ℤ). int_eq number value) (sym same) ∙ truth v fits ∙ c.in-Some-true.field-0-test)

pub loop-case-preserved : goal.loop-case-preserved
loop-case-preserved c = λ v fits.
    let truth = rw c.in-Some-false.is at c.in_ok-has_value.ensures.truth in
    let number = value_of v c.args.term in
    let case = get_or c.args.cases.now c.loop-case.case-index (record { value = pos 0; block = 0 }) in
    let same : to_z w128 (of_z w128 case.value) ≡ case.value = search rules in
    c.loop-case.invariant v fits
    ∙ next_led c.args.otherwise number c.args.cases.now c.loop-case.case-index (record { value = pos 0; block = 0 }) false
    c.loop-case-test.true (ap (λ (value : ℤ). int_eq number value) (sym same) ∙ truth v fits ∙ c.in-Some-false.field-0-test)
