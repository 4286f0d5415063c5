use Rattle.std.proofs.Common.{int_le, sym, ◌∙◌, subst, arith, rules}
use Rattle.std.proofs.lemmas.Int.{ints, to_z-of_z}
use Rattle.std.specs.Int.{w128}
use Rattle.std.specs.Int.RustNames.{FitsSigned}
use Rattle.cs_access.proofs.FaultyValues.{sum_past, sum_within, sum_below, same_sum}
use Rattle.cs_access.proofs.faulty.is_sum_in.Goals as goal

pub returns-then-low-sum : goal.returns-then-low-sum
returns-then-low-sum c =
    let high : FitsSigned w128 c.args.interval.now.high = search rules in
    let first : FitsSigned w128 c.args.numbers.now.first.value = search rules in
    let second : FitsSigned w128 c.args.numbers.now.second.value = search rules in
    let sum : FitsSigned w128 c.in-Some.sum = subst (FitsSigned w128) (sym c.in-Some.ensures.1) c.in-Some.ensures.0 in
    (λ j. int_le (to_z-of_z w128 c.in-Some.sum sum j) (to_z-of_z w128 c.args.interval.now.high high j))
    ∙ sum_within c.args.interval.now c.in-Some.sum _ (c.in-Some.ensures.1 ∙ same_sum _ _ first second) (omega (arith, ints))

pub returns-else-low-sum : goal.returns-else-low-sum
returns-else-low-sum c =
    let low : FitsSigned w128 c.args.interval.now.low = search rules in
    let first : FitsSigned w128 c.args.numbers.now.first.value = search rules in
    let second : FitsSigned w128 c.args.numbers.now.second.value = search rules in
    let sum : FitsSigned w128 c.in-Some.sum = subst (FitsSigned w128) (sym c.in-Some.ensures.1) c.in-Some.ensures.0 in
    (λ j. int_le (to_z-of_z w128 c.args.interval.now.low low j) (to_z-of_z w128 c.in-Some.sum sum j))
    ∙ sum_below c.args.interval.now c.in-Some.sum _ (c.in-Some.ensures.1 ∙ same_sum _ _ first second) (omega (arith, ints))

pub returns-in-None : goal.returns-in-None
returns-in-None c =
    let high : FitsSigned w128 c.args.interval.now.high = search rules in
    let low : FitsSigned w128 c.args.interval.now.low = search rules in
    let first : FitsSigned w128 c.args.numbers.now.first.value = search rules in
    let second : FitsSigned w128 c.args.numbers.now.second.value = search rules in
    sum_past c.args.interval.now _
    (λ fits. c.in-None.ensures (subst (FitsSigned w128) (sym (same_sum _ _ first second)) fits)) low high
