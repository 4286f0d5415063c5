use Rattle.std.proofs.Common.{rules, ◌≡◌, Bool, true, false, refl, subst}
use Rattle.cs_terms.specs.Term.{value_of_sum, HaveTwoSymbols}
use Rattle.cs_constraints.proofs.Assuming.{fitting}
use Rattle.cs_eval.specs.Followed.{Numbers}
use Rattle.std.specs.Prelude.{Some}
use Rattle.cs_signs.specs.Signs.{IsSignBetween}
use Rattle.cs_eval.proofs.OperandValues.{sum_inside}
use Rattle.cs_eval.proofs.Signs.{sign_true, sign_false, decided_true, decided_false, undecided}
use Rattle.cs_eval.proofs.truths.followed_by_sign.Goals as goal

pub returns-in-Some : goal.returns-in-Some
returns-in-Some c = record {
  comparison = refl;
  inside = sum_inside c.args.constraints.now c.args.term c.in-Some.sum c.requires.inhabited c.requires.first c.requires.second c.in-Some.ensures.term
      c.in-Some.ensures.value c.in-Some.ensures.symbol;
  value = c.in-Some.ensures.value;
  symbol = c.in-Some.ensures.symbol;
  one_symbol = λ two. let e : true ≡ false = c.in-Some.ensures.none.1 two in absurd (cc);
}

pub returns-in-Some-true : goal.returns-in-Some-true
returns-in-Some-true c =
    let op = c.args.op in
    let ends = c.ends_of_sum-ends.result in
    let bounds = c.ends_of_sum-ends.ensures.bounds in
    let number : Numbers = λ v. value_of_sum v c.args.term in
    let says = subst (λ (b : Bool). IsSignBetween op ends (Some b)) c.in-Some-true.field-0-test c.in-Some-true.ensures in
    (λ v fits. sign_true op ends (number v) says (bounds v fits), decided_true c.args.constraints.now number ends bounds op says)

pub returns-in-Some-false : goal.returns-in-Some-false
returns-in-Some-false c =
    let op = c.args.op in
    let ends = c.ends_of_sum-ends.result in
    let bounds = c.ends_of_sum-ends.ensures.bounds in
    let number : Numbers = λ v. value_of_sum v c.args.term in
    let says = subst (λ (b : Bool). IsSignBetween op ends (Some b)) c.in-Some-false.field-0-test c.in-Some-false.ensures in
    (λ v fits. sign_false op ends (number v) says (bounds v fits), decided_false c.args.constraints.now number ends bounds op says)

pub returns-in-None : goal.returns-in-None
returns-in-None c =
    let op = c.args.op in
    let sets = c.args.constraints.now in
    let term = c.args.term in
    let ends = c.ends_of_sum-ends.result in
    let number : Numbers = λ v. value_of_sum v term in
    let two : HaveTwoSymbols term.first.sym term.second.sym = c.in_default.ensures.none.0 (search rules) in
    let some = fitting sets c.requires.inhabited in
    let low = c.ends_of_sum-ends.ensures.low two some.0 some.1 in
    let high = c.ends_of_sum-ends.ensures.high two some.0 some.1 in
    (two, undecided sets number ends low.at high.at low.fits high.fits low.value high.value op c.in-None.ensures.0 c.in-None.ensures.1)
