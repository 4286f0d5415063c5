use Rattle.std.proofs.Common.{◌∙◌, sym, arith, ◌<◌, ◌≤◌, length, None}
use Rattle.cs_terms.specs.Term.{value_of}
use Rattle.cs_access.specs.Subjects.{term_of}
use Rattle.cs_access.proofs.FaultyValues.{none_between, more_values, some_holds-nil, all_values}
use Rattle.cs_access.proofs.faulty.faulty_values.Goals as goal

pub loop-cond-init : goal.loop-cond-init
loop-cond-init c subject terms v can =
    let value = value_of v (term_of subject) in
    c.in_ok-set.ensures.numbers value ∙ none_between value ∙ sym (some_holds-nil v)

pub loop-cond-preserved : goal.loop-cond-preserved
loop-cond-preserved c subject terms v can =
    let within : c.loop-cond.cond-index < length c.args.conds.now = omega arith in
    more_values subject v c.args.conds.now c.loop-cond.cond-index None c.loop-cond.set c.in_ok-set-2.set within terms can
    (c.loop-cond.invariant subject terms v can) c.in_ok-set-2.ensures

pub returns : goal.returns
returns c subject terms v can =
    let over : length c.args.conds.now ≤ c.loop-cond.cond-index = omega arith in
    all_values c.args.conds.now c.loop-cond.cond-index v _ over (c.loop-cond.invariant subject terms v can)
