use Rattle.std.proofs.Common.{◌<◌, ◌≤◌, sym, ◌∙◌, arith, length}
use Rattle.cs_ranges.proofs.Members.{contains-nil, contains-more}
use Rattle.cs_access.proofs.FaultyValues.{all_numbers, met_there, not_met}
use Rattle.cs_access.proofs.faulty.has_sum.Goals as goal

pub loop-interval-init : goal.loop-interval-init
loop-interval-init c = contains-nil _

pub returns-then-is_sum_in : goal.returns-then-is_sum_in
returns-then-is_sum_in c =
    let within : c.loop-interval.interval-index < length c.args.intervals.now = omega arith in
    met_there c.args.intervals.now c.loop-interval.interval-index _ _ within (sym c.is_sum_in.ensures ∙ c.if-is_sum_in.true)

pub loop-interval-preserved : goal.loop-interval-preserved
loop-interval-preserved c =
    let within : c.loop-interval.interval-index < length c.args.intervals.now = omega arith in
    contains-more c.args.intervals.now c.loop-interval.interval-index _ _ within
    ∙ not_met _ _ c.loop-interval.invariant (sym c.is_sum_in.ensures ∙ c.if-is_sum_in.false)

pub returns : goal.returns
returns c =
    let over : length c.args.intervals.now ≤ c.loop-interval.interval-index = omega arith in
    sym c.loop-interval.invariant ∙ all_numbers c.args.intervals.now c.loop-interval.interval-index _ over
