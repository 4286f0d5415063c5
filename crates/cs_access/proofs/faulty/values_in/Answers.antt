use Rattle.std.proofs.Common.{◌<◌, ◌≤◌, pos, ◌∙◌, sym, ◌||◌, arith, length}
use Rattle.cs_ranges.proofs.Members.{contains-nil, contains-more}
use Rattle.cs_access.proofs.FaultyValues.{none_between, all_numbers}
use Rattle.cs_access.proofs.faulty.values_in.Goals as goal

pub loop-interval-init : goal.loop-interval-init
loop-interval-init c x inside = c.in_ok-set.ensures.numbers x ∙ none_between x ∙ sym (contains-nil x)

pub loop-interval-preserved : goal.loop-interval-preserved
loop-interval-preserved c x inside =
    let within : c.loop-interval.interval-index < length c.args.intervals.now = omega arith in
    c.in_ok-set-2.ensures x ∙ (λ j. c.loop-interval.invariant x inside j || c.in_ok-numbers.ensures x inside j)
    ∙ sym (contains-more c.args.intervals.now c.loop-interval.interval-index (record { low = pos 0; high = pos 0 }) x within)

pub returns : goal.returns
returns c x inside =
    let over : length c.args.intervals.now ≤ c.loop-interval.interval-index = omega arith in
    c.loop-interval.invariant x inside ∙ all_numbers c.args.intervals.now c.loop-interval.interval-index x over
