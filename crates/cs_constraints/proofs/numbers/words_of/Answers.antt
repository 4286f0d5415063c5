use Rattle.std.proofs.Common.{◌∙◌, sym}
use Rattle.std.specs.Prelude.{fold}
use Rattle.std.proofs.lemmas.List.{at_drop_more}
use Rattle.cs_constraints.specs.SetWords.{with_interval}
use Rattle.cs_constraints.proofs.numbers.words_of.Goals as goal

pub loop-interval-preserved : goal.loop-interval-preserved
loop-interval-preserved c =
    rw c.in_ok-put.ensures
    (sym (at_drop_more (fold with_interval c.loop-interval.words) c.intervals-intervals.result.now _ _ c.loop-interval-test.true) ∙ c.loop-interval.invariant)
