use Rattle.std.proofs.Common.{◌≡◌, [], drop}
use Rattle.std.specs.Prelude.{fold}
use Rattle.cs_constraints.specs.SetWords.{with_interval}
use Rattle.cs_constraints.proofs.numbers.words_of.Given as goal

abbrev pub invariant-loop-interval : goal.invariant-loop-interval
invariant-loop-interval l =
    fold with_interval l.words (drop l.interval-index l.intervals) ≡ fold with_interval [] l.intervals
