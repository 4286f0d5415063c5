-- The guesses from the index on ascend from the last event exactly if all do; and if these are at events of the run, all are.
use Rattle.std.proofs.Common.{◌≤◌, drop}
use Rattle.std.specs.Prelude.{All}
use Rattle.cs_events.specs.declared.guess.Guess.{Guess}
use Rattle.cs_witness.proofs.Ascending.{AscendFrom}
use Rattle.cs_witness.proofs.showing.are_in_order.Given as goal

abbrev pub invariant-loop-guess : goal.invariant-loop-guess
invariant-loop-guess l =
    (AscendFrom l.last (drop l.guess-index l.guesses) → AscendFrom 0 l.guesses)
    × (AscendFrom 0 l.guesses → AscendFrom l.last (drop l.guess-index l.guesses))
    × (All (λ (g : Guess). g.event ≤ l.events) (drop l.guess-index l.guesses) → All (λ (g : Guess). g.event ≤ l.events) l.guesses)
