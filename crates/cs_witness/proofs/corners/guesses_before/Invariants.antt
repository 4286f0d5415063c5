-- The guesses before the index were taken, if they are before the event.
use Rattle.std.proofs.Common.{◌≡◌, take, nat_lt}
use Rattle.std.specs.Prelude.{filter}
use Rattle.cs_events.specs.declared.guess.Guess.{Guess}
use Rattle.cs_witness.proofs.corners.guesses_before.Given as goal

abbrev pub invariant-loop-guess : goal.invariant-loop-guess
invariant-loop-guess l = l.before.items ≡ filter (λ (guess : Guess). nat_lt guess.event l.event) (take l.guess-index l.guesses)
