use Rattle.std.proofs.Common.{◌≡◌, ℕ, ◌<◌, nat_lt, Some, slice_get}
use Rattle.cs_events.specs.declared.guess.Guess.{Guess}
use Rattle.cs_judge.proofs.listing.are_before.Given as goal

abbrev pub invariant-loop-index : goal.invariant-loop-index
invariant-loop-index l = (i : ℕ) (guess : Guess) → i < l.index → slice_get l.guesses i ≡ Some guess → nat_lt guess.event l.event ≡ nat_lt i l.place
