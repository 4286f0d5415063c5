use Rattle.std.proofs.Common.{◌≡◌, ℕ, ◌<◌, Some, slice_get}
use Rattle.cs_events.specs.declared.guess.Guess.{Guess}
use Rattle.cs_judge.proofs.listing.same_events.Given as goal

abbrev pub invariant-loop-index : goal.invariant-loop-index
invariant-loop-index l = (i : ℕ) (guess its : Guess) → i < l.index → slice_get l.mine i ≡ Some guess → slice_get l.other i ≡ Some its
    → its.event ≡ guess.event
