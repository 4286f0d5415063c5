-- For the contract of `read_all`: what was taken in one call and then in a later one was together at the front.
use Rattle.std.proofs.Common.{List, ℕ, ◌++◌, refl, append_assoc}
use Rattle.std.specs.Prelude.{Option, Some, None}
use Rattle.std.specs.Io.KnownBytes.{Consumes}
use Rattle.cs_io.specs.Reported.{LosesFront}

-- consuming bytes in two calls consumes them together
pub LosesFront-from_both : (before between now : Option (List ℕ)) (front : List ℕ) → Consumes before between front → LosesFront between now
    → LosesFront before now
LosesFront-from_both None between now front taken lost = (front, tt)
LosesFront-from_both (Some xs) None now front taken lost = absurd taken
LosesFront-from_both (Some xs) (Some ys) None front taken lost = absurd lost.1
LosesFront-from_both (Some xs) (Some ys) (Some zs) front taken lost = (front ++ lost.0, rw (taken, lost.1) (rw append_assoc refl))
