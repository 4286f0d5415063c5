-- The guesses before the index were changed.
use Rattle.std.proofs.Common.{◌≡◌, ◌++◌, map, take, drop}
use Rattle.cs_witness.specs.Corners.{put_guess}
use Rattle.cs_witness.proofs.corners.put_guess.Given as goal

abbrev pub invariant-loop-guess : goal.invariant-loop-guess
invariant-loop-guess l = l.guesses ≡ map (put_guess l.event l.number) (take l.guess-index l.fn.guesses) ++ drop l.guess-index l.fn.guesses
