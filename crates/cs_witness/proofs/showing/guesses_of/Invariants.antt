-- The guesses before the index were taken.
use Rattle.std.proofs.Common.{◌≡◌, map, take}
use Rattle.cs_suspect_types.specs.declared.suspect.SuspectedGuess.{SuspectedGuess}
use Rattle.cs_witness.proofs.showing.guesses_of.Given as goal

abbrev pub invariant-loop-one : goal.invariant-loop-one
invariant-loop-one l = l.guesses.items ≡ map (λ (one : SuspectedGuess). one.guess) (take l.one-index l.suspected)
