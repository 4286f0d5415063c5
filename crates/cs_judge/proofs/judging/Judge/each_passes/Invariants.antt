use Rattle.std.proofs.Common.{◌≡◌, ℕ, ◌<◌, Some, slice_get}
use Rattle.cs_events.specs.declared.guess.Guess.{Guess}
use Rattle.cs_judge.specs.Certificates.{IsJudged}
use Rattle.cs_judge.proofs.judging.Judge.each_passes.Given as goal

abbrev pub invariant-loop-place : goal.invariant-loop-place
invariant-loop-place l =
    (i : ℕ) → i < l.place → (guess : Guess) → slice_get l.mine.run.guesses.items i ≡ Some guess
    → IsJudged l.self.model l.self.pool.now l.mine i guess
