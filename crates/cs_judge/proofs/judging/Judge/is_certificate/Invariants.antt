use Rattle.std.proofs.Common.{◌≡◌, ℕ, ◌<◌, Some, slice_get}
use Rattle.cs_judge.specs.declared.pool.Replay.{Replay}
use Rattle.cs_judge.specs.Certificates.{IsReplayJudged}
use Rattle.cs_judge.proofs.judging.Judge.is_certificate.Given as goal

abbrev pub invariant-loop-number : goal.invariant-loop-number
invariant-loop-number l =
    (i : ℕ) → i < l.number → (mine : Replay) → slice_get l.self.pool.now i ≡ Some mine → IsReplayJudged l.self.model l.self.pool.now mine
