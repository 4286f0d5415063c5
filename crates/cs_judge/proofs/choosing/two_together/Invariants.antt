use Rattle.std.proofs.Common.{◌≡◌, ℕ, ◌<◌, Some, slice_get}
use Rattle.cs_findings.specs.Grounds.{Pair}
use Rattle.cs_results.specs.declared.run.Others.TheVariants.{Two}
use Rattle.cs_judge.specs.declared.choosing.Candidate.{Candidate}
use Rattle.cs_judge.specs.Choosing.{IsGround, IsCandidate}
use Rattle.cs_judge.proofs.choosing.two_together.Given as goal

abbrev pub invariant-loop-one : goal.invariant-loop-one
invariant-loop-one l =
    (i : ℕ) (it : Candidate) → i < l.one-index → slice_get l.candidates i ≡ Some it
    → (number : ℕ) (pair : Pair) → IsCandidate l.candidates number pair → IsGround l.model l.operation (Two it.pair pair) → ⊥
