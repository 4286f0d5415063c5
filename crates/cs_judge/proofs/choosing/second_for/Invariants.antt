use Rattle.std.proofs.Common.{◌≡◌, ℕ, ◌<◌, Some, slice_get}
use Rattle.cs_results.specs.declared.run.Others.TheVariants.{Two}
use Rattle.cs_judge.specs.declared.choosing.Candidate.{Candidate}
use Rattle.cs_judge.specs.Choosing.{IsGround}
use Rattle.cs_judge.proofs.choosing.second_for.Given as goal

abbrev pub invariant-loop-other : goal.invariant-loop-other
invariant-loop-other l =
    (i : ℕ) (it : Candidate) → i < l.other-index → slice_get l.candidates i ≡ Some it → IsGround l.model l.operation (Two l.one.pair it.pair) → ⊥
