use Rattle.std.proofs.Common.{◌≡◌, ℕ, ◌<◌, Some, slice_get}
use Rattle.cs_results.specs.declared.run.Others.TheVariants.{One}
use Rattle.cs_judge.specs.declared.choosing.Candidate.{Candidate}
use Rattle.cs_judge.specs.Choosing.{IsGround}
use Rattle.cs_judge.proofs.choosing.one_alone.Given as goal

abbrev pub invariant-loop-one : goal.invariant-loop-one
invariant-loop-one l = (i : ℕ) (it : Candidate) → i < l.one-index → slice_get l.candidates i ≡ Some it → IsGround l.model l.operation (One it.pair) → ⊥
