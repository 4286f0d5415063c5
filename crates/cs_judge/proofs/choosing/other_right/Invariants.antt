use Rattle.std.proofs.Common.{◌≡◌, ◌≢◌, ℕ, ◌<◌, Some, slice_get}
use Rattle.cs_findings.specs.Operands.{operands}
use Rattle.cs_judge.specs.declared.choosing.Candidate.{Candidate}
use Rattle.cs_judge.proofs.choosing.other_right.Given as goal

abbrev pub invariant-loop-one : goal.invariant-loop-one
invariant-loop-one l = (i : ℕ) (it : Candidate) → i < l.one-index → slice_get l.candidates i ≡ Some it → it.pair.1 ≢ (operands l.operation).1 → ⊥
