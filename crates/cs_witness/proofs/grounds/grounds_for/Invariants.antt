-- The grounds of the guesses before the index.
use Rattle.std.proofs.Common.{◌≡◌, ℕ, length, Some, slice_get}
use Rattle.cs_results.specs.declared.finding.Ground.{Ground}
use Rattle.cs_witness.specs.Grounding.{IsGroundIn}
use Rattle.cs_witness.proofs.grounds.grounds_for.Given as goal

abbrev pub invariant-loop-place : goal.invariant-loop-place
invariant-loop-place l = record {
  count : length l.grounds.items ≡ l.place;
  each : (number : ℕ) (ground : Ground) → slice_get l.grounds.items number ≡ Some ground → IsGroundIn l.pool l.mine l.inputs number ground;
}
