use Rattle.std.proofs.Common.{ℕ, ◌<◌}
use Rattle.cs_engine.specs.Parameters.{DiffersFromBefore}
use Rattle.cs_engine.proofs.entry.differ_in_name.Given as goal

abbrev pub invariant-loop-number : goal.invariant-loop-number
invariant-loop-number l = (number : ℕ) → number < l.number → DiffersFromBefore l.parameters number
