-- A source over memory, as contracts see it.
use Rattle.std.specs.Prelude.{ℕ, List}
use Rattle.cs_io.specs.FaultPlan.{Plan}

-- the remaining bytes, the most that one call returns, and the calls that fail
pub record MemSourceState : Type 0 where
  pub left : List ℕ
  pub most : ℕ
  pub plan : Plan
