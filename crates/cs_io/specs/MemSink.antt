-- A sink over memory, as contracts see it.
use Rattle.std.specs.Prelude.{ℕ, List}
use Rattle.cs_io.specs.FaultPlan.{Plan}

-- the bytes written, how many it can hold, the most that one call takes, the count of empty takes, and the calls that fail
pub record MemSinkState : Type 0 where
  pub written : List ℕ
  pub capacity : ℕ
  pub most : ℕ
  pub empty_takes : ℕ
  pub plan : Plan
