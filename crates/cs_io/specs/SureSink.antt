-- A sink over memory that never fails, as contracts see it.
use Rattle.std.specs.Prelude.{ℕ, List}

-- the bytes written, how many it can hold, and the count of empty takes
pub record SureSinkState : Type 0 where
  pub written : List ℕ
  pub capacity : ℕ
  pub empty_takes : ℕ
