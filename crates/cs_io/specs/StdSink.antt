-- A sink over a writer of std, as contracts see it.
use Rattle.std.specs.Prelude.{ℕ}

-- the count of faults, and that of empty takes
pub record StdSinkState : Type 0 where
  pub faults : ℕ
  pub empty_takes : ℕ
