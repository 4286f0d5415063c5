-- Which calls of a source or a sink over memory fail.
use Rattle.std.specs.Prelude.{ℕ, ◌+◌, List, Contains}
use Rattle.cs_io.specs.Count.{next_count}

-- the numbers of the calls that fail, counted from 1, and how many calls and faults there were
pub record Plan : Type 0 where
  pub fails : List ℕ
  pub calls : ℕ
  pub faults : ℕ

-- the next call is among those that fail
abbrev pub FailsNext : Plan → Type 0
FailsNext plan = Contains plan.fails (plan.calls + 1)

-- the plan after a call that doesn't fail
abbrev pub after_call : Plan → Plan
after_call plan = record plan { calls = next_count plan.calls }

-- the plan after a call that fails
abbrev pub after_fault : Plan → Plan
after_fault plan = record plan { calls = next_count plan.calls; faults = plan.faults + 1 }
