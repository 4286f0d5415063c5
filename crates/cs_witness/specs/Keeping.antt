-- What a pool keeps of replays.
use Rattle.std.specs.Prelude.{◌≡◌, List, ◌++◌, map}
use Rattle.cs_ast.specs.TypedProgram.{typed_program}
use Rattle.cs_events.specs.declared.event.Event.{Event}
use Rattle.cs_events.specs.PendingEvents as pending
use Rattle.cs_meaning.specs.ProgramRuns.{ProgramRun}
use Rattle.cs_findings.specs.Runs.{run_of, run_budgets}
use Rattle.cs_judge.specs.declared.pool.Kept.{Kept}
use Rattle.cs_judge.specs.declared.pool.Kept.TheVariants as kept
use Rattle.cs_judge.specs.declared.pool.Replay.{Replay}
use Rattle.cs_judge.specs.Pools.{AreKept}
use Rattle.cs_witness.specs.declared.entry.Entry.{Entry}

-- what is kept of what was pending at an event: only an operation
abbrev pub noted : pending.Pending → Kept
noted (pending.Operates at operation) = kept.Operates at operation
noted (pending.Tries at path) = kept.Other
noted (pending.Accesses at object offset) = kept.Other

-- a pool is extended by more runs, and what is kept of them is true
pub record Widens (entry : Entry) (old new : List Replay) : Type 0 where
  pub more : List Replay
  pub is : new ≡ old ++ more
  pub kept : AreKept (typed_program entry.program.now) entry.function (run_budgets entry.budgets) more

-- a replay without its partners
abbrev pub bare : Replay → ProgramRun × List Event × List Kept
bare replay = (run_of replay.run, replay.events.items, replay.kept.items)

-- the replays of two pools differ only in their partners
abbrev pub KeepsRuns : List Replay → List Replay → Type 0
KeepsRuns old new = map bare new ≡ map bare old
