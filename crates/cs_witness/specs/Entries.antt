-- Entries whose runs are replayed.
use Rattle.std.specs.Prelude.{ℕ}
use Rattle.cs_ast.specs.TypedProgram.{HasLayouts, typed_program}
use Rattle.cs_events.specs.declared.outcome.RunBudgets.{RunBudgets}
use Rattle.cs_meaning.specs.ProgramRuns.{ProgramRun, RunGives}
use Rattle.cs_cfg.specs.GraphView as view
use Rattle.cs_cfg.specs.Lowered.{IsLowered}
use Rattle.cs_objects.specs.Prepared.{IsPrepared}
use Rattle.cs_run_log.specs.LogView.{log_of}
use Rattle.cs_replay.specs.declared.replays.Replayed.{Replayed}
use Rattle.cs_results.specs.declared.budgets.Budgets.{Budgets}
use Rattle.cs_findings.specs.Runs.{run_budgets}
use Rattle.cs_witness.specs.declared.entry.Entry.{Entry}

-- the runs of an entry can be replayed: the structs of the program are laid out, the data that its runs share is prepared, and the code is
-- its lowering. A function without a body has no runs, and its replays are refused
pub record CanRun (entry : Entry) : Type 0 where
  pub laid_out : HasLayouts entry.program.now
  pub prepared : IsPrepared entry.prepared.now entry.program.now
  pub lowered : IsLowered (view.code entry.code.now) (typed_program entry.program.now)

-- the budgets of a run, with this many events
abbrev pub up_to : ℕ → Budgets → RunBudgets
up_to events budgets = record { visits = budgets.visits; depth = budgets.depth; events = events }

-- a run of the entry has the outcome and the log of this replay
abbrev pub Gives : Entry → ProgramRun → Replayed → Type 0
Gives entry run replayed =
    RunGives (typed_program entry.program.now) entry.function run (run_budgets entry.budgets) replayed.outcome (log_of replayed.log)
