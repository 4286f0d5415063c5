-- A run in progress, seen as the reference machine's: its state, its program and its budgets, and the effect of an act on it.
use Rattle.std.specs.Prelude.{◌≡◌, Result, ⊤, OnOk, IfErr}
use Rattle.cs_ast.specs.TypedProgram.{TypedProgram, typed_program}
use Rattle.cs_events.specs.declared.outcome.RunBudgets.{RunBudgets}
use Rattle.cs_events.specs.Acts.{Act}
use Rattle.cs_meaning.specs.Machine.{State}
use Rattle.cs_run_log.specs.declared.logs.Stop.{Stop}
use Rattle.cs_objects.specs.Prepared as settings
use Rattle.cs_run_state.specs.MachineView.{state_of}
use Rattle.cs_run_log.specs.Pieces as pieces
use Rattle.cs_runner.specs.declared.runner.Runner.{Runner}

-- the program that runs
abbrev pub program_of : Runner → TypedProgram
program_of run = typed_program run.setting.now.program.now

-- its budgets
abbrev pub budgets_of : Runner → RunBudgets
budgets_of run = run.setting.now.budgets

-- the state
abbrev pub state_in : Runner → State
state_in run = state_of run.machine

-- its setting is ready
abbrev pub IsReady : Runner → Type 0
IsReady run = settings.IsReady run.setting.now

module _ (old new : Runner) where
  -- an act leads to the new state
  abbrev pub LeadsOn : Act State → Type 0
  LeadsOn act = pieces.LeadsTo old.setting.now old.log new.log act (state_in new)

  -- an act ends the run
  abbrev pub Ends : Act State → Stop → Type 0
  Ends act stop = pieces.EndsBy old.setting.now old.log new.log act stop

  -- what a call that performs an act ensures: the act leads to the new state, with the same program, inputs and budgets, or ends the run
  pub record Performs (result : Result ⊤ Stop) (act : Act State) : Type 0 where
    pub ok : OnOk result (LeadsOn act)
    pub err : IfErr result (Ends act)
    pub kept : OnOk result (new.setting ≡ old.setting)
