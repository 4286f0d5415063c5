-- A run of code in progress, seen as the run in the definition: its state, and the effect of an act on it.
use Rattle.std.specs.Prelude.{◌≡◌, List, map, reverse, Result, ⊤, OnOk, IfErr}
use Rattle.cs_ast.specs.TypedProgram.{TypedProgram}
use Rattle.cs_events.specs.declared.outcome.RunBudgets.{RunBudgets}
use Rattle.cs_events.specs.Acts.{Act}
use Rattle.cs_events.specs.Runs as runs
use Rattle.cs_events.specs.Runs.{Performed, Continues, Finishes, perform}
use Rattle.cs_meaning.specs.Machine.{CallFrame}
use Rattle.cs_run_log.specs.declared.logs.Stop.{Stop}
use Rattle.cs_run_log.specs.declared.logs.Stop.TheVariants as stop
use Rattle.cs_run_log.specs.LogView.{setting_of, log_of}
use Rattle.cs_run_state.specs.MachineView.{frame_of}
use Rattle.cs_runner.specs.RunnerView as runner
use Rattle.cs_cfg.specs.declared.code.Code.{Code}
use Rattle.cs_cfg.specs.Graph as graph
use Rattle.cs_cfg.specs.Graph.{Point}
use Rattle.cs_cfg.specs.GraphView.{code}
use Rattle.cs_cfg.specs.Lowered.{HasGraphs}
use Rattle.cs_cfg.specs.Working.{CodeState}
use Rattle.cs_replay.specs.declared.replayer.Caller.{Caller}
use Rattle.cs_replay.specs.declared.replayer.Replayer.{Replayer}
use Rattle.cs_replay.specs.CodeStates.{at_point, code_state}
use Rattle.cs_positions.specs.Points.{point_of}

-- a caller: a frame that waits
abbrev pub caller_of : Code → Caller → CallFrame Point
caller_of graphs caller = at_point (point_of graphs caller.position caller.frame.function) (frame_of caller.frame)

-- the callers, the nearest first
abbrev pub callers_of : Code → List Caller → List (CallFrame Point)
callers_of graphs callers = reverse (map (caller_of graphs) callers)

-- the code, its program, and the budgets of the run
abbrev pub code_of : Replayer → graph.Code
code_of run = code run.code.now

abbrev pub program_of : Replayer → TypedProgram
program_of run = runner.program_of run.runner

abbrev pub budgets_of : Replayer → RunBudgets
budgets_of run = runner.budgets_of run.runner

-- the state
abbrev pub state_in : Replayer → CodeState
state_in run = code_state (point_of run.code.now run.position) (callers_of run.code.now run.callers.items) (runner.state_in run.runner)

-- the setting is ready, and exactly the program's functions with a body have a graph
pub record IsReady (run : Replayer) : Type 0 where
  pub setting : runner.IsReady run.runner
  pub graphs : HasGraphs (code_of run) (program_of run)

-- the end of a run with a log; if memory ran out nothing is claimed: the result is `otherwise`
abbrev pub ended : Stop → runs.Log → Performed CodeState → Performed CodeState
ended (stop.Outcome outcome) log otherwise = Finishes outcome log
ended stop.Memory log otherwise = otherwise

module _ (old new : Replayer) where
  -- an act leads to the new state
  abbrev pub LeadsOn : Act CodeState → Type 0
  LeadsOn act = perform (setting_of old.runner.setting.now) (log_of old.runner.log) act ≡ Continues (state_in new) (log_of new.runner.log)

  -- an act ends the run
  abbrev pub Ends : Act CodeState → Stop → Type 0
  Ends act stop = perform (setting_of old.runner.setting.now) (log_of old.runner.log) act
      ≡ ended stop (log_of new.runner.log) (perform (setting_of old.runner.setting.now) (log_of old.runner.log) act)

  -- the same program, inputs, guesses, budgets and code
  pub record KeepsSetting : Type 0 where
    pub setting : new.runner.setting ≡ old.runner.setting
    pub code : new.code ≡ old.code

  -- what a call that performs an act ensures: the act leads to the new state, with the same program, inputs and budgets, or ends the run
  pub record Performs (result : Result ⊤ Stop) (act : Act CodeState) : Type 0 where
    pub ok : OnOk result (LeadsOn act)
    pub err : IfErr result (Ends act)
    pub kept : OnOk result KeepsSetting
