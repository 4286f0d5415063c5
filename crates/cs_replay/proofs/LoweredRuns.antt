-- The run of lowered code ends as the reference machine's does: for the contract of `replay`.
use Rattle.std.proofs.Common.{◌≡◌, ℕ, Option, Some, None, refl}
use Rattle.cs_ast.specs.TypedTree.{Statement}
use Rattle.cs_ast.specs.TypedProgram.{TypedProgram}
use Rattle.cs_events.specs.declared.outcome.RunBudgets.{RunBudgets}
use Rattle.cs_events.specs.declared.outcome.Outcome.{Outcome}
use Rattle.cs_events.specs.Runs.{Log, empty}
use Rattle.cs_meaning.specs.Machine.{routine_of}
use Rattle.cs_meaning.specs.ProgramRuns.{ProgramRun, RunGives, setting_of}
use Rattle.cs_meaning.proofs.ProgramEndings.{run_ends}
use Rattle.cs_cfg.specs.Graph.{Flow, Code, flow_of}
use Rattle.cs_cfg.specs.CodeSteps.{code_step, code_start, CodeGives}
use Rattle.cs_cfg.specs.Lowered.{is_there, IsLowered}
use Rattle.cs_replay.specs.RunLengths.{HasLength}
use Rattle.cs_replay.proofs.Lengths.{has_length}

-- a function with a graph has a body
has_body : (flow : Option Flow) (body : Option Statement) (found : Flow) → is_there flow ≡ is_there body → flow ≡ Some found
    → (b : Statement) × (body ≡ Some b)
has_body None body found same there = cc
has_body (Some flow) None found same there = cc
has_body (Some flow) (Some b) found same there = (b, refl)

module _ (code : Code) (program : TypedProgram) (entry : ℕ) (run : ProgramRun) (budgets : RunBudgets) (found : Flow) (lowered : IsLowered code program)
    (there : flow_of code entry ≡ Some found) where
  -- the run of an entry with a graph ends
  pub lowered_ends : HasLength (code_step code program budgets) (setting_of program run budgets) (code_start code program entry run) empty
  lowered_ends =
      let body = has_body (flow_of code entry) (routine_of program entry).body found (lowered.graphs entry) there in
      let plain = run_ends program entry run budgets in
      has_length (code_step code program budgets) (setting_of program run budgets) (lowered.runs.ends entry body.0 run budgets plain.0 plain.1 body.1 plain.2)

  -- and it ends as the reference machine's run does
  pub replays_so : (outcome : Outcome) (log : Log) → CodeGives code program entry run budgets outcome log → RunGives program entry run budgets outcome log
  replays_so outcome log gives =
      let body = has_body (flow_of code entry) (routine_of program entry).body found (lowered.graphs entry) there in
      lowered.runs.ends_only entry body.0 run budgets outcome log body.1 gives
