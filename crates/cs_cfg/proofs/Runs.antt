-- Runs of placed code end as those of the reference machine do, and the same is pending in them.
use Rattle.std.proofs.Common.{◌≡◌, ℕ, Option, Some, None, unwrap_or, refl, sym, subst}
use Rattle.cs_ast.specs.TypedTree.{Statement}
use Rattle.cs_ast.specs.TypedProgram.{TypedProgram}
use Rattle.cs_events.specs.declared.outcome.Outcome.{Outcome}
use Rattle.cs_events.specs.declared.outcome.RunBudgets.{RunBudgets}
use Rattle.cs_events.specs.Runs.{Log, empty}
use Rattle.cs_events.specs.PendingEvents.{Pending}
use Rattle.cs_events.specs.Silence.{Ending}
use Rattle.cs_events.proofs.Simulations.{EndsTogether, ends_too, pends_too, ends_back, pends_back}
use Rattle.cs_meaning.specs.Machine.{routine_of}
use Rattle.cs_meaning.specs.Steps.{step}
use Rattle.cs_meaning.specs.ProgramRuns.{ProgramRun, setting_of, start_of, RunGives, RunIsPending}
use Rattle.cs_meaning.proofs.ProgramEndings.{run_ends}
use Rattle.cs_cfg.specs.Graph.{Flow, Code, no_flow, flow_of}
use Rattle.cs_cfg.specs.Working.{code_frame}
use Rattle.cs_cfg.specs.CodeSteps.{code_step, code_start, CodeGives, CodeIsPending}
use Rattle.cs_cfg.specs.Lowered.{is_there}
use Rattle.cs_cfg.specs.Placed.{IsPlaced}
use Rattle.cs_cfg.proofs.Related.{FrameStands, nobody, Related, now}
use Rattle.cs_cfg.proofs.Entered.{frame_begins}
use Rattle.cs_cfg.proofs.Simulating.{placed_simulates}

-- a function with a body has a graph
pub graph_is_there : (flow : Option Flow) (body : Option Statement) → is_there flow ≡ is_there body → (s : Statement) → body ≡ Some s
    → (graph : Flow) × (flow ≡ Some graph)
graph_is_there (Some graph) body e s f = (graph, refl)
graph_is_there None None e s f = cc
graph_is_there None (Some s') e s f = cc

module _ (code : Code) (program : TypedProgram) (placed : IsPlaced code program) where
  -- a run of the code begins in a state related to the machine's
  pub begin_related : (entry : ℕ) (body : Statement) (run : ProgramRun) (budgets : RunBudgets) → (routine_of program entry).body ≡ Some body
      → Related code program budgets (start_of program entry run) (code_start code program entry run)
  begin_related entry body run budgets e =
      let found = graph_is_there (flow_of code entry) (routine_of program entry).body (placed.graphs entry) body e in
      let begins = frame_begins code program entry 0 body found.0 e found.1 (placed.bodies entry body found.0 e found.1) in
      let frame = subst (λ flow. FrameStands code program 0 (start_of program entry run).frame (code_frame entry (unwrap_or flow no_flow) 0)) (sym found.1)
      begins in
      now (record { frame = frame; callers = nobody; memory = refl; frames = refl; allocations = refl; calls = refl })

  -- the machine's run ends
  ending : (entry : ℕ) (run : ProgramRun) (budgets : RunBudgets)
      → Ending (step program budgets) (setting_of program run budgets) (start_of program entry run) empty
  ending entry run budgets =
      let it = run_ends program entry run budgets in
      record { outcome = it.0; end = it.1; ended = it.2 }

  -- both runs end with the same outcome and the same log, in related states
  pub both_end : (entry : ℕ) (body : Statement) (run : ProgramRun) (budgets : RunBudgets) (outcome : Outcome) (log : Log)
      → (routine_of program entry).body ≡ Some body → (one : RunGives program entry run budgets outcome log) →
      EndsTogether (Related code program budgets) (setting_of program run budgets) (step program budgets) (code_step code program budgets)
      (start_of program entry run) (code_start code program entry run) empty outcome log one
  both_end entry body run budgets outcome log e one =
      ends_too (Related code program budgets) (setting_of program run budgets) (step program budgets) (code_step code program budgets)
      (placed_simulates code program budgets placed) (begin_related entry body run budgets e) one

  pub code_ends : (entry : ℕ) (body : Statement) (run : ProgramRun) (budgets : RunBudgets) (outcome : Outcome) (log : Log)
      → (routine_of program entry).body ≡ Some body → RunGives program entry run budgets outcome log
      → CodeGives code program entry run budgets outcome log
  code_ends entry body run budgets outcome log e one = (both_end entry body run budgets outcome log e one).other

  pub code_ends_only : (entry : ℕ) (body : Statement) (run : ProgramRun) (budgets : RunBudgets) (outcome : Outcome) (log : Log)
      → (routine_of program entry).body ≡ Some body → CodeGives code program entry run budgets outcome log
      → RunGives program entry run budgets outcome log
  code_ends_only entry body run budgets outcome log e other =
      ends_back (Related code program budgets) (setting_of program run budgets) (step program budgets) (code_step code program budgets)
      (placed_simulates code program budgets placed) (begin_related entry body run budgets e) (ending entry run budgets) other

  pub code_pends : (entry : ℕ) (body : Statement) (run : ProgramRun) (budgets : RunBudgets) (event : ℕ) (pending : Pending)
      → (routine_of program entry).body ≡ Some body → RunIsPending program entry run budgets event pending
      → CodeIsPending code program entry run budgets event pending
  code_pends entry body run budgets event pending e one =
      pends_too (Related code program budgets) (setting_of program run budgets) (step program budgets) (code_step code program budgets)
      (placed_simulates code program budgets placed) (begin_related entry body run budgets e) one

  pub code_pends_only : (entry : ℕ) (body : Statement) (run : ProgramRun) (budgets : RunBudgets) (event : ℕ) (pending : Pending)
      → (routine_of program entry).body ≡ Some body → CodeIsPending code program entry run budgets event pending
      → RunIsPending program entry run budgets event pending
  code_pends_only entry body run budgets event pending e other =
      pends_back (Related code program budgets) (setting_of program run budgets) (step program budgets) (code_step code program budgets)
      (placed_simulates code program budgets placed) (begin_related entry body run budgets e) (ending entry run budgets) other
