-- Every run of a program ends.
use Rattle.std.proofs.Common.{ℕ}
use Rattle.cs_ast.specs.TypedProgram.{TypedProgram}
use Rattle.cs_events.specs.declared.outcome.Outcome.{Outcome}
use Rattle.cs_events.specs.declared.outcome.RunBudgets.{RunBudgets}
use Rattle.cs_events.specs.Runs.{Log, empty}
use Rattle.cs_events.proofs.Endings.{every_run_ends}
use Rattle.cs_meaning.specs.Steps.{step}
use Rattle.cs_meaning.specs.ProgramRuns.{ProgramRun, setting_of, start_of, RunGives}
use Rattle.cs_meaning.proofs.Weights.{turns, weight}
use Rattle.cs_meaning.proofs.Lessening.{lessens}

-- the run of an entry ends, whatever its inputs, guesses and budgets
pub run_ends : (program : TypedProgram) (entry : ℕ) (run : ProgramRun) (budgets : RunBudgets)
    → (outcome : Outcome) × (log : Log) × RunGives program entry run budgets outcome log
run_ends program entry run budgets =
    let ending = every_run_ends (step program budgets) (setting_of program run budgets) (turns budgets.visits) weight (lessens program budgets)
    (start_of program entry run) empty in
    (ending.outcome, ending.end, ending.ended)
