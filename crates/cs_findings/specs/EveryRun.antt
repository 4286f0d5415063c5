-- Results of entries that miss no run.
use Rattle.std.specs.Prelude.{◌≡◌, ℤ, List, [], map, Contains}
use Rattle.cs_inputs.specs.declared.path.Path.{Path}
use Rattle.cs_ast.specs.TypedProgram.{TypedProgram}
use Rattle.cs_events.specs.declared.outcome.Outcome.{Outcome}
use Rattle.cs_events.specs.declared.outcome.Outcome.TheVariants.{Done, Fault, Over}
use Rattle.cs_events.specs.Runs.{Log}
use Rattle.cs_meaning.specs.ProgramRuns.{RunGives}
use Rattle.cs_results.specs.declared.budgets.Budgets.{Budgets}
use Rattle.cs_results.specs.declared.finding.Finding.{Finding}
use Rattle.cs_results.specs.declared.result.EntryResult.{EntryResult}
use Rattle.cs_integer_functions.specs.IntegerFunctions.{IsIntegerFunction}
use Rattle.cs_findings.specs.Runs.{run_budgets}

abbrev pub outcomes_of : List Finding → List Outcome
outcomes_of findings = map (λ (f : Finding). f.what) findings

-- a fault has a report, and a met budget is listed
abbrev pub HasFinding : EntryResult → Outcome → Type 0
HasFinding given (Fault kind at) = Contains (outcomes_of given.reports.items) (Fault kind at)
HasFinding given (Over budget at) = Contains (outcomes_of given.overs.items) (Over budget at)
HasFinding given (Done returned) = Unit {0}

-- if nothing is cut, each run of the entry has a finding with its outcome: from any inputs, without guesses, within the budgets
abbrev pub ReportsEveryRun : TypedProgram → Budgets → EntryResult → Type 0
ReportsEveryRun program budgets given = given.cuts.items ≡ [] → (inputs : List (Path × ℤ)) (outcome : Outcome) (log : Log)
    → RunGives program given.entry (record { inputs = inputs; guesses = [] }) (run_budgets budgets) outcome log → HasFinding given outcome

-- if the entry is an integer function, no run is missed
abbrev pub MissesNothing : TypedProgram → Budgets → EntryResult → Type 0
MissesNothing program budgets given = IsIntegerFunction program given.entry → ReportsEveryRun program budgets given
