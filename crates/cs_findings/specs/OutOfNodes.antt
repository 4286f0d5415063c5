-- Why a result lists a cut of the nodes: runs reach more positions than the budget has nodes, and each fault directly after a position that leads to another
-- one is reported.
use Rattle.std.specs.Prelude.{◌≡◌, ◌<◌, ◌≤◌, ℕ, ℤ, List, [], ◌∷◌, ◌++◌, length, Contains, All}
use Rattle.cs_inputs.specs.declared.path.Path.{Path}
use Rattle.cs_ast.specs.declared.place.Place.{Place}
use Rattle.cs_ast.specs.TypedProgram.{TypedProgram}
use Rattle.cs_model.specs.declared.kind.Kind.{Kind}
use Rattle.cs_events.specs.declared.event.Event.{Event}
use Rattle.cs_events.specs.declared.guess.Guess.{Guess}
use Rattle.cs_events.specs.declared.outcome.Outcome.TheVariants.{Fault}
use Rattle.cs_events.specs.declared.outcome.RunBudgets.{RunBudgets}
use Rattle.cs_meaning.specs.ProgramRuns.{ProgramRun, RunPasses, RunEnds}
use Rattle.cs_results.specs.declared.budgets.Budgets.{Budgets}
use Rattle.cs_results.specs.declared.result.Cut.{Cut}
use Rattle.cs_results.specs.declared.result.Cut.TheVariants.{Nodes}
use Rattle.cs_results.specs.declared.result.EntryResult.{EntryResult}
use Rattle.cs_integer_functions.specs.IntegerFunctions.{IsIntegerFunction}
use Rattle.cs_findings.specs.Runs.{run_budgets}
use Rattle.cs_findings.specs.EveryRun.{HasFinding}
use Rattle.cs_findings.specs.RealGuesses.{AreReal}

-- lists of events, numbered from 0 to the last one, are the nodes of a prefix tree: the first is empty, each other one is an earlier one with one event
-- appended, and no two are equal
pub record IsPrefixTree (last : ℕ) (events : ℕ → List Event) : Type 0 where
  pub root : events 0 ≡ []
  pub grows : (number : ℕ) → 0 < number → number ≤ last
      → (earlier : ℕ) × (event : Event) × (earlier < number) × (events number ≡ events earlier ++ event ∷ [])
  pub differ : (one other : ℕ) → one ≤ last → other ≤ last → events one ≡ events other → one ≡ other

-- some list is longer and begins with these events
abbrev pub HasLonger : ℕ → (ℕ → List Event) → List Event → Type 0
HasLonger last events passed = (number : ℕ) × (event : Event) × (more : List Event) × (number ≤ last) × (events number ≡ passed ++ event ∷ more)

-- a run passes these events first, and lists no guess for a later event
pub record PassesAlong (program : TypedProgram) (entry : ℕ) (budgets : RunBudgets) (run : ProgramRun) (events : List Event) : Type 0 where
  pub passes : RunPasses program entry run budgets events
  pub within : All (λ (guess : Guess). guess.event ≤ length events) run.guesses

-- this is the budget of nodes, and there is a prefix tree with one node more. Some run passes each node, with real guesses. If a run without guesses ends in
-- a fault directly after the events of a node that isn't a leaf, the fault has a report
pub record IsOutOfNodes (program : TypedProgram) (budgets : Budgets) (given : EntryResult) (nodes : ℕ) : Type 0 where
  pub budget : nodes ≡ budgets.nodes
  pub events : ℕ → List Event
  pub tree : IsPrefixTree nodes events
  pub finds : (number : ℕ) (inputs : List (Path × ℤ)) (kind : Kind) (at : Place) → number ≤ nodes → HasLonger nodes events (events number)
      → RunEnds program given.entry (record { inputs = inputs; guesses = [] }) (run_budgets budgets) (events number) (Fault kind at)
      → HasFinding given (Fault kind at)
  pub runs : ℕ → ProgramRun
  pub passed : (number : ℕ) → number ≤ nodes → PassesAlong program given.entry (run_budgets budgets) (runs number) (events number)
  pub real : (number : ℕ) → number ≤ nodes → AreReal program given.entry (run_budgets budgets) (runs number)

-- a cut is one of the nodes, and is listed for this reason
pub record IsForWantOfNodes (program : TypedProgram) (budgets : Budgets) (given : EntryResult) (cut : Cut) : Type 0 where
  pub nodes : ℕ
  pub is : cut ≡ Nodes nodes
  pub reason : IsOutOfNodes program budgets given nodes

-- if the entry is an integer function, each listed cut is such a cut
abbrev pub HasReasons : TypedProgram → Budgets → EntryResult → Type 0
HasReasons program budgets given =
    IsIntegerFunction program given.entry → (cut : Cut) → Contains given.cuts.items cut → IsForWantOfNodes program budgets given cut
