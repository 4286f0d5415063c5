-- A closed graph: it has the successors of each row that doesn't wait any more, under all names that extend those of the tables so far.
use Rattle.std.specs.Prelude.{◌≡◌, ◌⊎◌, ℕ, ℤ, List, [], Some, length, slice_get}
use Rattle.std.specs.Global.{Box}
use Rattle.cs_inputs.specs.declared.path.Path.{Path}
use Rattle.cs_ast.specs.TypedProgram.{TypedProgram}
use Rattle.cs_events.specs.declared.guess.Guess.{Guess}
use Rattle.cs_events.specs.declared.outcome.Outcome.{Outcome}
use Rattle.cs_events.specs.declared.outcome.RunBudgets.{RunBudgets}
use Rattle.cs_events.specs.Runs.{Log}
use Rattle.cs_event_runs.specs.First.{Step}
use Rattle.cs_meaning.specs.Machine.{routine_of}
use Rattle.cs_cfg.specs.Graph.{Code}
use Rattle.cs_cfg.specs.CodeSteps.{code_started}
use Rattle.cs_terms.specs.Term.{Valuation}
use Rattle.cs_constraints.specs.Constraints.{Fits}
use Rattle.cs_regions.specs.Numbering.{IsNumbered}
use Rattle.cs_state.specs.declared.state.State.{State}
use Rattle.cs_state.specs.Naming.{Naming, Extends}
use Rattle.cs_state.specs.Meaning.{meaning}
use Rattle.cs_keys.specs.Live.{live_part}
use Rattle.cs_keys.specs.Words.{words_of}
use Rattle.cs_graph.specs.Waiting.{IsWaiting}
use Rattle.cs_explored.specs.declared.child.Child.{Child}
use Rattle.cs_explored.specs.declared.explored.End.{End}
use Rattle.cs_explored.specs.declared.explored.Row.{Row}
use Rattle.cs_explored.specs.declared.watch.Rule.{Rule}
use Rattle.cs_successors.specs.EntryRuns.{setting_with}
use Rattle.cs_successors.specs.Coming.{IsIntegerState, ComesOfState}
use Rattle.cs_coverage.specs.OwnNumbers.{own_valuation}
use Rattle.cs_explored.specs.Placing.{RowGraph, IsPlain}

-- some row has the live part of a child
pub record HasRowFor (rows : List Row) (child : Child) : Type 0 where
  pub number : ℕ
  pub row : Row
  pub there : slice_get rows number ≡ Some row
  pub same : live_part child.state.value ≡ live_part row.state.value
  pub plain : IsPlain child.state.value

-- an end is listed with the number of its row
pub record IsListed (ends : List End) (number : ℕ) (one : Outcome × Box State) : Type 0 where
  pub place : ℕ
  pub there : slice_get ends place ≡ Some (record { row = number; outcome = one.0; state = one.1 })

-- these names extend the given ones
pub record AreNames (given names : Naming) : Type 0 where
  pub extend : Extends given names
  pub numbered : IsNumbered names.bases

-- a row waits
abbrev pub Waits : List (ℕ × ℕ) → ℕ → Type 0
Waits work number = (visits : ℕ) × IsWaiting work visits number

-- a row waits, or is the one whose successors are being found
abbrev pub IsOpen : ℕ → List (ℕ × ℕ) → ℕ → Type 0
IsOpen row work number = Waits work number ⊎ (number ≡ row)

-- the key of each row represents its live part
abbrev pub HaveKeys : RowGraph → Type 0
HaveKeys graph = (number : ℕ) (key : List ℕ) (row : Row) → slice_get graph.keys number ≡ Some key → slice_get graph.rows number ≡ Some row
    → key ≡ words_of (live_part row.state.value)

-- a state represents the beginning of each run under the run's own numbers, whatever the run guesses, passes and reads
abbrev pub BeginsOwn : Code → TypedProgram → ℕ → Naming → State → Type 0
BeginsOwn code program entry names state =
    (budgets : RunBudgets) (inputs : Path → ℤ) (guesses : List Guess) (steps : List Step) (log : Log)
    → let own = own_valuation program entry names (setting_with program budgets inputs guesses) steps log in
    Fits own state.constraints × (meaning code names program state own ≡ code_started code program inputs entry (routine_of program entry))

-- the state represents the beginning of each run of an entry, under some valuation that fits, and under the run's own numbers
pub record IsBeginning (code : Code) (program : TypedProgram) (entry : ℕ) (names : Naming) (state : State) : Type 0 where
  pub answers : state.answers ≡ []
  pub events : state.counters.events ≡ 0
  pub phase : state.phase ≡ 0
  pub own : BeginsOwn code program entry names state
  pub covers : (inputs : Path → ℤ) → (valuation : Valuation) × Fits valuation state.constraints
      × (meaning code names program state valuation ≡ code_started code program inputs entry (routine_of program entry))

module _ (code : Code) (program : TypedProgram) (entry : ℕ) (budgets : RunBudgets) (rules : List Rule) (given : Naming) where
  -- a state of integer code, whose live part has all of it
  pub record IsRowState (state : State) : Type 0 where
    pub integer : (names : Naming) → AreNames given names → IsIntegerState code program budgets names state
    pub plain : IsPlain state

  -- the first row represents the beginnings of all runs of the entry
  pub record BeginsAtRow (rows : List Row) : Type 0 where
    pub row : Row
    pub there : slice_get rows 0 ≡ Some row
    pub begins : (names : Naming) → AreNames given names → IsBeginning code program entry names row.state.value

  -- the graph has all successors of a row: a row for each child, and each end, whose live part has all that its state holds
  pub record IsExpanded (rows : List Row) (ends : List End) (number : ℕ) (row : Row) : Type 0 where
    pub made : List Child
    pub endings : List (Outcome × Box State)
    pub comes : (names : Naming) → AreNames given names → ComesOfState code program budgets names rules row.state.value made endings
    pub children : (place : ℕ) (child : Child) → slice_get made place ≡ Some child → HasRowFor rows child
    pub listed : (place : ℕ) (one : Outcome × Box State) → slice_get endings place ≡ Some one → IsListed ends number one
    pub plain : (place : ℕ) (one : Outcome × Box State) → slice_get endings place ≡ Some one → IsPlain one.1.value

  -- a graph is closed, except for the rows that wait
  pub record IsClosed (rows : List Row) (ends : List End) (Waits : ℕ → Type 0) : Type 0 where
    pub first : BeginsAtRow rows
    pub states : (number : ℕ) (row : Row) → slice_get rows number ≡ Some row → IsRowState row.state.value
    pub expanded : (number : ℕ) (row : Row) → slice_get rows number ≡ Some row → ¬ Waits number → IsExpanded rows ends number row

  -- a graph with the keys of its rows is closed, except for the rows that are open in its worklist
  pub record IsClosedGraph (graph : RowGraph) (ends : List End) (Open : List (ℕ × ℕ) → ℕ → Type 0) : Type 0 where
    pub keys : HaveKeys graph
    pub long : length graph.keys ≡ length graph.rows
    pub closed : IsClosed graph.rows ends (Open graph.work)
