-- Why an exploration was cut: one row too many, or an access with too many offsets.
use Rattle.std.specs.Prelude.{◌≡◌, ◌<◌, ℕ, ℤ, List, [], ◌∷◌, ◌++◌, Some, length, slice_get, Contains}
use Rattle.cs_ast.specs.declared.place.Place.{Place}
use Rattle.cs_ast.specs.TypedProgram.{TypedProgram}
use Rattle.cs_terms.specs.Term.{Valuation}
use Rattle.cs_constraints.specs.Constraints.{Fits}
use Rattle.cs_events.specs.declared.event.Event.{Event}
use Rattle.cs_events.specs.declared.outcome.RunBudgets.{RunBudgets}
use Rattle.cs_events.specs.Objects.{Object}
use Rattle.cs_events.specs.PendingEvents.{Accesses}
use Rattle.cs_cfg.specs.Graph.{Code}
use Rattle.cs_results.specs.declared.budgets.Budgets.{Budgets}
use Rattle.cs_results.specs.declared.result.Cut.{Cut}
use Rattle.cs_results.specs.declared.result.Cut.TheVariants.{Nodes, Splits}
use Rattle.cs_state.specs.declared.state.State.{State}
use Rattle.cs_state.specs.Meaning.{setting_of}
use Rattle.cs_state.specs.Naming.{Naming}
use Rattle.cs_access.specs.Numbers.{IsAscending}
use Rattle.cs_explored.specs.declared.explored.End.{End}
use Rattle.cs_explored.specs.declared.explored.Row.{Row}
use Rattle.cs_explored.specs.declared.watch.Rule.{Rule}
use Rattle.cs_successors.specs.EntryRuns.{PassesTo}
use Rattle.cs_exactness.specs.Chains.{IsChain}
use Rattle.cs_exactness.specs.FoundFaults.{FindsFaults}
use Rattle.cs_exactness.specs.Graphs.{IsExactGraph}
use Rattle.cs_guesses.specs.Graphs.{IsGuessedGraph}

module _ (code : Code) (program : TypedProgram) (entry : ℕ) (budgets : RunBudgets) (names : Naming) where
  -- the budget of nodes is used up, and one more row was refused. These rows with the refused one are exact, and their guesses real; and for each row that
  -- has a child, the faults directly after its events have been found
  pub record IsOutOfNodes (rules : List Rule) (rows : List Row) (ends : List End) (most nodes : ℕ) : Type 0 where
    pub budget : nodes ≡ most
    pub full : length rows ≡ nodes
    pub refused : Row
    pub exact : IsExactGraph code program entry budgets names rules (rows ++ refused ∷ []) ends
    pub guesses : IsGuessedGraph code program entry budgets names (rows ++ refused ∷ []) ends
    pub finds : FindsFaults code program entry budgets (rows ++ refused ∷ []) ends

  -- after these events, the run of a valuation is about to access an object at an offset, at this place
  abbrev pub IsAboutToReach : State → List Event → Place → Object → Valuation → ℤ → Type 0
  IsAboutToReach state chain at object valuation offset =
      PassesTo code program entry budgets (setting_of names budgets state valuation) chain (Accesses at object offset)

  -- directly after the events of some row, the access at a place may have this many offsets in one object, one under each valuation that fits; these are
  -- more than are followed
  pub record HasManyOffsets (rows : List Row) (most : ℕ) (at : Place) (count : ℕ) : Type 0 where
    pub many : most < count
    pub number : ℕ
    pub row : Row
    pub there : slice_get rows number ≡ Some row
    pub chain : List Event
    pub leads : IsChain rows number chain
    pub object : Object
    pub offsets : List ℤ
    pub ascending : IsAscending offsets
    pub as_many : length offsets ≡ count
    pub each : (valuation : Valuation) → Fits valuation row.state.value.constraints
        → (offset : ℤ) × Contains offsets offset × IsAboutToReach row.state.value chain at object valuation offset
    pub attained : (offset : ℤ) → Contains offsets offset
        → (valuation : Valuation) × Fits valuation row.state.value.constraints × IsAboutToReach row.state.value chain at object valuation offset

  -- the reason of a cut
  abbrev pub IsCutFor : List Rule → List Row → List End → Budgets → Cut → Type 0
  IsCutFor rules rows ends limits (Nodes nodes) = IsOutOfNodes rules rows ends limits.nodes nodes
  IsCutFor rules rows ends limits (Splits at count) = HasManyOffsets rows limits.splits at count

  -- the reason of a cut for an integer entry, in which no access is cut
  pub record IsCutForNodes (rules : List Rule) (rows : List Row) (ends : List End) (most : ℕ) (cut : Cut) : Type 0 where
    pub nodes : ℕ
    pub is : cut ≡ Nodes nodes
    pub reason : IsOutOfNodes rules rows ends most nodes
