-- The sources of rows and ends: each row but the first is a child of its parent, all of whose ends are listed, and each end is one of its row. These are
-- facts about single rows and ends, and hold for the graph at each moment of an exploration.
use Rattle.std.specs.Prelude.{◌≡◌, ◌⊎◌, ◌<◌, ℕ, List, None, Some, length, slice_get}
use Rattle.cs_ast.specs.TypedProgram.{TypedProgram}
use Rattle.cs_events.specs.declared.event.Event.{Event}
use Rattle.cs_events.specs.declared.outcome.RunBudgets.{RunBudgets}
use Rattle.cs_cfg.specs.Graph.{Code}
use Rattle.cs_terms.specs.Table.{HasEachOnce}
use Rattle.cs_state.specs.declared.state.State.{State}
use Rattle.cs_state.specs.Naming.{Naming}
use Rattle.cs_state.specs.Starting.{StartsFrom}
use Rattle.cs_explored.specs.declared.child.Child.{Child}
use Rattle.cs_explored.specs.declared.explored.End.{End}
use Rattle.cs_explored.specs.declared.explored.Row.{Row}
use Rattle.cs_explored.specs.declared.watch.Rule.{Rule}
use Rattle.cs_explored.specs.Placing.{RowGraph, child_row, end_of_row}
use Rattle.cs_successors.specs.Coming.{StateEnd, IsIntegerState, ComesOfState}
use Rattle.cs_coverage.specs.Closing.{AreNames, HaveKeys, BeginsOwn, IsListed}
use Rattle.cs_exactness.specs.Distinct.{KeysDiffer, SiblingsDiffer, EndsDiffer}

module _ (code : Code) (program : TypedProgram) (entry : ℕ) (budgets : RunBudgets) (names : Naming) (rules : List Rule) where
  -- the exploration begins in this state
  pub record IsFirstState (state : State) : Type 0 where
    pub integer : IsIntegerState code program budgets names state
    pub starts : StartsFrom code program entry names state
    pub own : BeginsOwn code program entry names state
    pub phase : state.phase ≡ 0

  -- the first row: it is its own parent, no event leads to it, and it has no guess
  pub record IsFirstRow (row : Row) : Type 0 where
    pub itself : row.parent ≡ 0
    pub no_event : row.event ≡ None
    pub no_guess : row.guess ≡ None
    pub first : IsFirstState row.state.value

  -- these children and ends are all successors of a row's state
  pub record ComesOfRow (rows : List Row) (number : ℕ) (made : List Child) (endings : List StateEnd) : Type 0 where
    pub row : Row
    pub there : slice_get rows number ≡ Some row
    pub all : ComesOfState code program budgets names rules row.state.value made endings

  -- a row is a child of its parent, which is an earlier row
  pub record IsOfParent (rows : List Row) (number : ℕ) (row : Row) : Type 0 where
    pub before : row.parent < number
    pub made : List Child
    pub endings : List StateEnd
    pub parent : ComesOfRow rows row.parent made endings
    pub place : ℕ
    pub child : Child
    pub at : slice_get made place ≡ Some child
    pub same : row ≡ child_row row.parent child

  -- the source of a row
  abbrev pub HasSource : List Row → ℕ → Row → Type 0
  HasSource rows number row = ((number ≡ 0) × IsFirstRow row) ⊎ IsOfParent rows number row

  -- an end is one of its row
  pub record IsOfRow (rows : List Row) (end : End) : Type 0 where
    pub made : List Child
    pub endings : List StateEnd
    pub from : ComesOfRow rows end.row made endings
    pub place : ℕ
    pub one : StateEnd
    pub at : slice_get endings place ≡ Some one
    pub same : end ≡ end_of_row end.row one

  -- all ends of a row are listed
  pub record HasEnds (rows : List Row) (ends : List End) (number : ℕ) : Type 0 where
    pub made : List Child
    pub endings : List StateEnd
    pub from : ComesOfRow rows number made endings
    pub listed : (place : ℕ) (one : StateEnd) → slice_get endings place ≡ Some one → IsListed ends number one

  -- open rows have no successors yet, no two rows or ends are alike, each has a source, and each row that has a child has all its ends
  pub record AreSourced (rows : List Row) (ends : List End) (Are : ℕ → Type 0) : Type 0 where
    pub rows_come : (number : ℕ) (row : Row) → slice_get rows number ≡ Some row → HasSource rows number row
    pub ends_come : (number : ℕ) (end : End) → slice_get ends number ≡ Some end → IsOfRow rows end
    pub keys_differ : KeysDiffer rows
    pub siblings_differ : SiblingsDiffer rows
    pub ends_differ : EndsDiffer ends
    pub ends_listed : (number : ℕ) (row : Row) (event : Event) → slice_get rows number ≡ Some row → row.event ≡ Some event
        → HasEnds rows ends row.parent
    pub no_children : (number : ℕ) (row : Row) (event : Event) → slice_get rows number ≡ Some row → row.event ≡ Some event → ¬ Are row.parent
    pub no_ends : (number : ℕ) (end : End) → slice_get ends number ≡ Some end → ¬ Are end.row

  -- a graph with the keys of its rows, some of which are open in its worklist
  pub record IsSourcedGraph (graph : RowGraph) (ends : List End) (Open : List (ℕ × ℕ) → ℕ → Type 0) : Type 0 where
    pub keys : HaveKeys graph
    pub long : length graph.keys ≡ length graph.rows
    pub sourced : AreSourced graph.rows ends (Open graph.work)

-- under all names that extend these and in which no two symbols have the same name
abbrev pub UnderNames : Naming → (Naming → Type 0) → Type 0
UnderNames given Holds = (names : Naming) → AreNames given names → HasEachOnce names.syms → Holds names
