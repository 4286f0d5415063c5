-- What `find` finds for a state of an integer function: all its successors.
use Rattle.std.specs.Prelude.{◌≡◌, []}
use Rattle.cs_ast.specs.TypedProgram.{TypedProgram}
use Rattle.cs_state.specs.declared.state.State.{State}
use Rattle.cs_state.specs.Naming.{Naming}
use Rattle.cs_children.specs.declared.children.Children.{Children}
use Rattle.cs_successors.specs.declared.exploration.Exploration.{Exploration}
use Rattle.cs_successors.specs.Explorations.{code_of, limits_of, Explores}
use Rattle.cs_successors.specs.Coming.{IsIntegerState, ComesOfState, IsReachedFrom}

-- no successors and no cuts
pub record AreNone (children : Children) : Type 0 where
  pub made : children.made.items ≡ []
  pub ends : children.ends.items ≡ []
  pub cuts : children.cuts.items ≡ []

-- all successors of a state are found, and the exploration isn't cut there, if the state is one of an integer function
abbrev pub FindsAll : Exploration → Naming → State → Children → Type 0
FindsAll exploration given state found =
    (names : Naming) (program : TypedProgram) → Explores exploration given names program
    → IsIntegerState (code_of exploration) program (limits_of exploration) names state
    → ComesOfState (code_of exploration) program (limits_of exploration) names exploration.rules.now state found.made.items found.ends.items
    × (found.cuts.items ≡ [])

-- so far the runs of a state have reached another state, or one of the ends that were found; nothing else was found
pub record FindsSoFar (exploration : Exploration) (given : Naming) (before state : State) (found : Children) : Type 0 where
  pub made : found.made.items ≡ []
  pub cuts : found.cuts.items ≡ []
  pub reached : (names : Naming) (program : TypedProgram) → Explores exploration given names program
      → IsIntegerState (code_of exploration) program (limits_of exploration) names before
      → IsReachedFrom (code_of exploration) program (limits_of exploration) names before state found.ends.items
