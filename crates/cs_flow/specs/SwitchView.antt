-- The ways out of a `switch`, by what is reached first from each of its statements on.
use Rattle.std.specs.Prelude.{ℕ, ◌+◌, List, [], ◌∷◌, length, slice_get, unwrap_or}
use Rattle.cs_ast.specs.declared.typed.statement.Case.{Case}
use Rattle.cs_ast.specs.TypedTree.{Statements, Empty, Then}
use Rattle.cs_meaning.specs.Statements.{has_value, default_item}
use Rattle.cs_cfg.specs.ControlPoints.{Targets, Next, Way, CaseOf, way, with_case, starts, starts_in}

-- what is reached first from each of the statements on
abbrev pub all_starts : Targets → Statements → Next → List Next
all_starts to Empty following = []
all_starts to (Then one others) following = starts to one (starts_in to others following) ∷ all_starts to others following

-- what is reached first from the statement with a number on
abbrev pub start_at : List Next → Next → ℕ → Next
start_at begun following number = unwrap_or (slice_get begun number) following

-- the ways of cases, with the cases with a value counted from a number on, and then that of all other numbers
abbrev pub ways_before : List Next → Next → List Case → ℕ → Next → List Way
ways_before begun following [] number otherwise = way (CaseOf number) otherwise ∷ []
ways_before begun following (one ∷ cases) number otherwise =
    with_case one.value number (start_at begun following one.item) (ways_before begun following cases (number + has_value one.value) otherwise)

abbrev pub ways_of_cases : List Next → Next → List Case → ℕ → List Way
ways_of_cases begun following cases number = ways_before begun following cases number (start_at begun following (default_item cases (length begun)))
