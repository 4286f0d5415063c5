-- What the lowering of a `switch` ensures (C11 6.8.4.2).
use Rattle.std.specs.Prelude.{ℕ, ℤ, List, [], ◌∷◌, length, Option, Some, None}
use Rattle.cs_ast.specs.declared.place.Place.{Place}
use Rattle.cs_ast.specs.declared.typed.statement.Case.{Case}
use Rattle.cs_meaning.specs.Statements.{default_item}
use Rattle.cs_cfg.specs.Graph as graph
use Rattle.cs_cfg.specs.Graph.{Point, SwitchCase}
use Rattle.cs_lower.specs.Statements.{block_at}

-- adds a case, if it has a value, before others
abbrev pub with_case : Option ℤ → ℕ → List SwitchCase → List SwitchCase
with_case None block others = others
with_case (Some value) block others = record { value = value; block = block } ∷ others

-- the cases with a value, each with the block of its statement
abbrev pub cases_to : List ℕ → ℕ → List Case → List SwitchCase
cases_to blocks end [] = []
cases_to blocks end (one ∷ others) = with_case one.value (block_at blocks end one.item) (cases_to blocks end others)

-- the code that selects the block of the case for a number, else that of `default`, else the end of all statements
abbrev pub leads_to : Place → List Case → List ℕ → ℕ → Point
leads_to at cases blocks end =
    record { operations = []; end = graph.Switch at 0 (cases_to blocks end cases) (block_at blocks end (default_item cases (length blocks))) }
