-- The labels of statements, each with its counted point.
use Rattle.std.specs.Prelude.{ℕ, [], Option, option_map}
use Rattle.cs_ast.specs.TypedTree.{Statement, Statements}
use Rattle.cs_ast.specs.TypedProgram.{Routine}
use Rattle.cs_meaning.specs.Machine.{body_of}
use Rattle.cs_meaning.specs.Jumps.{Landing, landing, landing_in}

-- the counted point of the first label with a number in a statement, if there is one; `counted_point` is the number of the statement's first one
abbrev pub label_in : ℕ → Statement → ℕ → Option ℕ
label_in wanted s counted_point = option_map (λ (l : Landing). l.counted_point) (landing wanted s counted_point [])

-- the same for consecutive statements
abbrev pub label_among : ℕ → Statements → ℕ → Option ℕ
label_among wanted statements counted_point = option_map (λ (l : Landing). l.counted_point) (landing_in wanted statements counted_point [])

-- the same for the body of a function
abbrev pub point_of_label : Routine → ℕ → Option ℕ
point_of_label routine wanted = label_in wanted (body_of routine) 0
