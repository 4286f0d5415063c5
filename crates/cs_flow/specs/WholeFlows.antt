-- The flows of the first functions of a program.
use Rattle.std.specs.Prelude.{ℕ, List, take}
use Rattle.std.specs.List.{flat_map}
use Rattle.cs_ast.specs.TypedProgram.{TypedProgram, Routine}
use Rattle.cs_cfg.specs.FlowText.{routine_text}

-- the flow of a function
abbrev pub flow_of : List (List ℕ) → Routine → List ℕ
flow_of files routine = routine_text files routine routine.body

-- the flows of the first `count` functions
abbrev pub first_flows : TypedProgram → ℕ → List ℕ
first_flows program count = flat_map (flow_of program.files) (take count program.routines)
