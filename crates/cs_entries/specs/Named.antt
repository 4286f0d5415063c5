-- The function of a program that has a given name.
use Rattle.std.specs.Prelude.{◌&&◌, ℕ, nat_eq, is_some, Bool, List, Option}
use Rattle.std.specs.List.{position}
use Rattle.std.specs.Cmp.Lexicographic.{pointwise}
use Rattle.cs_ast.specs.TypedProgram.{TypedProgram, Routine}

-- the function has this name and a body
abbrev pub is_entry : List ℕ → Routine → Bool
is_entry name r = pointwise nat_eq r.name name && is_some r.body

-- the number of the first function with this name and a body, if there is one
abbrev pub entry_of : List ℕ → TypedProgram → Option ℕ
entry_of name program = position (is_entry name) program.routines
