-- The lines that refuse a file at a position.
use Rattle.std.specs.Prelude.{ℕ, List, ◌++◌, codes}
use Rattle.cs_ast.specs.declared.place.Place.{Place}
use Rattle.cs_model.specs.Places.{located}

-- `WORDS FILE:LINE:COLUMN`; the words end with a space
abbrev pub refusal_line : List ℕ → List ℕ → Place → List ℕ
refusal_line words file at = words ++ located file at ++ codes "\n"
