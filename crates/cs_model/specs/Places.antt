-- The text of a source position.
use Rattle.std.specs.Prelude.{ℕ, List, [], ◌++◌, codes, slice_index_or}
use Rattle.std.specs.Fmt.{decimal}
use Rattle.cs_ast.specs.declared.place.Place.{Place}

-- `FILE:LINE:COLUMN`, given the file's name
abbrev pub located : List ℕ → Place → List ℕ
located file at = file ++ codes ":" ++ decimal at.line ++ codes ":" ++ decimal at.column

-- the same, given the names of all files
abbrev pub place_text : List (List ℕ) → Place → List ℕ
place_text files at = located (slice_index_or files at.file []) at
