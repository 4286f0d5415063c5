-- The names of parameters.
use Rattle.std.specs.Prelude.{◌≡◌, ◌<◌, ℕ, List, Some, slice_get}
use Rattle.cs_ast.specs.declared.typed.program.Local.{Local}

-- no parameter before the one with this number has its name
abbrev pub DiffersFromBefore : List Local → ℕ → Type 0
DiffersFromBefore parameters number = (earlier : ℕ) (v w : Local) → earlier < number → slice_get parameters earlier ≡ Some v
    → slice_get parameters number ≡ Some w
    → v.name ≡ w.name
    → ⊥
