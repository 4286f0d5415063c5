-- A piece of an initializer, stored in a declared object.
use Rattle.std.specs.Prelude.{ℕ, List, ◌∷◌}
use Rattle.cs_ast.specs.declared.place.Place.{Place}
use Rattle.cs_meaning.specs.Types.{type_of}
use Rattle.cs_meaning.specs.Initials.{Piece, Evaluated, Spelled}
use Rattle.cs_meaning.specs.Machine.{Item, Evaluate, Store, Spell}

-- the things to do to store it, before others
abbrev pub with_piece : Place → ℕ → Piece → List Item → List Item
with_piece at declaration (Evaluated offset e) following = Evaluate e ∷ (Store at declaration offset (type_of e) ∷ following)
with_piece at declaration (Spelled offset bytes) following = Spell declaration offset bytes ∷ following
