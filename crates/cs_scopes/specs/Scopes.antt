-- The declarations in scope, the innermost last (C11 6.2.1), and the tags, which have a name space of their own (C11 6.2.3).
use Rattle.std.specs.Prelude.{ℕ, nat_eq, if◌then◌else◌, List, [], ◌∷◌, Option, Some, None}
use Rattle.std.specs.Option.{option_or}
use Rattle.std.specs.Cmp.Lexicographic.{pointwise}
use Rattle.cs_scopes.specs.declared.scope.Tag.{Tag}
use Rattle.cs_scopes.specs.declared.scope.TagMeaning.{TagMeaning}
use Rattle.cs_scopes.specs.Meanings.{Meaning, Declaration}

-- the meaning of a name: that of its last declaration
abbrev pub newest : List ℕ → List Declaration → Option Meaning
newest name [] = None
newest name (d ∷ ds) = option_or (newest name ds) (if pointwise nat_eq d.name name then Some d.meaning else None)

-- the meaning of a tag
abbrev pub tagged : List ℕ → List Tag → Option TagMeaning
tagged name [] = None
tagged name (t ∷ ts) = if pointwise nat_eq name t.name then Some t.meaning else tagged name ts
