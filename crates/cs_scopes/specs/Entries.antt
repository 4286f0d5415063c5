-- The declarations in scope beside a table of names, and tags as a table: no look-up searches a list.
use Rattle.std.specs.Prelude.{◌≡◌, ℕ, suc, nat_eq, nat_le, Bool, false, if◌then◌else◌, List, [], ◌∷◌, ◌++◌, map, Option, Some, None}
use Rattle.std.specs.Option.{option_or, option_map, option_flatten}
use Rattle.std.specs.Cmp.Lexicographic.{pointwise}
use Rattle.indexmap.specs.IndexMap.{IndexMap, get}
use Rattle.cs_scopes.specs.declared.entries.Entry.{Entry}
use Rattle.cs_scopes.specs.declared.scope.Tag.{Tag}
use Rattle.cs_scopes.specs.declared.scope.TagMeaning.{TagMeaning}
use Rattle.cs_scopes.specs.Meanings.{Declaration, declaration_of}

-- the declarations of entries
abbrev pub declarations_in : List Entry → List Declaration
declarations_in entries = map (λ (e : Entry). declaration_of e.declaration) entries

-- the index of a name's last declaration
abbrev pub newest_place : List ℕ → List Declaration → Option ℕ
newest_place name [] = None
newest_place name (d ∷ ds) = option_or (option_map suc (newest_place name ds)) (if pointwise nat_eq d.name name then Some 0 else None)

-- the index that a table has for a name
abbrev pub place_at : {S : Type 0} → IndexMap (List ℕ) (Option ℕ) S → List ℕ → Option ℕ
place_at places name = option_flatten (get (pointwise nat_eq) places name)

-- the table has the index of each name's last declaration, and each entry that of the last one of its name before it
pub record Indexed {S : Type 0} (places : IndexMap (List ℕ) (Option ℕ) S) (entries : List Entry) : Type 0 where
  pub each : (name : List ℕ) → place_at places name ≡ newest_place name (declarations_in entries)
  pub before : (first following : List Entry) (e : Entry) → entries ≡ first ++ e ∷ following
      → e.before ≡ newest_place e.declaration.name (declarations_in first)

-- a name has this index now, or none, and the other names have theirs
abbrev pub HasEntered : {S : Type 0} → IndexMap (List ℕ) (Option ℕ) S → IndexMap (List ℕ) (Option ℕ) S → List ℕ → Option ℕ → Type 0
HasEntered old new name place = (other : List ℕ) → place_at new other ≡ (if pointwise nat_eq name other then place else place_at old other)

-- an index, if there is one, after the first `outer` ones
abbrev pub is_after : ℕ → Option ℕ → Bool
is_after outer (Some place) = nat_le outer place
is_after outer None = false

-- the tags of a table's entries
abbrev pub tag_of : List ℕ × TagMeaning → Tag
tag_of e = record { name = e.0; meaning = e.1 }

abbrev pub tags_in : List (List ℕ × TagMeaning) → List Tag
tags_in entries = map tag_of entries
