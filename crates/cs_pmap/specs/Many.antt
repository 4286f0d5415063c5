-- Many entries at once.
use Rattle.std.specs.Prelude.{◌≡◌, ◌⊎◌, ℕ, [], ◌∷◌, ◌++◌}
use Rattle.std.specs.declared.cmp.Ordering.{Ordering}
use Rattle.std.specs.declared.cmp.Ordering.TheVariants.{Less, Greater}
use Rattle.std.specs.FinMap.{FinMap, put, insert}
use Rattle.cs_pmap.specs.Keys.{EntryList, key_cmp}
use Rattle.cs_pmap.specs.declared.merge.Around.{Around}

module _ {V : Type 0} where
  -- a map after entries were inserted, one after another
  abbrev pub insert_all : FinMap key_cmp V → EntryList V → FinMap key_cmp V
  insert_all map [] = map
  insert_all map (e ∷ es) = insert_all (insert map e.0 e.1) es

  -- the same for the list of a map's entries
  abbrev pub put_all : EntryList V → EntryList V → EntryList V
  put_all [] entries = entries
  put_all (e ∷ es) entries = put_all es (put key_cmp e.0 e.1 entries)

  -- each key compares to this one in the same way
  abbrev pub AllCompare : Ordering → ℕ × ℕ → EntryList V → Type 0
  AllCompare order key [] = Unit {0}
  AllCompare order key (e ∷ es) = (key_cmp e.0 key ≡ order) × AllCompare order key es

  -- the entries before and after a key, and its value: that of its own entry, or the kept one if it has none
  pub record IsSplitAround (entries : EntryList V) (key : ℕ × ℕ) (kept : V) (around : Around V) : Type 0 where
    pub whole : ((entries ≡ around.before.now ++ around.after.now) × (around.value.now ≡ kept))
        ⊎ (entries ≡ around.before.now ++ (key, around.value.now) ∷ around.after.now)
    pub before : AllCompare Less key around.before.now
    pub after : AllCompare Greater key around.after.now
