-- What a store holds at the offsets of all base regions.
use Rattle.std.specs.Prelude.{◌≡◌, ◌↔◌, ℕ, List, map, Some}
use Rattle.std.specs.FinMap.{FinMap, get, entries}
use Rattle.std.specs.Option.{unwrap_or}
use Rattle.std.specs.List.{Contains}
use Rattle.std.specs.List.Sorted.{IsStrictlyIncreasing}
use Rattle.cs_pmap.specs.Keys.{key_cmp}
use Rattle.cs_store.specs.declared.value.Fill.TheVariants.{Unset}
use Rattle.cs_store.specs.declared.value.Binding.{Binding}
use Rattle.cs_store.specs.Contents.{Contents, filled, held_in, by_number, HasOffsets, HoldsNothing}

-- the contents of base regions, keyed by the region's number and 0
abbrev pub Regions : Type 0
Regions = FinMap key_cmp Contents

-- the contents of a base region: unset cells if nothing was written
abbrev pub contents_of : Regions → ℕ → Contents
contents_of store base = unwrap_or (get store (base, 0)) (filled Unset)

-- what a store holds at an offset of a base region
abbrev pub held : Regions → ℕ → ℕ → Binding
held store base offset = held_in (contents_of store base) offset

-- each region holds something, and the second number of each key is 0, for regions and for values
abbrev pub AreInUse : Regions → Type 0
AreInUse store = (key : ℕ × ℕ) (contents : Contents) → get store key ≡ Some contents
    → (key.1 ≡ 0) × ¬ HoldsNothing contents × HasOffsets contents.direct

-- the second number of each key is 0, for regions and for direct bindings
pub record HasPlainKeys (store : Regions) : Type 0 where
  pub regions : (key : ℕ × ℕ) (contents : Contents) → get store key ≡ Some contents → key.1 ≡ 0
  pub bindings : (base : ℕ) → HasOffsets (contents_of store base).direct

-- the base regions that hold something, with their contents
abbrev pub regions_of : Regions → List (ℕ × Contents)
regions_of store = by_number (entries store)

-- the list has exactly the base regions that hold something, with their contents, in ascending order of number
pub record IsRegionListing (store : Regions) (regions : List (ℕ × Contents)) : Type 0 where
  pub rising : IsStrictlyIncreasing (map (λ region. region.0) regions)
  pub exact : (base : ℕ) (contents : Contents) → Contains regions (base, contents) ↔ ((contents_of store base ≡ contents) × ¬ HoldsNothing contents)
