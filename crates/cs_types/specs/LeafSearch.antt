-- Steps of the search for the scalar at an offset, which divides offsets: the contracts of its parts cite them.
use Rattle.std.specs.Prelude.{◌≡◌, ℕ, suc, ◌≤◌, List, [], ◌∷◌, nat_le, if◌then◌else◌, Option, Some, None, MatchOption}
use Rattle.std.specs.Borrow.{Bor}
use Rattle.std.specs.Option.{option_or}
use Rattle.cs_types.specs.declared.ctype.CType.{CType}
use Rattle.cs_types.specs.declared.data_model.DataModel.{DataModel}
use Rattle.cs_types.specs.declared.layout.Base.{Base}
use Rattle.cs_types.specs.declared.layout.Base.TheVariants.{Scalar, Inside}
use Rattle.cs_types.specs.Members.{Member}
use Rattle.cs_types.specs.declared.structs.StructType.{StructType}
use Rattle.cs_types.specs.Shape.{Shape, shape_of}
use Rattle.cs_types.specs.Layout.{Layout, layout_with, struct_layout, scalar_at, complete_count, HasSmallSizes}

-- the layout of a type in which structs are nested at most `depth` deep
abbrev pub layout_within : DataModel → List StructType → ℕ → Shape → Option Layout
layout_within model table depth shape = layout_with model (struct_layout model table depth) shape

-- the last of the members that begin at or before an offset
abbrev pub last_at : ℕ → List Member → Option Member
last_at offset [] = None
last_at offset (m ∷ ms) = option_or (last_at offset ms) (if nat_le m.offset offset then Some m else None)

-- what was found at an offset of an array's elements is what the layout has there
abbrev pub IsBase : DataModel → List StructType → ℕ → Layout → ℕ → Base → Type 0
IsBase model table depth layout offset (Scalar found) = scalar_at offset layout.leaves ≡ Some (shape_of found.now)
IsBase model table depth layout offset (Inside number rest) =
    (held : Layout) × (struct_layout model table depth number ≡ Some held) × (scalar_at offset layout.leaves ≡ scalar_at rest held.leaves)

-- arrays are divided away
abbrev pub DividesArrays : DataModel → List StructType → Shape → ℕ → Option Base → Type 0
DividesArrays model table shape offset answer = (depth : ℕ) (layout : Layout) → depth ≤ complete_count table
    → layout_within model table depth shape ≡ Some layout
    → MatchOption answer (scalar_at offset layout.leaves ≡ None) (IsBase model table depth layout offset)

-- a member's type has at the offset in it what the struct has at its offset
pub record IsHeld (model : DataModel) (table : List StructType) (depth : ℕ) (layout : Layout) (offset : ℕ) (held : Shape) (rest : ℕ) : Type 0 where
  pub inner : Layout
  pub laid : layout_within model table depth held ≡ Some inner
  pub same : scalar_at offset layout.leaves ≡ scalar_at rest inner.leaves
  pub small : HasSmallSizes model table held

-- the member that contains an offset of a struct
abbrev pub EntersMember : DataModel → List StructType → ℕ → ℕ → Option (Bor CType × ℕ) → Type 0
EntersMember model table number offset answer = (depth : ℕ) (layout : Layout) → suc depth ≤ complete_count table
    → struct_layout model table (suc depth) number ≡ Some layout
    → MatchOption answer (scalar_at offset layout.leaves ≡ None) (λ found. IsHeld model table depth layout offset (shape_of found.0.now) found.1)
