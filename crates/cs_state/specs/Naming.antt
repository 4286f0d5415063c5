-- What the numbers in states name: symbols, base regions and types, by their indexes in the tables.
use Rattle.std.specs.Prelude.{◌≡◌, ℕ, List, Some, slice_get}
use Rattle.indexmap.specs.IndexMap.{keys}
use Rattle.cs_types.specs.Shape.{Shape}
use Rattle.cs_terms.specs.declared.symbol.SymName.{SymName}
use Rattle.cs_regions.specs.declared.base.Base.{Base}
use Rattle.cs_state.specs.declared.tables.Tables.{Tables}

pub record Naming : Type 0 where
  pub syms : List SymName
  pub bases : List Base
  pub types : List Shape

abbrev pub naming : Tables → Naming
naming tables = record { syms = keys tables.syms.names; bases = keys tables.bases.names; types = tables.types }

-- what has an index keeps it
abbrev pub KeepsPlaces : {Name : Type 0} → List Name → List Name → Type 0
KeepsPlaces {Name} before after = (place : ℕ) (name : Name) → slice_get before place ≡ Some name → slice_get after place ≡ Some name

-- each number names what it named before
pub record Extends (before after : Naming) : Type 0 where
  pub syms : KeepsPlaces before.syms after.syms
  pub bases : KeepsPlaces before.bases after.bases
  pub types : KeepsPlaces before.types after.types
