-- Where an inspected pointer points.
use Rattle.std.specs.Prelude.{◌≡◌, ◌≢◌, List, None, slice_get}
use Rattle.cs_terms.specs.Term.{Valuation, value_of}
use Rattle.cs_constraints.specs.Constraints.{Fits}
use Rattle.cs_regions.specs.declared.base.Base.{Base}
use Rattle.cs_store.specs.declared.value.Value.{Value}
use Rattle.cs_events.specs.Objects.{Cell, NumberCell, NullCell, PointerCell, UnsetCell}
use Rattle.cs_state.specs.declared.state.State.{State}
use Rattle.cs_state.specs.Cells.{cell_of, pointer_to}
use Rattle.cs_progress.specs.declared.pointers.Seen.{Seen}
use Rattle.cs_progress.specs.declared.pointers.Seen.TheVariants.{Null, At, Other}

-- a cell that is neither null nor points to an object
abbrev pub IsNoPointer : Cell → Type 0
IsNoPointer (NumberCell number) = Unit {0}
IsNoPointer UnsetCell = Unit {0}
IsNoPointer NullCell = ⊥
IsNoPointer (PointerCell object offset) = ⊥

-- what is seen of a cell, with these base regions
abbrev pub IsSeen : List Base → Valuation → Seen → Cell → Type 0
IsSeen bases valuation Null cell = cell ≡ NullCell
IsSeen bases valuation (At base offset) cell = cell ≡ pointer_to (slice_get bases base) (value_of valuation offset)
IsSeen bases valuation Other cell = IsNoPointer cell

-- under each valuation that fits the state, this is seen of the cell of the value
abbrev pub IsSeenIn : State → Value → Seen → Type 0
IsSeenIn state value seen =
    (bases : List Base) (valuation : Valuation) → Fits valuation state.constraints
    → IsSeen bases valuation seen (cell_of bases state.blocks valuation value)

-- the base region that is seen has a name
abbrev pub IsSeenNamed : List Base → Seen → Type 0
IsSeenNamed bases Null = Unit {0}
IsSeenNamed bases (At base offset) = slice_get bases base ≢ None
IsSeenNamed bases Other = Unit {0}
