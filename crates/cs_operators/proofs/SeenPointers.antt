-- Inspected pointers: for the contracts of `not_null`, `named` and `arrow`.
use Rattle.std.proofs.Common.{◌≡◌, ◌≢◌, ◌+ℤ◌, ℕ, ℤ, pos, Bool, true, false, List, Option, None, Some, slice_get, refl, sym, ap, ◌∙◌}
use Rattle.cs_ast.specs.declared.place.Place.{Place}
use Rattle.cs_model.specs.declared.kind.Kind.TheVariants as kind
use Rattle.cs_terms.specs.Term.{Valuation, value_of}
use Rattle.cs_regions.specs.declared.base.Base.{Base}
use Rattle.cs_events.specs.declared.outcome.Outcome.TheVariants.{Fault}
use Rattle.cs_events.specs.Objects.{Object, Cell, NumberCell, NullCell, PointerCell, UnsetCell}
use Rattle.cs_events.specs.Acts.{Act, Stops}
use Rattle.cs_meaning.specs.Access as access
use Rattle.cs_meaning.specs.Operators as operators
use Rattle.cs_cfg.specs.Working.{CodeState}
use Rattle.cs_state.specs.Cells.{pointer_to, object_of}
use Rattle.cs_progress.specs.declared.pointers.Seen.{Seen}
use Rattle.cs_progress.specs.declared.pointers.Seen.TheVariants as seen
use Rattle.cs_progress.specs.Seeing.{IsNoPointer, IsSeen, IsSeenNamed}
use Rattle.cs_operators.proofs.Checks.{is_null}

abbrev pub is_seen_null : Seen → Bool
is_seen_null seen.Null = true
is_seen_null (seen.At base offset) = false
is_seen_null seen.Other = false

pub other_seen : (what : Seen) → what ≢ seen.Null → is_seen_null what ≡ false
other_seen seen.Null other = absurd (other refl)
other_seen (seen.At base offset) other = refl
other_seen seen.Other other = refl

named_there : (base : Option Base) (offset : ℤ) → base ≢ None → is_null (pointer_to base offset) ≡ false
named_there None offset named = absurd (named refl)
named_there (Some base) offset named = refl

no_pointer : (cell : Cell) → IsNoPointer cell → is_null cell ≡ false
no_pointer (NumberCell n) none = refl
no_pointer UnsetCell none = refl
no_pointer NullCell none = absurd none
no_pointer (PointerCell object offset) none = absurd none

module _ (bases : List Base) (v : Valuation) where
  -- a cell is null exactly if null was seen
  pub null_is_seen : (what : Seen) (cell : Cell) → IsSeenNamed bases what → IsSeen bases v what cell → is_null cell ≡ is_seen_null what
  null_is_seen seen.Null cell named is = ap is_null is
  null_is_seen (seen.At base offset) cell named is = ap is_null is ∙ named_there (slice_get bases base) (value_of v offset) named
  null_is_seen seen.Other cell named is = no_pointer cell is

-- what isn't a pointer points to no object
pub names_nothing : (cell : Cell) (at : Place) (onward : Object → ℤ → Act CodeState) → IsNoPointer cell
    → access.named at cell onward ≡ Stops (Fault kind.Unset at)
names_nothing (NumberCell n) at onward none = refl
names_nothing UnsetCell at onward none = refl
names_nothing NullCell at onward none = absurd none
names_nothing (PointerCell object offset) at onward none = absurd none

-- a member of what isn't a pointer is unset
pub no_member : (cell : Cell) (bytes : ℕ) → IsNoPointer cell → operators.pointed cell bytes ≡ UnsetCell
no_member (NumberCell n) bytes none = refl
no_member UnsetCell bytes none = refl
no_member NullCell bytes none = absurd none
no_member (PointerCell object offset) bytes none = absurd none

-- the member of an object, from a pointer into a named base region
pub member_at : (base : Option Base) (offset moved : ℤ) (bytes : ℕ) → moved ≡ offset +ℤ pos bytes
    → operators.pointed (pointer_to base offset) bytes ≡ pointer_to base moved
member_at None offset moved bytes is = refl
member_at (Some base) offset moved bytes is = ap (PointerCell (object_of base)) (sym is)
