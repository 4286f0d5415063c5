-- Reaching a variable for an access: for the contracts of `locate` and `locate_variable`.
use Rattle.std.proofs.Common.{◌≡◌, ◌≢◌, ℕ, ℤ, pos, Option, None, Some, refl, ap}
use Rattle.cs_ast.specs.declared.place.Place.{Place}
use Rattle.cs_events.specs.Objects.{Cell, PointerCell}
use Rattle.cs_events.specs.Acts.{Act}
use Rattle.cs_meaning.specs.Access.{offset_number}
use Rattle.cs_cfg.specs.Working.{CodeState}
use Rattle.cs_regions.specs.declared.base.Base.{Base}
use Rattle.cs_state.specs.Cells.{object_of, pointer_to}
use Rattle.cs_steps.specs.Reaching.{reaches}

-- a pointer into a named base region, whose offset is this number, reaches this location
pub reached_is : (base : Option Base) (at : Place) (offset : ℤ) (number : ℕ) (onward : Cell → Act CodeState) → base ≢ None → offset ≡ pos number
    → reaches at (pointer_to base offset) onward ≡ onward (pointer_to base (pos number))
reached_is None at offset number onward named is = absurd (named refl)
reached_is (Some base) at offset number onward named is = ap (λ (n : ℤ). onward (PointerCell (object_of base) (pos (offset_number n)))) is
