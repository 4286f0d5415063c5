-- Objects that are reached for an access.
use Rattle.std.specs.Prelude.{◌≡◌, ℕ, pos, List, slice_get}
use Rattle.cs_ast.specs.declared.place.Place.{Place}
use Rattle.cs_terms.specs.declared.term.Lin.{Lin}
use Rattle.cs_terms.specs.Term.{Valuation, value_of}
use Rattle.cs_events.specs.Objects.{Cell, PointerCell}
use Rattle.cs_events.specs.Acts.{Act}
use Rattle.cs_meaning.specs.Access.{direct}
use Rattle.cs_cfg.specs.Working.{CodeState}
use Rattle.cs_regions.specs.declared.base.Base.{Base}
use Rattle.cs_state.specs.Cells.{pointer_to}
use Rattle.cs_steps.specs.declared.access.Reached.{Reached}

-- a part of an act that reaches a variable, or a member of one: it yields the pointer to it
abbrev pub reaches : Place → Cell → (Cell → Act CodeState) → Act CodeState
reaches at cell onward = direct at cell (λ object n. onward (PointerCell object (pos n)))

-- the pointer to the reached object
abbrev pub cell_reached : List Base → Reached → Valuation → Cell
cell_reached bases reached valuation = pointer_to (slice_get bases reached.base) (pos reached.offset)

-- an offset that isn't below 0 under any valuation, and is the same under all
abbrev pub IsByte : Lin → ℕ → Type 0
IsByte offset number = (valuation : Valuation) → value_of valuation offset ≡ pos number
