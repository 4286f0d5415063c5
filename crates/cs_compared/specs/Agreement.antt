-- Lists of events that agree up to an index.
use Rattle.std.specs.Prelude.{◌≡◌, ℕ, ◌<◌, List, slice_get}
use Rattle.cs_events.specs.declared.event.Event.{Event}

-- two lists have the same items at the indices below this one
abbrev pub AgreeTo : ℕ → List Event → List Event → Type 0
AgreeTo count one other = (index : ℕ) → index < count → slice_get one index ≡ slice_get other index
