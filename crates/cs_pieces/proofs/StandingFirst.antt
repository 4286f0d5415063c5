-- What comes first in an act, from what remains of it without answers: for the contract of `find`.
use Rattle.std.proofs.Common.{◌≡◌, List, [], refl, subst}
use Rattle.cs_events.specs.declared.event.Event.{Event}
use Rattle.cs_events.specs.Acts.{Act, Goes, Stops, Reads, Asks, Allocates, Reaches, Touches}
use Rattle.cs_events.specs.Runs.{Setting, Log, with_read, with_touch, read_cell, number_of}
use Rattle.cs_event_runs.specs.First.{First, Silent, Ended, operated, shown_if_allowed, first_of}
use Rattle.cs_event_runs.specs.Left.{left_of}

module _ {State : Type 0} (setting : Setting) where
  -- what comes first in what remains, with a log that has these events
  abbrev pub StandsFirst : List Event → First State → Act State → Type 0
  StandsFirst events first (Goes next) = (later : Log) × (later.events ≡ events) × (first ≡ Silent next later)
  StandsFirst events first (Stops outcome) = (later : Log) × (later.events ≡ events) × (first ≡ Ended outcome later)
  StandsFirst events first (Asks at operation onward) =
      (later : Log) × (later.events ≡ events)
      × (first ≡ shown_if_allowed setting later at (operated setting later at operation) later (onward (number_of setting later operation)))
  StandsFirst events first (Reads path kind onward) = Unit {0}
  StandsFirst events first (Allocates at path onward) = Unit {0}
  StandsFirst events first (Reaches at object offset act) = Unit {0}
  StandsFirst events first (Touches touch act) = Unit {0}

  stands : (log : Log) (act : Act State) → StandsFirst log.events (first_of setting log act) (left_of (read_cell setting) [] act)
  unfolding left_of first_of
  stands log (Goes next) = (log, refl, refl)
  stands log (Stops outcome) = (log, refl, refl)
  stands log (Reads path kind onward) = stands (with_read log path kind) (onward (read_cell setting path kind))
  stands log (Touches touch act) = stands (with_touch log touch) act
  stands log (Asks at operation onward) = (log, refl, refl)
  stands log (Allocates at path onward) = tt
  stands log (Reaches at object offset act) = tt

  -- the same for an act of which this remains
  pub stands_first : (log : Log) (act left : Act State) → left_of (read_cell setting) [] act ≡ left
      → StandsFirst log.events (first_of setting log act) left
  stands_first log act left is = subst (StandsFirst log.events (first_of setting log act)) is (stands log act)
