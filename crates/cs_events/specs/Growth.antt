-- Logs only grow: entries are never removed.
use Rattle.std.specs.Prelude.{◌≡◌, List, ◌++◌}
use Rattle.cs_events.specs.declared.input.Lookup.{Lookup}
use Rattle.cs_events.specs.PendingEvents.{Pending}
use Rattle.cs_events.specs.declared.event.Event.{Event}
use Rattle.cs_events.specs.Touches.{Touch}
use Rattle.cs_events.specs.Runs.{Log, Performed, Continues, Finishes}

-- the later log extends the other one
pub record GoesOn (log later : Log) : Type 0 where
  pub events : (more : List Event) × (later.events ≡ log.events ++ more)
  pub pending : (more : List Pending) × (later.pending ≡ log.pending ++ more)
  pub read : (more : List Lookup) × (later.read ≡ log.read ++ more)
  pub touches : (more : List Touch) × (later.touches ≡ log.touches ++ more)

-- the log after an act
abbrev pub log_of : {State : Type 0} → Performed State → Log
log_of (Continues next log) = log
log_of (Finishes outcome log) = log
