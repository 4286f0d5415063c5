-- The first steps of a run, computed.
use Rattle.std.specs.Prelude.{ℕ, zero, suc}
use Rattle.cs_events.specs.Acts.{Act}
use Rattle.cs_events.specs.Runs.{Setting, Log, Performed, Continues, Finishes, perform}

module _ {State : Type 0} where
  -- continues a run with a function if it hasn't ended
  abbrev pub onward : (State → Log → Performed State) → Performed State → Performed State
  onward follow (Continues next log) = follow next log
  onward follow (Finishes outcome log) = Finishes outcome log

  -- the state and log after so many steps, or the run's end if it ends earlier
  abbrev pub followed : (State → Act State) → Setting → ℕ → State → Log → Performed State
  followed step setting zero m log = Continues m log
  followed step setting (suc steps) m log = onward (followed step setting steps) (perform setting log (step m))
