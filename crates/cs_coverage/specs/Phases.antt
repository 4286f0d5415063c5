-- The phase of a watched protocol after the events of a run.
use Rattle.std.specs.Prelude.{ℕ, List, [], ◌∷◌, ◌++◌}
use Rattle.cs_events.specs.declared.event.Event.{Event}
use Rattle.cs_explored.specs.declared.watch.Rule.{Rule}
use Rattle.cs_explored.specs.Watching.{IsPhaseAfter}

-- the phase that the rules determine for these events; at the beginning it is 0
pub data IsPhaseAlong (rules : List Rule) : List Event → ℕ → Type 0 where
  begins : IsPhaseAlong rules [] 0
  follows : {events : List Event} {before after : ℕ} (event : Event) → IsPhaseAlong rules events before → IsPhaseAfter rules before event after
      → IsPhaseAlong rules (events ++ event ∷ []) after
