-- Simulation of one machine by another: their acts show, read, touch and end alike; either may also take silent steps on its own.
use Rattle.std.specs.Prelude.{◌≡◌, ℤ, Bool}
use Rattle.cs_ast.specs.declared.place.Place.{Place}
use Rattle.cs_inputs.specs.declared.path.Path.{Path}
use Rattle.cs_events.specs.declared.outcome.Outcome.{Outcome}
use Rattle.cs_events.specs.declared.operation.Operation.{Operation}
use Rattle.cs_events.specs.declared.input.InputKind.{InputKind}
use Rattle.cs_events.specs.Objects.{Object, Cell}
use Rattle.cs_events.specs.Touches.{Touch}
use Rattle.cs_events.specs.Acts.{Act, Goes, Stops, Reads, Asks, Allocates, Reaches, Touches}

module _ {S T : Type 0} (R : S → T → Type 0) where
  -- two acts that do the same, and lead to related states
  pub data Yields : Act S → Act T → Type 0 where
    both_go : {s : S} {t : T} → R s t → Yields (Goes s) (Goes t)
    both_stop : {outcome : Outcome} → Yields (Stops outcome) (Stops outcome)
    both_read : {path : Path} {kind : InputKind} {f : Cell → Act S} {g : Cell → Act T} → ((cell : Cell) → Yields (f cell) (g cell))
        → Yields (Reads path kind f) (Reads path kind g)
    both_ask : {at : Place} {operation : Operation} {f : ℤ → Act S} {g : ℤ → Act T} → ((number : ℤ) → Yields (f number) (g number))
        → Yields (Asks at operation f) (Asks at operation g)
    both_allocate : {at : Place} {path : Path} {f : Bool → Act S} {g : Bool → Act T} → ((given : Bool) → Yields (f given) (g given))
        → Yields (Allocates at path f) (Allocates at path g)
    both_reach : {at : Place} {object : Object} {offset : ℤ} {a : Act S} {b : Act T} → Yields a b
        → Yields (Reaches at object offset a) (Reaches at object offset b)
    both_touch : {touch : Touch} {a : Act S} {b : Act T} → Yields a b → Yields (Touches touch a) (Touches touch b)

  module _ (step : S → Act S) (step' : T → Act T) where
    -- a state `t` answers `s`: `s` takes a silent step to a state that is still related, or both do the same, after some silent steps
    -- of `t`
    pub data Answers : S → T → Type 0 where
      alone : {s next : S} {t : T} → step s ≡ Goes next → R next t → Answers s t
      together : {s : S} {t : T} → Yields (step s) (step' t) → Answers s t
      first : {s : S} {t next : T} → step' t ≡ Goes next → R s next → Answers s next → Answers s t

    -- each state answers the states related to it
    abbrev pub Simulates : Type 0
    Simulates = (s : S) (t : T) → R s t → Answers s t
