-- The rest of an act once its first events have been answered: an exploration stops between any two events of a step.
use Rattle.std.specs.Prelude.{ℤ, List, [], ◌∷◌}
use Rattle.cs_inputs.specs.declared.path.Path.{Path}
use Rattle.cs_events.specs.declared.input.InputKind.{InputKind}
use Rattle.cs_events.specs.Operations.{is_true}
use Rattle.cs_events.specs.Objects.{Cell}
use Rattle.cs_events.specs.Acts.{Act, Goes, Stops, Reads, Asks, Allocates, Reaches, Touches}

module _ {State : Type 0} where
  -- the rest of an act after some answers. An answer is the number that an operation continues with; for an allocation, only whether it is 0
  -- counts, and for an offset it isn't used. The cells of inputs are known: lookups and touches are skipped, so that the rest begins with
  -- an event, a state or an end
  unfoldable pub left_of : (Path → InputKind → Cell) → List ℤ → Act State → Act State
  left_of cells answers (Goes next) = Goes next
  left_of cells answers (Stops outcome) = Stops outcome
  left_of cells answers (Reads path kind onward) = left_of cells answers (onward (cells path kind))
  left_of cells answers (Touches touch act) = left_of cells answers act
  left_of cells [] (Asks at operation onward) = Asks at operation onward
  left_of cells [] (Allocates at path onward) = Allocates at path onward
  left_of cells [] (Reaches at object offset act) = Reaches at object offset act
  left_of cells (answer ∷ answers) (Asks at operation onward) = left_of cells answers (onward answer)
  left_of cells (answer ∷ answers) (Allocates at path onward) = left_of cells answers (onward (is_true answer))
  left_of cells (answer ∷ answers) (Reaches at object offset act) = left_of cells answers act
