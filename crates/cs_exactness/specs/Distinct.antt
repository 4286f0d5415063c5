-- Rows and ends of a graph differ: no two have the same content.
use Rattle.std.specs.Prelude.{◌≡◌, ℕ, List, Some, slice_get}
use Rattle.cs_events.specs.declared.event.Event.{Event}
use Rattle.cs_keys.specs.Live.{live_part}
use Rattle.cs_explored.specs.declared.explored.End.{End}
use Rattle.cs_explored.specs.declared.explored.Row.{Row}
use Rattle.cs_exactness.specs.Chains.{IsChain}

-- two rows with equal live parts, on which keys depend, are the same row
abbrev pub KeysDiffer : List Row → Type 0
KeysDiffer rows = (one other : ℕ) (first second : Row) → slice_get rows one ≡ Some first → slice_get rows other ≡ Some second
    → live_part first.state.value ≡ live_part second.state.value
    → one ≡ other

-- two rows with the same chain are the same row
abbrev pub ChainsDiffer : List Row → Type 0
ChainsDiffer rows = (one other : ℕ) (chain : List Event) → IsChain rows one chain → IsChain rows other chain → one ≡ other

-- two rows that follow the same row by events with the same label are the same row
abbrev pub SiblingsDiffer : List Row → Type 0
SiblingsDiffer rows = (one other : ℕ) (first second : Row) (here there : Event) → slice_get rows one ≡ Some first → slice_get rows other ≡ Some second
    → first.parent ≡ second.parent → first.event ≡ Some here → second.event ≡ Some there → here.label ≡ there.label
    → one ≡ other

-- two ends of the same row with the same outcome are the same end
abbrev pub EndsDiffer : List End → Type 0
EndsDiffer ends = (one other : ℕ) (first second : End) → slice_get ends one ≡ Some first → slice_get ends other ≡ Some second
    → first.row ≡ second.row → first.outcome ≡ second.outcome
    → one ≡ other

pub record AreDistinct (rows : List Row) (ends : List End) : Type 0 where
  pub keys_differ : KeysDiffer rows
  pub chains_differ : ChainsDiffer rows
  pub siblings_differ : SiblingsDiffer rows
  pub ends_differ : EndsDiffer ends
