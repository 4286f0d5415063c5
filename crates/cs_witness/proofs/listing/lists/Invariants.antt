-- No path before the index is this path.
use Rattle.std.proofs.Common.{take}
use Rattle.std.specs.Prelude.{Contains}
use Rattle.std.specs.Map.{keys_of}
use Rattle.cs_witness.proofs.listing.lists.Given as goal

abbrev pub invariant-loop-entry : goal.invariant-loop-entry
invariant-loop-entry l = Contains (keys_of (take l.entry-index l.entry-items)) l.path → ⊥
