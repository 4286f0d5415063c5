-- The entries before the index were copied.
use Rattle.std.proofs.Common.{◌≡◌, take}
use Rattle.cs_witness.proofs.copies.copy_entries.Given as goal

abbrev pub invariant-loop-entry : goal.invariant-loop-entry
invariant-loop-entry l = l.made ≡ take l.entry-index l.entries
