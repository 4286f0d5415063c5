-- The paths before the index were added.
use Rattle.std.proofs.Common.{map, take}
use Rattle.cs_witness.specs.Listing.{Adds, path_read}
use Rattle.cs_witness.proofs.listing.add_read.Given as goal

abbrev pub invariant-loop-lookup : goal.invariant-loop-lookup
invariant-loop-lookup l = Adds l.given (map path_read (take l.lookup-index l.read)) l.fn.inputs l.inputs
