-- What was pending at the events before the index is kept.
use Rattle.std.proofs.Common.{◌≡◌, map, take}
use Rattle.cs_run_log.specs.LogView.{pending_of}
use Rattle.cs_witness.specs.Keeping.{noted}
use Rattle.cs_witness.proofs.kept.kept_of.Given as goal

abbrev pub invariant-loop-one : goal.invariant-loop-one
invariant-loop-one l = l.kept.items ≡ map noted (map pending_of (take l.one-index l.pending))
