use Rattle.std.proofs.Common.{◌≡◌, take}
use Rattle.cs_store.specs.Contents.{keyed}
use Rattle.cs_store.proofs.region.keyed.Given as goal

abbrev pub invariant-loop-offset : goal.invariant-loop-offset
invariant-loop-offset l = l.entries.items ≡ keyed (take l.offset-index l.leaves)
