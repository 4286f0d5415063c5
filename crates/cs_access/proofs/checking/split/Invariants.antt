use Rattle.std.proofs.Common.{take}
use Rattle.cs_access.specs.Kinds.{kinds_of}
use Rattle.cs_access.proofs.Splits.{IsSplit}
use Rattle.cs_access.proofs.checking.split.Given as goal

abbrev pub invariant-loop-place : goal.invariant-loop-place
invariant-loop-place l = IsSplit l.state l.subject (kinds_of (take l.place l.found)) l.faults.items l.good
