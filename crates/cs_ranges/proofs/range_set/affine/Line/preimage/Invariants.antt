use Rattle.std.proofs.Common.{drop}
use Rattle.cs_ranges.proofs.Drawing.{Draws}
use Rattle.cs_ranges.proofs.range_set.affine.Line.preimage.Given as goal

abbrev pub invariant-loop-interval : goal.invariant-loop-interval
invariant-loop-interval l = Draws l.self l.set l.found (drop l.interval-index l.interval-items)
