-- The pool was extended so far by the corners of the guesses before the index.
use Rattle.std.proofs.Common.{take}
use Rattle.cs_findings.specs.Runs.{run_of}
use Rattle.cs_witness.specs.Keeping.{Widens}
use Rattle.cs_witness.specs.Pooling.{AddsAllCorners}
use Rattle.cs_witness.proofs.pools.add_all_corners.Given as goal

abbrev pub invariant-loop-guess : goal.invariant-loop-guess
invariant-loop-guess l = record {
  widens : Widens l.entry l.fn.pool.items l.pool.items;
  corners : AddsAllCorners l.entry (run_of l.run) (take l.guess-index l.guesses) l.fn.pool.items l.pool.items;
}
