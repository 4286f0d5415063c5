-- The pool was extended so far by replays of the corners before the index.
use Rattle.cs_witness.specs.Keeping.{Widens}
use Rattle.cs_witness.proofs.PoolCorners.{Joined}
use Rattle.cs_witness.proofs.pools.add_corners.Given as goal

abbrev pub invariant-loop-corner : goal.invariant-loop-corner
invariant-loop-corner l = record {
  widens : Widens l.entry l.fn.pool.items l.pool.items;
  joined : Joined l.entry l.guess.guess.event l.yielded l.fn.pool.items l.pool.items;
}
