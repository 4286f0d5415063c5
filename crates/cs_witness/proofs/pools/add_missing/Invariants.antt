-- The pool was extended so far, by nothing if all partners were found.
use Rattle.std.proofs.Common.{◌≡◌}
use Rattle.cs_witness.specs.Keeping.{Widens}
use Rattle.cs_witness.specs.Pooling.{AreFound}
use Rattle.cs_witness.proofs.pools.add_missing.Given as goal

abbrev pub invariant-loop-number : goal.invariant-loop-number
invariant-loop-number l = record {
  widens : Widens l.entry l.fn.pool.items l.pool.items;
  none : AreFound l.found → l.pool.items ≡ l.fn.pool.items;
}
