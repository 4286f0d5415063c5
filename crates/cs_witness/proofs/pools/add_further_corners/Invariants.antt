-- The pool was extended so far, by nothing if all guesses have proofs.
use Rattle.std.proofs.Common.{◌≡◌}
use Rattle.cs_witness.specs.Keeping.{Widens}
use Rattle.cs_witness.specs.Pooling.{HaveProofs}
use Rattle.cs_witness.proofs.pools.add_further_corners.Given as goal

abbrev pub invariant-loop-round : goal.invariant-loop-round
invariant-loop-round l = record {
  widens : Widens l.entry l.fn.pool.items l.pool.items;
  none : HaveProofs l.entry.program.now.model l.fn.pool.items → l.pool.items ≡ l.fn.pool.items;
}
