-- The pool was extended so far, by nothing if all partners were found.
use Rattle.std.proofs.Common.{◌≡◌}
use Rattle.std.specs.Prelude.{All}
use Rattle.cs_witness.specs.Keeping.{Widens}
use Rattle.cs_witness.specs.Pooling.{IsFound}
use Rattle.cs_witness.proofs.pools.add_missing_of.Given as goal

abbrev pub invariant-loop-guess : goal.invariant-loop-guess
invariant-loop-guess l = record {
  widens : Widens l.entry l.fn.pool.items l.pool.items;
  none : All IsFound l.row → l.pool.items ≡ l.fn.pool.items;
}
