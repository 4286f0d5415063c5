-- The replays are unchanged except for their partners, and those before the index name what was found for them.
use Rattle.std.proofs.Common.{◌≡◌, length}
use Rattle.cs_witness.specs.Keeping.{KeepsRuns}
use Rattle.cs_witness.proofs.Namings.{AreNamedBelow}
use Rattle.cs_witness.proofs.pools.name_partners.Given as goal

abbrev pub invariant-loop-number : goal.invariant-loop-number
invariant-loop-number l = record {
  runs : KeepsRuns l.fn.pool.items l.pool.items;
  count : length l.pool.items ≡ length l.fn.pool.items;
  named : AreNamedBelow l.number l.found l.pool.items;
}
