use Rattle.std.proofs.Common.{◌≡◌}
use Rattle.cs_store.proofs.Same.{AreFound}
use Rattle.cs_store.proofs.store.listed.Given as goal

abbrev pub invariant-loop-key : goal.invariant-loop-key
invariant-loop-key l = (l.listed ≡ l.regions) × AreFound l.regions l.key-iterator
