use Rattle.std.proofs.Common.{[], sym, subst}
use Rattle.std.specs.List.Sorted.{IsStrictlySortedBy}
use Rattle.cs_findings.specs.GoodEntries.{AreCutsListed}
use Rattle.tests_witness.proofs.witnessed.prepared_said.Goals as goal

none_listed : AreCutsListed []
unfolding IsStrictlySortedBy
none_listed = tt

pub result-requires-clause-cuts : goal.result-requires-clause-cuts
result-requires-clause-cuts c = subst AreCutsListed (sym c.new.ensures.items) none_listed
