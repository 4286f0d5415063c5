-- The findings so far are good, and those of the evident suspects that were examined are listed.
use Rattle.std.proofs.Common.{take}
use Rattle.cs_witness.specs.Witnesses.{AreGoodReports, AreGoodOvers}
use Rattle.cs_witness.proofs.ListedOutcomes.{ListRanked}
use Rattle.cs_witness.proofs.witness.result.Given as goal

abbrev pub invariant-loop-rank : goal.invariant-loop-rank
invariant-loop-rank l = record {
  reports : AreGoodReports l.entry l.findings.reports.items;
  overs : AreGoodOvers l.entry l.findings.overs.items;
  listed : ListRanked l.entry l.suspects (take l.rank-index l.rank-items) l.findings.reports.items l.findings.overs.items;
}
