-- Counted so far: the reports of the entries before the index.
use Rattle.std.proofs.Common.{◌≡◌, ◌≤◌, ◌*◌, ◌^◌, take}
use Rattle.cs_report.specs.SummaryLines.{reports_of}
use Rattle.cs_report.proofs.counts.reports_of.Given as goal

abbrev pub invariant-loop-entry : goal.invariant-loop-entry
invariant-loop-entry l = (l.count ≡ reports_of l.kind (take l.entry-index l.results)) × (l.count ≤ l.entry-index * 2 ^ 64)
