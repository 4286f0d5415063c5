use Rattle.cs_report.proofs.KindCounts.{no_kind, kind_counted}
use Rattle.cs_report.proofs.counts.append_kind.Goals as goal

pub returns-then-count-eq0 : goal.returns-then-count-eq0
returns-then-count-eq0 c = no_kind _ c.args.results.now c.args.kind c.reports_of-count.result c.reports_of-count.ensures c.if-count-eq0.true

pub returns : goal.returns
returns c =
    kind_counted _ _ _ c.args.results.now c.args.kind c.reports_of-count.result c.reports_of-count.ensures c.if-count-eq0.false
    (rw c.name.ensures at c.append.ensures)
