use Rattle.std.proofs.Common.{◌<◌, length, arith}
use Rattle.cs_model.specs.declared.kind.Kind.{Kind}
use Rattle.cs_report_parts.specs.RunLines.{text_of}
use Rattle.cs_report.specs.SummaryLines.{kind_lines}
use Rattle.cs_report.proofs.KindCounts.{lines_more}
use Rattle.cs_report.proofs.counts.append_kinds.Goals as goal

pub loop-kind-preserved : goal.loop-kind-preserved
loop-kind-preserved c =
    let below : c.loop-kind.kind-index < length c.args.kinds.now = omega arith in
    lines_more (λ (kind : Kind). text_of (kind_lines c.args.results.now kind)) c.args.kinds.now c.loop-kind.kind-index _ _ _ _ below
    c.loop-kind.invariant c.in_ok-append_kind.ensures
