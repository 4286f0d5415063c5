-- Printed so far: the lines of the kinds before the index.
use Rattle.std.proofs.Common.{◌≡◌, ◌++◌, take}
use Rattle.std.specs.List.{flat_map}
use Rattle.cs_model.specs.declared.kind.Kind.{Kind}
use Rattle.cs_report_parts.specs.RunLines.{text_of}
use Rattle.cs_report.specs.SummaryLines.{kind_lines}
use Rattle.cs_report.proofs.counts.append_kinds.Given as goal

abbrev pub invariant-loop-kind : goal.invariant-loop-kind
invariant-loop-kind l = l.text.items ≡ l.initial.text.items
    ++ flat_map (λ (kind : Kind). text_of (kind_lines l.results kind)) (take l.kind-index l.kinds)
