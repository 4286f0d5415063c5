-- Printed so far: the lines of the selected reports before the index.
use Rattle.std.proofs.Common.{◌≡◌, ◌++◌, take}
use Rattle.std.specs.List.{flat_map, filter}
use Rattle.cs_ast.specs.TypedProgram.{typed_program}
use Rattle.cs_results.specs.declared.finding.Finding.{Finding}
use Rattle.cs_results.specs.Selected.{is_selected}
use Rattle.cs_report_parts.specs.RunLines.{text_of}
use Rattle.cs_report.specs.AnalysisLines.{finding_lines}
use Rattle.cs_report.proofs.entry.append_reports.Given as goal

abbrev pub invariant-loop-report : goal.invariant-loop-report
invariant-loop-report l = l.text.items ≡ l.initial.text.items
    ++ flat_map (λ (f : Finding). text_of (finding_lines (typed_program l.program) f))
    (filter (λ (f : Finding). is_selected l.kinds f.what) (take l.report-index l.reports))
