-- Printed so far: the lines of the met budgets before the index.
use Rattle.std.proofs.Common.{◌≡◌, ◌++◌, take}
use Rattle.std.specs.List.{flat_map}
use Rattle.cs_ast.specs.TypedProgram.{typed_program}
use Rattle.cs_results.specs.declared.finding.Finding.{Finding}
use Rattle.cs_report_parts.specs.RunLines.{text_of}
use Rattle.cs_report.specs.AnalysisLines.{finding_lines}
use Rattle.cs_report.proofs.entry.append_overs.Given as goal

abbrev pub invariant-loop-over : goal.invariant-loop-over
invariant-loop-over l = l.text.items ≡ l.initial.text.items
    ++ flat_map (λ (f : Finding). text_of (finding_lines (typed_program l.program) f)) (take l.over-index l.overs)
