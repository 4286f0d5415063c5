-- Printed so far: the lines of the entries before the index.
use Rattle.std.proofs.Common.{◌≡◌, ◌++◌, take}
use Rattle.std.specs.List.{flat_map}
use Rattle.cs_ast.specs.TypedProgram.{typed_program}
use Rattle.cs_results.specs.declared.result.EntryResult.{EntryResult}
use Rattle.cs_report_parts.specs.RunLines.{text_of}
use Rattle.cs_report.specs.AnalysisLines.{entry_lines}
use Rattle.cs_report.proofs.entry.append_results.Given as goal

abbrev pub invariant-loop-entry : goal.invariant-loop-entry
invariant-loop-entry l = l.text.items ≡ l.initial.text.items
    ++ flat_map (λ (entry : EntryResult). text_of (entry_lines (typed_program l.program) l.kinds entry)) (take l.entry-index l.results)
