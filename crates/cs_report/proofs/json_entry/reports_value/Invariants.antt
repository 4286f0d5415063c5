-- Made so far: the values of the selected reports before the index.
use Rattle.std.proofs.Common.{◌≡◌, map, take}
use Rattle.std.specs.List.{filter}
use Rattle.serde_json.specs.View.{view}
use Rattle.cs_ast.specs.TypedProgram.{typed_program}
use Rattle.cs_results.specs.declared.finding.Finding.{Finding}
use Rattle.cs_results.specs.Selected.{is_selected}
use Rattle.cs_report.specs.AnalysisJson.{finding_json}
use Rattle.cs_report.proofs.json_entry.reports_value.Given as goal

abbrev pub invariant-loop-report : goal.invariant-loop-report
invariant-loop-report l = map view l.list.items ≡ map (finding_json (typed_program l.program))
    (filter (λ (f : Finding). is_selected l.kinds f.what) (take l.report-index l.reports))
