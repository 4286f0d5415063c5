-- Made so far: the values of the met budgets before the index.
use Rattle.std.proofs.Common.{◌≡◌, map, take}
use Rattle.serde_json.specs.View.{view}
use Rattle.cs_ast.specs.TypedProgram.{typed_program}
use Rattle.cs_report.specs.AnalysisJson.{finding_json}
use Rattle.cs_report.proofs.json_entry.overs_value.Given as goal

abbrev pub invariant-loop-over : goal.invariant-loop-over
invariant-loop-over l = map view l.list.items ≡ map (finding_json (typed_program l.program)) (take l.over-index l.overs)
