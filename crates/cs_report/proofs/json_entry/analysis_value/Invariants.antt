-- Made so far: the values of the entries before the index.
use Rattle.std.proofs.Common.{◌≡◌, map, take}
use Rattle.serde_json.specs.View.{view}
use Rattle.cs_ast.specs.TypedProgram.{typed_program}
use Rattle.cs_report.specs.AnalysisJson.{entry_json}
use Rattle.cs_report.proofs.json_entry.analysis_value.Given as goal

abbrev pub invariant-loop-entry : goal.invariant-loop-entry
invariant-loop-entry l = map view l.list.items ≡ map (entry_json (typed_program l.program) l.kinds) (take l.entry-index l.results)
