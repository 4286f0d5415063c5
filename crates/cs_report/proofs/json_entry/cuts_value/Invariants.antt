-- Made so far: the values of the cuts before the index.
use Rattle.std.proofs.Common.{◌≡◌, map, take}
use Rattle.serde_json.specs.View.{view}
use Rattle.cs_report.specs.AnalysisJson.{cut_json}
use Rattle.cs_report.proofs.json_entry.cuts_value.Given as goal

abbrev pub invariant-loop-cut : goal.invariant-loop-cut
invariant-loop-cut l = map view l.list.items ≡ map (cut_json l.files) (take l.cut-index l.cuts)
