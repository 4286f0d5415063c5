-- Made so far: the values of the guesses before the index.
use Rattle.std.proofs.Common.{◌≡◌, map, take}
use Rattle.serde_json.specs.View.{view}
use Rattle.cs_report.specs.AnalysisJson.{ground_json}
use Rattle.cs_report.proofs.json_ground.grounds_value.Given as goal

abbrev pub invariant-loop-reason : goal.invariant-loop-reason
invariant-loop-reason l = map view l.list.items ≡ map (ground_json l.files) (take l.reason-index l.grounds)
