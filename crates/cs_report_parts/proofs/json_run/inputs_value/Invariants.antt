-- Made so far: the values of the inputs before the index.
use Rattle.std.proofs.Common.{◌≡◌, map, take}
use Rattle.serde_json.specs.View.{view}
use Rattle.cs_report_parts.specs.RunJson.{input_json}
use Rattle.cs_report_parts.proofs.json_run.inputs_value.Given as goal

abbrev pub invariant-loop-input : goal.invariant-loop-input
invariant-loop-input l = map view l.list.items ≡ map input_json (take l.input-index l.inputs)
