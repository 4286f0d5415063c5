-- Made so far: the values of the guesses before the index.
use Rattle.std.proofs.Common.{◌≡◌, map, take}
use Rattle.serde_json.specs.View.{view}
use Rattle.cs_report_parts.specs.RunJson.{guess_json}
use Rattle.cs_report_parts.proofs.json_run.guesses_value.Given as goal

abbrev pub invariant-loop-guess : goal.invariant-loop-guess
invariant-loop-guess l = map view l.list.items ≡ map guess_json (take l.guess-index l.guesses)
