-- Made so far: the values of the steps before the index.
use Rattle.std.proofs.Common.{◌≡◌, map, take}
use Rattle.std.specs.List.{flat_map}
use Rattle.serde_json.specs.View.{view}
use Rattle.cs_ast.specs.TypedProgram.{typed_program}
use Rattle.cs_events.specs.declared.event.Event.{Event}
use Rattle.cs_report_parts.specs.RunLines.{step_text}
use Rattle.cs_report.specs.AnalysisJson.{step_json}
use Rattle.cs_report.proofs.json_finding.steps_value.Given as goal

abbrev pub invariant-loop-event : goal.invariant-loop-event
invariant-loop-event l = map view l.list.items
    ≡ flat_map (λ (event : Event). step_json (typed_program l.program).files event.place (step_text (typed_program l.program) event.label))
    (take l.event-index l.events)
