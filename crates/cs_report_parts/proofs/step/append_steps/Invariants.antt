-- Printed so far: the lines of the events before the index.
use Rattle.std.proofs.Common.{◌≡◌, ◌++◌, take}
use Rattle.std.specs.List.{flat_map}
use Rattle.cs_ast.specs.TypedProgram.{typed_program}
use Rattle.cs_events.specs.declared.event.Event.{Event}
use Rattle.cs_report_parts.specs.RunLines.{text_of, step_lines, step_text}
use Rattle.cs_report_parts.proofs.step.append_steps.Given as goal

abbrev pub invariant-loop-event : goal.invariant-loop-event
invariant-loop-event l = l.text.items ≡ l.initial.text.items
    ++ flat_map (λ (event : Event). text_of (step_lines (typed_program l.program).files event.place (step_text (typed_program l.program) event.label)))
    (take l.event-index l.events)
