use Rattle.cs_explored.specs.Watching.{NoneBefore}
use Rattle.cs_explored.proofs.watch.phase_after.Given as goal

abbrev pub invariant-loop-rule : goal.invariant-loop-rule
invariant-loop-rule l = NoneBefore l.rules (record { function = l.function; place = l.event.place; phase = l.phase }) l.rule-index
