use Rattle.std.proofs.Common.{◌≡◌, map}
use Rattle.cs_ast.specs.TypedProgram.{typed_program, variable}
use Rattle.cs_state.specs.Naming.{naming, Extends}
use Rattle.cs_state.specs.Starting.{HasReceived}
use Rattle.cs_state.specs.Writes.{with_known}
use Rattle.cs_state.proofs.state.State.receive_all.Given as goal

abbrev pub invariant-loop-number : goal.invariant-loop-number
invariant-loop-number l =
    Extends (naming l.initial.tables) (naming l.tables)
    × HasReceived (typed_program l.program) (naming l.tables) (map variable l.parameters) l.number l.self
    × (l.self ≡ with_known l.self l.initial.self)
