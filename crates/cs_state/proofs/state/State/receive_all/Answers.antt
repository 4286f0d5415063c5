use Rattle.std.proofs.Common.{◌≡◌, ◌∙◌, sym, ap, map}
use Rattle.std.specs.Prelude.{Some}
use Rattle.cs_ast.specs.TypedProgram.{typed_program, variable}
use Rattle.cs_state.specs.Naming.{naming}
use Rattle.cs_state.proofs.Places.{mapped_at}
use Rattle.cs_state.proofs.ReceivedMore.{extends_further, received_more, known_received}
use Rattle.cs_state.proofs.state.State.receive_all.Goals as goal

pub receive-requires-clause-sizes : goal.receive-requires-clause-sizes
receive-requires-clause-sizes c = λ target is.
    c.requires.sizes c.loop-number.number (variable c.index-parameters-number.result) target
    (mapped_at variable c.args.parameters.now c.loop-number.number c.index-parameters-number.result c.loop-number-test.true
    ∙ ap (λ p. Some (variable p)) (sym c.index-parameters-number.is)) is

pub loop-number-preserved : goal.loop-number-preserved
loop-number-preserved c = (
  extends_further c.loop-number.invariant.0 c.receive.ensures.tables,
  received_more (typed_program c.args.program.now) c.receive.ensures.tables (map variable c.args.parameters.now) c.loop-number.number
      (variable c.index-parameters-number.result) c.loop-number.self c.receive.new.self c.loop-number.invariant.1
      (mapped_at variable c.args.parameters.now c.loop-number.number c.index-parameters-number.result c.loop-number-test.true
      ∙ ap (λ p. Some (variable p)) (sym c.index-parameters-number.is)) c.requires.names c.in_ok-receive.ensures.ok,
  known_received (typed_program c.args.program.now) (naming c.receive.new.tables) c.loop-number.number (variable c.index-parameters-number.result)
      c.args.self.now c.loop-number.self c.receive.new.self c.loop-number.invariant.2 c.in_ok-receive.ensures.ok,
)
