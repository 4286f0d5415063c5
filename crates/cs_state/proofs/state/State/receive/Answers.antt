use Rattle.std.proofs.Common.{refl}
use Rattle.cs_types.specs.Shape.{shape_of}
use Rattle.cs_ast.specs.TypedProgram.{typed_program, variable}
use Rattle.cs_meaning.specs.Steps.{parameter_path}
use Rattle.cs_state.proofs.Received.{gives_later}
use Rattle.cs_state.proofs.state.State.receive.Goals as goal

pub returns-clause-ok : goal.returns-clause-ok
returns-clause-ok c = record {
  value = c.in_ok-value.value;
  between = c.received.new.self;
  gives = gives_later c.base.ensures.extends (typed_program c.args.program.now) (shape_of c.args.parameter.now.ty)
      (parameter_path (variable c.args.parameter.now)) c.args.parameter.now.block c.in_ok-value.value c.args.self.now c.received.new.self
      c.in_ok-value.ensures.ok;
  base = c.in_ok-base.base;
  named = c.in_ok-base.ensures.named;
  here = c.in_ok-bind.ensures.here;
  elsewhere = c.in_ok-bind.ensures.elsewhere;
  unread = c.in_ok-bind.ensures.written;
  read = c.in_ok-bind.ensures.others;
  rest = c.in_ok-bind.ensures.rest;
}
