use Rattle.cs_types.specs.Shape.{shape_of}
use Rattle.cs_steps.proofs.Storing.{scalar_written}
use Rattle.cs_steps.proofs.access.write.Goals as goal

pub returns-in-Scalar-clause-written : goal.returns-in-Scalar-clause-written
returns-in-Scalar-clause-written c = λ program names known once alone inside.
    let bound = c.in_ok-bind-in-Scalar.ensures in
    scalar_written program names known c.args.state.now c.bind.new.self (shape_of c.args.ty.now) c.args.reached c.args.operand c.in-Scalar.value
    c.in-Scalar.is bound.rest bound.here bound.elsewhere bound.written bound.others once alone inside
