use Rattle.std.proofs.Common.{arith}
use Rattle.cs_ast.specs.TypedProgram.{typed_program}
use Rattle.cs_engine.proofs.Parameters.{all_sized}
use Rattle.cs_engine.proofs.entry.have_sizes.Goals as goal

pub returns : goal.returns
returns c given =
    all_sized (typed_program c.args.program.now) c.args.parameters.now c.loop-parameter.parameter-index (omega arith) c.loop-parameter.invariant
