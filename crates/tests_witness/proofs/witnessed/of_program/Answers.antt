use Rattle.cs_ast.specs.TypedProgram.{typed_program}
use Rattle.cs_allocations.proofs.WellAllocated.{well_formed_allocates}
use Rattle.tests_witness.proofs.witnessed.of_program.Goals as goal

pub lower-requires : goal.lower-requires
lower-requires c = c.requires.laid_out

pub prepared_said-requires-clause-lowered : goal.prepared_said-requires-clause-lowered
prepared_said-requires-clause-lowered c = c.in_ok-code.ensures.lowered (well_formed_allocates (typed_program c.args.program.now) c.requires)
