use Rattle.cs_ast.specs.TypedProgram.{typed_program}
use Rattle.cs_allocations.proofs.WellAllocated.{well_formed_allocates}
use Rattle.cs_commands.proofs.replay.run_of.Goals as goal

pub lower-requires : goal.lower-requires
lower-requires c = c.requires.well_formed.laid_out

pub run_prepared-requires-clause-lowered : goal.run_prepared-requires-clause-lowered
run_prepared-requires-clause-lowered c =
    c.in_ok-code.ensures.lowered (well_formed_allocates (typed_program c.args.program.now) c.requires.well_formed)
