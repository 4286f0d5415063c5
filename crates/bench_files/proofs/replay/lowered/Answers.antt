use Rattle.cs_ast.specs.TypedProgram.{typed_program}
use Rattle.cs_allocations.proofs.WellAllocated.{well_formed_allocates}
use Rattle.bench_files.proofs.replay.lowered.Goals as goal

pub lower-requires : goal.lower-requires
lower-requires c = c.requires.laid_out

pub events-requires-clause-lowered : goal.events-requires-clause-lowered
events-requires-clause-lowered c = c.in-Ok.ensures.lowered (well_formed_allocates (typed_program c.args.program.now) c.requires)
