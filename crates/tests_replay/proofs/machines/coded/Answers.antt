use Rattle.cs_ast.specs.TypedProgram.{typed_program}
use Rattle.cs_allocations.proofs.WellAllocated.{well_formed_allocates}
use Rattle.tests_replay.proofs.machines.coded.Goals as goal

pub lower-requires : goal.lower-requires
lower-requires c = c.requires.ready.laid_out

pub replay-requires-clause-lowered : goal.replay-requires-clause-lowered
replay-requires-clause-lowered c = c.in-Ok.ensures.lowered (well_formed_allocates (typed_program c.args.setting.now.program.now) c.requires.well_formed)
