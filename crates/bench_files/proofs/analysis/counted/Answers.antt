use Rattle.cs_ast.specs.TypedProgram.{typed_program}
use Rattle.cs_cfg.specs.GraphView as view
use Rattle.cs_allocations.proofs.WellAllocated.{well_formed_allocates}
use Rattle.cs_integer_code.proofs.WellFormedIntegers.{integer_code}
use Rattle.bench_files.proofs.analysis.counted.Goals as goal

pub lower-requires : goal.lower-requires
lower-requires c = c.requires.laid_out

pub checked-requires-clause-lowered : goal.checked-requires-clause-lowered
checked-requires-clause-lowered c = c.in_ok-code.ensures.lowered (well_formed_allocates (typed_program c.args.program.now) c.requires)

pub checked-requires-clause-integers : goal.checked-requires-clause-integers
checked-requires-clause-integers c =
    integer_code (typed_program c.args.program.now) (view.code c.in_ok-code.code) c.requires c.in_ok-code.ensures.integers
