use Rattle.cs_ast.specs.TypedProgram.{typed_program}
use Rattle.cs_cfg.specs.GraphView as view
use Rattle.cs_allocations.proofs.WellAllocated.{well_formed_allocates}
use Rattle.cs_integer_code.proofs.WellFormedIntegers.{integer_code}
use Rattle.cs_app.proofs.analysis.results_of.Goals as goal

pub results_with-requires-clause-lowered : goal.results_with-requires-clause-lowered
results_with-requires-clause-lowered g c =
    c.in_ok-code.ensures.lowered (well_formed_allocates (typed_program c.args.program.now) c.requires)

pub results_with-requires-clause-integers : goal.results_with-requires-clause-integers
results_with-requires-clause-integers g c =
    integer_code (typed_program c.args.program.now) (view.code c.in_ok-code.code) c.requires c.in_ok-code.ensures.integers
