use Rattle.cs_ast.specs.TypedProgram.{typed_program}
use Rattle.cs_objects.specs.BlockView.{type_of}
use Rattle.cs_objects.proofs.initializers.Initializer.cell.Goals as goal

pub returns-then-self : goal.returns-then-self
returns-then-self c =
    let nearest = c.nearest.ensures (typed_program c.args.program.now) (type_of c.args.scalar) in
    rw c.deref.ensures.value at (rw nearest at c.initial_cell.ensures)
