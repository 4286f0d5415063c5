use Rattle.std.proofs.Common.{ap, ◌∙◌}
use Rattle.cs_ast.specs.TypedView.{initial}
use Rattle.cs_ast.proofs.TypedRows.{initial-List}
use Rattle.cs_objects.proofs.pieces.+pieces.Goals as goal

pub push_pieces-returns-in-List : goal.push_pieces-returns-in-List
push_pieces-returns-in-List t c =
    rw (ap initial c.in-List.is ∙ initial-List c.in-List.parts) (rw c.deref.ensures.value at c.push_parts.ensures)
