-- The pieces from the index on are stored.
use Rattle.std.proofs.Common.{◌≤◌, length, drop, map}
use Rattle.cs_ast.specs.TypedProgram.{typed_program, routine}
use Rattle.cs_objects.specs.BlockView.{piece_of}
use Rattle.cs_lower.specs.Building.{built_of, point_of}
use Rattle.cs_lower.specs.Statements.{StoresPieces}
use Rattle.cs_lower.proofs.context.Lowering.lower_pieces.Given as goal

abbrev pub invariant-loop-left : goal.invariant-loop-left
invariant-loop-left l = record {
  within : l.left ≤ length l.pieces;
  made : StoresPieces (typed_program l.self.program.now) (routine l.self.function.now) l.place l.declaration (map piece_of (drop l.left l.pieces))
      (built_of l.initial.graph) (built_of l.graph) (point_of l.made) (point_of l.fn.following);
}

abbrev pub decreases-loop-left : goal.decreases-loop-left
decreases-loop-left l = l.left
