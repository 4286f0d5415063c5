-- The pieces before the index are of other scalars.
use Rattle.std.proofs.Common.{◌≡◌, map, drop}
use Rattle.cs_ast.specs.TypedProgram.{typed_program}
use Rattle.cs_meaning.specs.Initials.{initial_cell}
use Rattle.cs_objects.specs.BlockView.{type_of, piece_of}
use Rattle.cs_objects.proofs.pieces.initial_cell.Given as goal

abbrev pub invariant-loop-piece : goal.invariant-loop-piece
invariant-loop-piece l =
    initial_cell (typed_program l.program) (type_of l.scalar) (map piece_of l.pieces) l.offset
    ≡ initial_cell (typed_program l.program) (type_of l.scalar) (map piece_of (drop l.piece-index l.pieces)) l.offset
