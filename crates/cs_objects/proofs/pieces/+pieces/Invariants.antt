-- The pieces of the parts before the number were added.
use Rattle.std.proofs.Common.{◌≡◌, ◌++◌, map, drop}
use Rattle.cs_ast.specs.TypedProgram.{typed_program}
use Rattle.cs_ast.specs.TypedView.{initial_list}
use Rattle.cs_meaning.specs.Initials.{pieces_from}
use Rattle.cs_objects.specs.BlockView.{type_of, piece_of}
use Rattle.cs_objects.proofs.pieces.+pieces.Given as goal

abbrev pub invariant-push_parts-loop-number : goal.invariant-push_parts-loop-number
invariant-push_parts-loop-number l =
    map piece_of l.made.items ++ pieces_from (typed_program l.program) (type_of l.ty) l.from l.number (initial_list (drop l.number l.parts))
    ≡ map piece_of l.initial.made.items ++ pieces_from (typed_program l.program) (type_of l.ty) l.from 0 (initial_list l.parts)
