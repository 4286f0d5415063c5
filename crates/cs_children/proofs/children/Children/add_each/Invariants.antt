-- So far there is a child for each piece before the index, in order.
use Rattle.std.proofs.Common.{◌≡◌, List, [], ◌++◌, length}
use Rattle.std.specs.Vec.Iter.{into_iter_items, into_iter_len}
use Rattle.cs_eval.specs.declared.piece.Piece.{Piece}
use Rattle.cs_explored.specs.declared.child.Child.{Child}
use Rattle.cs_children.specs.Adding.{Adds}
use Rattle.cs_pieces.specs.Pieces.{AreOfPieces}
use Rattle.cs_children.proofs.children.Children.add_each.Given as goal

abbrev pub invariant-loop-piece : goal.invariant-loop-piece
invariant-loop-piece l = record {
  lengths : into_iter_len l.piece-iterator ≡ length (into_iter_items l.piece-iterator);
  so_far : (done : List Piece) × (made : List Child) × (l.fn.pieces.items ≡ done ++ into_iter_items l.piece-iterator)
      × Adds l.fn.self l.self made [] × AreOfPieces l.exploration.rules.now l.before l.place l.guess done made;
}
