-- If the pieces from the index on ascend from the end of the one before, all do.
use Rattle.std.proofs.Common.{drop}
use Rattle.std.specs.Prelude.{IsTrue}
use Rattle.cs_objects.specs.PieceOrder.{ascends_from}
use Rattle.cs_objects.proofs.pieces.ascend.Given as goal

abbrev pub invariant-loop-piece : goal.invariant-loop-piece
invariant-loop-piece l = IsTrue (ascends_from l.end (drop l.piece-index l.pieces)) → IsTrue (ascends_from 0 l.pieces)
