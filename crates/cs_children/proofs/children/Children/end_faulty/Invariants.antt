-- So far there is an end for each faulty part before the index, in order.
use Rattle.std.proofs.Common.{◌≡◌, List, [], ◌++◌, length}
use Rattle.std.specs.Vec.Iter.{into_iter_items, into_iter_len}
use Rattle.cs_access.specs.declared.checking.FaultyPart.{FaultyPart}
use Rattle.cs_children.specs.Adding.{Adds, KeepApart}
use Rattle.cs_pieces.specs.Pieces.{AreFaultyEnds}
use Rattle.cs_successors.specs.Coming.{StateEnd}
use Rattle.cs_children.proofs.children.Children.end_faulty.Given as goal

abbrev pub invariant-loop-fault : goal.invariant-loop-fault
invariant-loop-fault l = record {
  lengths : into_iter_len l.fault-iterator ≡ length (into_iter_items l.fault-iterator);
  so_far : (done : List FaultyPart) × (ends : List StateEnd) × (l.fn.faults.items ≡ done ++ into_iter_items l.fault-iterator)
      × Adds l.fn.self l.self [] ends × AreFaultyEnds l.at done ends;
  apart : KeepApart l.fn.self l.self;
}
