use Rattle.cs_types.specs.Shape.{shape_of}
use Rattle.cs_types.specs.Layout.{leaf_of}
use Rattle.cs_types.proofs.Descent.{Reaches}
use Rattle.cs_types.proofs.layout.leaf_at.Given as goal

abbrev pub invariant-loop-found : goal.invariant-loop-found
invariant-loop-found l = Reaches l.model l.table.list l.depth (shape_of l.held) l.rest (leaf_of l.model l.table.list (shape_of l.ty) l.offset)

abbrev pub decreases-loop-found : goal.decreases-loop-found
decreases-loop-found l = l.depth
