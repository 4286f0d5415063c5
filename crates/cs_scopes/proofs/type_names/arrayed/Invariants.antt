use Rattle.std.proofs.Common.{◌≡◌, ◌≤◌, drop, length}
use Rattle.cs_types.specs.Shape.{shape_of}
use Rattle.cs_scopes.specs.Verdicts.{Fine}
use Rattle.cs_scopes.specs.TypeNames.{arrayed}
use Rattle.cs_scopes.proofs.type_names.arrayed.Given as goal

abbrev pub invariant-loop-i : goal.invariant-loop-i
invariant-loop-i l = record {
  within : l.i ≤ length l.numbers;
  so_far : arrayed l.model l.table.list l.place (shape_of l.initial.ty) (drop l.i l.numbers) ≡ Fine (shape_of l.ty);
}

abbrev pub decreases-loop-i : goal.decreases-loop-i
decreases-loop-i l = l.i
