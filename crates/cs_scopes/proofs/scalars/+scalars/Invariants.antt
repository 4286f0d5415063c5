use Rattle.std.proofs.Common.{◌≡◌, ◌+◌, ◌-◌, ◌*◌, drop}
use Rattle.cs_scopes.specs.Scalars.{scalars_after, scalars_with, struct_scalars}
use Rattle.cs_scopes.proofs.scalars.+scalars.Given as goal

abbrev pub decreases-scalars : goal.decreases-scalars
decreases-scalars l = 3 * l.depth + 2

abbrev pub decreases-scalars_alone : goal.decreases-scalars_alone
decreases-scalars_alone l = 3 * l.depth + 1

abbrev pub decreases-struct_scalars : goal.decreases-struct_scalars
decreases-struct_scalars l = 3 * l.depth

abbrev pub invariant-struct_scalars-loop-member : goal.invariant-struct_scalars-loop-member
invariant-struct_scalars-loop-member l = scalars_after (scalars_with (struct_scalars l.table.list (l.depth - 1))) l.all (drop l.member-index l.member-items)
    ≡ scalars_after (scalars_with (struct_scalars l.table.list (l.depth - 1))) 0 l.member-items
