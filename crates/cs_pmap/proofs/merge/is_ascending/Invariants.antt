use Rattle.std.proofs.Common.{◌≡◌, ◌∷◌, length}
use Rattle.std.specs.FinMap.{is_sorted}
use Rattle.cs_pmap.specs.Keys.{key_cmp}
use Rattle.cs_pmap.proofs.merge.is_ascending.Given as goal

-- the entries ascend if those from the last one on do
abbrev pub invariant-loop-next : goal.invariant-loop-next
invariant-loop-next g l = is_sorted key_cmp l.fn.entries ≡ is_sorted key_cmp (l.last ∷ l.rest)

abbrev pub decreases-loop-next : goal.decreases-loop-next
decreases-loop-next g l = length l.rest
