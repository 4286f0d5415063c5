use Rattle.std.proofs.Common.{◌∷◌, ◌&&◌, sym, ap, ◌∙◌}
use Rattle.std.specs.Ordering.{is_lt}
use Rattle.std.specs.FinMap.{is_sorted}
use Rattle.cs_pmap.specs.Keys.{key_cmp}
use Rattle.cs_pmap.proofs.PutAll.{sorted_next}
use Rattle.cs_pmap.proofs.merge.is_ascending.Goals as goal

pub loop-next-preserved : goal.loop-next-preserved
loop-next-preserved g c =
    let last = c.loop-next.last.now in
    let next = c.in-Some-split_first.next.now in
    let after = c.in-Some-split_first.after.now in
    c.loop-next.invariant
    ∙ ap (λ r. is_sorted key_cmp (last ∷ r)) c.in-Some-split_first.ensures.cases.0
    ∙ sorted_next last next after
    ∙ ap (λ o. is_lt o && is_sorted key_cmp (next ∷ after)) (sym c.in-Less.ensures)
