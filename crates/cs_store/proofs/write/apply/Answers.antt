use Rattle.std.specs.Prelude.{Result, Ok, Err, OnOk}
use Rattle.cs_store.proofs.Regions.{dropped_or_kept}
use Rattle.cs_store.proofs.write.apply.Goals as goal

both : {T E P Q R : Type 0} (r : Result T E) → (P → Q → R) → OnOk r P → OnOk r Q → OnOk r R
both (Ok x) both_give p q = both_give p q
both (Err x) both_give p q = tt

pub returns-in-Drop : goal.returns-in-Drop
returns-in-Drop c =
    rw (c.in-Drop.is, ← c.deref-in-Drop.ensures.value)
    (both c.drop_frame.result (λ dropped others b o. dropped_or_kept c.deref-in-Drop.result.now b _ _ (dropped b o) (others b o)) c.drop_frame.ensures.dropped
    c.drop_frame.ensures.others)
