use Rattle.std.proofs.Common.{refl, sym, ap, ◌∙◌}
use Rattle.cs_events.specs.Runs.{Continues}
use Rattle.cs_meaning.specs.Machine.{State}
use Rattle.cs_run_log.specs.LogView.{log_of}
use Rattle.cs_run_log.proofs.Performing.{perform-Goes}
use Rattle.cs_objects.proofs.StatementForms.{block_is, for_is}
use Rattle.cs_reference.proofs.statements.execute.Goals as goal

pub returns-in_ok-put_all-in-Block : goal.returns-in_ok-put_all-in-Block
returns-in_ok-put_all-in-Block c =
    let is = block_is c.args.s.now _ (sym c.deref.ensures ∙ c.in-Block.is) in
    let state = rw c.deref-in-Block.ensures.value at c.in_ok-put_all-in-Block.ensures in
    rw is (record { ok = perform-Goes _ _ _ ∙ ap (λ (n : State). Continues n (log_of c.args.run.now.log)) (sym state); err = tt; kept = refl })

pub returns-in_ok-put_for-in-For : goal.returns-in_ok-put_for-in-For
returns-in_ok-put_for-in-For c =
    let is = for_is c.args.s.now _ _ _ _ (sym c.deref.ensures ∙ c.in-For.is) in
    let state = rw (c.deref-in-For.ensures.value, is) at c.in_ok-put_for-in-For.ensures in
    rw is (record { ok = perform-Goes _ _ _ ∙ ap (λ (n : State). Continues n (log_of c.args.run.now.log)) (sym state); err = tt; kept = refl })
