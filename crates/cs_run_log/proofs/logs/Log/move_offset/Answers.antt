use Rattle.std.proofs.Common.{◌≡◌, Err, ◌∙◌, rules}
use Rattle.cs_run_log.proofs.Chains.{ends_following}
use Rattle.cs_run_log.proofs.logs.Log.move_offset.Goals as goal

pub returns-in_err-order-clause-err : goal.returns-in_err-order-clause-err
returns-in_err-order-clause-err c =
    let there : c.from_residual-in_err-order.result ≡ Err c.in_err-order.field-0.0 = search rules in
    let one = rw c.in_ok-above.ensures at c.in_err-order.ensures.err in
    rw there (λ onward. ends_following _ _ (c.in_ok-show.ensures.ok _) (one _))

pub returns-in_err-order-2-clause-err : goal.returns-in_err-order-2-clause-err
returns-in_err-order-2-clause-err c =
    let there : c.from_residual-in_err-order-2.result ≡ Err c.in_err-order-2.field-0.0 = search rules in
    let one = rw c.in_ok-above.ensures at c.in_ok-order.ensures.ok in
    let two = rw c.in_ok-below.ensures at c.in_err-order-2.ensures.err in
    rw there (λ onward. ends_following _ _ (c.in_ok-show.ensures.ok _ ∙ one _) (two _))

pub returns-in_err-moved-clause-err : goal.returns-in_err-moved-clause-err
returns-in_err-moved-clause-err c =
    let there : c.from_residual-in_err-moved.result ≡ Err c.in_err-moved.field-0.0 = search rules in
    let one = rw c.in_ok-above.ensures at c.in_ok-order.ensures.ok in
    let two = rw c.in_ok-below.ensures at c.in_ok-order-2.ensures.ok in
    let three = rw c.pointer_sum.ensures at c.in_err-moved.ensures.err in
    rw there (λ onward. ends_following _ _ (c.in_ok-show.ensures.ok _ ∙ (one _ ∙ two _)) (three _))
