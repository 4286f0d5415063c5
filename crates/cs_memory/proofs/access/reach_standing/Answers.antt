use Rattle.std.proofs.Common.{◌≡◌, Err, FitsSigned, sym, ◌∙◌, rules}
use Rattle.std.proofs.lemmas.Int.{to_z-of_z}
use Rattle.std.specs.Int.{w128}
use Rattle.cs_run_log.proofs.Chains.{ends_following}
use Rattle.cs_run_log.proofs.Performing.{perform-Stops}
use Rattle.cs_memory.proofs.access.reach_standing.Goals as goal

pub returns-in_err-order-clause-err : goal.returns-in_err-order-clause-err
returns-in_err-order-clause-err c =
    let there : c.from_residual-in_err-order.result ≡ Err c.in_err-order.field-0.0 = search rules in
    let fits : FitsSigned w128 c.args.offset = search rules in
    let plain = to_z-of_z w128 c.args.offset fits in
    let one = rw (c.begins_within.ensures, plain) at c.in_err-order.ensures.err in
    rw there (λ onward. one _)

pub returns-in_err-order-2-clause-err : goal.returns-in_err-order-2-clause-err
returns-in_err-order-2-clause-err c =
    let there : c.from_residual-in_err-order-2.result ≡ Err c.in_err-order-2.field-0.0 = search rules in
    let fits : FitsSigned w128 c.args.offset = search rules in
    let plain = to_z-of_z w128 c.args.offset fits in
    let one = rw (c.begins_within.ensures, plain) at c.in_ok-order.ensures.ok in
    let two = rw (c.in_ok-ends.ensures, c.in_ok-size.ensures, plain) at c.in_err-order-2.ensures.err in
    rw there (λ onward. ends_following _ _ (one _) (two _))

pub returns-in_err-show_offset-clause-err : goal.returns-in_err-show_offset-clause-err
returns-in_err-show_offset-clause-err c =
    let there : c.from_residual-in_err-show_offset.result ≡ Err c.in_err-show_offset.field-0.0 = search rules in
    let fits : FitsSigned w128 c.args.offset = search rules in
    let plain = to_z-of_z w128 c.args.offset fits in
    let one = rw (c.begins_within.ensures, plain) at c.in_ok-order.ensures.ok in
    let two = rw (c.in_ok-ends.ensures, c.in_ok-size.ensures, plain) at c.in_ok-order-2.ensures.ok in
    let show = rw plain at c.in_err-show_offset.ensures.err in
    rw there (λ onward. ends_following _ _ (one _ ∙ two _) (show _))

pub returns-else-begins-clause-err : goal.returns-else-begins-clause-err
returns-else-begins-clause-err c =
    let fits : FitsSigned w128 c.args.offset = search rules in
    let plain = to_z-of_z w128 c.args.offset fits in
    let one = rw (c.begins_within.ensures, plain) at c.in_ok-order.ensures.ok in
    let two = rw (c.in_ok-ends.ensures, c.in_ok-size.ensures, plain) at c.in_ok-order-2.ensures.ok in
    let show = rw plain at c.in_ok-show_offset.ensures.ok in
    let not_there = sym c.in_ok-begins.ensures ∙ c.if-begins.false in
    let no = rw plain at not_there in
    rw c.fault.ensures (λ onward. one _ ∙ (two _ ∙ (show _ ∙ rw no (perform-Stops _ _ _))))
