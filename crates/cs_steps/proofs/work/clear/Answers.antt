use Rattle.std.proofs.Common.{Some, Ok, ap, ◌∙◌}
use Rattle.cs_steps.proofs.Assigning.{clear_works, is_listed, not_listed}
use Rattle.cs_steps.proofs.work.clear.Goals as goal

pub returns-clause-work : goal.returns-clause-work
returns-clause-work c = λ model at scalar progress code names program budgets known is_model extends once alone integer.
    let base = c.in_ok-base.base in
    let named = extends.bases _ _ (c.in_ok-base.ensures.named ∙ ap Some c.local.ensures) in
    let unbound = c.in_ok-unbind.ensures in
    clear_works code names program c.args.state.now known once budgets at progress c.args.decl base named
    scalar c.unbind.new.self alone unbound.rest (λ o. unbound.dropped base o (is_listed base))
    (λ b o differs. unbound.kept b o (not_listed base b differs)) (λ o. unbound.gone base o (is_listed base))
    (λ b o differs. unbound.others b o (not_listed base b differs)) (Ok tt) tt
