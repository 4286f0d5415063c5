use Rattle.std.proofs.Common.{sym, ◌∙◌}
use Rattle.cs_objects.proofs.StatementForms.{for_is, switch_is}
use Rattle.cs_reference.proofs.loops.decide.Goals as goal

pub returns-in_ok-inner-in-For : goal.returns-in_ok-inner-in-For
returns-in_ok-inner-in-For c =
    let is = for_is c.args.s.now _ _ _ _ (sym c.deref.ensures ∙ c.in-For.is) in
    let inner = rw c.deref-in-For.ensures.value at c.in_ok-inner-in-For.ensures in
    rw is (rw (inner, is) at c.decide_body-in-For.ensures)

pub returns-in-Switch : goal.returns-in-Switch
returns-in-Switch c =
    let is = switch_is c.args.s.now _ _ _ (sym c.deref.ensures ∙ c.in-Switch.is) in
    rw is (rw (c.deref-in-Switch.ensures.value, c.deref-in-Switch-2.ensures.value) at c.decide_switch.ensures)
