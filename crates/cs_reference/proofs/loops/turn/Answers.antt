use Rattle.std.proofs.Common.{sym, ◌∙◌}
use Rattle.cs_objects.proofs.StatementForms.{for_is}
use Rattle.cs_reference.proofs.loops.turn.Goals as goal

pub returns-in_ok-inner-in-None : goal.returns-in_ok-inner-in-None
returns-in_ok-inner-in-None c =
    let is = rw c.in-None.is at (for_is c.args.s.now _ _ _ _ (sym c.deref.ensures ∙ c.in-For.is)) in
    let inner = rw c.deref-in-None.ensures.value at c.in_ok-inner-in-None.ensures in
    rw is (rw (inner, is) at c.turn_to_body-in-None.ensures)
