use Rattle.std.proofs.Common.{sym, ◌∙◌}
use Rattle.cs_objects.proofs.StatementForms.{block_is, for_is, switch_is}
use Rattle.cs_frames.proofs.landing.+seek.Goals as goal

pub seek-returns-in-Block : goal.seek-returns-in-Block
seek-returns-in-Block t c =
    let is = block_is c.args.s.now _ (sym c.deref.ensures ∙ c.in-Block.is) in
    rw is (rw c.deref-in-Block.ensures.value at c.seek_in.ensures)

pub seek-returns-in-For : goal.seek-returns-in-For
seek-returns-in-For t c =
    let is = for_is c.args.s.now _ _ _ _ (sym c.deref.ensures ∙ c.in-For.is) in
    rw is (rw (c.deref-in-For.ensures.value, is) at c.seek_in_for.ensures)

pub seek-returns-in-Switch : goal.seek-returns-in-Switch
seek-returns-in-Switch t c =
    let is = switch_is c.args.s.now _ _ _ (sym c.deref.ensures ∙ c.in-Switch.is) in
    rw is (rw c.deref-in-Switch.ensures.value at c.seek_in_switch.ensures)
