use Rattle.std.proofs.Common.{sym, refl, ◌∙◌}
use Rattle.cs_integer_functions.proofs.Forms.{of_block, of_for, of_switch, three_hold}
use Rattle.cs_integer_functions.proofs.statements.+statements.Goals as goal

pub is_integer_statement-returns-in-Block : goal.is_integer_statement-returns-in-Block
is_integer_statement-returns-in-Block t c =
    let is = of_block c.args.s.now _ (sym c.deref.ensures ∙ c.in-Block.is) in
    rw is (rw c.deref-in-Block.ensures.value at c.are_integer_statements.ensures)

pub is_integer_statement-returns-in-For : goal.is_integer_statement-returns-in-For
is_integer_statement-returns-in-For t c =
    let is = of_for c.args.s.now _ _ _ _ (sym c.deref.ensures ∙ c.in-For.is) in
    let before = rw c.deref-in-For.ensures.value at c.are_integer_statements-before.ensures in
    c.all_hold.ensures ∙ three_hold _ _ _ _ _ _ before c.is_integer_statement-inside.ensures c.are_integers.ensures ∙ sym is

pub is_integer_statement-returns-in-Switch : goal.is_integer_statement-returns-in-Switch
is_integer_statement-returns-in-Switch t c =
    let is = of_switch c.args.s.now _ _ _ (sym c.deref.ensures ∙ c.in-Switch.is) in
    let inside = rw c.deref-in-Switch.ensures.value at c.are_integer_statements-inside.ensures in
    c.all_hold-in-Switch.ensures ∙ three_hold _ _ _ _ _ _ c.is_integer-in-Switch.ensures inside refl ∙ sym is
