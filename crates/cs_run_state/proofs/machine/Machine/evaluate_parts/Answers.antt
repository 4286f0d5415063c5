use Rattle.std.proofs.Common.{sym, ap, ◌∙◌}
use Rattle.cs_ast.specs.TypedView.{form}
use Rattle.cs_ast.proofs.TypedRows.{form-Call, form-Allocate}
use Rattle.cs_run_state.proofs.machine.Machine.evaluate_parts.Goals as goal

pub returns-in-Call : goal.returns-in-Call
returns-in-Call c =
    let is = ap form (sym c.deref.ensures ∙ c.in-Call.is) ∙ form-Call _ c.in-Call.arguments in
    rw is (rw (c.deref-in-Call.ensures.value, is) at c.evaluate_all.ensures)

pub returns-in-Allocate : goal.returns-in-Allocate
returns-in-Allocate c =
    let is = ap form (sym c.deref.ensures ∙ c.in-Allocate.is) ∙ form-Allocate _ c.in-Allocate.arguments _ in
    rw is (rw (c.deref-in-Allocate.ensures.value, is) at c.evaluate_all-in-Allocate.ensures)
