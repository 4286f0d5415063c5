use Rattle.std.proofs.Common.{◌≡◌, ◌++◌, OnOk, sym, ap, subst, ◌∙◌}
use Rattle.cs_statements.specs.Statements.{labels_of, labels_of_items, labels_of_switch_list}
use Rattle.cs_statements.proofs.StatementRows.{labels_of-Block, labels_of-Switch}
use Rattle.cs_statements.proofs.labels.+labels.Goals as goal

pub add_from-returns-in-Block : goal.add_from-returns-in-Block
add_from-returns-in-Block t c =
    subst (λ names. OnOk c.add_from_items.result (c.add_from_items.new.labels ≡ c.args.labels.now ++ names))
    (ap labels_of_items c.deref-in-Block.ensures.value ∙ sym (labels_of-Block c.in-Block.items) ∙ ap labels_of (sym c.in-Block.is ∙ c.deref.ensures))
    c.add_from_items.ensures

pub add_from-returns-in-Switch : goal.add_from-returns-in-Switch
add_from-returns-in-Switch t c =
    subst (λ names. OnOk c.add_from_switch.result (c.add_from_switch.new.labels ≡ c.args.labels.now ++ names))
    (ap labels_of_switch_list c.deref-in-Switch.ensures.value ∙ sym (labels_of-Switch c.in-Switch.field-0 c.in-Switch.items)
    ∙ ap labels_of (sym c.in-Switch.is ∙ c.deref.ensures))
    c.add_from_switch.ensures
