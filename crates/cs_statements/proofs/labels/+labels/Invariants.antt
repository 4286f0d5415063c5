use Rattle.std.proofs.Common.{◌≡◌, ◌++◌, drop}
use Rattle.cs_statements.specs.Statements.{labels_of_items, labels_of_switch_list}
use Rattle.cs_statements.proofs.labels.+labels.Given as goal

abbrev pub invariant-add_from_items-loop-item : goal.invariant-add_from_items-loop-item
invariant-add_from_items-loop-item l = l.labels ++ labels_of_items (drop l.item-index l.items) ≡ l.initial.labels ++ labels_of_items l.items

abbrev pub invariant-add_from_switch-loop-item : goal.invariant-add_from_switch-loop-item
invariant-add_from_switch-loop-item l = l.labels ++ labels_of_switch_list (drop l.item-index l.items) ≡ l.initial.labels ++ labels_of_switch_list l.items
