use Rattle.std.proofs.Common.{◌≡◌, max, drop}
use Rattle.cs_ast.specs.RawStatementView.{items_list}
use Rattle.cs_ast.specs.RawFileHeight.{items_height}
use Rattle.cs_ast.specs.RawStatementView.{switch_list}
use Rattle.cs_ast.specs.RawFileHeight.{switch_height}
use Rattle.cs_ast.proofs.raw.+statement_height.Given as goal

abbrev pub invariant-statement_height::highest_item-loop-item :
    goal.invariant-statement_height::highest_item-loop-item
invariant-statement_height::highest_item-loop-item l =
    max l.best (items_height (items_list (drop l.item-index l.items))) ≡ items_height (items_list l.items)

abbrev pub invariant-statement_height::highest_switch_item-loop-item :
    goal.invariant-statement_height::highest_switch_item-loop-item
invariant-statement_height::highest_switch_item-loop-item l =
    max l.best (switch_height (switch_list (drop l.item-index l.items))) ≡ switch_height (switch_list l.items)
