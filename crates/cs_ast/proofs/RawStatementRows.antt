-- The items of blocks and of `switch` as lists: for the heights, and for every crate that walks written trees.
use Rattle.std.proofs.Common.{◌≡◌, refl, sym, ap, ◌∙◌, Vec, Global}
use mathlib.Core.Former.{Count}
use Rattle.cs_ast.specs.declared.raw.expression.RawExpr.{RawExpr}
use Rattle.cs_ast.specs.declared.raw.statement.RawStmtKind as kinds
use Rattle.cs_ast.specs.declared.raw.statement.RawStmtKind.{RawStmtKind}
use Rattle.cs_ast.specs.declared.raw.statement.RawStmtKind.TheVariants as kind
use Rattle.cs_ast.specs.declared.raw.statement.RawItem.{RawItem}
use Rattle.cs_ast.specs.declared.raw.statement.RawSwitchItem.{RawSwitchItem}
use Rattle.cs_ast.specs.RawView.{written}
use Rattle.cs_ast.specs.RawStatements.{Block, Switch, MoreItems, MoreSwitchItems}
use Rattle.cs_ast.specs.RawStatementView.{sentence, item, items_row, items_list, switch_item, switch_row, switch_list}

pub items-row : (n : _) (row : kinds.Row_of-RawItem n) → items_list (kinds.items-the_row-RawItem n row) ≡ items_row row
items-row n kinds.end_of-RawItem = refl
items-row n (kinds.more_of-RawItem first others) = ap (MoreItems (item first)) (items-row _ others)

pub switch-row : (n : _) (row : kinds.Row_of-RawSwitchItem n) → switch_list (kinds.items-the_row-RawSwitchItem n row) ≡ switch_row row
switch-row n kinds.end_of-RawSwitchItem = refl
switch-row n (kinds.more_of-RawSwitchItem first others) = ap (MoreSwitchItems (switch_item first)) (switch-row _ others)

-- the items of a block, as a row
abbrev pub block_of : RawStmtKind → (n : Count) × kinds.Row_of-RawItem n
block_of (kind.Block' shape row) = (_, row)
block_of _ = (_, kinds.end_of-RawItem)

-- the items of a `switch`, as a row
abbrev pub switch_of : RawStmtKind → (n : Count) × kinds.Row_of-RawSwitchItem n
switch_of (kind.Switch' value shape row) = (_, row)
switch_of _ = (_, kinds.end_of-RawSwitchItem)

pub sentence-Block : (items : Vec RawItem Global) → sentence (kind.Block items) ≡ Block (items_list items.items)
sentence-Block items =
    let row = block_of (kind.Block items) in
    ap Block (sym (items-row row.0 row.1) ∙ ap items_list (kinds.items_hidden-the_row-RawItem-0 items))

pub sentence-Switch : (value : RawExpr) (items : Vec RawSwitchItem Global)
    → sentence (kind.Switch value items) ≡ Switch (written value) (switch_list items.items)
sentence-Switch value items =
    let row = switch_of (kind.Switch value items) in
    ap (Switch (written value)) (sym (switch-row row.0 row.1) ∙ ap switch_list (kinds.items_hidden-the_row-RawSwitchItem-1 items))
