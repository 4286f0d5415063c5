-- The items of blocks and of `switch` as rows and as lists: for the statements that have them.
use Rattle.std.proofs.Common.{◌≡◌, List, [], ◌∷◌, ◌++◌, map, refl, ap, ◌∙◌, Vec, Global}
use mathlib.Core.Former.{Count}
use Rattle.cs_types.specs.Shape.{Shape}
use Rattle.cs_ast.specs.declared.place.Place.{Place}
use Rattle.cs_ast.specs.declared.raw.expression.RawExpr.{RawExpr}
use Rattle.cs_ast.specs.declared.raw.statement.RawStmtKind as kinds
use Rattle.cs_ast.specs.declared.raw.statement.RawStmtKind.{RawStmtKind}
use Rattle.cs_ast.specs.declared.raw.statement.RawStmtKind.TheVariants as kind
use Rattle.cs_ast.specs.declared.raw.statement.RawItem.{RawItem}
use Rattle.cs_ast.specs.declared.raw.statement.RawSwitchItem.{RawSwitchItem}
use Rattle.cs_ast.specs.declared.typed.statement.Stmt.{Stmt}
use Rattle.cs_ast.specs.TypedTree.{Typed, Then}
use Rattle.cs_ast.specs.TypedView.{statement, statement_list}
use Rattle.cs_folding.specs.TypedParts.{type_of}
use Rattle.cs_scopes.specs.Verdicts.{Verdict, Fine, Fault, lift}
use Rattle.cs_statements.specs.Locals.{Inside, TypedStatements}
use Rattle.cs_statements.specs.Statements.{Where, in_switch, in_a_row, Part, Switching, in_block, no_statements, no_cases, block_made, switch_made, selected}
use Rattle.cs_statements.specs.Statements.{statement_typed, item_typed, items_typed, body_typed, switch_item_typed, switch_typed, switch_list_typed}
use Rattle.cs_statements.specs.Statements.{switch_whole, labels_of, labels_of_item, labels_in, labels_of_items, labels_of_switch_item, labels_in_switch}
use Rattle.cs_statements.specs.Statements.{labels_of_switch_list}

-- rules with equal results are equal after another rule
lift-same : {A B : Type 0} (f g : A → Verdict B) (v : Verdict A) → ((a : A) → f a ≡ g a) → lift f v ≡ lift g v
unfolding lift
lift-same f g (Fine a) same = same a
lift-same f g (Fault code at) same = refl

-- the items of a block as a row, and those of a `switch`
abbrev block_of : RawStmtKind → (n : Count) × kinds.Row_of-RawItem n
block_of (kind.Block' shape row) = (_, row)
block_of _ = (_, kinds.end_of-RawItem)

abbrev switch_of : RawStmtKind → (n : Count) × kinds.Row_of-RawSwitchItem n
switch_of (kind.Switch' value shape row) = (_, row)
switch_of _ = (_, kinds.end_of-RawSwitchItem)

items-row : (w : Where) (n : _) (row : kinds.Row_of-RawItem n) (so_far : TypedStatements)
    → items_typed w row so_far ≡ body_typed w (kinds.items-the_row-RawItem n row) so_far
items-row w n kinds.end_of-RawItem so_far = refl
items-row w n (kinds.more_of-RawItem first others) so_far =
    lift-same (items_typed w others) (body_typed w (kinds.items-the_row-RawItem _ others)) (item_typed w first so_far)
    (λ reported. items-row w _ others reported)

pub statement_typed-Block : (w : Where) (i : Inside) (at : Place) (items : Vec RawItem Global)
    → statement_typed w i at (kind.Block items) ≡ lift (block_made at i) (body_typed w items.items (no_statements (in_block i)))
statement_typed-Block w i at items =
    let row = block_of (kind.Block items) in
    ap (lift (block_made at i))
    (items-row w row.0 row.1 (no_statements (in_block i))
    ∙ ap (λ list. body_typed w list (no_statements (in_block i))) (kinds.items_hidden-the_row-RawItem-0 items))

switch-row : (w : Where) (ty : Shape) (n : _) (row : kinds.Row_of-RawSwitchItem n) (so_far : Switching)
    → switch_typed w ty row so_far ≡ switch_list_typed w ty (kinds.items-the_row-RawSwitchItem n row) so_far
switch-row w ty n kinds.end_of-RawSwitchItem so_far = refl
switch-row w ty n (kinds.more_of-RawSwitchItem first others) so_far =
    lift-same (switch_typed w ty others) (switch_list_typed w ty (kinds.items-the_row-RawSwitchItem _ others)) (switch_item_typed w ty first so_far)
    (λ s. switch-row w ty _ others s)

pub statement_typed-Switch : (w : Where) (i : Inside) (at : Place) (value : RawExpr) (items : Vec RawSwitchItem Global)
    → statement_typed w i at (kind.Switch value items) ≡ switch_whole w i at value items.items
statement_typed-Switch w i at value items =
    let row = switch_of (kind.Switch value items) in
    lift-same
    (λ (v : Part Typed). lift (switch_made at i v.found) (switch_typed (in_switch w) (type_of v.found) row.1 (no_cases (in_block v.inside))))
    (λ (v : Part Typed). lift (switch_made at i v.found) (switch_list_typed (in_switch w) (type_of v.found) items.items (no_cases (in_block v.inside))))
    (selected at i value)
    (λ v. ap (lift (switch_made at i v.found))
    (switch-row (in_switch w) (type_of v.found) row.0 row.1 (no_cases (in_block v.inside))
    ∙ ap (λ list. switch_list_typed (in_switch w) (type_of v.found) list (no_cases (in_block v.inside))) (kinds.items_hidden-the_row-RawSwitchItem-1 items)))

-- the labels of a row are those of its list
labels-row : (n : _) (row : kinds.Row_of-RawItem n) → labels_in row ≡ labels_of_items (kinds.items-the_row-RawItem n row)
labels-row n kinds.end_of-RawItem = refl
labels-row n (kinds.more_of-RawItem first others) = ap (λ names. labels_of_item first ++ names) (labels-row _ others)

pub labels_of-Block : (items : Vec RawItem Global) → labels_of (kind.Block items) ≡ labels_of_items items.items
labels_of-Block items =
    let row = block_of (kind.Block items) in
    labels-row row.0 row.1 ∙ ap labels_of_items (kinds.items_hidden-the_row-RawItem-0 items)

labels-switch_row : (n : _) (row : kinds.Row_of-RawSwitchItem n) → labels_in_switch row ≡ labels_of_switch_list (kinds.items-the_row-RawSwitchItem n row)
labels-switch_row n kinds.end_of-RawSwitchItem = refl
labels-switch_row n (kinds.more_of-RawSwitchItem first others) = ap (λ names. labels_of_switch_item first ++ names) (labels-switch_row _ others)

pub labels_of-Switch : (value : RawExpr) (items : Vec RawSwitchItem Global) → labels_of (kind.Switch value items) ≡ labels_of_switch_list items.items
labels_of-Switch value items =
    let row = switch_of (kind.Switch value items) in
    labels-switch_row row.0 row.1 ∙ ap labels_of_switch_list (kinds.items_hidden-the_row-RawSwitchItem-1 items)

-- a list of statements as the list type of typed trees
pub row-statements : (statements : List Stmt) → in_a_row (map statement statements) ≡ statement_list statements
row-statements [] = refl
row-statements (s ∷ ss) = ap (Then (statement s)) (row-statements ss)
