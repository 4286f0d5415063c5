-- The heights of the nodes that contain a list, stated for the list: for the contracts of `height`.
use Rattle.std.proofs.Common.{◌≡◌, Bool, ◌+◌, max, ap, ◌∙◌, Vec, Global}
use Rattle.cs_ast.specs.declared.raw.written_type.WrittenType.{WrittenType}
use Rattle.cs_ast.specs.declared.raw.expression.RawExpr.{RawExpr}
use Rattle.cs_ast.specs.declared.raw.expression.RawExprKind.{RawExprKind}
use Rattle.cs_ast.specs.declared.raw.expression.RawExprKind.TheVariants as kind
use Rattle.cs_ast.specs.declared.raw.declaration.RawMember.{RawMember}
use Rattle.cs_ast.specs.declared.raw.declaration.SpecWord.{SpecWord}
use Rattle.cs_ast.specs.declared.raw.declaration.SpecWord.TheVariants as words
use Rattle.cs_ast.specs.declared.raw.declaration.RawInitial.{RawInitial}
use Rattle.cs_ast.specs.declared.raw.declaration.RawInitial.TheVariants as first_value
use Rattle.cs_ast.specs.declared.raw.statement.RawStmtKind.{RawStmtKind}
use Rattle.cs_ast.specs.declared.raw.statement.RawStmtKind.TheVariants as statement
use Rattle.cs_ast.specs.declared.raw.statement.RawItem.{RawItem}
use Rattle.cs_ast.specs.declared.raw.statement.RawSwitchItem.{RawSwitchItem}
use Rattle.cs_ast.specs.RawView.{written, written_kind, written_list}
use Rattle.cs_ast.specs.RawHeight.{height, highest}
use Rattle.cs_ast.specs.RawDeclarationView.{spec, members_list, initial, initials_list}
use Rattle.cs_ast.specs.RawStatementView.{sentence, items_list, switch_list}
use Rattle.cs_ast.specs.RawFileHeight.{spec_height, members_height, initial_height, initials_height, sentence_height, items_height, switch_height}
use Rattle.cs_ast.proofs.RawRows.{written_kind-Call, written_kind-SizeOfType, written_kind-Cast}
use Rattle.cs_ast.proofs.RawDeclarationRows.{spec-Struct, initial-List}
use Rattle.cs_ast.proofs.RawStatementRows.{sentence-Block, sentence-Switch}

pub height-Call : {k : RawExprKind} (function : RawExpr) (arguments : Vec RawExpr Global) → k ≡ kind.Call function arguments
    → height (written_kind k) ≡ 1 + max (height (written function)) (1 + highest (written_list arguments.items))
height-Call function arguments is = ap (λ k. height (written_kind k)) is ∙ ap height (written_kind-Call function arguments)

pub height-SizeOfType : {k : RawExprKind} (ty : WrittenType) (bounds : Vec RawExpr Global) → k ≡ kind.SizeOfType ty bounds
    → height (written_kind k) ≡ 1 + max 1 (highest (written_list bounds.items))
height-SizeOfType ty bounds is = ap (λ k. height (written_kind k)) is ∙ ap height (written_kind-SizeOfType ty bounds)

pub height-Cast : {k : RawExprKind} (ty : WrittenType) (bounds : Vec RawExpr Global) (operand : RawExpr) → k ≡ kind.Cast ty bounds operand
    → height (written_kind k) ≡ 1 + max (highest (written_list bounds.items)) (height (written operand))
height-Cast ty bounds operand is = ap (λ k. height (written_kind k)) is ∙ ap height (written_kind-Cast ty bounds operand)

pub spec_height-Struct : {w : SpecWord} (tag : _) (list : Vec RawMember Global) → w ≡ words.Struct tag list
    → spec_height (spec w) ≡ 1 + members_height (members_list list.items)
spec_height-Struct tag list is = ap (λ w. spec_height (spec w)) is ∙ ap spec_height (spec-Struct tag list)

pub initial_height-List : {v : RawInitial} (list : Vec RawInitial Global) (comma : Bool) → v ≡ first_value.List list comma
    → initial_height (initial v) ≡ 1 + initials_height (initials_list list.items)
initial_height-List list comma is = ap (λ v. initial_height (initial v)) is ∙ ap initial_height (initial-List list comma)

pub sentence_height-Block : {s : RawStmtKind} (items : Vec RawItem Global) → s ≡ statement.Block items
    → sentence_height (sentence s) ≡ 1 + items_height (items_list items.items)
sentence_height-Block items is = ap (λ s. sentence_height (sentence s)) is ∙ ap sentence_height (sentence-Block items)

pub sentence_height-Switch : {s : RawStmtKind} (value : RawExpr) (items : Vec RawSwitchItem Global) → s ≡ statement.Switch value items
    → sentence_height (sentence s) ≡ 1 + max (height (written value)) (1 + switch_height (switch_list items.items))
sentence_height-Switch value items is = ap (λ s. sentence_height (sentence s)) is ∙ ap sentence_height (sentence-Switch value items)
