-- The expressions, words, members and items within written trees as lists: for the heights, and for every crate that walks
-- written trees.
use Rattle.std.proofs.Common.{◌≡◌, refl, sym, ap, ◌∙◌, Vec, Global}
use mathlib.Core.Former.{Count}
use Rattle.cs_ast.specs.declared.raw.written_type.WrittenType.{WrittenType}
use Rattle.cs_ast.specs.declared.raw.expression.RawExpr.{RawExpr}
use Rattle.cs_ast.specs.declared.raw.expression.RawExprKind.{RawExprKind, Row_of-RawExpr, end_of-RawExpr, more_of-RawExpr, items-the_row-RawExpr}
use Rattle.cs_ast.specs.declared.raw.expression.RawExprKind.{items_hidden-the_row-RawExpr-0}
use Rattle.cs_ast.specs.declared.raw.expression.RawExprKind.TheVariants as kind
use Rattle.cs_ast.specs.RawTree.{Call, SizeOfType, Cast, More}
use Rattle.cs_ast.specs.RawView.{written, written_kind, written_row, written_list}

pub written-row : (n : _) (row : Row_of-RawExpr n) → written_list (items-the_row-RawExpr n row) ≡ written_row row
written-row n end_of-RawExpr = refl
written-row n (more_of-RawExpr place p kind rest) = ap (More (written_kind kind)) (written-row _ rest)

-- the arguments or bounds of an expression, as a row
abbrev pub row_of : RawExprKind → (n : Count) × Row_of-RawExpr n
row_of (kind.Call' place p function shape row) = (_, row)
row_of (kind.SizeOfType' ty shape row) = (_, row)
row_of (kind.Cast' ty shape row place p operand) = (_, row)
row_of _ = (_, end_of-RawExpr)

pub written_kind-Call : (function : RawExpr) (arguments : Vec RawExpr Global)
    → written_kind (kind.Call function arguments) ≡ Call (written function) (written_list arguments.items)
written_kind-Call function arguments =
    let row = row_of (kind.Call function arguments) in
    ap (Call (written function)) (sym (written-row row.0 row.1) ∙ ap written_list (items_hidden-the_row-RawExpr-0 arguments))

pub written_kind-SizeOfType : (ty : WrittenType) (bounds : Vec RawExpr Global)
    → written_kind (kind.SizeOfType ty bounds) ≡ SizeOfType ty.words.items ty.pointers.items (written_list bounds.items)
written_kind-SizeOfType ty bounds =
    let row = row_of (kind.SizeOfType ty bounds) in
    ap (SizeOfType ty.words.items ty.pointers.items) (sym (written-row row.0 row.1) ∙ ap written_list (items_hidden-the_row-RawExpr-0 bounds))

pub written_kind-Cast : (ty : WrittenType) (bounds : Vec RawExpr Global) (operand : RawExpr)
    → written_kind (kind.Cast ty bounds operand) ≡ Cast ty.words.items ty.pointers.items (written_list bounds.items) (written operand)
written_kind-Cast ty bounds operand =
    let row = row_of (kind.Cast ty bounds operand) in
    ap (λ b. Cast ty.words.items ty.pointers.items b (written operand)) (sym (written-row row.0 row.1)
    ∙ ap written_list (items_hidden-the_row-RawExpr-0 bounds))
