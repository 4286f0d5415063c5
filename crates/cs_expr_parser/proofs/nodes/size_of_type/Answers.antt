use Rattle.std.proofs.Common.{◌≡◌, ◌∙◌}
use Rattle.cs_ast.specs.declared.raw.expression.RawExpr.{RawExpr}
use Rattle.std.proofs.lemmas.Result.{IfOk-weaker}
use Rattle.cs_ast.specs.declared.raw.expression.RawExprKind.TheVariants as kind
use Rattle.cs_ast.specs.RawTree.{SizeOfType}
use Rattle.cs_ast.specs.RawView.{written, written_kind, written_list}
use Rattle.cs_ast.proofs.RawRows.{written_kind-SizeOfType}
use Rattle.cs_expr_parser.specs.Places.{PlacesForm, PlacesSizeOfType}
use Rattle.cs_expr_parser.proofs.PlacedNodes.{size_of_type_placed}
use Rattle.cs_expr_parser.proofs.nodes.size_of_type.Goals as goal

pub returns-clause-tree : goal.returns-clause-tree
returns-clause-tree c =
    IfOk-weaker c.node.result (λ (tree : RawExpr). written tree ≡ written_kind (kind.SizeOfType c.args.ty c.args.bounds))
    (λ (tree : RawExpr). written tree ≡ SizeOfType c.args.ty.words.items c.args.ty.pointers.items (written_list c.args.bounds.items))
    (λ tree is. is ∙ written_kind-SizeOfType c.args.ty c.args.bounds) c.node.ensures.tree

pub returns-clause-placed : goal.returns-clause-placed
returns-clause-placed c =
    IfOk-weaker c.node.result (PlacesForm c.args.place (kind.SizeOfType c.args.ty c.args.bounds)) (PlacesSizeOfType c.args.place c.args.ty c.args.bounds.items)
    (λ tree here tokens a b d. here tokens (size_of_type_placed c.args.ty c.args.bounds c.args.place tokens a b d)) c.node.ensures.placed
