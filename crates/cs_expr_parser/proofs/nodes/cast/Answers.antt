use Rattle.std.proofs.Common.{◌≡◌, ◌∙◌}
use Rattle.cs_ast.specs.declared.raw.expression.RawExpr.{RawExpr}
use Rattle.std.proofs.lemmas.Result.{IfOk-weaker}
use Rattle.cs_ast.specs.declared.raw.expression.RawExprKind.TheVariants as kind
use Rattle.cs_ast.specs.RawTree.{Cast}
use Rattle.cs_ast.specs.RawView.{written, written_kind, written_list}
use Rattle.cs_ast.proofs.RawRows.{written_kind-Cast}
use Rattle.cs_expr_parser.specs.Places.{PlacesForm, PlacesCast}
use Rattle.cs_expr_parser.proofs.PlacedNodes.{cast_placed}
use Rattle.cs_expr_parser.proofs.nodes.cast.Goals as goal

pub returns-clause-tree : goal.returns-clause-tree
returns-clause-tree c =
    IfOk-weaker c.node.result (λ (tree : RawExpr). written tree ≡ written_kind (kind.Cast c.args.ty c.args.bounds c.args.operand))
    (λ (tree : RawExpr). written tree ≡ Cast c.args.ty.words.items c.args.ty.pointers.items (written_list c.args.bounds.items) (written c.args.operand))
    (λ tree is. is ∙ written_kind-Cast c.args.ty c.args.bounds c.args.operand) c.node.ensures.tree

pub returns-clause-placed : goal.returns-clause-placed
returns-clause-placed c =
    IfOk-weaker c.node.result (PlacesForm c.args.place (kind.Cast c.args.ty c.args.bounds c.args.operand))
    (PlacesCast c.args.place c.args.ty c.args.bounds.items c.args.operand)
    (λ tree here tokens a b d e. here tokens (cast_placed c.args.ty c.args.bounds c.args.operand c.args.place tokens a b d e)) c.node.ensures.placed
