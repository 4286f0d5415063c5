use Rattle.std.proofs.Common.{◌≡◌, ◌∙◌}
use Rattle.cs_ast.specs.declared.raw.expression.RawExpr.{RawExpr}
use Rattle.std.proofs.lemmas.Result.{IfOk-weaker}
use Rattle.cs_ast.specs.declared.raw.expression.RawExprKind.TheVariants as kind
use Rattle.cs_ast.specs.RawTree.{Call}
use Rattle.cs_ast.specs.RawView.{written, written_kind, written_list}
use Rattle.cs_ast.proofs.RawRows.{written_kind-Call}
use Rattle.cs_expr_parser.specs.Places.{PlacesForm, PlacesCall}
use Rattle.cs_expr_parser.proofs.PlacedNodes.{call_placed}
use Rattle.cs_expr_parser.proofs.nodes.call.Goals as goal

pub returns-clause-tree : goal.returns-clause-tree
returns-clause-tree c =
    IfOk-weaker c.node.result (λ (tree : RawExpr). written tree ≡ written_kind (kind.Call c.args.function c.args.arguments))
    (λ (tree : RawExpr). written tree ≡ Call (written c.args.function) (written_list c.args.arguments.items))
    (λ tree is. is ∙ written_kind-Call c.args.function c.args.arguments) c.node.ensures.tree

pub returns-clause-placed : goal.returns-clause-placed
returns-clause-placed c =
    IfOk-weaker c.node.result (PlacesForm c.args.place (kind.Call c.args.function c.args.arguments))
    (PlacesCall c.args.place c.args.function c.args.arguments.items)
    (λ tree here tokens a b d. here tokens (call_placed c.args.function c.args.arguments c.args.place tokens a b d)) c.node.ensures.placed
