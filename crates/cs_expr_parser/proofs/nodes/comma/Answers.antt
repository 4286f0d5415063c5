use Rattle.std.proofs.lemmas.Result.{IfOk-weaker}
use Rattle.cs_ast.specs.declared.raw.expression.RawExprKind.TheVariants as kind
use Rattle.cs_expr_parser.specs.Places.{PlacesForm, PlacesBetween}
use Rattle.cs_expr_parser.proofs.nodes.comma.Goals as goal

pub returns-clause-placed : goal.returns-clause-placed
returns-clause-placed c =
    IfOk-weaker c.node.result (PlacesForm c.args.place (kind.Comma c.args.first c.args.second)) (PlacesBetween c.args.place c.args.first c.args.second)
    (λ tree here tokens a b d. here tokens (a, b, d)) c.node.ensures.placed
