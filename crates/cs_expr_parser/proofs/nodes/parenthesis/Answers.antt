use Rattle.std.proofs.lemmas.Result.{IfOk-weaker}
use Rattle.cs_ast.specs.declared.raw.expression.RawExprKind.TheVariants as kind
use Rattle.cs_expr_parser.specs.Places.{PlacesForm, PlacesBefore}
use Rattle.cs_expr_parser.proofs.nodes.parenthesis.Goals as goal

pub returns-clause-placed : goal.returns-clause-placed
returns-clause-placed c =
    IfOk-weaker c.node.result (PlacesForm c.args.place (kind.Parenthesis c.args.inner)) (PlacesBefore c.args.place c.args.inner)
    (λ tree here tokens a b. here tokens (a, b)) c.node.ensures.placed
