use Rattle.std.proofs.lemmas.Result.{IfOk-weaker}
use Rattle.cs_ast.specs.declared.raw.expression.RawExprKind.TheVariants as kind
use Rattle.cs_expr_parser.specs.Places.{PlacesForm, PlacesChoice}
use Rattle.cs_expr_parser.proofs.nodes.choice.Goals as goal

pub returns-clause-placed : goal.returns-clause-placed
returns-clause-placed c =
    IfOk-weaker c.node.result (PlacesForm c.args.place (kind.Choice c.args.test c.args.one c.args.other))
    (PlacesChoice c.args.place c.args.test c.args.one c.args.other) (λ tree here tokens a b d e. here tokens (a, b, d, e)) c.node.ensures.placed
