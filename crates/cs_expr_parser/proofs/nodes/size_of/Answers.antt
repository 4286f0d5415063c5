use Rattle.std.proofs.lemmas.Result.{IfOk-weaker}
use Rattle.cs_ast.specs.declared.raw.expression.RawExprKind.TheVariants as kind
use Rattle.cs_expr_parser.specs.Places.{PlacesForm, PlacesBefore}
use Rattle.cs_expr_parser.proofs.nodes.size_of.Goals as goal

pub returns-clause-placed : goal.returns-clause-placed
returns-clause-placed c =
    IfOk-weaker c.node.result (PlacesForm c.args.place (kind.SizeOf c.args.operand)) (PlacesBefore c.args.place c.args.operand)
    (λ tree here tokens a b. here tokens (a, b)) c.node.ensures.placed
