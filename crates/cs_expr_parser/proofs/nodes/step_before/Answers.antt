use Rattle.std.proofs.lemmas.Result.{IfOk-weaker}
use Rattle.cs_ast.specs.declared.raw.expression.RawExprKind.TheVariants as kind
use Rattle.cs_expr_parser.specs.Places.{PlacesForm, PlacesBefore}
use Rattle.cs_expr_parser.proofs.nodes.step_before.Goals as goal

pub returns-clause-placed : goal.returns-clause-placed
returns-clause-placed c =
    IfOk-weaker c.node.result (PlacesForm c.args.place (kind.StepBefore c.args.step c.args.object)) (PlacesBefore c.args.place c.args.object)
    (λ tree here tokens a b. here tokens (a, b)) c.node.ensures.placed
