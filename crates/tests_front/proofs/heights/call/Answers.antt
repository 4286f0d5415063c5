use Rattle.cs_ast.proofs.HeightsOfNodes.{height-Call}
use Rattle.tests_front.proofs.heights.call.Goals as goal

pub returns : goal.returns
returns c =
    height-Call c.args.function c.args.arguments c.in_ok-at.ensures
