use Rattle.std.proofs.Common.{ap}
use Rattle.std.specs.Prelude.{option_map}
use Rattle.cs_ast.specs.TypedView.{statement}
use Rattle.cs_lower.proofs.WholeBodies.{has_graph, has_none}
use Rattle.cs_lower.proofs.functions.lower_function.Goals as goal

pub returns-in-None : goal.returns-in-None
returns-in-None c = has_none (ap (option_map statement) c.in-None.is)

pub returns-in_ok-flow-in-Some : goal.returns-in_ok-flow-in-Some
returns-in_ok-flow-in-Some c = has_graph (ap (option_map statement) c.in-Some.is) c.in_ok-flow-in-Some.ensures.graph c.in_ok-flow-in-Some.ensures.integers
