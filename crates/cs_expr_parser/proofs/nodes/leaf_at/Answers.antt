use Rattle.std.proofs.Common.{◌≡◌, List, ◌∷◌, drop, sym, subst}
use Rattle.cs_expr_parser.proofs.PlacedNodes.{leaf_at_placed}
use Rattle.cs_expr_parser.proofs.nodes.leaf_at.Goals as goal

pub returns-in-Some-clause-placed : goal.returns-in-Some-clause-placed
returns-in-Some-clause-placed c =
    let found = c.in-Some.ensures.lookup.3 in
    leaf_at_placed c.args.tokens.now c.args.at c.in-Some.token.now c.leaf.result found.0 (found.1 c.in-Some.token.now) c.leaf.ensures.placed
