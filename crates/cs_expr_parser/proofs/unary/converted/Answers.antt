use Rattle.std.proofs.Common.{sym, subst, drop}
use Rattle.cs_expr_parser.proofs.SitesOfPlaces.{type_parts, operand_placed}
use Rattle.cs_expr_parser.proofs.unary.converted.Goals as goal

pub returns-clause-placed : goal.returns-clause-placed
returns-clause-placed c =
    λ t there.
    let parts = type_parts c.args.tokens.now c.args.from 1 c.args.taken t in
    c.in_ok-tree.ensures.placed (drop c.args.from c.args.tokens.now) c.place_at-place.ensures parts.0 parts.1
    (operand_placed c.args.tokens.now c.args.from c.args.taken c.args.operand.tree t there)
