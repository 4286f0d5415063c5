use Rattle.std.proofs.Common.{sym, subst, drop}
use Rattle.cs_expr_parser.proofs.SitesOfPlaces.{before_placed}
use Rattle.cs_expr_parser.proofs.unary.prefixed.Goals as goal

pub returns-clause-placed : goal.returns-clause-placed
returns-clause-placed c =
    λ there.
    c.in_ok-tree.ensures.placed (drop c.args.from c.args.tokens.now) c.place_at-place.ensures
    (before_placed c.args.tokens.now c.args.from c.args.operand.tree there)
