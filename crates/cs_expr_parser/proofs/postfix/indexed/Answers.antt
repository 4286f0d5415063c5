use Rattle.std.proofs.Common.{sym, subst, drop}
use Rattle.cs_expr_parser.proofs.SitesOfPlaces.{between_stands, between_placed}
use Rattle.cs_expr_parser.proofs.postfix.indexed.Goals as goal

pub returns-clause-placed : goal.returns-clause-placed
returns-clause-placed c =
    λ from here ends there.
    c.in_ok-tree.ensures.placed (drop from c.args.tokens.now) here
    (between_stands c.args.tokens.now from c.args.left.tree c.args.left.next c.place_at.result ends c.place_at.ensures)
    (between_placed c.args.tokens.now from c.args.left.tree c.args.left.next c.args.number.tree ends there)
