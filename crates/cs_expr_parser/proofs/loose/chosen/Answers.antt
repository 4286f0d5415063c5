use Rattle.std.proofs.Common.{sym, subst, drop}
use Rattle.cs_expr_parser.proofs.SitesOfPlaces.{between_stands, between_placed, last_placed}
use Rattle.cs_expr_parser.proofs.loose.chosen.Goals as goal

pub returns-clause-placed : goal.returns-clause-placed
returns-clause-placed c =
    λ from here ends first first_ends second.
    c.in_ok-tree.ensures.placed (drop from c.args.tokens.now) here
    (between_stands c.args.tokens.now from c.args.test.tree c.args.test.next c.place_at-place.result ends c.place_at-place.ensures)
    (between_placed c.args.tokens.now from c.args.test.tree c.args.test.next c.args.one.tree ends first)
    (last_placed c.args.tokens.now from c.args.test.tree c.args.test.next c.args.one.tree c.args.one.next c.args.other.tree ends first_ends second)
