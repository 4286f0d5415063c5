use Rattle.std.proofs.Common.{drop}
use Rattle.cs_expr_parser.proofs.SitesOfPlaces.{type_parts}
use Rattle.cs_expr_parser.proofs.unary.measured.Goals as goal

pub returns-clause-placed : goal.returns-clause-placed
returns-clause-placed c =
    λ t.
    let parts = type_parts c.args.tokens.now c.args.from 2 c.args.taken t in
    c.in_ok-tree.ensures.placed (drop c.args.from c.args.tokens.now) c.place_at-place.ensures parts.0 parts.1
