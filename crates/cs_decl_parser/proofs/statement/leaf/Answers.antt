use Rattle.std.proofs.Common.{drop}
use Rattle.cs_decl_parser.proofs.statement.leaf.Goals as goal

pub returns-clause-placed : goal.returns-clause-placed
returns-clause-placed c = λ parts. c.in_ok-node.ensures.placed (drop c.args.from c.args.source.now.tokens.now) c.place_at.ensures parts
