use Rattle.cs_decl_parser.proofs.nodes.for_node.Goals as goal

pub returns-clause-placed : goal.returns-clause-placed
returns-clause-placed c = λ list at parts body. c.in_ok-node.ensures.placed list at (parts.0, parts.1, parts.2, body)
