use Rattle.cs_decl_parser.proofs.nodes.while_node.Goals as goal

pub returns-clause-placed : goal.returns-clause-placed
returns-clause-placed c = λ list at test body. c.in_ok-node.ensures.placed list at (test, body)
