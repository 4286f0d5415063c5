use Rattle.cs_decl_parser.proofs.nodes.do_node.Goals as goal

pub returns-clause-placed : goal.returns-clause-placed
returns-clause-placed c = λ list at body test. c.in_ok-node.ensures.placed list at (body, test)
