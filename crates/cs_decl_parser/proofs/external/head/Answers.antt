use Rattle.cs_decl_parser.proofs.external.head.Goals as goal

pub returns-clause-placed : goal.returns-clause-placed
returns-clause-placed c = λ list at parameters. (at, parameters)
