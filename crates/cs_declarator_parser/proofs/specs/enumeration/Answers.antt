use Rattle.cs_declarator_parser.proofs.PlacingSpecs.{enum_inside}
use Rattle.cs_declarator_parser.proofs.specs.enumeration.Goals as goal

pub returns-clause-placed : goal.returns-clause-placed
returns-clause-placed c = λ tokens a. enum_inside _ _ c.args.constants.tree.list c.args.constants.tree.comma tokens c.split-name.ensures.name a
