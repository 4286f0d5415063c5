use Rattle.cs_well_formed.proofs.Initials.{initials_are_well, file_initials_are_constant}
use Rattle.cs_well_formed.proofs.initializers_are_well_formed.Goals as goal

pub returns-clause-well_formed : goal.returns-clause-well_formed
returns-clause-well_formed c = initials_are_well

pub returns-clause-constant : goal.returns-clause-constant
returns-clause-constant c = file_initials_are_constant
