use Rattle.cs_well_formed.proofs.FittingDeclarations.{words_are_bounded, typedefs_are_bounded, parameters_are_bounded}
use Rattle.cs_well_formed.proofs.declarations_are_bounded.Goals as goal

pub returns-clause-words : goal.returns-clause-words
returns-clause-words c = words_are_bounded

pub returns-clause-typedefs : goal.returns-clause-typedefs
returns-clause-typedefs c = typedefs_are_bounded

pub returns-clause-parameters : goal.returns-clause-parameters
returns-clause-parameters c = parameters_are_bounded
