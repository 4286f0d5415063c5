use Rattle.cs_well_formed.proofs.Leading.{words_lead, typedefs_lead, parameters_lead, objects_are_whole}
use Rattle.cs_well_formed.proofs.declarations_lead.Goals as goal

pub returns-clause-words : goal.returns-clause-words
returns-clause-words c = words_lead

pub returns-clause-typedefs : goal.returns-clause-typedefs
returns-clause-typedefs c = typedefs_lead

pub returns-clause-parameters : goal.returns-clause-parameters
returns-clause-parameters c = parameters_lead

pub returns-clause-objects : goal.returns-clause-objects
returns-clause-objects c = objects_are_whole
