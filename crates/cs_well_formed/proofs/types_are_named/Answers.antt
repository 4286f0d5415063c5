use Rattle.cs_well_formed.proofs.NamedTypes.{words_are_named, typedefs_are_named, parameters_are_named, objects_are_named}
use Rattle.cs_well_formed.proofs.Naming.{expressions_are_named, initials_are_named, statements_are_named}
use Rattle.cs_well_formed.proofs.types_are_named.Goals as goal

pub returns-clause-expressions : goal.returns-clause-expressions
returns-clause-expressions c = expressions_are_named

pub returns-clause-initializers : goal.returns-clause-initializers
returns-clause-initializers c = initials_are_named

pub returns-clause-statements : goal.returns-clause-statements
returns-clause-statements c = statements_are_named

pub returns-clause-words : goal.returns-clause-words
returns-clause-words c = words_are_named

pub returns-clause-typedefs : goal.returns-clause-typedefs
returns-clause-typedefs c = typedefs_are_named

pub returns-clause-parameters : goal.returns-clause-parameters
returns-clause-parameters c = parameters_are_named

pub returns-clause-objects : goal.returns-clause-objects
returns-clause-objects c = objects_are_named
