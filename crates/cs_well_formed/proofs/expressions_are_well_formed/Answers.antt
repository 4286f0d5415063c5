use Rattle.cs_well_formed.proofs.Doors.{formed_are_well, operands_are_well, assigned_are_well, tests_are_well, selectors_are_well, discarded_are_well}
use Rattle.cs_well_formed.proofs.Doors.{constants_are_in_range}
use Rattle.cs_well_formed.proofs.expressions_are_well_formed.Goals as goal

pub returns-clause-formed : goal.returns-clause-formed
returns-clause-formed c = formed_are_well

pub returns-clause-operands : goal.returns-clause-operands
returns-clause-operands c = operands_are_well

pub returns-clause-assigned : goal.returns-clause-assigned
returns-clause-assigned c = assigned_are_well

pub returns-clause-tests : goal.returns-clause-tests
returns-clause-tests c = tests_are_well

pub returns-clause-selectors : goal.returns-clause-selectors
returns-clause-selectors c = selectors_are_well

pub returns-clause-discarded : goal.returns-clause-discarded
returns-clause-discarded c = discarded_are_well

pub returns-clause-constants : goal.returns-clause-constants
returns-clause-constants c = constants_are_in_range
