use Rattle.cs_well_formed.specs.Places.{IsOfFiles}
use Rattle.cs_well_formed.proofs.LiteralsAfter.{literals-grow}
use Rattle.cs_well_formed.proofs.FittingDoors.{formed_are_bounded, operands_are_bounded, assigned_are_bounded, tests_are_bounded, selectors_are_bounded}
use Rattle.cs_well_formed.proofs.FittingDoors.{discarded_are_bounded}
use Rattle.cs_well_formed.proofs.FittingInitials.{initials_are_bounded}
use Rattle.cs_well_formed.proofs.typed_nodes_are_bounded.Goals as goal

pub returns-clause-formed : goal.returns-clause-formed
returns-clause-formed c count = formed_are_bounded (IsOfFiles count)

pub returns-clause-operands : goal.returns-clause-operands
returns-clause-operands c count = operands_are_bounded (IsOfFiles count)

pub returns-clause-assigned : goal.returns-clause-assigned
returns-clause-assigned c count = assigned_are_bounded (IsOfFiles count)

pub returns-clause-tests : goal.returns-clause-tests
returns-clause-tests c count = tests_are_bounded (IsOfFiles count)

pub returns-clause-selectors : goal.returns-clause-selectors
returns-clause-selectors c count = selectors_are_bounded (IsOfFiles count)

pub returns-clause-discarded : goal.returns-clause-discarded
returns-clause-discarded c count = discarded_are_bounded (IsOfFiles count)

pub returns-clause-literals : goal.returns-clause-literals
returns-clause-literals c = literals-grow

pub returns-clause-initializers : goal.returns-clause-initializers
returns-clause-initializers c count = initials_are_bounded (IsOfFiles count)
