use Rattle.cs_well_formed.proofs.Growth.{IsWell-grown, IsWellInitial-grown, IsWellStatement-grown, Agrees-grown, IsWellGlobal-grown, IsWellRoutine-grown}
use Rattle.cs_well_formed.proofs.well_formed_stays.Goals as goal

pub returns-clause-expressions : goal.returns-clause-expressions
returns-clause-expressions c = λ s t e grows h. IsWell-grown s t grows e h

pub returns-clause-initializers : goal.returns-clause-initializers
returns-clause-initializers c = λ s t ty i grows h. IsWellInitial-grown s t grows i ty h

pub returns-clause-statements : goal.returns-clause-statements
returns-clause-statements c = λ s t b grows h. IsWellStatement-grown s t grows b h

pub returns-clause-agreement : goal.returns-clause-agreement
returns-clause-agreement c = λ s t k grows types h. Agrees-grown s t grows k types h

pub returns-clause-globals : goal.returns-clause-globals
returns-clause-globals c = IsWellGlobal-grown

pub returns-clause-routines : goal.returns-clause-routines
returns-clause-routines c = IsWellRoutine-grown
