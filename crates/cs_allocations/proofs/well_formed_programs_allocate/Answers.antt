use Rattle.cs_allocations.proofs.WellAllocated.{well_formed_allocates}
use Rattle.cs_allocations.proofs.well_formed_programs_allocate.Goals as goal

pub returns : goal.returns
returns c = well_formed_allocates
