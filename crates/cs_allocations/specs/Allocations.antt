-- The allocations of a well-formed program.
use Rattle.cs_ast.specs.TypedProgram.{TypedProgram}
use Rattle.cs_lower.specs.Allocations.{AllocationsHaveArguments}
use Rattle.cs_well_formed.specs.Programs.{IsWellFormed}

-- in a well-formed program each allocation has the arguments that its function takes
abbrev pub WellFormedProgramsAllocate : Type 0
WellFormedProgramsAllocate = (p : TypedProgram) → IsWellFormed p → AllocationsHaveArguments p
