-- The parameters before the index were added.
use Rattle.std.proofs.Common.{map, take}
use Rattle.cs_ast.specs.TypedProgram.{variable}
use Rattle.cs_meaning.specs.Steps.{parameter_path}
use Rattle.cs_witness.specs.Listing.{Adds}
use Rattle.cs_witness.proofs.listing.add_locals.Given as goal

abbrev pub invariant-loop-parameter : goal.invariant-loop-parameter
invariant-loop-parameter l = Adds l.given (map parameter_path (map variable (take l.parameter-index l.parameters))) l.fn.inputs l.inputs
