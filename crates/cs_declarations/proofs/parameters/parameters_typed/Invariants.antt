use Rattle.std.proofs.Common.{◌≡◌, drop}
use Rattle.cs_declarations.specs.Parameters.{parameters_after, parameters_typed}
use Rattle.cs_declarations.specs.View.{environment_of, head}
use Rattle.cs_declarations.proofs.parameters.parameters_typed.Given as goal

abbrev pub invariant-loop-parameter : goal.invariant-loop-parameter
invariant-loop-parameter l = parameters_typed (environment_of l.initial.known) l.parameters
    ≡ parameters_after (drop l.parameter-index l.parameter-items) (head l.head l.known)
