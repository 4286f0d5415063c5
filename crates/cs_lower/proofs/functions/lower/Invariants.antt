-- The functions before the index have their graphs.
use Rattle.std.proofs.Common.{map}
use Rattle.std.specs.Prelude.{option_map}
use Rattle.cs_ast.specs.TypedProgram.{typed_program}
use Rattle.cs_cfg.specs.GraphView as view
use Rattle.cs_lower.proofs.WholeBodies.{HasGraphsBelow}
use Rattle.cs_lower.proofs.functions.lower.Given as goal

abbrev pub invariant-loop-function : goal.invariant-loop-function
invariant-loop-function l = HasGraphsBelow (typed_program l.program) l.function-index (map (option_map view.flow) l.flows.items)
