-- Appended so far: the flows of the functions before the index.
use Rattle.std.proofs.Common.{◌≡◌, ◌++◌}
use Rattle.cs_ast.specs.TypedProgram.{typed_program}
use Rattle.cs_flow.specs.WholeFlows.{first_flows}
use Rattle.cs_flow.proofs.flow.append_flow.Given as goal

abbrev pub invariant-loop-function : goal.invariant-loop-function
invariant-loop-function l = l.out.items ≡ l.fn.out.items ++ first_flows (typed_program l.program) l.function-index
