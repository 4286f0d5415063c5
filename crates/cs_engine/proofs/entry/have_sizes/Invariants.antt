use Rattle.std.proofs.Common.{ℕ, ◌<◌}
use Rattle.cs_ast.specs.TypedProgram.{typed_program}
use Rattle.cs_engine.proofs.Parameters.{IsSized}
use Rattle.cs_engine.proofs.entry.have_sizes.Given as goal

abbrev pub invariant-loop-parameter : goal.invariant-loop-parameter
invariant-loop-parameter l = (number : ℕ) → number < l.parameter-index → IsSized (typed_program l.program) l.parameters number
