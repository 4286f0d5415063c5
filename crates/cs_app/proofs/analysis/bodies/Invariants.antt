use Rattle.std.specs.Prelude.{◌≡◌, filter}
use Rattle.std.specs.List.{range_with_len}
use Rattle.cs_ast.specs.TypedProgram.{typed_program}
use Rattle.cs_app.specs.Analyses.{has_body}
use Rattle.cs_app.proofs.analysis.bodies.Given as goal

abbrev pub invariant-loop-number : goal.invariant-loop-number
invariant-loop-number l = l.list.items ≡ filter (has_body (typed_program l.program)) (range_with_len 0 l.number)
