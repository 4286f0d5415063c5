use Rattle.std.proofs.Common.{◌≡◌, ◌+◌}
use Rattle.cs_ast.specs.RawView.{written}
use Rattle.cs_ast.specs.RawHeight.{height}
use Rattle.tests_front.proofs.heights.enclosed.Given as goal

abbrev pub invariant-loop : goal.invariant-loop
invariant-loop l = height (written l.inner) ≡ 1 + l.counter
