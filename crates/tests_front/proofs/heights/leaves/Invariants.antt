use Rattle.std.proofs.Common.{◌≤◌}
use Rattle.cs_ast.specs.RawView.{written_list}
use Rattle.cs_ast.specs.RawHeight.{highest}
use Rattle.tests_front.proofs.heights.leaves.Given as goal

abbrev pub invariant-loop : goal.invariant-loop
invariant-loop l = highest (written_list l.list.items) ≤ 1
