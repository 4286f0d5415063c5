use Rattle.std.proofs.Common.{◌≡◌, map, take}
use Rattle.cs_ast.specs.TypedProgram.{routine}
use Rattle.cs_file_scope.specs.Beginning.{blank}
use Rattle.cs_file_scope.proofs.order.blanks.Given as goal

abbrev pub invariant-loop-name : goal.invariant-loop-name
invariant-loop-name l = map routine l.functions.items ≡ map blank (take l.name-index l.names)
