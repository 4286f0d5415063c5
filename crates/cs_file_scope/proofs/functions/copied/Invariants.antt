use Rattle.std.proofs.Common.{◌≡◌, map, take}
use Rattle.cs_ast.specs.TypedProgram.{variable}
use Rattle.cs_file_scope.proofs.functions.copied.Given as goal

abbrev pub invariant-loop-parameter : goal.invariant-loop-parameter
invariant-loop-parameter l = map variable l.list.items ≡ map variable (take l.parameter-index l.parameters)
