-- The locals before the index are integers.
use Rattle.std.proofs.Common.{◌≡◌, map, drop}
use Rattle.cs_ast.specs.TypedProgram.{variable}
use Rattle.cs_integer_functions.specs.IntegerFunctions.{are_integer_variables}
use Rattle.cs_integer_functions.proofs.functions.are_integers.Given as goal

abbrev pub invariant-loop-local : goal.invariant-loop-local
invariant-loop-local l = are_integer_variables (map variable (drop l.local-index l.locals)) ≡ are_integer_variables (map variable l.locals)
