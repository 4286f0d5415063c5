-- The statements before the index have only expressions of integer functions.
use Rattle.std.proofs.Common.{◌≡◌, drop}
use Rattle.cs_ast.specs.TypedView.{statement_list}
use Rattle.cs_integer_functions.specs.IntegerFunctions.{are_integer_statements}
use Rattle.cs_integer_functions.proofs.statements.+statements.Given as goal

abbrev pub invariant-are_integer_statements-loop-s : goal.invariant-are_integer_statements-loop-s
invariant-are_integer_statements-loop-s l =
    are_integer_statements (statement_list (drop l.s-index l.statements)) ≡ are_integer_statements (statement_list l.statements)
