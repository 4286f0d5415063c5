-- The cases of a `switch` and a set of their numbers: no look-up searches a list.
use Rattle.std.specs.Prelude.{◌≡◌, ℤ, Bool, List, Some, None}
use Rattle.std.specs.HashSet.{HashSet, contains}
use Rattle.std.specs.Ordering.{int_eq}
use Rattle.cs_ast.specs.declared.typed.statement.Case.{Case}
use Rattle.cs_statements.specs.Statements.{is_case}

-- the set has the numbers of the cases, and it is known whether one is `default`
pub record HasNumbers {S : Type 0} (numbers : HashSet ℤ S) (has_default : Bool) (cases : List Case) : Type 0 where
  pub each : (n : ℤ) → contains int_eq numbers n ≡ is_case (Some n) cases
  pub default : has_default ≡ is_case None cases
