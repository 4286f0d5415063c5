use Rattle.std.proofs.Common.{◌≡◌, ◌||◌, ℕ, List, nat_eq, drop}
use Rattle.std.specs.Cmp.Lexicographic.{pointwise}
use Rattle.std.specs.HashSet.{contains}
use Rattle.cs_file_scope.specs.Order.{is_defined}
use Rattle.cs_file_scope.proofs.order.defined_in.Given as goal

abbrev pub invariant-loop-external : goal.invariant-loop-external
invariant-loop-external l = (name : List ℕ)
    → (contains (pointwise nat_eq) l.defined name || is_defined name (drop l.external-index l.file)) ≡ is_defined name l.file
