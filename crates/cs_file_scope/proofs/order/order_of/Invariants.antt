use Rattle.std.proofs.Common.{◌≡◌, nat_eq, [], drop}
use Rattle.std.specs.Cmp.Lexicographic.{pointwise}
use Rattle.std.specs.HashSet.{contains}
use Rattle.indexmap.specs.IndexSet.{insert_all}
use Rattle.cs_file_scope.specs.Order.{all_placed}
use Rattle.cs_file_scope.proofs.order.order_of.Given as goal

abbrev pub invariant-loop-external : goal.invariant-loop-external
invariant-loop-external l =
    insert_all (pointwise nat_eq) l.names.keys (all_placed (contains (pointwise nat_eq) l.defined) (drop l.external-index l.file))
    ≡ insert_all (pointwise nat_eq) [] (all_placed (contains (pointwise nat_eq) l.defined) l.file)
