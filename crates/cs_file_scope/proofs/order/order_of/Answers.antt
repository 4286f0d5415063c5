use Rattle.std.proofs.Common.{◌≡◌, ◌≤◌, nat_eq, [], length, drop, sym, ap, ◌∙◌, arith}
use Rattle.std.proofs.lemmas.List.{drop_all}
use Rattle.std.specs.Cmp.Lexicographic.{pointwise}
use Rattle.std.specs.HashSet.{contains}
use Rattle.indexmap.specs.IndexSet.{insert_all}
use Rattle.cs_file_scope.specs.Order.{is_defined, all_placed}
use Rattle.cs_file_scope.proofs.PlacedFunctions.{all_placed-alike}
use Rattle.cs_file_scope.proofs.order.order_of.Goals as goal

pub returns : goal.returns
returns c =
    let file = c.args.file.now in
    let read = c.loop-external.external-index in
    let defined = contains (pointwise nat_eq) c.in_ok-defined.defined in
    let past : length file ≤ read = omega arith in
    ap (λ rest. insert_all (pointwise nat_eq) c.loop-external.names.keys (all_placed defined rest)) (sym (drop_all read file past))
    ∙ c.loop-external.invariant
    ∙ ap (insert_all (pointwise nat_eq) []) (all_placed-alike defined (λ name. is_defined name file) c.in_ok-defined.ensures file)
