-- The labels of the statements from the index on remain to be added.
use Rattle.std.proofs.Common.{◌≡◌, ℕ, ◌+◌, drop}
use Rattle.std.specs.Option.{option_or}
use Rattle.std.specs.BTreeMap.{get}
use Rattle.std.specs.Ordering.{nat_cmp}
use Rattle.cs_ast.specs.TypedView.{statement_list}
use Rattle.cs_meaning.specs.CountedPoints.{counted_points_in}
use Rattle.cs_lower.specs.Labels.{label_among}
use Rattle.cs_lower.proofs.labels.+labels.Given as goal

abbrev pub invariant-add_labels_in-loop-s : goal.invariant-add_labels_in-loop-s
invariant-add_labels_in-loop-s l = record {
  next : l.next + counted_points_in (statement_list (drop l.s-index l.statements)) ≡ l.counted_point + counted_points_in (statement_list l.statements);
  labels : (wanted : ℕ) →
      option_or (get nat_cmp l.labels wanted) (label_among wanted (statement_list (drop l.s-index l.statements)) l.next)
      ≡ option_or (get nat_cmp l.initial.labels wanted) (label_among wanted (statement_list l.statements) l.counted_point);
}
