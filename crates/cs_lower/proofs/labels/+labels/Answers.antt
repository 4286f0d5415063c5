use Rattle.std.proofs.Common.{◌≡◌, ℕ, ◌+◌, rules, sym, ap, subst, ◌∙◌, arith}
use Rattle.std.specs.Prelude.{IfOk}
use Rattle.std.specs.BTreeMap.{get}
use Rattle.std.specs.Ordering.{nat_cmp}
use Rattle.cs_ast.specs.TypedTree.{While, Do}
use Rattle.cs_ast.specs.TypedView.{typed, some_typed, statement, statement_list}
use Rattle.cs_meaning.specs.CountedPoints.{counted_points, counted_points_in}
use Rattle.cs_lower.specs.Labels.{label_in, label_among}
use Rattle.cs_lower.proofs.LabelPoints.{label_in-Switch, label_in-While, label_in-Do, label_in-For, labels_added, one_more_labelled, one_more_counted}
use Rattle.cs_objects.proofs.StatementForms.{block_is, for_is, switch_is}
use Rattle.cs_lower.proofs.labels.+labels.Goals as goal

pub add_labels-returns-in-Block-clause-next : goal.add_labels-returns-in-Block-clause-next
add_labels-returns-in-Block-clause-next t c =
    let is = block_is c.args.s.now _ (sym c.deref.ensures ∙ c.in-Block.is) in
    rw is (rw c.deref-in-Block.ensures.value at c.add_labels_in.ensures.next)

pub add_labels-returns-in-Block-clause-labels : goal.add_labels-returns-in-Block-clause-labels
add_labels-returns-in-Block-clause-labels t c =
    let is = block_is c.args.s.now _ (sym c.deref.ensures ∙ c.in-Block.is) in
    labels_added c.add_labels_in.result (get nat_cmp c.args.labels.now) (get nat_cmp c.add_labels_in.new.labels) _ _
    (λ wanted. ap (λ s. label_in wanted s c.args.counted_point) is
    ∙ ap (λ l. label_among wanted (statement_list l) c.args.counted_point) (sym c.deref-in-Block.ensures.value)) c.add_labels_in.ensures.labels

pub add_labels-returns-in-Switch-clause-next : goal.add_labels-returns-in-Switch-clause-next
add_labels-returns-in-Switch-clause-next t c =
    let is = switch_is c.args.s.now _ _ _ (sym c.deref.ensures ∙ c.in-Switch.is) in
    rw is (rw c.deref-in-Switch.ensures.value at c.add_labels_in-in-Switch.ensures.next)

pub add_labels-returns-in-Switch-clause-labels : goal.add_labels-returns-in-Switch-clause-labels
add_labels-returns-in-Switch-clause-labels t c =
    let is = switch_is c.args.s.now _ _ _ (sym c.deref.ensures ∙ c.in-Switch.is) in
    labels_added c.add_labels_in-in-Switch.result (get nat_cmp c.args.labels.now) (get nat_cmp c.add_labels_in-in-Switch.new.labels) _ _
    (λ wanted. ap (λ s. label_in wanted s c.args.counted_point) is
    ∙ (label_in-Switch wanted c.args.s.now.place (typed c.in-Switch.field-0) c.in-Switch.field-1.items (statement_list c.in-Switch.statements.items)
    c.args.counted_point ∙ ap (λ l. label_among wanted (statement_list l) c.args.counted_point) (sym c.deref-in-Switch.ensures.value)))
    c.add_labels_in-in-Switch.ensures.labels

pub add_labels-returns-in_ok-together-in-While-clause-labels : goal.add_labels-returns-in_ok-together-in-While-clause-labels
add_labels-returns-in_ok-together-in-While-clause-labels t c =
    let body = statement c.in-While.body in
    let is : statement c.args.s.now ≡ While c.args.s.now.place (typed c.in-While.field-0) body = search rules in
    labels_added c.add_labels-in-While.result (get nat_cmp c.args.labels.now) (get nat_cmp c.add_labels-in-While.new.labels) _ _
    (λ wanted. ap (λ s. label_in wanted s c.args.counted_point) is
    ∙ (label_in-While wanted c.args.s.now.place (typed c.in-While.field-0) body c.args.counted_point
    ∙ ap (λ (n : ℕ). label_in wanted body n) (sym c.in_ok-together-in-While.ensures)))
    c.add_labels-in-While.ensures.labels

pub add_labels-returns-in_ok-together-in-Do-clause-labels : goal.add_labels-returns-in_ok-together-in-Do-clause-labels
add_labels-returns-in_ok-together-in-Do-clause-labels t c =
    let body = statement c.in-Do.body in
    let is : statement c.args.s.now ≡ Do c.args.s.now.place body (typed c.in-Do.field-1) = search rules in
    labels_added c.add_labels-in-Do.result (get nat_cmp c.args.labels.now) (get nat_cmp c.add_labels-in-Do.new.labels) _ _
    (λ wanted. ap (λ s. label_in wanted s c.args.counted_point) is
    ∙ (label_in-Do wanted c.args.s.now.place body (typed c.in-Do.field-1) c.args.counted_point
    ∙ ap (λ (n : ℕ). label_in wanted body n) (sym c.in_ok-together-in-Do.ensures)))
    c.add_labels-in-Do.ensures.labels

pub add_labels-returns-in_ok-next-in-For-clause-next : goal.add_labels-returns-in_ok-next-in-For-clause-next
add_labels-returns-in_ok-next-in-For-clause-next t c =
    let is = for_is c.args.s.now _ _ _ _ (sym c.deref.ensures ∙ c.in-For.is) in
    let before : c.in_ok-counted_points_in-in-For.field-0 ≡ counted_points_in (statement_list c.in-For.first.items) =
    rw c.deref-in-For.ensures.value at c.in_ok-counted_points_in-in-For.ensures in
    let head = c.in_ok-head-in-For.ensures in
    let next = c.in_ok-next-in-For.ensures in
    let all : c.in_ok-next-in-For.next + counted_points (statement c.in-For.body)
    ≡ c.args.counted_point + (1 + counted_points_in (statement_list c.in-For.first.items) + counted_points (statement c.in-For.body)) = omega arith in
    let counts : ℕ → Type 0 = λ n. IfOk c.add_labels-in-For.result (λ next. next ≡ n) in
    rw is (subst counts all c.add_labels-in-For.ensures.next)

pub add_labels-returns-in_ok-next-in-For-clause-labels : goal.add_labels-returns-in_ok-next-in-For-clause-labels
add_labels-returns-in_ok-next-in-For-clause-labels t c =
    let is = for_is c.args.s.now _ _ _ _ (sym c.deref.ensures ∙ c.in-For.is) in
    let before : c.in_ok-counted_points_in-in-For.field-0 ≡ counted_points_in (statement_list c.in-For.first.items) =
    rw c.deref-in-For.ensures.value at c.in_ok-counted_points_in-in-For.ensures in
    let head = c.in_ok-head-in-For.ensures in
    let next = c.in_ok-next-in-For.ensures in
    let here : c.args.counted_point + 1 + counted_points_in (statement_list c.in-For.first.items) ≡ c.in_ok-next-in-For.next = omega arith in
    labels_added c.add_labels-in-For.result (get nat_cmp c.args.labels.now) (get nat_cmp c.add_labels-in-For.new.labels) _ _
    (λ wanted. ap (λ s. label_in wanted s c.args.counted_point) is
    ∙ (label_in-For wanted c.args.s.now.place (statement_list c.in-For.first.items) (some_typed c.in-For.field-1) (some_typed c.in-For.field-2)
    (statement c.in-For.body) c.args.counted_point
    ∙ ap (λ (n : ℕ). label_in wanted (statement c.in-For.body) n) here))
    c.add_labels-in-For.ensures.labels

pub add_labels_in-loop-s-preserved : goal.add_labels_in-loop-s-preserved
add_labels_in-loop-s-preserved t c =
    let row = c.args.statements.now in
    let with_counted_point = one_more_counted row c.loop-s.s-index c.s-item.result (omega arith) c.s-item.is in
    let here = c.in_ok-next.ensures.next in
    record {
      next = omega arith;
      labels = λ wanted.
          one_more_labelled row c.loop-s.s-index c.s-item.result (omega arith) c.s-item.is wanted c.loop-s.next c.in_ok-next.next
          (get nat_cmp c.loop-s.labels wanted) (get nat_cmp c.add_labels.new.labels wanted) here (c.in_ok-next.ensures.labels wanted)
          ∙ c.loop-s.invariant.labels wanted;
    }
