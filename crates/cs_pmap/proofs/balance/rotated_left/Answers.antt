use Rattle.std.proofs.Common.{◌∷◌, ◌++◌, ap, refl, ◌∙◌}
use Rattle.std.proofs.lemmas.Result.{IfOk-weaker}
use Rattle.cs_pmap.proofs.Rotated.{sorted_past_left, sorted_past_right, regrouped_left}
use Rattle.cs_pmap.proofs.balance.rotated_left.Goals as goal

pub fork-requires-clause-sorted : goal.fork-requires-clause-sorted
fork-requires-clause-sorted g c =
    let root = c.in_Some-root.root.now in
    sorted_past_right c.args.left.0 (c.args.key, c.args.value) root.left.0 (root.key, root.value) root.right.0 (ap (λ t. t.0) c.in_Some-root.ensures.0)
    (ap (λ t. t.0) c.in_ok-copy.ensures) c.requires.sorted

pub fork-requires-2-clause-sorted : goal.fork-requires-2-clause-sorted
fork-requires-2-clause-sorted g c =
    let root = c.in_Some-root.root.now in
    let inner = c.in_Some-inner.inner.now in
    sorted_past_right c.args.left.0 (c.args.key, c.args.value) inner.left.0 (inner.key, inner.value) inner.right.0 (ap (λ t. t.0) c.in_Some-inner.ensures.0)
    (ap (λ t. t.0) c.in_ok-copy-3.ensures)
    (sorted_past_right c.args.left.0 (c.args.key, c.args.value) root.left.0 (root.key, root.value) root.right.0 (ap (λ t. t.0) c.in_Some-root.ensures.0) refl
    c.requires.sorted)

pub between-requires-2-clause-sorted : goal.between-requires-2-clause-sorted
between-requires-2-clause-sorted g c =
    let root = c.in_Some-root.root.now in
    let inner = c.in_Some-inner.inner.now in
    rw c.in_ok-copy-5.ensures (sorted_past_left inner.left.0 (inner.key, inner.value) inner.right.0 _ _ (ap (λ t. t.0) c.in_Some-inner.ensures.0)
    (ap (λ t. t.0) c.in_ok-copy-4.ensures) c.in_Some-root.ensures.1.sorted)

pub returns-clause-entries : goal.returns-clause-entries
returns-clause-entries g c =
    let root = c.in_Some-root.root.now in
    let inner = c.in_Some-inner.inner.now in
    let low = ap (λ t. t.0) c.in_ok-lower_left.ensures ∙ ap (λ t. c.args.left.0 ++ (c.args.key, c.args.value) ∷ t.0) c.in_ok-copy-3.ensures in
    let high = ap (λ t. t.0) c.in_ok-lower_right.ensures ∙ ap (λ t. t.0 ++ (root.key, root.value) ∷ c.in_ok-copy-5.field-0.0) c.in_ok-copy-4.ensures
    ∙ ap (λ t. inner.right.0 ++ (root.key, root.value) ∷ t.0) c.in_ok-copy-5.ensures in
    IfOk-weaker c.between-4.result _ _
    (λ tree is.
    ap (λ t. t.0) is ∙ regrouped_left c.args.left.0 (c.args.key, c.args.value) inner.left.0 (inner.key, inner.value) inner.right.0 (root.key, root.value)
    root.right.0 (ap (λ t. t.0) c.in_Some-root.ensures.0) (ap (λ t. t.0) c.in_Some-inner.ensures.0) low high)
    c.between-4.ensures
