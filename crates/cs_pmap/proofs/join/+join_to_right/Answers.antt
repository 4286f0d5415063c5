use Rattle.std.proofs.Common.{ap, refl, ◌∙◌, arith}
use Rattle.std.proofs.lemmas.Result.{IfOk-weaker}
use Rattle.cs_pmap.proofs.Rotated.{sorted_past_left}
use Rattle.cs_pmap.proofs.Spliced.{sorted_as, right_is_shorter, joined_right}
use Rattle.cs_pmap.proofs.join.+join_to_right.Goals as goal

pub balanced-requires-clause-sorted : goal.balanced-requires-clause-sorted
balanced-requires-clause-sorted g t c =
    let same = c.requires.clones _ _ c.in_ok-root_value.ensures.cases in
    sorted_as (joined_right c.in_Some-root.root.now (c.args.key, c.args.value) c.args.right.0 (ap (λ t. t.0) c.in_Some-root.ensures.0)
    (ap (λ t. t.0) c.in_ok-outer.ensures) same c.in_ok-joined.ensures.entries) c.requires.sorted

pub returns-clause-entries : goal.returns-clause-entries
returns-clause-entries g t c =
    let same = c.requires.clones _ _ c.in_ok-root_value.ensures.cases in
    let entries = joined_right c.in_Some-root.root.now (c.args.key, c.args.value) c.args.right.0 (ap (λ t. t.0) c.in_Some-root.ensures.0)
    (ap (λ t. t.0) c.in_ok-outer.ensures) same c.in_ok-joined.ensures.entries in
    IfOk-weaker c.balanced.result _ _ (λ tree made. made ∙ entries) c.balanced.ensures.entries

pub join_to_right-requires : goal.join_to_right-requires
join_to_right-requires g t c κs within =
    let root = c.in_Some-root.root.now in
    let is = c.in_Some-root.ensures in
    let shorter = right_is_shorter root (ap (λ t. t.0) is.0) in
    let sorted = sorted_past_left root.left.0 (root.key, root.value) root.right.0 (c.args.key, c.args.value) c.args.right.0
    (ap (λ t. t.0) is.0) refl c.requires.sorted in
    let far = c.if-saturating_sub-le1.false in (
      omega (arith, shorter, c.decreases),
      (
        within,
        (
          c.requires.clones,
          (
            sorted,
            omega (arith, far, c.saturating_sub.ensures, c.height.ensures, c.height-2.ensures, ap (λ t. t.1) is.0, is.1.height, is.1.sides),
          ),
        ),
      ),
    )
