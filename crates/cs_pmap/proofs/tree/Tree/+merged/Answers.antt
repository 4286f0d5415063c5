use Rattle.std.proofs.Common.{ap, sym, ◌∙◌, arith}
use Rattle.std.proofs.lemmas.Result.{IfOk-weaker}
use Rattle.cs_pmap.proofs.PutAll.{put_into_nothing, ascending_before, ascending_after, merged_is, merged_sorted}
use Rattle.cs_pmap.proofs.Spliced.{left_is_shorter, right_is_shorter}
use Rattle.cs_pmap.proofs.tree.Tree.+merged.Goals as goal

pub returns-in_default-root : goal.returns-in_default-root
returns-in_default-root g t c =
    let none = put_into_nothing c.args.entries.now c.args.self.now.0 (ap (λ t. t.0) c.in_default-root.ensures) c.requires.ascending in
    IfOk-weaker c.built.result _ _ (λ tree made. made ∙ sym none) c.built.ensures

pub merged-requires : goal.merged-requires
merged-requires g t c κs within =
    let root = c.in_Some-root.root.now in
    let shorter = left_is_shorter root (ap (λ t. t.0) c.in_Some-root.ensures.0) in (
      omega (arith, shorter, c.decreases),
      (
        within,
        (
          c.requires.clones,
          ascending_before c.args.entries.now root.key root.value c.split_around-around.result c.requires.ascending c.split_around-around.ensures,
        ),
      ),
    )

pub merged-requires-2 : goal.merged-requires-2
merged-requires-2 g t c κs within =
    let root = c.in_Some-root.root.now in
    let shorter = right_is_shorter root (ap (λ t. t.0) c.in_Some-root.ensures.0) in (
      omega (arith, shorter, c.decreases),
      (
        within,
        (
          c.requires.clones,
          ascending_after c.args.entries.now root.key root.value c.split_around-around.result c.requires.ascending c.split_around-around.ensures,
        ),
      ),
    )

pub join-requires-clause-sorted : goal.join-requires-clause-sorted
join-requires-clause-sorted g t c =
    let root = c.in_Some-root.root.now in
    let entries = c.args.entries.now in
    let same = c.requires.clones _ _ c.in_ok-value.ensures.cases in
    merged_sorted root entries c.in_Some-root.ensures (merged_is root entries c.split_around-around.result c.in_Some-root.ensures
    c.split_around-around.ensures c.in_ok-left.ensures same c.in_ok-right.ensures)

pub returns : goal.returns
returns g t c =
    let root = c.in_Some-root.root.now in
    let same = c.requires.clones _ _ c.in_ok-value.ensures.cases in
    let entries = merged_is root c.args.entries.now c.split_around-around.result c.in_Some-root.ensures c.split_around-around.ensures
    c.in_ok-left.ensures same c.in_ok-right.ensures in
    IfOk-weaker c.join.result _ _ (λ tree made. made ∙ entries) c.join.ensures.entries
