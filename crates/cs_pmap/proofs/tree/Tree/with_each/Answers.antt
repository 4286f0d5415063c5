use Rattle.std.proofs.Common.{ap, sym, ◌∙◌}
use Rattle.std.specs.FinMap.{put}
use Rattle.cs_pmap.specs.Keys.{key_cmp}
use Rattle.cs_pmap.proofs.PutAll.{put_one_more}
use Rattle.cs_pmap.proofs.tree.Tree.with_each.Goals as goal

pub loop-entry-preserved : goal.loop-entry-preserved
loop-entry-preserved g c =
    let entry = c.entry-item.result in
    let same = c.requires.clones _ _ c.in_ok-value.ensures.cases in
    c.in_ok-tree-2.ensures.entries
    ∙ ap (λ v. put key_cmp entry.0 v c.loop-entry.tree.0) same
    ∙ ap (put key_cmp entry.0 entry.1) c.loop-entry.invariant
    ∙ sym (put_one_more c.args.entries.now c.args.self.now.0 c.loop-entry.entry-index entry c.loop-entry-test.true c.entry-item.is)
