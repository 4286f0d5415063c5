use Rattle.std.proofs.Common.{sym, ◌∙◌, ap}
use Rattle.std.specs.FinMap.{find}
use Rattle.cs_pmap.specs.Keys.{key_cmp}
use Rattle.cs_pmap.proofs.AtBranch.{find_in_left, find_here, find_in_right}
use Rattle.cs_pmap.proofs.tree.Tree.get.Goals as goal

pub returns-in-Equal : goal.returns-in-Equal
returns-in-Equal g c =
    let at = c.in_Some-branch.ensures in
    sym (find_here c.args.key _ at.1 (sym c.in-Equal.ensures)) ∙ ap (λ t. find key_cmp c.args.key t.0) (sym at.0) ∙ c.loop-branch.invariant

pub loop-branch-preserved-in-Less : goal.loop-branch-preserved-in-Less
loop-branch-preserved-in-Less g c =
    let at = c.in_Some-branch.ensures in
    sym (find_in_left c.args.key _ at.1 (sym c.in-Less.ensures)) ∙ ap (λ t. find key_cmp c.args.key t.0) (sym at.0) ∙ c.loop-branch.invariant

pub loop-branch-preserved : goal.loop-branch-preserved
loop-branch-preserved g c =
    let at = c.in_Some-branch.ensures in
    sym (find_in_right c.args.key _ at.1 (sym c.in-Greater.ensures)) ∙ ap (λ t. find key_cmp c.args.key t.0) (sym at.0) ∙ c.loop-branch.invariant
