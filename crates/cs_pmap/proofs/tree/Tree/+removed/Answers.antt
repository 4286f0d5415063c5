use Rattle.std.proofs.lemmas.Result.{IfOk-weaker}
use Rattle.std.proofs.Common.{◌∙◌}
use Rattle.cs_pmap.proofs.AtBranch.{sorted_without, removed_in_left, removed_here, removed_in_right}
use Rattle.cs_pmap.proofs.tree.Tree.+removed.Goals as goal

pub balanced-requires-clause-sorted : goal.balanced-requires-clause-sorted
balanced-requires-clause-sorted g t c =
    let is = c.in_Some-branch.ensures in
    let same = c.requires.clones _ _ c.in_ok-clone-in-Less.ensures.cases in
    sorted_without c.args.key is (removed_in_left c.args.key is c.in-Less.ensures c.in_ok-left-in-Less.ensures.entries same c.in_ok-copy-in-Less.ensures)

pub joined-requires-clause-sorted : goal.joined-requires-clause-sorted
joined-requires-clause-sorted g t c =
    let is = c.in_Some-branch.ensures in
    sorted_without c.args.key is (removed_here c.args.key is c.in-Equal.ensures)

pub balanced-requires-in-Greater-clause-sorted : goal.balanced-requires-in-Greater-clause-sorted
balanced-requires-in-Greater-clause-sorted g t c =
    let is = c.in_Some-branch.ensures in
    let same = c.requires.clones _ _ c.in_ok-clone-in-Greater.ensures.cases in
    sorted_without c.args.key is (removed_in_right c.args.key is c.in-Greater.ensures c.in_ok-copy-in-Greater.ensures same
    c.in_ok-right-in-Greater.ensures.entries)

pub returns-in_ok-copy-in-Less-clause-entries : goal.returns-in_ok-copy-in-Less-clause-entries
returns-in_ok-copy-in-Less-clause-entries g t c =
    let is = c.in_Some-branch.ensures in
    let same = c.requires.clones _ _ c.in_ok-clone-in-Less.ensures.cases in
    let entries = removed_in_left c.args.key is c.in-Less.ensures c.in_ok-left-in-Less.ensures.entries same c.in_ok-copy-in-Less.ensures in
    IfOk-weaker c.balanced.result _ _ (λ tree made. made ∙ entries) c.balanced.ensures.entries

pub returns-in-Equal-clause-entries : goal.returns-in-Equal-clause-entries
returns-in-Equal-clause-entries g t c =
    let is = c.in_Some-branch.ensures in
    IfOk-weaker c.joined.result _ _ (λ tree made. made ∙ removed_here c.args.key is c.in-Equal.ensures) c.joined.ensures.entries

pub returns-in_ok-clone-in-Greater-clause-entries : goal.returns-in_ok-clone-in-Greater-clause-entries
returns-in_ok-clone-in-Greater-clause-entries g t c =
    let is = c.in_Some-branch.ensures in
    let same = c.requires.clones _ _ c.in_ok-clone-in-Greater.ensures.cases in
    let entries = removed_in_right c.args.key is c.in-Greater.ensures c.in_ok-copy-in-Greater.ensures same c.in_ok-right-in-Greater.ensures.entries in
    IfOk-weaker c.balanced-in-Greater-2.result _ _ (λ tree made. made ∙ entries) c.balanced-in-Greater-2.ensures.entries
