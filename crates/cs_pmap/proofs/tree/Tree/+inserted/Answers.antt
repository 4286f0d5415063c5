use Rattle.std.proofs.lemmas.Result.{IfOk-weaker}
use Rattle.std.proofs.Common.{ap, ◌∙◌}
use Rattle.cs_pmap.proofs.AtBranch.{sorted_put, put_in_left, put_here, put_in_right}
use Rattle.cs_pmap.proofs.tree.Tree.+inserted.Goals as goal

pub balanced-requires-clause-sorted : goal.balanced-requires-clause-sorted
balanced-requires-clause-sorted g t c =
    let is = c.in_Some-branch.ensures in
    let same = c.requires.clones _ _ c.in_ok-clone-in-Less.ensures.cases in
    sorted_put c.args.key c.args.value is
    (put_in_left c.args.key c.args.value is c.in-Less.ensures c.in_ok-left-in-Less.ensures.entries same c.in_ok-copy-in-Less.ensures)

pub fork-requires-in-Equal-clause-sorted : goal.fork-requires-in-Equal-clause-sorted
fork-requires-in-Equal-clause-sorted g t c =
    let is = c.in_Some-branch.ensures in
    sorted_put c.args.key c.args.value is (put_here c.args.key c.args.value is c.in-Equal.ensures c.in_ok-copy-in-Equal.ensures c.in_ok-copy-in-Equal-2.ensures)

pub balanced-requires-in-Greater-clause-sorted : goal.balanced-requires-in-Greater-clause-sorted
balanced-requires-in-Greater-clause-sorted g t c =
    let is = c.in_Some-branch.ensures in
    let same = c.requires.clones _ _ c.in_ok-clone-in-Greater.ensures.cases in
    sorted_put c.args.key c.args.value is
    (put_in_right c.args.key c.args.value is c.in-Greater.ensures c.in_ok-copy-in-Greater.ensures same c.in_ok-right-in-Greater.ensures.entries)

pub returns-in_ok-copy-in-Less-clause-entries : goal.returns-in_ok-copy-in-Less-clause-entries
returns-in_ok-copy-in-Less-clause-entries g t c =
    let is = c.in_Some-branch.ensures in
    let same = c.requires.clones _ _ c.in_ok-clone-in-Less.ensures.cases in
    let entries = put_in_left c.args.key c.args.value is c.in-Less.ensures c.in_ok-left-in-Less.ensures.entries same c.in_ok-copy-in-Less.ensures in
    IfOk-weaker c.balanced.result _ _ (λ tree made. made ∙ entries) c.balanced.ensures.entries

pub returns-in_ok-copy-in-Equal-2-clause-entries : goal.returns-in_ok-copy-in-Equal-2-clause-entries
returns-in_ok-copy-in-Equal-2-clause-entries g t c =
    let is = c.in_Some-branch.ensures in
    let entries = put_here c.args.key c.args.value is c.in-Equal.ensures c.in_ok-copy-in-Equal.ensures c.in_ok-copy-in-Equal-2.ensures in
    IfOk-weaker c.fork-in-Equal-2.result _ _ (λ tree made. ap (λ t. t.0) made ∙ entries) c.fork-in-Equal-2.ensures

pub returns-in_ok-clone-in-Greater-clause-entries : goal.returns-in_ok-clone-in-Greater-clause-entries
returns-in_ok-clone-in-Greater-clause-entries g t c =
    let is = c.in_Some-branch.ensures in
    let same = c.requires.clones _ _ c.in_ok-clone-in-Greater.ensures.cases in
    let entries = put_in_right c.args.key c.args.value is c.in-Greater.ensures c.in_ok-copy-in-Greater.ensures same c.in_ok-right-in-Greater.ensures.entries in
    IfOk-weaker c.balanced-in-Greater-2.result _ _ (λ tree made. made ∙ entries) c.balanced-in-Greater-2.ensures.entries
