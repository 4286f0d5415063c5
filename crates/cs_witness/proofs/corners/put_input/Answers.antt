use Rattle.std.proofs.Common.{◌≡◌, IsTrue, false, sym, subst, rules}
use Rattle.std.specs.Int.{w128}
use Rattle.std.proofs.lemmas.Int.{to_z-of_z}
use Rattle.cs_witness.specs.Corners.{IsPutInput}
use Rattle.cs_witness.proofs.CornerLemmas.{put_listed, put_unlisted}
use Rattle.cs_witness.proofs.corners.put_input.Goals as goal

pub returns-in_ok-set : goal.returns-in_ok-set
returns-in_ok-set c =
    let old = c.args.inputs.now in
    let path = c.args.path.now in
    let yes : IsTrue c.lists.result = search rules in
    let plain = to_z-of_z w128 c.args.number c.ranges.number in
    let set = rw (plain, c.in_ok-copy.ensures) at c.in_ok-set.ensures.ok in
    subst (IsPutInput path c.args.number old) (sym set) (put_listed old path c.args.number c.lists.ensures.in_order (c.lists.ensures.listed.0 yes))

pub returns-else-lists : goal.returns-else-lists
returns-else-lists c =
    let no : c.lists.result ≡ false = search rules in
    put_unlisted c.args.inputs.now c.args.path.now c.args.number (λ here. let yes = c.lists.ensures.listed.1 here in cc)
