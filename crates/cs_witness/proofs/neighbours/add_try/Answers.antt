use Rattle.std.proofs.Common.{◌<◌, ◌≤◌, ◌++◌, [], ◌∷◌, length, ap, ◌∙◌, arith}
use Rattle.std.specs.Int.{w128}
use Rattle.std.specs.Prelude.{ℤ, List}
use Rattle.std.proofs.lemmas.Int.{to_z-of_z}
use Rattle.cs_inputs.specs.declared.path.Path.{Path}
use Rattle.std.specs.BTreeMap.{insert_entry}
use Rattle.std.proofs.lemmas.Bool.Decides.{nat_tests}
use Rattle.cs_inputs.specs.PathOrder.{path_order}
use Rattle.cs_witness.proofs.Tries.{joins, stays_out}
use Rattle.cs_witness.proofs.neighbours.add_try.Goals as goal

pub returns-then-not-takes_more : goal.returns-then-not-takes_more
returns-then-not-takes_more c =
    let tries = c.args.tries.now.items in
    let full : 64 ≤ length tries = grind (arith, nat_tests) in
    stays_out 64 tries (insert_entry path_order c.args.inputs.now c.args.path.now c.args.number) full c.requires

pub returns : goal.returns
returns c =
    let tries = c.args.tries.now.items in
    let room : length tries < 64 = grind (arith, nat_tests) in
    let plain = to_z-of_z w128 c.args.number c.ranges.number in
    let made = rw plain at c.in_ok-other.ensures in
    c.in_ok-push.ensures.items ∙ ap (λ (y : List (Path × ℤ)). tries ++ y ∷ []) made
    ∙ joins 64 tries (insert_entry path_order c.args.inputs.now c.args.path.now c.args.number) room
