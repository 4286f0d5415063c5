use Rattle.std.proofs.Common.{ℤ, ◌<◌, ◌≤◌, ◌++◌, List, take, length, get_or, subst, sym, ap, ◌∙◌, arith, rules}
use Rattle.std.specs.Prelude.{pos, FitsSigned}
use Rattle.std.specs.Int.{w128}
use Rattle.std.proofs.lemmas.Int.{to_z-of_z}
use Rattle.std.specs.BTreeMap.{insert_entry}
use Rattle.std.proofs.lemmas.List.{take_all}
use Rattle.cs_inputs.specs.declared.path.Path.{Path}
use Rattle.cs_inputs.specs.PathOrder.{path_order}
use Rattle.cs_findings.specs.Neighbours.{replaced}
use Rattle.cs_witness.proofs.Tries.{at_most, none_joins, image_joins}
use Rattle.cs_witness.proofs.neighbours.add_replaced.Goals as goal

pub loop-number-init : goal.loop-number-init
loop-number-init c = none_joins 64 c.args.tries.now.items c.requires

pub add_try-requires : goal.add_try-requires
add_try-requires c = subst (λ (l : List (List (Path × ℤ))). length l ≤ 64) (sym c.loop-number.invariant) (at_most 64 _)

pub loop-number-preserved : goal.loop-number-preserved
loop-number-preserved c =
    let constants = c.args.constants.now in
    let i = c.loop-number.number-index in
    let below : i < length constants = omega arith in
    let fits : FitsSigned w128 (get_or constants i (pos 0)) = search rules in
    let plain = to_z-of_z w128 (get_or constants i (pos 0)) fits in
    image_joins 64 (λ (number : ℤ). insert_entry path_order c.args.inputs.now c.args.path.now number) c.args.tries.now.items c.loop-number.tries.items
    c.add_try.new.tries.items constants i (pos 0) below c.loop-number.invariant (rw plain at c.in_ok-add_try.ensures)

pub returns : goal.returns
returns c =
    let constants = c.args.constants.now in
    let none : length constants ≤ c.loop-number.number-index = omega arith in
    c.loop-number.invariant ∙ ap (λ (l : List ℤ). take 64 (c.args.tries.now.items ++ replaced l c.args.inputs.now c.args.path.now))
    (take_all c.loop-number.number-index constants none)
