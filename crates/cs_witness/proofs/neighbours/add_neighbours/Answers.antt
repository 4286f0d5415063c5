use Rattle.std.proofs.Common.{ℤ, ◌<◌, ◌≤◌, ◌++◌, List, take, length, subst, sym, ap, ◌∙◌, arith}
use Rattle.std.specs.Prelude.{flat_map}
use Rattle.std.proofs.lemmas.List.{take_all}
use Rattle.cs_inputs.specs.declared.path.Path.{Path}
use Rattle.cs_findings.specs.Neighbours.{replaced}
use Rattle.cs_witness.proofs.Tries.{at_most, none_joins, piece_joins}
use Rattle.cs_witness.proofs.neighbours.add_neighbours.Goals as goal

pub loop-entry-init : goal.loop-entry-init
loop-entry-init c = none_joins 64 c.args.tries.now.items c.requires

pub add_replaced-requires : goal.add_replaced-requires
add_replaced-requires c = subst (λ (l : List (List (Path × ℤ))). length l ≤ 64) (sym c.loop-entry.invariant) (at_most 64 _)

pub loop-entry-preserved : goal.loop-entry-preserved
loop-entry-preserved c =
    let listed = c.args.listed.now in
    let i = c.loop-entry.entry-index in
    let below : i < length listed = omega arith in
    piece_joins 64 (λ (e : Path × ℤ). replaced c.args.constants.now c.args.inputs.now e.0) c.args.tries.now.items c.loop-entry.tries.items
    c.add_replaced.new.tries.items listed i c.entry-item.result below c.entry-item.is c.loop-entry.invariant c.in_ok-add_replaced.ensures

pub returns : goal.returns
returns c =
    let listed = c.args.listed.now in
    let none : length listed ≤ c.loop-entry.entry-index = omega arith in
    c.loop-entry.invariant ∙ ap (λ (l : List (Path × ℤ)). take 64 (c.args.tries.now.items
    ++ flat_map (λ (e : Path × ℤ). replaced c.args.constants.now c.args.inputs.now e.0) l)) (take_all c.loop-entry.entry-index listed none)
