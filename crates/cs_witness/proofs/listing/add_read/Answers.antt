use Rattle.std.proofs.Common.{◌≡◌, ◌+◌, ◌<◌, ◌≤◌, List, [], ◌∷◌, ◌++◌, length, map, take, sym, ap, ◌∙◌, subst, arith}
use Rattle.std.proofs.lemmas.List.{take_more, take_all, map-append}
use Rattle.cs_inputs.specs.declared.path.Path.{Path}
use Rattle.cs_events.specs.declared.input.Lookup.{Lookup}
use Rattle.cs_witness.specs.Listing.{Adds, path_read}
use Rattle.cs_witness.proofs.Keys.{adds_none, adds_then}
use Rattle.cs_witness.proofs.listing.add_read.Goals as goal

pub loop-lookup-init : goal.loop-lookup-init
loop-lookup-init c = adds_none c.args.given.now c.args.inputs.now

pub loop-lookup-preserved : goal.loop-lookup-preserved
loop-lookup-preserved c =
    let read = c.args.read.now in
    let i = c.loop-lookup.lookup-index in
    let lookup = c.lookup-item.result in
    let below : i < length read = omega arith in
    let taken : take (i + 1) read ≡ take i read ++ lookup ∷ [] = take_more read i lookup below
    ∙ ap (λ (l : Lookup). take i read ++ l ∷ []) (sym c.lookup-item.is) in
    let paths : map path_read (take (i + 1) read) ≡ map path_read (take i read) ++ lookup.path ∷ [] = ap (map path_read) taken
    ∙ map-append path_read (take i read) (lookup ∷ []) in
    let one : Adds c.args.given.now (lookup.path ∷ []) c.loop-lookup.inputs c.add.new.inputs =
    subst (λ (p : Path). Adds c.args.given.now (p ∷ []) c.loop-lookup.inputs c.add.new.inputs) c.in_ok-copy.ensures c.in_ok-add.ensures in
    subst (λ l. Adds c.args.given.now l c.args.inputs.now c.add.new.inputs) (sym paths)
    (adds_then c.args.given.now (map path_read (take i read)) (lookup.path ∷ []) c.args.inputs.now c.loop-lookup.inputs c.add.new.inputs
    c.loop-lookup.invariant one)

pub returns : goal.returns
returns c =
    let read = c.args.read.now in
    let none : length read ≤ c.loop-lookup.lookup-index = omega arith in
    subst (λ (l : List Lookup). Adds c.args.given.now (map path_read l) c.args.inputs.now c.loop-lookup.inputs)
    (take_all c.loop-lookup.lookup-index read none) c.loop-lookup.invariant
