use Rattle.std.proofs.Common.{◌≡◌, List, ◌++◌, map, reverse, sym, ap, subst, ◌∙◌}
use Rattle.std.specs.Prelude.{All, Contains}
use Rattle.std.proofs.lemmas.List.{map-append}
use Rattle.cs_cfg.specs.Graph.{Point, Flow}
use Rattle.cs_cfg.specs.GraphView as view
use Rattle.cs_cfg.specs.declared.code.Block.{Block}
use Rattle.cs_lower.specs.Building.{Has, blocks, built_of}
use Rattle.cs_lower.proofs.Built.{whole, map_reverse, among_reversed}
use Rattle.cs_lower.proofs.building.GraphBuilder.finish.Goals as goal

-- the blocks of the counted points in reverse order, then the others
reversed : (heads others now turned : List Block) → turned ≡ reverse heads → now ≡ turned ++ others
    → map view.block now ≡ reverse (map view.block heads) ++ map view.block others
reversed heads others now turned turns is =
    ap (map view.block) (is ∙ ap (λ l. l ++ others) turns)
    ∙ (map-append view.block (reverse heads) others ∙ ap (λ l. l ++ map view.block others) (map_reverse view.block heads))

pub returns-clause-whole : goal.returns-clause-whole
returns-clause-whole c = λ all.
    let heads = c.args.self.heads.items in
    let others = c.args.self.others.items in
    let flow : List Point → Flow = λ l. record { blocks = l; entry = c.args.entry; counted_points = c.args.self.counted_points } in
    subst (λ l. Has (flow l) (built_of c.args.self))
    (sym (reversed heads others c.append.new.self.items c.reverse.new.self.items c.reverse.ensures.items c.in_ok-append.ensures.items))
    (whole (map view.block heads) (map view.block others) c.args.entry c.args.self.counted_points all)

pub returns-clause-no_other : goal.returns-clause-no_other
returns-clause-no_other c =
    let heads = c.args.self.heads.items in
    let others = c.args.self.others.items in
    subst (All (Contains (blocks (built_of c.args.self))))
    (sym (reversed heads others c.append.new.self.items c.reverse.new.self.items c.reverse.ensures.items c.in_ok-append.ensures.items))
    (among_reversed (map view.block heads) (map view.block others))
