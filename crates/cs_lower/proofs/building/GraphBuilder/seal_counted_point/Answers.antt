use Rattle.std.proofs.Common.{List, map, ap, arith}
use Rattle.cs_cfg.specs.Graph.{Point, Reach}
use Rattle.cs_cfg.specs.GraphView as view
use Rattle.cs_cfg.specs.Placing.{does}
use Rattle.cs_lower.specs.Building.{Built, built_of, point_of}
use Rattle.cs_lower.proofs.Built.{sealed_counted_point, map_push}
use Rattle.cs_lower.proofs.building.GraphBuilder.seal_counted_point.Goals as goal

pub returns : goal.returns
returns c =
    let old = built_of c.args.self.now in
    let more : List Point → Built = λ l. record old { heads = l } in
    let number = c.in_ok-number.number in
    let p = point_of c.args.strip in
    let block = c.in_ok-into_block.field-0 in
    let reached = does c.args.place 0 (Reach c.args.kind number) p in
    sealed_counted_point old (record old { heads = map view.block c.push.new.self.items }) c.args.kind c.args.place p number
    (ap more (map_push view.block c.args.self.now.heads.items c.push.new.self.items block reached
    c.in_ok-push.ensures.items c.in_ok-into_block.ensures))
    (omega arith)
