use Rattle.std.proofs.Common.{List, map, ap}
use Rattle.cs_cfg.specs.Graph.{Point}
use Rattle.cs_cfg.specs.GraphView as view
use Rattle.cs_lower.specs.Building.{Built, built_of, point_of}
use Rattle.cs_lower.proofs.Built.{sealed, map_push}
use Rattle.cs_lower.proofs.building.GraphBuilder.seal.Goals as goal

pub returns : goal.returns
returns c =
    let old = built_of c.args.self.now in
    let more : List Point → Built = λ l. record old { others = l } in
    let point = point_of c.args.strip in
    let block = c.in_ok-into_block.field-0 in
    sealed old (record old { others = map view.block c.push.new.self.items }) c.in_ok-block.block point
    (ap more (map_push view.block c.args.self.now.others.items c.push.new.self.items block point c.in_ok-push.ensures.items
    c.in_ok-into_block.ensures)) c.in_ok-block.ensures
