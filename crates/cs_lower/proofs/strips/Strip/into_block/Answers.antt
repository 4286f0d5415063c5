use Rattle.std.proofs.Common.{◌≡◌, List, map, reverse, ap, ◌∙◌, rules}
use Rattle.cs_cfg.specs.Graph.{Operation, Point}
use Rattle.cs_cfg.specs.GraphView as view
use Rattle.cs_lower.proofs.Built.{map_reverse}
use Rattle.cs_lower.proofs.strips.Strip.into_block.Goals as goal

pub returns : goal.returns
returns c =
    let block : List Operation → Point = λ l. record { operations = view.with_counted_point c.args.counted_point l; end = view.block_end c.args.self.end } in
    let all : c.append.new.self.items ≡ c.args.self.operations.items = search rules in
    ap block (ap (map view.operation) (c.reverse.ensures.items ∙ ap reverse all) ∙ map_reverse view.operation c.args.self.operations.items)
