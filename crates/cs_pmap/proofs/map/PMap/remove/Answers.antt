use Rattle.std.proofs.Common.{sym, ap, ◌∙◌}
use Rattle.std.specs.FinMap.{remove}
use Rattle.cs_pmap.proofs.FiniteMap.{map_of-without, map_of-absent}
use Rattle.cs_pmap.proofs.map.PMap.remove.Goals as goal

pub returns-then-is_none-clause-ok : goal.returns-then-is_none-clause-ok
returns-then-is_none-clause-ok g c =
    sym c.self.view_is
    ∙ map_of-absent c.self.inside.tree.0 c.args.key c.get.result c.self.invariant c.get.ensures c.if-is_none.ensures
    ∙ ap (λ m. remove m c.args.key) c.self.view_is

pub returns-clause-ok : goal.returns-clause-ok
returns-clause-ok g c =
    map_of-without c.self.inside.tree.0 c.in_ok-self-inside.field-0.0 c.args.key c.self.invariant c.in_ok-self-inside.ensures.entries
    ∙ ap (λ m. remove m c.args.key) c.self.view_is
