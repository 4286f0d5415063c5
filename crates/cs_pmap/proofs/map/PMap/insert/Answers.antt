use Rattle.std.proofs.Common.{ap, ◌∙◌}
use Rattle.std.specs.FinMap.{insert}
use Rattle.cs_pmap.proofs.FiniteMap.{map_of-put}
use Rattle.cs_pmap.proofs.map.PMap.insert.Goals as goal

pub returns-clause-ok : goal.returns-clause-ok
returns-clause-ok g c =
    map_of-put c.self.inside.tree.0 c.in_ok-self-inside.field-0.0 c.args.key c.args.value c.self.invariant c.in_ok-self-inside.ensures.entries
    ∙ ap (λ m. insert m c.args.key c.args.value) c.self.view_is
