use Rattle.std.proofs.Common.{ap, ◌∙◌}
use Rattle.cs_pmap.specs.Many.{insert_all}
use Rattle.cs_pmap.proofs.PutAll.{map_of-put_all}
use Rattle.cs_pmap.proofs.map.PMap.insert_all.Goals as goal

pub returns-clause-ok : goal.returns-clause-ok
returns-clause-ok g c =
    map_of-put_all c.args.entries.now c.self.inside.tree.0 c.in_ok-self-inside.field-0.0 c.self.invariant c.in_ok-self-inside.ensures
    ∙ ap (λ m. insert_all m c.args.entries.now) c.self.view_is
