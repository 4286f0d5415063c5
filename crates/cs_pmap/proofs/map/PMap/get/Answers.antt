use Rattle.std.proofs.Common.{sym, ap, ◌∙◌}
use Rattle.std.specs.FinMap.{get}
use Rattle.cs_pmap.proofs.FiniteMap.{get-map_of}
use Rattle.cs_pmap.proofs.map.PMap.get.Goals as goal

pub returns : goal.returns
returns g c =
    c.get.ensures ∙ sym (get-map_of c.self.inside.tree.0 c.args.key c.self.invariant) ∙ ap (λ m. get m c.args.key) c.self.view_is
