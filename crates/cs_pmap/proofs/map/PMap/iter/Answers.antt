use Rattle.std.proofs.Common.{sym, ap, ◌∙◌}
use Rattle.std.specs.FinMap.{entries}
use Rattle.std.proofs.lemmas.Result.{IfOk-weaker}
use Rattle.cs_pmap.proofs.FiniteMap.{entries-map_of}
use Rattle.cs_pmap.proofs.map.PMap.iter.Goals as goal

pub returns : goal.returns
returns g c =
    IfOk-weaker c.new.result _ _ (λ all is. is ∙ sym (entries-map_of c.self.inside.tree.0 c.self.invariant) ∙ ap entries c.self.view_is) c.new.ensures
