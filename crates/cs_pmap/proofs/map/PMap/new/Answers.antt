use Rattle.std.proofs.Common.{ap, ◌∙◌}
use Rattle.cs_pmap.proofs.FiniteMap.{map_of, map_of-none}
use Rattle.cs_pmap.proofs.map.PMap.new.Goals as goal

pub returns : goal.returns
returns g c = ap (λ t. map_of t.0) c.new.ensures ∙ map_of-none
