use Rattle.cs_graph.proofs.Sounds.{sound_taken}
use Rattle.cs_graph.proofs.graph.Graph.next.Goals as goal

pub invariant_of-self : goal.invariant_of-self
invariant_of-self g c =
    sound_taken c.take.result c.self.inside.keys.entries c.self.inside.rows.items c.self.inside.work c.take.new.self c.self.inside.nodes
    c.take.ensures.some c.take.ensures.none c.self.invariant
