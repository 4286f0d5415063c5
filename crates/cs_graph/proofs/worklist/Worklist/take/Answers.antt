use Rattle.std.proofs.Common.{subst}
use Rattle.cs_graph.specs.Waiting.{IsGiven}
use Rattle.cs_graph.proofs.Waited.{given, left_once}
use Rattle.cs_graph.proofs.worklist.Worklist.take.Goals as goal

pub invariant_of-self-2 : goal.invariant_of-self-2
invariant_of-self-2 c = left_once _ _ _ c.in_ok-row.ensures.removal c.self.invariant

pub returns-clause-some : goal.returns-clause-some
returns-clause-some c =
    subst (λ before. IsGiven c.in_ok-row.row before c.pop_first.new.self.keys) c.self.view_is
    (given (c.in_ok-row.field-0-0, c.in_ok-row.row) c.self.inside.waiting.keys c.pop_first.new.self.keys c.in_ok-row.ensures.removal
    c.in_ok-row.ensures.all_above c.self.invariant)
