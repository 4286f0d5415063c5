use Rattle.std.proofs.Common.{subst, sym}
use Rattle.cs_graph.specs.Waiting.{HasRowsOnce, HasJoined, IsWaiting}
use Rattle.cs_graph.proofs.Waited.{joined, joined_once}
use Rattle.cs_graph.proofs.worklist.Worklist.add.Goals as goal

pub invariant_of-self : goal.invariant_of-self
invariant_of-self c = subst HasRowsOnce (sym c.in_err-insert.ensures.err) c.self.invariant

pub invariant_of-self-2 : goal.invariant_of-self-2
invariant_of-self-2 c =
    joined_once c.args.visits c.args.row c.self.inside.waiting.keys c.insert.new.self.keys
    (joined c.args.visits c.args.row c.self.inside.waiting.keys c.insert.new.self.keys c.in_ok-insert.ensures.keys)
    (λ other there. c.requires other (subst (λ waiting. IsWaiting waiting other c.args.row) c.self.view_is there)) c.self.invariant

pub returns-clause-ok : goal.returns-clause-ok
returns-clause-ok c =
    subst (λ before. HasJoined c.args.visits c.args.row before c.insert.new.self.keys) c.self.view_is
    (joined c.args.visits c.args.row c.self.inside.waiting.keys c.insert.new.self.keys c.in_ok-insert.ensures.keys)
