use Rattle.std.proofs.Common.{List, ◌∙◌, refl, sym, subst}
use Rattle.std.specs.Global.{Box}
use Rattle.std.proofs.lemmas.List.{map-id}
use Rattle.std.proofs.lemmas.Iterator.Adapters.{YieldsList-from_vec}
use Rattle.std.proofs.lemmas.Iterator.Consumers.{YieldsList-end}
use Rattle.cs_events.specs.declared.outcome.Outcome.{Outcome}
use Rattle.cs_state.specs.declared.state.State.{State}
use Rattle.cs_explored.specs.Placing.{AddsEnds}
use Rattle.cs_explored.proofs.Placed.{ended_none, end_next}
use Rattle.cs_explored.proofs.findings.Findings.add_ends.Goals as goal

pub loop-outcome-init : goal.loop-outcome-init
loop-outcome-init c = ended_none c.args.row c.args.self.now

pub loop-outcome-preserved : goal.loop-outcome-preserved
loop-outcome-preserved c =
    end_next c.args.row c.loop-outcome.yielded (c.in-Some.outcome, c.in-Some.state) c.args.self.now c.loop-outcome.self
    (record c.loop-outcome.self { ends = c.push.new.self }) refl refl refl refl c.in_ok-push.ensures.items c.requires c.is_plain.ensures
    c.loop-outcome.invariant

pub returns-clause-adds : goal.returns-clause-adds
returns-clause-adds c =
    let yields = YieldsList-from_vec {s = c.into_iter-outcome-iterator.result} c.args.ends.items c.into_iter-outcome-iterator.ensures.into_iter_gives.0
    (c.into_iter-outcome-iterator.ensures.into_iter_gives.1 ∙ c.args.ends.ok.0) in
    let all = YieldsList-end yields c.loop-outcome.yielded c.loop-outcome.outcome-iterator c.loop-outcome.yielded_by c.next.result c.next.new.self
    c.in-None.is c.next.ensures.steps in
    subst (λ (new : List (Outcome × Box State)). AddsEnds c.args.row new c.args.self.now c.loop-outcome.self)
    (sym (map-id c.loop-outcome.yielded) ∙ all.0) c.loop-outcome.invariant.adds
