use Rattle.std.proofs.Common.{List, sym, subst, ◌∙◌}
use Rattle.std.proofs.lemmas.List.{map-id}
use Rattle.std.proofs.lemmas.Iterator.Adapters.{YieldsList-from_vec}
use Rattle.std.proofs.lemmas.Iterator.Consumers.{YieldsList-end}
use Rattle.cs_results.specs.declared.run.Run.{Run}
use Rattle.cs_findings.specs.Runs.{run_of}
use Rattle.cs_witness.specs.Keeping.{Widens}
use Rattle.cs_witness.proofs.PoolLemmas.{widens_none, widens_on, widens_one}
use Rattle.cs_witness.proofs.PoolCorners.{Joined, joined_none, joined_one, adds_corners}
use Rattle.cs_witness.proofs.pools.add_corners.Goals as goal

pub loop-corner-init : goal.loop-corner-init
loop-corner-init c = record {
  widens = widens_none c.args.entry.now c.args.pool.now.items;
  joined = joined_none c.args.entry.now c.args.guess.now.guess.event c.args.pool.now.items;
}

pub loop-corner-preserved : goal.loop-corner-preserved
loop-corner-preserved c =
    let entry = c.args.entry.now in
    let pool = c.loop-corner.pool.items in
    let replay = c.in_ok-replay.replay in
    record {
      widens = widens_on entry c.args.pool.now.items pool c.push.new.self.items c.loop-corner.invariant.widens
          (subst (Widens entry pool) (sym c.in_ok-push.ensures.items) (widens_one entry pool replay c.in_ok-replay.ensures.kept));
      joined = joined_one entry c.args.guess.now.guess.event c.loop-corner.yielded c.in-Some.corner c.args.pool.now.items pool c.push.new.self.items replay
          c.loop-corner.invariant.joined c.in_ok-push.ensures.items c.in_ok-replay.ensures.run c.in_ok-replay.ensures.replayed;
    }

pub returns-clause-corners : goal.returns-clause-corners
returns-clause-corners c =
    let entry = c.args.entry.now in
    let guess = c.args.guess.now in
    let made = c.in_ok-corner-items.corner-items in
    let yields = YieldsList-from_vec {s = c.into_iter-corner-iterator.result} made.items c.into_iter-corner-iterator.ensures.into_iter_gives.0
    (c.into_iter-corner-iterator.ensures.into_iter_gives.1 ∙ made.ok.0) in
    let all = YieldsList-end yields c.loop-corner.yielded c.loop-corner.corner-iterator c.loop-corner.yielded_by c.next.result c.next.new.self c.in-None.is
    c.next.ensures.steps in
    adds_corners entry (run_of c.args.run.now) guess made.items c.args.pool.now.items c.loop-corner.pool.items c.in_ok-corner-items.ensures
    (subst (λ (l : List Run). Joined entry guess.guess.event l c.args.pool.now.items c.loop-corner.pool.items)
    (sym (map-id c.loop-corner.yielded) ∙ all.0) c.loop-corner.invariant.joined)
