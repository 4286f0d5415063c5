use Rattle.std.proofs.Common.{◌≡◌, [], Bool, refl, rules, sym, ◌∙◌, subst}
use Rattle.std.specs.List.{Any}
use Rattle.cs_explored.proofs.Growing.{grows_not, grows_on, grows_worked}
use Rattle.cs_invariants.specs.Exploring.{LeadsOn}
use Rattle.cs_invariants.proofs.Keeping.{given_kept, done_empty}
use Rattle.cs_engine.proofs.engine.expand_all.Goals as goal

pub loop-init : goal.loop-init
loop-init g c = record { grows = grows_not c.args.findings.now; kinds = refl; kept = λ every entry explores kept. kept }

pub loop-preserved : goal.loop-preserved
loop-preserved g c = record {
  grows = grows_on c.args.findings.now c.loop.findings c.expand.new.findings c.loop.invariant.grows
      (grows_on c.loop.findings _ c.expand.new.findings (grows_worked c.loop.findings c.next.new.self c.next.ensures.rest)
      c.in_ok-expand.ensures.grows);
  kinds = c.expand.ensures.kinds ∙ c.loop.invariant.kinds;
  kept = λ every entry explores first.
      let so_far = c.loop.invariant.kept every entry explores first in
      let given = c.in-Some.ensures.some in
      subst (λ (added : Bool). LeadsOn c.args.exploration.now entry added c.expand.new.findings) c.if-not-branch.false
      (c.in_ok-expand.ensures.expands (λ fault. subst (Any (λ one. one ≡ fault)) (sym c.loop.invariant.kinds) (every fault)) entry explores
      (λ waits. given.gone waits.0 waits.1)
      (given_kept c.args.exploration.now entry explores c.loop.findings c.next.new.self c.in-Some.row given c.next.ensures.rest so_far));
}

pub returns-then-not-branch-clause-grows : goal.returns-then-not-branch-clause-grows
returns-then-not-branch-clause-grows g c =
    grows_on c.args.findings.now c.loop.findings c.expand.new.findings c.loop.invariant.grows
    (grows_on c.loop.findings _ c.expand.new.findings (grows_worked c.loop.findings c.next.new.self c.next.ensures.rest)
    c.in_ok-expand.ensures.grows)

pub returns-then-not-branch-clause-done : goal.returns-then-not-branch-clause-done
returns-then-not-branch-clause-done g c every entry explores first =
    let so_far = c.loop.invariant.kept every entry explores first in
    let given = c.in-Some.ensures.some in
    subst (λ (added : Bool). LeadsOn c.args.exploration.now entry added c.expand.new.findings) c.if-not-branch.true
    (c.in_ok-expand.ensures.expands (λ fault. subst (Any (λ one. one ≡ fault)) (sym c.loop.invariant.kinds) (every fault)) entry explores
    (λ waits. given.gone waits.0 waits.1)
    (given_kept c.args.exploration.now entry explores c.loop.findings c.next.new.self c.in-Some.row given c.next.ensures.rest so_far))

pub returns-in_default-clause-done : goal.returns-in_default-clause-done
returns-in_default-clause-done g c every entry explores first =
    let empty : c.loop.findings.graph.work ≡ [] = search rules in
    done_empty c.args.exploration.now entry explores c.loop.findings c.next.new.self empty c.next.ensures.rest
    (c.loop.invariant.kept every entry explores first)
