use Rattle.std.proofs.Common.{List, length, refl, ◌∙◌, sym, subst}
use Rattle.std.proofs.lemmas.List.{map-id}
use Rattle.std.proofs.lemmas.Iterator.Adapters.{YieldsList-from_vec}
use Rattle.std.proofs.lemmas.Iterator.Consumers.{YieldsList-end, YieldsList-so_far, YieldsList-turn}
use Rattle.std.proofs.lemmas.Option.{slice_get_read}
use Rattle.cs_explored.specs.declared.child.Child.{Child}
use Rattle.cs_explored.specs.Placing.{PlacesAll, ArePlainChildren}
use Rattle.cs_explored.proofs.Placed.{placed_none, placed_first, place_next, keeps_on}
use Rattle.cs_explored.proofs.findings.Findings.add_all.Goals as goal

pub loop-child-init : goal.loop-child-init
loop-child-init c = placed_none c.args.row c.args.self.now

pub returns-then-not-branch-clause-all : goal.returns-then-not-branch-clause-all
returns-then-not-branch-clause-all c =
    let yields = YieldsList-from_vec {s = c.into_iter-child-iterator.result} c.args.made.items c.into_iter-child-iterator.ensures.into_iter_gives.0
    (c.into_iter-child-iterator.ensures.into_iter_gives.1 ∙ c.args.made.ok.0) in
    let turn = YieldsList-turn yields c.loop-child.yielded c.loop-child.child-iterator c.loop-child.yielded_by c.next.result c.next.new.self
    c.in-Some.child c.in-Some.is c.next.ensures.steps in
    placed_first c.args.row c.args.made.items c.loop-child.yielded c.in-Some.child c.args.self.now c.loop-child.self c.add.new.self c.row_of.result
    c.in_ok-add.field-0 c.row_of.ensures c.if-not-branch.true c.in_ok-add.ensures.placed c.loop-child.invariant
    (YieldsList-so_far yields c.loop-child.yielded c.loop-child.child-iterator c.loop-child.yielded_by)
    (slice_get_read c.args.made.items (length c.args.made.items) (length c.loop-child.yielded) c.in-Some.child refl turn.0 turn.1)

pub returns-then-not-branch-clause-rest : goal.returns-then-not-branch-clause-rest
returns-then-not-branch-clause-rest c = keeps_on c.args.self.now c.loop-child.self c.add.new.self c.loop-child.invariant.rest c.in_ok-add.ensures.rest

pub returns-clause-all : goal.returns-clause-all
returns-clause-all c =
    let yields = YieldsList-from_vec {s = c.into_iter-child-iterator.result} c.args.made.items c.into_iter-child-iterator.ensures.into_iter_gives.0
    (c.into_iter-child-iterator.ensures.into_iter_gives.1 ∙ c.args.made.ok.0) in
    let all = YieldsList-end yields c.loop-child.yielded c.loop-child.child-iterator c.loop-child.yielded_by c.next.result c.next.new.self
    c.in-None.is c.next.ensures.steps in (
      subst (λ (made : List Child). PlacesAll c.args.row made c.args.self.now.graph c.loop-child.self.graph) (sym (map-id c.loop-child.yielded) ∙ all.0)
          c.loop-child.invariant.placed,
      c.loop-child.invariant.cuts,
      subst ArePlainChildren (sym (map-id c.loop-child.yielded) ∙ all.0) c.loop-child.invariant.plain,
    )

pub returns-clause-rest : goal.returns-clause-rest
returns-clause-rest c = c.loop-child.invariant.rest

pub loop-child-preserved : goal.loop-child-preserved
loop-child-preserved c =
    place_next c.args.row c.loop-child.yielded c.in-Some.child c.args.self.now c.loop-child.self c.add.new.self c.row_of.result c.in_ok-add.field-0
    c.row_of.ensures c.if-not-branch.false c.in_ok-add.ensures.placed c.in_ok-add.ensures.grows c.in_ok-add.ensures.rest c.in_ok-add.ensures.plain
    c.loop-child.invariant
