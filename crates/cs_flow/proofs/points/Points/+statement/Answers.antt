use Rattle.std.proofs.Common.{◌≡◌, map, refl, sym, ap, ◌∙◌, append_assoc}
use Rattle.cs_ast.specs.TypedView.{statement_at, statement_list}
use Rattle.cs_ast.proofs.TypedRows.{statement_at-Block, statement_at-For, statement_at-Switch}
use Rattle.cs_cfg.specs.ControlPoints.{in_switch}
use Rattle.cs_flow.specs.PointView.{next_of, way_of, points_of}
use Rattle.cs_flow.specs.SwitchView.{all_starts, ways_of_cases}
use Rattle.cs_flow.specs.TargetView.{targets_of}
use Rattle.cs_flow.proofs.RowsFromTheEnd.{starts_in-last, flows_in-last}
use Rattle.cs_flow.proofs.SwitchWays.{all_starts-last, ways_of_cases-are}
use Rattle.cs_flow.proofs.points.Points.+statement.Goals as goal

pub statement-returns-in-Block-clause-points : goal.statement-returns-in-Block-clause-points
statement-returns-in-Block-clause-points t c =
    rw (ap (statement_at c.args.s.now.place) (sym c.deref.ensures ∙ c.in-Block.is) ∙ statement_at-Block c.args.s.now.place c.in-Block.list)
    (rw c.deref-in-Block.ensures.value at c.statements.ensures.points)

pub statement-returns-in-Block-clause-first : goal.statement-returns-in-Block-clause-first
statement-returns-in-Block-clause-first t c =
    rw (ap (statement_at c.args.s.now.place) (sym c.deref.ensures ∙ c.in-Block.is) ∙ statement_at-Block c.args.s.now.place c.in-Block.list)
    (rw c.deref-in-Block.ensures.value at c.statements.ensures.first)

pub statement-returns-in-For-clause-points : goal.statement-returns-in-For-clause-points
statement-returns-in-For-clause-points t c =
    rw (ap (statement_at c.args.s.now.place) (sym c.deref.ensures ∙ c.in-For.is)
    ∙ statement_at-For c.args.s.now.place c.in-For.first c.in-For.test c.in-For.last c.in-For.body)
    (rw c.deref-in-For.ensures.value at c.for_loop.ensures.points)

pub statement-returns-in-For-clause-first : goal.statement-returns-in-For-clause-first
statement-returns-in-For-clause-first t c =
    rw (ap (statement_at c.args.s.now.place) (sym c.deref.ensures ∙ c.in-For.is)
    ∙ statement_at-For c.args.s.now.place c.in-For.first c.in-For.test c.in-For.last c.in-For.body)
    (rw c.deref-in-For.ensures.value at c.for_loop.ensures.first)

pub statement-returns-in-Switch-clause-points : goal.statement-returns-in-Switch-clause-points
statement-returns-in-Switch-clause-points t c =
    rw (ap (statement_at c.args.s.now.place) (sym c.deref.ensures ∙ c.in-Switch.is)
    ∙ statement_at-Switch c.args.s.now.place c.in-Switch.value c.in-Switch.cases c.in-Switch.list)
    (rw (c.deref-in-Switch.ensures.value, c.deref-in-Switch-2.ensures.value) at c.switch.ensures.points)

pub statements-loop-s-preserved : goal.statements-loop-s-preserved
statements-loop-s-preserved t c =
    let left = rw c.in-Some.is at c.next.ensures.steps in
    let before = rw left at c.loop-s.invariant in
    let made = c.in_ok-next.ensures in
    let rest = c.next.new.self.iter.rest.now in
    let to = targets_of c.args.to in
    record {
      points = before.points ∙ (flows_in-last to rest c.in-Some.s.now (next_of c.loop-s.next) (points_of c.loop-s.self)
          ∙ rw (made.first, made.points) refl);
      first = before.first ∙ (starts_in-last to rest c.in-Some.s.now (next_of c.loop-s.next) ∙ rw made.first refl);
    }

pub each_statement-loop-s-preserved : goal.each_statement-loop-s-preserved
each_statement-loop-s-preserved t c =
    let left = rw c.in-Some.is at c.next.ensures.steps in
    let before = rw left at c.loop-s.invariant in
    let made = c.in_ok-next.ensures in
    let rest = c.next.new.self.iter.rest.now in
    let to = targets_of c.args.to in
    record {
      points = before.points ∙ (flows_in-last to rest c.in-Some.s.now (next_of c.loop-s.next) (points_of c.loop-s.self)
          ∙ rw (made.first, made.points) refl);
      starts = before.starts ∙ (all_starts-last to rest c.in-Some.s.now (next_of c.loop-s.next) (map next_of c.loop-s.starts.items)
          ∙ rw (c.in_ok-push_front.ensures.items, made.first) refl);
    }

pub switch-returns-clause-points : goal.switch-returns-clause-points
switch-returns-clause-points t c =
    let to = in_switch (targets_of c.args.to) (next_of c.args.following) in
    let list = statement_list c.args.list.now in
    let begun : map next_of c.in_ok-starts.starts.items ≡ all_starts to list (next_of c.args.following) =
    rw c.in_switch.ensures at c.in_ok-starts.ensures.starts in
    let ways : map way_of c.in_ok-ways.ways.items ≡ ways_of_cases (all_starts to list (next_of c.args.following)) (next_of c.args.following) c.args.cases.now
    0 = rw begun at c.in_ok-ways.ensures in
    rw (
      c.in_ok-put.ensures,
      ways,
      ways_of_cases-are to list (next_of c.args.following) c.args.cases.now,
      c.in_ok-first.ensures.points,
      c.meets.ensures,
      c.in_ok-starts.ensures.points,
      c.in_switch.ensures,
    ) (simp append_assoc)
