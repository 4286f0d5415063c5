use Rattle.std.proofs.Common.{refl, sym, ap, ◌∙◌}
use Rattle.cs_ast.specs.TypedView.{form}
use Rattle.cs_ast.proofs.TypedRows.{form-Call, form-Allocate}
use Rattle.cs_flow.specs.PointView.{next_of, points_of}
use Rattle.cs_flow.proofs.RowsFromTheEnd.{first_in-last, points_in-last}
use Rattle.cs_flow.proofs.points.Points.+expression.Goals as goal

pub expression-returns-in-Call-clause-points : goal.expression-returns-in-Call-clause-points
expression-returns-in-Call-clause-points t c =
    rw (ap form (sym c.deref.ensures ∙ c.in-Call.is) ∙ form-Call _ c.in-Call.arguments) (rw c.deref-in-Call.ensures.value at c.expressions.ensures.points)

pub expression-returns-in-Call-clause-first : goal.expression-returns-in-Call-clause-first
expression-returns-in-Call-clause-first t c =
    rw (ap form (sym c.deref.ensures ∙ c.in-Call.is) ∙ form-Call _ c.in-Call.arguments) (rw c.deref-in-Call.ensures.value at c.expressions.ensures.first)

pub expression-returns-in-Allocate-clause-points :
    goal.expression-returns-in-Allocate-clause-points
expression-returns-in-Allocate-clause-points t c =
    rw (ap form (sym c.deref.ensures ∙ c.in-Allocate.is) ∙ form-Allocate _ c.in-Allocate.arguments _)
    (rw c.deref-in-Allocate.ensures.value at c.expressions-in-Allocate.ensures.points)

pub expression-returns-in-Allocate-clause-first :
    goal.expression-returns-in-Allocate-clause-first
expression-returns-in-Allocate-clause-first t c =
    rw (ap form (sym c.deref.ensures ∙ c.in-Allocate.is) ∙ form-Allocate _ c.in-Allocate.arguments _)
    (rw c.deref-in-Allocate.ensures.value at c.expressions-in-Allocate.ensures.first)

pub expressions-loop-e-init : goal.expressions-loop-e-init
expressions-loop-e-init t c =
    rw (c.into_iter-e-iterator.ensures.into_iter_gives, c.rev-e-items.ensures.source, c.iter.ensures.rest) (record { points = refl; first = refl })

pub expressions-loop-e-preserved : goal.expressions-loop-e-preserved
expressions-loop-e-preserved t c =
    let left = rw c.in-Some.is at c.next.ensures.steps in
    let before = rw left at c.loop-e.invariant in
    let made = c.in_ok-next.ensures in
    let rest = c.next.new.self.iter.rest.now in
    record {
      points = before.points ∙ (points_in-last rest c.in-Some.e.now (next_of c.loop-e.next) (points_of c.loop-e.self) ∙ rw (made.first, made.points) refl);
      first = before.first ∙ (first_in-last rest c.in-Some.e.now (next_of c.loop-e.next) ∙ rw made.first refl);
    }
