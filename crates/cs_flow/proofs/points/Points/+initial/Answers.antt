use Rattle.std.proofs.Common.{refl, ap, ◌∙◌}
use Rattle.cs_ast.specs.TypedView.{initial}
use Rattle.cs_ast.proofs.TypedRows.{initial-List}
use Rattle.cs_flow.specs.PointView.{next_of, points_of}
use Rattle.cs_flow.proofs.RowsFromTheEnd.{first_parts-last, points_parts-last}
use Rattle.cs_flow.proofs.points.Points.+initial.Goals as goal

pub initial-returns-in-List-clause-points : goal.initial-returns-in-List-clause-points
initial-returns-in-List-clause-points t c =
    rw (ap initial c.in-List.is ∙ initial-List c.in-List.parts) (rw c.deref.ensures.value at c.parts.ensures.points)

pub initial-returns-in-List-clause-first : goal.initial-returns-in-List-clause-first
initial-returns-in-List-clause-first t c =
    rw (ap initial c.in-List.is ∙ initial-List c.in-List.parts) (rw c.deref.ensures.value at c.parts.ensures.first)

pub parts-loop-part-init : goal.parts-loop-part-init
parts-loop-part-init t c =
    rw (c.into_iter-part-iterator.ensures.into_iter_gives, c.rev-part-items.ensures.source, c.iter.ensures.rest) (record { points = refl; first = refl })

pub parts-loop-part-preserved : goal.parts-loop-part-preserved
parts-loop-part-preserved t c =
    let left = rw c.in-Some.is at c.next.ensures.steps in
    let before = rw left at c.loop-part.invariant in
    let made = c.in_ok-next.ensures in
    let rest = c.next.new.self.iter.rest.now in
    record {
      points = before.points ∙ (points_parts-last rest c.in-Some.part.now (next_of c.loop-part.next) (points_of c.loop-part.self)
          ∙ rw (made.first, made.points) refl);
      first = before.first ∙ (first_parts-last rest c.in-Some.part.now (next_of c.loop-part.next) ∙ rw made.first refl);
    }
