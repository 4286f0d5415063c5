-- Loops in the simulation: their heads are reached, and after their bodies the code jumps back to them (C11 6.8.5).
use Rattle.std.proofs.Common.{◌≡◌, ℕ, ◌+◌, List, ◌∷◌, length, Option, Some, None, refl, sym, subst}
use Rattle.cs_ast.specs.declared.place.Place.{Place}
use Rattle.cs_ast.specs.TypedTree.{Typed, Statement, While, Do, For, Statements}
use Rattle.cs_ast.specs.TypedProgram.{TypedProgram}
use Rattle.cs_events.specs.declared.outcome.RunBudgets.{RunBudgets}
use Rattle.cs_events.specs.declared.point.PointKind.TheVariants as point
use Rattle.cs_meaning.specs.Machine.{Item, Evaluate, Execute, Decide, Turn, Again, CallFrame, State, to_do, routine_of}
use Rattle.cs_meaning.specs.CountedPoints.{counted_points_in}
use Rattle.cs_meaning.specs.Statements.{last_part, again}
use Rattle.cs_cfg.specs.Graph as graph
use Rattle.cs_cfg.specs.Graph.{Point, Flow, Code, block_of}
use Rattle.cs_cfg.specs.Placing.{does, split, there}
use Rattle.cs_cfg.specs.Executing.{part_to, while_loop, last_at}
use Rattle.cs_cfg.specs.Standing.{part_of, loops_at}
use Rattle.cs_cfg.proofs.Acting.{as_code}
use Rattle.cs_cfg.proofs.Related.{CallersStand}
use Rattle.cs_cfg.proofs.Moving.{Home, onward, Answer, work_answers}
use Rattle.cs_cfg.proofs.Executed.{silently, home_with, counted_point_reached}

module _ (code : Code) (program : TypedProgram) (budgets : RunBudgets) (m : State) (home : Home code program m.frame.function)
    (callers : List (CallFrame Point)) (waiting : CallersStand code program m.callers callers) (empty : length m.frame.stack ≡ 0) where
  module _ (counted_point : ℕ) (items : List Item) (p after_body : Point) (rest : onward code program home items 0 home.out) where
    -- the machine and the code's run simulate each other at the head of a loop
    abbrev Turns : Statement → Type 0
    Turns s = loops_at program home.flow (routine_of program m.frame.function) home.lowers.labels s counted_point p after_body home.out
        → Answer code program budgets (to_do (Turn s counted_point ∷ items) m) (as_code p callers m)

    while_turns : (at : Place) (test : Typed) (body : Statement) → Turns (While at test body)
    while_turns at test body it =
        let loop = it.1 in
        let one = loop.2.0 in
        let other = loop.2.1 in
        let reported = counted_point_reached code program budgets m home callers waiting empty at point.Head counted_point
        (Evaluate test ∷ Decide (While at test body) counted_point ∷ items) loop.0
        (loop.0, there, (split at 0 one other, loop.2.2, (split at 0 one other, there, (refl, (p, loop, rest, (0, one, other, refl, refl, loop.2.3)))))) in
        work_answers code program budgets (Turn (While at test body) counted_point) items m at (graph.Reach point.Head counted_point) 0 p loop.0 callers empty
        loop.1 reported

    do_turns : (at : Place) (body : Statement) (test : Typed) → Turns (Do at body test)
    do_turns at body test it =
        let reported = counted_point_reached code program budgets m (home_with code program budgets home home.out after_body) callers waiting empty at
        point.Head counted_point (Execute body (counted_point + 1) ∷ Again (Do at body test) counted_point ∷ items) it.0
        (it.0, there, (refl, (it.2.0, it.2.1, (after_body, it.2.2, (refl, refl, (p, it, (home.again, rest))))))) in
        work_answers code program budgets (Turn (Do at body test) counted_point) items m at (graph.Reach point.Head counted_point) 0 p it.0 callers empty it.1
        reported

    for_turns : (at : Place) (first : Statements) (test last : Option Typed) (body : Statement) → Turns (For at first test last body)
    for_turns at first None last body it =
        let loop = For at first None last body in
        let inside = counted_point + 1 + counted_points_in first in
        let body_stands =
        subst (λ x.
        part_to program home.flow (part_of program home.flow (routine_of program m.frame.function) home.lowers.labels body inside) home.out after_body x
        after_body) (sym it.3.0) it.4 in
        let reported = counted_point_reached code program budgets m (home_with code program budgets home home.out after_body) callers waiting empty at
        point.Head counted_point (Execute body inside ∷ Again loop counted_point ∷ items) it.0
        (it.0, there, (refl, (body_stands.0, body_stands.1, (after_body, body_stands.2, (refl, refl, (p, it, (home.again, rest))))))) in
        work_answers code program budgets (Turn loop counted_point) items m at (graph.Reach point.Head counted_point) 0 p it.0 callers empty it.2 reported
    for_turns at first (Some test) last body it =
        let loop = For at first (Some test) last body in
        let inside = counted_point + 1 + counted_points_in first in
        let one = it.3.0 in
        let other = it.3.1 in
        let body_stands =
        subst (λ x.
        part_to program home.flow (part_of program home.flow (routine_of program m.frame.function) home.lowers.labels body inside) home.out after_body x
        after_body) (sym it.3.3.0) it.4 in
        let reported = counted_point_reached code program budgets m home callers waiting empty at point.Head counted_point
        (Evaluate test ∷ Decide loop counted_point ∷ items) it.0 (
          it.0,
          there,
          (
            split at 0 one other,
            it.3.2,
            (split at 0 one other, there, (refl, (p, after_body, it, rest, (0, one, other, refl, refl, (body_stands, it.3.3.1))))),
          ),
        ) in
        work_answers code program budgets (Turn loop counted_point) items m at (graph.Reach point.Head counted_point) 0 p it.0 callers empty it.2 reported

  -- the head of a loop
  pub turn_answers : (s : Statement) (counted_point : ℕ) (items : List Item) (p after_body : Point) → onward code program home items 0 home.out →
      loops_at program home.flow (routine_of program m.frame.function) home.lowers.labels s counted_point p after_body home.out
      → Answer code program budgets (to_do (Turn s counted_point ∷ items) m) (as_code p callers m)
  turn_answers (While at test body) counted_point items p after_body rest it = while_turns counted_point items p after_body rest at test body it
  turn_answers (Do at body test) counted_point items p after_body rest it = do_turns counted_point items p after_body rest at body test it
  turn_answers (For at first test last body) counted_point items p after_body rest it =
      for_turns counted_point items p after_body rest at first test last body it
  turn_answers other counted_point items p after_body rest it = absurd it

  module _ (counted_point : ℕ) (items : List Item) (p outer head : Point)
      (rest : onward code program (home_with code program budgets home home.out outer) items 0 home.out) where
    -- after the last part of a `for`
    last_onward : (last : Option Typed) (loop : Statement) → last_at program home.flow last p head
        → loops_at program home.flow (routine_of program m.frame.function) home.lowers.labels loop counted_point head p home.out →
        onward code program (home_with code program budgets home home.out outer) (last_part last (Turn loop counted_point ∷ items)) 0 p
    last_onward None loop way it = (head, way, (refl, (p, it, rest)))
    last_onward (Some e) loop way it =
        let dropping = does way.0 0 graph.Drop way.1 in
        (p, there, (dropping, way.2, (dropping, there, (way.0, (0, way.1, refl, refl, (head, way.3, (refl, (p, it, rest))))))))

    -- after the body of a loop
    again_onward : (s : Statement) → loops_at program home.flow (routine_of program m.frame.function) home.lowers.labels s counted_point head p home.out →
        onward code program (home_with code program budgets home home.out outer) (again s counted_point items) 0 p
    again_onward (While at test body) it =
        let loop =
        subst (λ h.
        while_loop program home.flow at test counted_point
        (part_of program home.flow (routine_of program m.frame.function) home.lowers.labels body (counted_point + 1)) h home.out) (sym it.0) it.1 in
        (p, there, (refl, (p, (refl, loop), rest)))
    again_onward (Do at body test) it =
        let one = it.3.0 in
        let other = it.3.1 in
        (p, there, (split at 0 one other, it.3.2, (split at 0 one other, there, (refl, (head, p, it, rest, (0, one, other, refl, refl, it.3.3))))))
    again_onward (For at first test last body) it = last_onward last (For at first test last body) it.5 it
    again_onward other it = absurd it

    pub again_answers : (s : Statement) → loops_at program home.flow (routine_of program m.frame.function) home.lowers.labels s counted_point head p home.out
        →
        Answer code program budgets (to_do (Again s counted_point ∷ items) m) (as_code p callers m)
    again_answers s it = silently code program budgets (Again s counted_point) items (again s counted_point items) m
        (home_with code program budgets home home.out outer) p callers empty refl (again_onward s it) waiting
