-- Executing a statement: the machine silently continues with the statement's parts, which are at the same point, or reaches a label; the
-- code begins with a jump or one operation. For the simulation.
use Rattle.std.proofs.Common.{◌≡◌, ℕ, ◌+◌, nat_lt, List, [], ◌∷◌, length, Option, Some, None, slice_get, arith, refl, sym, ap, subst}
use Rattle.cs_ast.specs.declared.place.Place.{Place}
use Rattle.cs_ast.specs.declared.typed.statement.Case.{Case}
use Rattle.cs_ast.specs.TypedTree.{Typed, Statement, Block, Run, If, IfElse, While, Do, For, Switch, Goto, Label, Break, Continue, Return, Statements}
use Rattle.cs_ast.specs.TypedProgram.{TypedProgram}
use Rattle.cs_events.specs.declared.outcome.RunBudgets.{RunBudgets}
use Rattle.cs_events.specs.declared.point.PointKind.{PointKind}
use Rattle.cs_events.specs.declared.point.PointKind.TheVariants as point
use Rattle.cs_events.specs.Acts.{Goes}
use Rattle.cs_events.specs.Simulation.{Yields, alone, both_go, both_stop, both_touch}
use Rattle.cs_meaning.specs.Machine.{Nothing, Item, Evaluate, EvaluateUnused, Drop, Execute, Decide, Turn, Out, Give, CallFrame, State, to_do, push, routine_of}
use Rattle.cs_meaning.specs.Machine.{body_of}
use Rattle.cs_meaning.specs.CountedPoints.{with_visits, reached_again, reach_counted_point}
use Rattle.cs_meaning.specs.Jumps.{executes, broken_out, continued, Landing, landing}
use Rattle.cs_meaning.specs.Statements.{lands}
use Rattle.cs_meaning.specs.Steps.{at_end, do_item}
use Rattle.cs_cfg.specs.Graph as graph
use Rattle.cs_cfg.specs.Graph.{Point, Flow, Code, block_of}
use Rattle.cs_cfg.specs.Placing.{does, split, there}
use Rattle.cs_cfg.specs.Executing.{leaving, finishing, executes_at}
use Rattle.cs_cfg.proofs.Acting.{as_code}
use Rattle.cs_cfg.proofs.Alike.{yields_if}
use Rattle.cs_cfg.proofs.Related.{CallersStand, Related, now}
use Rattle.cs_cfg.proofs.Moving.{Home, onward, jumps_to, with_depth, aligned, Answer, arrives, work_answers}
use Rattle.cs_cfg.proofs.Entered.{executed}
use Rattle.cs_cfg.proofs.Arriving.{out_stands, row_arrives}
use Rattle.cs_cfg.proofs.Landings.{Landed, goto_lands, goto_goes_on, goto_jumps, goto_stays}
use Rattle.cs_cfg.proofs.Breaking.{escapes}

module _ (code : Code) (program : TypedProgram) (budgets : RunBudgets) where
  -- the machine silently continues with other things to do, which are at the same point; no temporary is in use
  pub silently : (item : Item) (items rest : List Item) (m : State) (home : Home code program m.frame.function) (p : Point) (callers : List (CallFrame Point))
      → length m.frame.stack ≡ 0 →
      do_item program budgets item (to_do items m) ≡ Goes (to_do rest m) → onward code program home rest 0 p → CallersStand code program m.callers callers
      →
      Answer code program budgets (to_do (item ∷ items) m) (as_code p callers m)
  silently item items rest m home p callers empty e s waiting =
      alone e (now (aligned code program (to_do rest m) home p callers (with_depth code program home rest p (sym empty) s) waiting))

  -- `break` and `continue` lead to these points
  abbrev pub home_with : {function : ℕ} → Home code program function → Point → Point → Home code program function
  home_with home out again = record home { out = out; again = again }

  module _ (m : State) (home : Home code program m.frame.function) (callers : List (CallFrame Point)) (waiting : CallersStand code program m.callers callers)
      (empty : length m.frame.stack ≡ 0) where
    -- the machine and the code reach a counted point alike
    again_reached : (at : Place) (kind : PointKind) (counted_point : ℕ) (rest : List Item) (q : Point) → onward code program home rest 0 q
        → (count : Option ℕ) →
        Yields (Related code program budgets) (reached_again budgets at kind counted_point count (to_do rest m))
        (reached_again budgets at kind counted_point count (as_code q callers m))
    again_reached at kind counted_point rest q s None = both_stop
    again_reached at kind counted_point rest q s (Some count) =
        let next = with_visits counted_point (count + 1) (to_do rest m) in
        yields_if (Related code program budgets) (nat_lt count budgets.visits)
        (both_touch (both_go (now (aligned code program next home q callers (with_depth code program home rest q (sym empty) s) waiting)))) both_stop

    pub counted_point_reached : (at : Place) (kind : PointKind) (counted_point : ℕ) (rest : List Item) (q : Point) → onward code program home rest 0 q →
        Yields (Related code program budgets) (reach_counted_point budgets at kind counted_point (to_do rest m))
        (reach_counted_point budgets at kind counted_point (as_code q callers m))
    counted_point_reached at kind counted_point rest q s = again_reached at kind counted_point rest q s (slice_get m.frame.visits counted_point)

  -- the end of the body comes after it
  end_arrives : {function : ℕ} (home : Home code program function)
      → onward code program (home_with home finishing finishing) (at_end (routine_of program function)) 0 home.lowers.following
  end_arrives {function = function} home =
      let routine = routine_of program function in (
        does routine.closes 0 (graph.Close home.lowers.nothing) leaving,
        home.lowers.ends,
        (refl, (home.lowers.nothing, sym home.lowers.gives, refl), (finishing, there, (refl, there, there))),
      )

  -- a `goto` in the body lands
  landed : {function : ℕ} (home : Home code program function) (wanted : ℕ) (l : Landing)
      → landing wanted (body_of (routine_of program function)) 0 (at_end (routine_of program function)) ≡ Some l →
      Landed program home.flow (routine_of program function) home.lowers.labels wanted l
  landed {function = function} home wanted l e =
      let routine = routine_of program function in
      let is_body : home.body ≡ body_of routine = sym (executed routine home.body home.has_body) in
      goto_lands program home.flow routine home.lowers.labels wanted (at_end routine) l finishing finishing home.lowers.inside home.lowers.following
      (subst (λ body. executes_at program home.flow routine home.lowers.labels body 0 finishing finishing home.lowers.inside home.lowers.following) is_body
      home.lowers.executes) (end_arrives home) e

  module _ (m : State) (home : Home code program m.frame.function) (callers : List (CallFrame Point)) (waiting : CallersStand code program m.callers callers)
      (empty : length m.frame.stack ≡ 0)
      (counted_point : ℕ) (items : List Item) (p q : Point) (rest : onward code program home items 0 q) where
    -- the machine and the code's run simulate each other where a statement is to be executed
    abbrev Executes : Statement → Type 0
    Executes s = executes_at program home.flow (routine_of program m.frame.function) home.lowers.labels s counted_point home.out home.again p q
        → Answer code program budgets (to_do (Execute s counted_point ∷ items) m) (as_code p callers m)

    -- the machine continues with these things to do, with these targets of `break` and `continue`
    goes_to_parts : (s : Statement) (parts : List Item) (out again : Point)
        → do_item program budgets (Execute s counted_point) (to_do items m) ≡ Goes (to_do parts m)
        → onward code program (home_with home out again) parts 0 p →
        Answer code program budgets (to_do (Execute s counted_point ∷ items) m) (as_code p callers m)
    goes_to_parts s parts out again e s' = silently (Execute s counted_point) items parts m (home_with home out again) p callers empty e s' waiting

    -- after a `break` out of a statement
    outside : onward code program (home_with home q home.again) (Out ∷ items) 0 q
    outside = (q, there, out_stands program home.flow (routine_of program m.frame.function) home.lowers.labels items q home.out home.again rest)

    pub block_answers : (at : Place) (statements : Statements) → Executes (Block at statements)
    block_answers at statements it = goes_to_parts (Block at statements) (executes statements counted_point items) home.out home.again refl
        (row_arrives program home.flow (routine_of program m.frame.function) home.lowers.labels statements counted_point items home.out home.again p q it rest)

    pub run_answers : (at : Place) (e : Typed) → Executes (Run at e)
    run_answers at e it = goes_to_parts (Run at e) (EvaluateUnused e ∷ Drop ∷ items) home.out home.again refl
        (p, there, (does at 0 graph.Drop q, it, (does at 0 graph.Drop q, there, (at, (0, q, refl, refl, rest)))))

    pub if_answers : (at : Place) (test : Typed) (body : Statement) → Executes (If at test body)
    if_answers at test body it = goes_to_parts (If at test body) (Evaluate test ∷ Decide (If at test body) counted_point ∷ items) home.out home.again refl
        (p, there, (split at 0 it.0 it.1, it.2, (split at 0 it.0 it.1, there, (refl, (0, it.0, it.1, refl, refl, (q, it.3.0, it.3.1, rest))))))

    pub if_else_answers : (at : Place) (test : Typed) (body other : Statement) → Executes (IfElse at test body other)
    if_else_answers at test body other it =
        goes_to_parts (IfElse at test body other) (Evaluate test ∷ Decide (IfElse at test body other) counted_point ∷ items) home.out home.again refl
        (p, there, (split at 0 it.0 it.1, it.2, (split at 0 it.0 it.1, there, (refl, (0, it.0, it.1, refl, refl, (q, it.3.0, it.3.1, rest))))))

    pub while_answers : (at : Place) (test : Typed) (body : Statement) → Executes (While at test body)
    while_answers at test body it = goes_to_parts (While at test body) (Turn (While at test body) counted_point ∷ Out ∷ items) q home.again refl
        (it.0, it.1, (refl, (it.0, (refl, it.2), outside)))

    pub do_answers : (at : Place) (body : Statement) (test : Typed) → Executes (Do at body test)
    do_answers at body test it = goes_to_parts (Do at body test) (Turn (Do at body test) counted_point ∷ Out ∷ items) q home.again refl
        (it.0, it.2, (refl, (it.1, it.3, outside)))

    pub for_answers : (at : Place) (first : Statements) (test last : Option Typed) (body : Statement) → Executes (For at first test last body)
    for_answers at first test last body it =
        let loop = Turn (For at first test last body) counted_point ∷ Out ∷ items in
        goes_to_parts (For at first test last body) (executes first (counted_point + 1) loop) q home.again refl
        (row_arrives program home.flow (routine_of program m.frame.function) home.lowers.labels first (counted_point + 1) loop q home.again p it.0 it.2
        (it.0, there, (refl, (it.1, it.3, outside))))

    pub switch_answers : (at : Place) (value : Typed) (cases : List Case) (statements : Statements) → Executes (Switch at value cases statements)
    switch_answers at value cases statements it =
        let ways : Point = record { operations = []; end = graph.Switch at 0 it.0 it.1 } in
        goes_to_parts (Switch at value cases statements) (Evaluate value ∷ Decide (Switch at value cases statements) counted_point ∷ Out ∷ items) q
        home.again refl
        (p, there, (ways, it.3, (ways, there, (refl, (it.0, it.1, it.2, refl, it.4, it.5, it.6, outside)))))

    -- a `goto` lands, or continues
    pub goto_answers : (at : Place) (wanted : ℕ) (found : Option Landing)
        → landing wanted (body_of (routine_of program m.frame.function)) 0 (at_end (routine_of program m.frame.function)) ≡ found
        → Executes (Goto at wanted)
    goto_answers at wanted None e it = goes_to_parts (Goto at wanted) items home.out home.again (ap (λ found. lands budgets found (to_do items m)) e)
        (jumps_to code program home items 0
        (goto_goes_on program home.flow (routine_of program m.frame.function) home.lowers.labels wanted (at_end (routine_of program m.frame.function)) p q e
        it) rest)
    goto_answers at wanted (Some l) e it =
        let routine = routine_of program m.frame.function in
        let label = home.lowers.labels wanted in
        let land = landed home wanted l e in
        let stays = goto_stays program home.flow routine home.lowers.labels wanted (at_end routine) l p q e it in
        let way = goto_jumps program home.flow routine home.lowers.labels wanted (at_end routine) l p q e it in
        let reported = counted_point_reached m (home_with home land.out land.again) callers waiting empty l.at point.Label l.counted_point l.todo land.inside
        land.stands in
        arrives code program budgets (to_do (Execute (Goto at wanted) counted_point ∷ items) m) home p label callers way (empty, (q, stays, rest)) waiting
        (work_answers code program budgets (Execute (Goto at wanted) counted_point) items m l.at (graph.Reach point.Label l.counted_point) 0 label land.inside
        callers empty land.reaches
        (subst (λ found.
        Yields (Related code program budgets) (lands budgets found (to_do items m))
        (reach_counted_point budgets l.at point.Label l.counted_point (as_code land.inside callers m))) (sym e) reported))

    pub label_answers : (at : Place) (label : ℕ) (body : Statement) → Executes (Label at label body)
    label_answers at label body it =
        let reported = counted_point_reached m home callers waiting empty at point.Label counted_point (Execute body (counted_point + 1) ∷ items) it.1
        (it.1, there, (refl, (q, it.5, rest))) in
        arrives code program budgets (to_do (Execute (Label at label body) counted_point ∷ items) m) home p it.0 callers it.2
        (empty, (q, (it.0, it.1, there, it.3, it.4, it.5), rest)) waiting
        (work_answers code program budgets (Execute (Label at label body) counted_point) items m at (graph.Reach point.Label counted_point) 0 it.0 it.1 callers
        empty it.3 reported)

    pub break_answers : (at : Place) → Executes (Break at)
    break_answers at it =
        let out = escapes program home.flow (routine_of program m.frame.function) home.lowers.labels items home.out home.again 0 rest.0 rest.2 in
        goes_to_parts (Break at) (broken_out items) out.broken_outer out.broken_again refl
        (jumps_to code program (home_with home out.broken_outer out.broken_again) (broken_out items) 0 it.0 out.broken)

    pub continue_answers : (at : Place) → Executes (Continue at)
    continue_answers at it =
        let out = escapes program home.flow (routine_of program m.frame.function) home.lowers.labels items home.out home.again 0 rest.0 rest.2 in
        goes_to_parts (Continue at) (continued items) out.continued_out out.continued_again refl
        (jumps_to code program (home_with home out.continued_out out.continued_again) (continued items) 0 it.0 out.continues)

    pub return_answers : (at : Place) (value : Option Typed) → Executes (Return at value)
    return_answers at None it =
        let gives = does at 1 (graph.Meet point.Return) leaving in
        let next = to_do (Give at ∷ items) (push Nothing m) in
        let deep : length m.frame.stack + 1 ≡ 1 = omega arith in
        work_answers code program budgets (Execute (Return at None) counted_point) items m at graph.Nothing 0 p gives callers empty it.0
        (both_go (now (aligned code program next home gives callers (gives, there, (omega arith, refl, (q, rest))) waiting)))
    return_answers at (Some e) it =
        let gives = does at 1 (graph.Meet point.Return) leaving in
        goes_to_parts (Return at (Some e)) (Evaluate e ∷ Give at ∷ items) home.out home.again refl
        (p, there, (gives, it.0, (gives, there, (refl, refl, (q, rest)))))
