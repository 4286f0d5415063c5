-- The beginning and the end of a function's body, and leaving a frame, in the simulation (C11 6.8.6.4, 6.9.1).
use Rattle.std.proofs.Common.{◌≡◌, ℕ, suc, ◌+◌, List, [], ◌∷◌, length, arith, refl, sym, ap, subst}
use Rattle.cs_ast.specs.declared.place.Place.{Place}
use Rattle.cs_ast.specs.TypedProgram.{TypedProgram}
use Rattle.cs_events.specs.declared.outcome.RunBudgets.{RunBudgets}
use Rattle.cs_events.specs.declared.point.PointKind.TheVariants as point
use Rattle.cs_events.specs.Objects.{UnsetCell}
use Rattle.cs_events.specs.Touches.{Meets}
use Rattle.cs_events.specs.Acts.{Goes, Touches}
use Rattle.cs_events.specs.Simulation.{Yields, together, both_go, both_stop, both_touch}
use Rattle.cs_meaning.specs.Machine.{Operand, Scalar, Item, Out, Begin, End, Give, Leave, CallFrame, Frame, State, to_do, push, operand_at}
use Rattle.cs_meaning.specs.Calls.{leave_to, leave}
use Rattle.cs_meaning.specs.Steps.{do_item}
use Rattle.cs_cfg.specs.Graph as graph
use Rattle.cs_cfg.specs.Graph.{Point, Flow, Code}
use Rattle.cs_cfg.specs.CodeSteps.{code_step}
use Rattle.cs_cfg.specs.Placing.{there}
use Rattle.cs_cfg.specs.Executing.{leaving, finishing}
use Rattle.cs_cfg.proofs.Acting.{as_code}
use Rattle.cs_cfg.proofs.Related.{FrameStands, CallersStand, nobody, waits, Related, now}
use Rattle.cs_cfg.proofs.Moving.{uncut, Home, stands, onward, with_depth, aligned, Answer, work_answers}
use Rattle.cs_cfg.proofs.Executed.{silently, home_with}

module _ (code : Code) (program : TypedProgram) (budgets : RunBudgets) where
  -- a frame that waited receives its value
  given : (value : Operand) (frame : Frame) (other : CallFrame Point) → FrameStands code program (suc (length frame.stack)) frame other →
      FrameStands code program (length (value ∷ frame.stack)) (record frame { stack = value ∷ frame.stack })
      (record other { stack = value ∷ other.stack })
  given value frame other s = record {
    function = s.function;
    number = s.number;
    stack = ap (λ stack. value ∷ stack) s.stack;
    visits = s.visits;
    body = s.body;
    has_body = s.has_body;
    flow = s.flow;
    has_flow = s.has_flow;
    lowers = s.lowers;
    out = s.out;
    again = s.again;
    here = s.here;
    joins = s.joins;
    stands = s.stands;
  }

  -- frames are left alike
  left_to : (value : Operand) (m : State) (p : Point) (callers : List (CallFrame Point)) (frames : List Frame) (others : List (CallFrame Point))
      → CallersStand code program frames others →
      Yields (Related code program budgets) (leave_to frames value m) (leave_to others value (as_code p callers m))
  left_to value m p callers [] [] nobody = both_stop
  left_to value m p callers [] (other ∷ others) waiting = elim waiting [ ]
  left_to value m p callers (frame ∷ frames) [] waiting = elim waiting [ ]
  left_to value m p callers (frame ∷ frames) (other ∷ others) (waits s rest) =
      both_go (now (record { frame = given value frame other s; callers = rest; memory = refl; frames = refl; allocations = refl; calls = refl }))

  module _ (m : State) (home : Home code program m.frame.function) (callers : List (CallFrame Point)) (waiting : CallersStand code program m.callers callers)
    where
      -- with nothing more to do the frame is left
      pub nothing_answers : (p : Point) → stands code program home [] (length m.frame.stack) p
          → Answer code program budgets (to_do [] m) (as_code p callers m)
      nothing_answers p it = subst (λ x. Answer code program budgets (to_do [] m) (as_code x callers m)) (sym it.0)
          (together (left_to (Scalar UnsetCell) (to_do [] m) finishing callers m.callers callers waiting))

      -- where `break` leads
      pub out_answers : (items : List Item) (p : Point) → stands code program home (Out ∷ items) (length m.frame.stack) p
          → Answer code program budgets (to_do (Out ∷ items) m) (as_code p callers m)
      out_answers items p it = silently code program budgets Out items items m (home_with code program budgets home it.2.0 home.again) p callers it.0 refl
          it.2.1
          waiting

      -- the beginning of a function's body
      pub begin_answers : (at : Place) (items : List Item) (p : Point) → stands code program home (Begin at ∷ items) (length m.frame.stack) p
          → Answer code program budgets (to_do (Begin at ∷ items) m) (as_code p callers m)
      begin_answers at items p it =
          let deep : length m.frame.stack ≡ 0 + it.1.0 = omega arith in
          work_answers code program budgets (Begin at) items m at (graph.Meet point.Enter) it.1.0 p it.1.1 callers deep it.1.3
          (both_touch
          (both_go (now (aligned code program (to_do items m) home it.1.1 callers (with_depth code program home items it.1.1 (sym deep) it.1.4) waiting))))

      -- the frame is left with the newest value
      leaves_next : (depth : ℕ) → depth ≡ 1 → onward code program (home_with code program budgets home finishing finishing) (Leave ∷ []) depth leaving
      leaves_next depth e = (leaving, there, (e, refl, (finishing, (finishing, there, (refl, there, there)))))

      -- the end of a function's body
      pub end_answers : (at : Place) (value : Operand) (items : List Item) (p : Point)
          → stands code program home (End at value ∷ items) (length m.frame.stack) p
          → Answer code program budgets (to_do (End at value ∷ items) m) (as_code p callers m)
      end_answers at value items p it =
          let next = to_do (Leave ∷ []) (push value m) in
          let reported : Yields (Related code program budgets) (do_item program budgets (End at value) (to_do items m))
          (Touches (Meets point.End at) (Goes (push value (as_code leaving callers m))))
          =
          both_touch (both_go
          (now (aligned code program next (home_with code program budgets home finishing finishing) leaving callers
          (leaves_next (suc (length m.frame.stack)) (omega arith)) waiting))) in
          work_answers code program budgets (End at value) items m at (graph.Close it.1.0) 0 p leaving callers it.0 it.1.2
          (subst (λ x.
          Yields (Related code program budgets) (do_item program budgets (End at value) (to_do items m))
          (Touches (Meets point.End at) (Goes (push x (as_code leaving callers m))))) it.1.1 reported)

      -- a `return`
      pub give_answers : (at : Place) (items : List Item) (p : Point) → stands code program home (Give at ∷ items) (length m.frame.stack) p
          → Answer code program budgets (to_do (Give at ∷ items) m) (as_code p callers m)
      give_answers at items p it =
          work_answers code program budgets (Give at) items m at (graph.Meet point.Return) 1 p leaving callers it.0 it.1
          (both_touch
          (both_go
          (now (aligned code program (to_do (Leave ∷ []) m) (home_with code program budgets home finishing finishing) leaving callers
          (leaves_next (length m.frame.stack) it.0) waiting))))

      -- the frame is left
      pub leave_answers : (items : List Item) (p : Point) → stands code program home (Leave ∷ items) (length m.frame.stack) p
          → Answer code program budgets (to_do (Leave ∷ items) m) (as_code p callers m)
      leave_answers items p it =
          let value = operand_at m 0 in
          let one : code_step code program budgets (as_code leaving callers m) ≡ leave value (as_code leaving callers m) =
          ap (λ t. leave (operand_at t 0) (as_code leaving callers m)) (uncut 1 leaving callers m it.0) in
          subst (λ x. Answer code program budgets (to_do (Leave ∷ items) m) (as_code x callers m)) (sym it.1)
          (together (subst (Yields (Related code program budgets) (leave value (to_do items m))) (sym one)
          (left_to value (to_do items m) leaving callers m.callers callers waiting)))
