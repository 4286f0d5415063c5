-- Calls of functions with and without a body do the same in the code and in the machine. For the simulation.
use Rattle.std.proofs.Common.{◌≡◌, ℕ, suc, ◌+◌, nat_lt, Bool, true, false, List, [], ◌∷◌, length, drop, Option, Some, None}
use Rattle.std.proofs.Common.{if◌then◌else◌, refl, sym, ap, subst}
use Rattle.cs_types.specs.Shape.{Shape, void, integer, pointer, array, struct}
use Rattle.cs_ast.specs.declared.place.Place.{Place}
use Rattle.cs_ast.specs.TypedTree.{Statement}
use Rattle.cs_ast.specs.TypedProgram.{TypedProgram}
use Rattle.cs_inputs.specs.declared.path.Path.{Path}
use Rattle.cs_events.specs.declared.event.Label.TheVariants as label
use Rattle.cs_events.specs.declared.outcome.Outcome.TheVariants.{Over}
use Rattle.cs_events.specs.declared.outcome.Budget.TheVariants.{Depth}
use Rattle.cs_events.specs.declared.outcome.RunBudgets.{RunBudgets}
use Rattle.cs_events.specs.Objects.{Cell, NumberCell, NullCell, PointerCell, UnsetCell}
use Rattle.cs_events.specs.Acts.{Act, Goes, Stops}
use Rattle.cs_events.specs.Simulation.{Yields, both_go, both_stop}
use Rattle.cs_meaning.specs.Access.{shows_then}
use Rattle.cs_meaning.specs.Memory.{Memory, Unknown}
use Rattle.cs_meaning.specs.Machine.{Operand, Scalar, Nothing, CallFrame, Frame, State, to_do, push, pop_many, newest, cell_of, routine_of}
use Rattle.cs_meaning.specs.Calls.{inside, entered, enter_as, enter, result_path, write_through, write_arguments, outside_result, call_outside, call_routine}
use Rattle.cs_cfg.specs.Graph.{Point, Flow, Code, flow_of}
use Rattle.cs_cfg.specs.Working.{code_frame, call_flow}
use Rattle.cs_cfg.specs.Lowered.{is_there}
use Rattle.cs_cfg.specs.Placed.{LowersBody, IsPlaced}
use Rattle.cs_cfg.proofs.Alike.{Reported, ReportedOfTwo, yields_if, yields_shows, yields_receive}
use Rattle.cs_cfg.proofs.Acting.{as_code, dropped, Leaves, put}
use Rattle.cs_cfg.proofs.Related.{CallersStand, nobody, waits, Aligned, Related, now}
use Rattle.cs_cfg.proofs.Moving.{Home, onward, with_depth, frame_at, leaves}
use Rattle.cs_cfg.proofs.Acted.{CallsTell}
use Rattle.cs_cfg.proofs.Entered.{frame_begins}

module _ {S T : Type 0} (R : S → T → Type 0) where
  -- a call of a function without a body writes through its arguments
  yields_through : (program : TypedProgram) (at : Place) (path : Path) (cell : Cell) (memory : Memory) {f : Memory → Act S} {g : Memory → Act T}
      → Reported R f g →
      Yields R (write_through program at path cell memory f) (write_through program at path cell memory g)
  yields_through program at path NullCell memory h = yields_shows R at _ (h memory)
  yields_through program at path (PointerCell object offset) memory h = yields_shows R at _ (h _)
  yields_through program at path (NumberCell n) memory h = h memory
  yields_through program at path UnsetCell memory h = h memory

  yields_arguments : (program : TypedProgram) (at : Place) (call argument : ℕ) (written : List Bool) (operands : List Operand) (memory : Memory) {f : Memory
      → Act S} {g : Memory → Act T} → Reported R f g →
      Yields R (write_arguments program at call argument written operands memory f) (write_arguments program at call argument written operands memory g)
  yields_arguments program at call argument (true ∷ written) (operand ∷ operands) memory h =
      yields_through program at _ (cell_of operand) memory (λ after. yields_arguments program at call (argument + 1) written operands after h)
  yields_arguments program at call argument (false ∷ written) (operand ∷ operands) memory h =
      yields_arguments program at call (argument + 1) written operands memory h
  yields_arguments program at call argument [] operands memory h = h memory
  yields_arguments program at call argument (true ∷ written) [] memory h = h memory
  yields_arguments program at call argument (false ∷ written) [] memory h = h memory

  -- and returns a result
  yields_result : (program : TypedProgram) (ty : Shape) (call : ℕ) (memory : Memory) {f : Memory → Operand → Act S} {g : Memory → Operand → Act T}
      → ReportedOfTwo R f g →
      Yields R (outside_result program ty call memory f) (outside_result program ty call memory g)
  yields_result program void call memory h = h memory Nothing
  yields_result program (integer ty) call memory h =
      yields_receive R program memory (Unknown (result_path call) (integer ty)) (λ after cell. h after (Scalar cell))
  yields_result program (pointer target) call memory h =
      yields_receive R program memory (Unknown (result_path call) (pointer target)) (λ after cell. h after (Scalar cell))
  yields_result program (array element count) call memory h =
      yields_receive R program memory (Unknown (result_path call) (array element count)) (λ after cell. h after (Scalar cell))
  yields_result program (struct tag) call memory h =
      yields_receive R program memory (Unknown (result_path call) (struct tag)) (λ after cell. h after (Scalar cell))

-- equally many frames wait
as_many : {code : Code} {program : TypedProgram} {frames : List Frame} {others : List (CallFrame Point)} → CallersStand code program frames others
    → length others ≡ length frames
as_many nobody = refl
as_many (waits s rest) = ap suc (as_many rest)

module _ (code : Code) (program : TypedProgram) (budgets : RunBudgets) where
  -- a function without a body
  outside_yields : (at : Place) (callee count : ℕ) (m : State) (q : Point) (callers : List (CallFrame Point)) (number : ℕ) (operands : List Operand) →
      length m.frame.stack ≡ count + number → Leaves (Related code program budgets) code program budgets m q callers (suc number) →
      Yields (Related code program budgets) (call_outside program at callee (routine_of program callee) operands (pop_many count m))
      (call_outside program at callee (routine_of program callee) operands (pop_many count (as_code q callers m)))
  outside_yields at callee count m q callers number operands e h =
      let R = Related code program budgets in
      yields_shows R at _ (yields_result R program (routine_of program callee).returns (m.calls + 1) m.memory (λ memory result.
      yields_arguments R program at (m.calls + 1) 0 (routine_of program callee).written operands memory (λ after.
      both_go (put R code program budgets m (push result (record (pop_many count m) { memory = after; calls = m.calls + 1 })) q callers count number result e h
      refl refl refl refl refl refl))))

  -- a function with a body: the caller's frame waits for a value
  enters_alike : (callee count : ℕ) (m : State) (home : Home code program m.frame.function) (q : Point) (callers : List (CallFrame Point)) (number : ℕ)
      (body : Statement) (flow : Flow) (operands : List Operand) →
      LowersBody program (routine_of program callee) body flow → (routine_of program callee).body ≡ Some body → flow_of code callee ≡ Some flow →
      length m.frame.stack ≡ count + number → onward code program home m.frame.todo (suc number) q → CallersStand code program m.callers callers →
      Aligned code program (entered program callee (routine_of program callee) operands (pop_many count m))
      (inside program (code_frame callee flow m.frames) (routine_of program callee) operands (pop_many count (as_code q callers m)))
  enters_alike callee count m home q callers number body flow operands lowers has_body has_flow e on waiting =
      let deep : suc number ≡ suc (length (drop count m.frame.stack)) = sym (ap suc (dropped count number m.frame.stack e)) in
      let frame = (pop_many count m).frame in
      let caller = frame_at code program frame home (suc (length frame.stack)) q (with_depth code program home m.frame.todo q deep on) in
      record {
        frame = frame_begins code program callee m.frames body flow has_body has_flow lowers;
        callers = waits caller waiting;
        memory = refl;
        frames = refl;
        allocations = refl;
        calls = refl;
      }

  enter_yields : (at : Place) (callee count : ℕ) (m : State) (home : Home code program m.frame.function) (q : Point) (callers : List (CallFrame Point))
      (number : ℕ) (body : Statement) (flow : Flow) (operands : List Operand) →
      LowersBody program (routine_of program callee) body flow → (routine_of program callee).body ≡ Some body → flow_of code callee ≡ Some flow →
      length m.frame.stack ≡ count + number → onward code program home m.frame.todo (suc number) q → CallersStand code program m.callers callers →
      Yields (Related code program budgets) (enter program budgets at callee (routine_of program callee) operands (pop_many count m))
      (enter_as program budgets (code_frame callee flow) at callee (routine_of program callee) operands (pop_many count (as_code q callers m)))
  enter_yields at callee count m home q callers number body flow operands lowers has_body has_flow e on waiting =
      let R = Related code program budgets in
      let related = now (enters_alike callee count m home q callers number body flow operands lowers has_body has_flow e on waiting) in
      let reported = λ (frames : ℕ). Yields R (enter program budgets at callee (routine_of program callee) operands (pop_many count m))
      (if nat_lt (frames + 1) budgets.depth
      then shows_then at (label.Callee callee)
      (Goes (inside program (code_frame callee flow m.frames) (routine_of program callee) operands (pop_many count (as_code q callers m))))
      else Stops (Over Depth at)) in
      subst reported (sym (as_many waiting)) (yields_if R (nat_lt (length m.callers + 1) budgets.depth) (yields_shows R at _ (both_go related)) both_stop)

  -- the former if there is a graph, the latter if there is none
  routine_yields : (at : Place) (callee count : ℕ) (m : State) (home : Home code program m.frame.function) (q : Point) (callers : List (CallFrame Point))
      (number : ℕ) →
      IsPlaced code program → (body : Option Statement) (flow : Option Flow) → (routine_of program callee).body ≡ body → flow_of code callee ≡ flow
      → is_there flow ≡ is_there body → (operands : List Operand) →
      length m.frame.stack ≡ count + number → onward code program home m.frame.todo (suc number) q → CallersStand code program m.callers callers →
      Yields (Related code program budgets) (call_routine program budgets at callee (routine_of program callee) body operands (pop_many count m))
      (call_flow program budgets at callee (routine_of program callee) flow operands (pop_many count (as_code q callers m)))
  routine_yields at callee count m home q callers number placed None None has_body has_flow same operands e on waiting =
      outside_yields at callee count m q callers number operands e (leaves code program budgets m home q callers (suc number) on waiting)
  routine_yields at callee count m home q callers number placed (Some body) (Some flow) has_body has_flow same operands e on waiting =
      enter_yields at callee count m home q callers number body flow operands (placed.bodies callee body flow has_body has_flow) has_body has_flow e on waiting
  routine_yields at callee count m home q callers number placed None (Some flow) has_body has_flow same operands e on waiting = absurd cc
  routine_yields at callee count m home q callers number placed (Some body) None has_body has_flow same operands e on waiting = absurd cc

  -- a call
  pub calls_tell : IsPlaced code program → CallsTell code program budgets
  calls_tell placed at callee count items m home q callers number e on waiting =
      let same : is_there (flow_of code callee) ≡ is_there (routine_of program callee).body = placed.graphs callee in
      routine_yields at callee count (to_do items m) home q callers number placed (routine_of program callee).body (flow_of code callee) refl refl same
      (newest count m) e on waiting
