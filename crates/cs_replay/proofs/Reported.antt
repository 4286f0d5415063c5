-- The effect of an operation on the state of a run of the code, from that on the state of the reference machine: for the contracts of steps.
use Rattle.std.proofs.Common.{◌≡◌, ℕ, ◌+◌, ℤ, pos, Bool, true, false, List, [], ◌∷◌, Option, Some, None, refl, sym, subst}
use Rattle.std.specs.Ordering.{int_eq}
use Rattle.cs_types.specs.Shape.{Shape, void, integer, pointer, array, struct, shape_of}
use Rattle.cs_inputs.specs.declared.path.Path.{Path}
use Rattle.cs_events.specs.declared.event.Label.{Label}
use Rattle.cs_events.specs.Touches.{Touch}
use Rattle.cs_types.specs.DataModel.{size_type_of}
use Rattle.cs_ast.specs.declared.place.Place.{Place}
use Rattle.cs_ast.specs.declared.typed.operator.Allocator.{Allocator}
use Rattle.cs_ast.specs.declared.typed.operator.Allocator.TheVariants.{Malloc, Calloc}
use Rattle.cs_ast.specs.declared.typed.operator.BinOp.TheVariants.{Mul}
use Rattle.cs_ast.specs.TypedTree.{Statement}
use Rattle.cs_ast.specs.TypedProgram.{TypedProgram, Routine}
use Rattle.cs_model.specs.declared.standing.Standing.{Standing}
use Rattle.cs_model.specs.declared.standing.Standing.TheVariants.{Live, Freed, Ended}
use Rattle.cs_events.specs.declared.outcome.RunBudgets.{RunBudgets}
use Rattle.cs_events.specs.declared.point.PointKind.{PointKind}
use Rattle.std.specs.Prelude.{nat_lt, slice_get}
use Rattle.cs_events.specs.Operations.{is_true}
use Rattle.cs_events.specs.Objects.{Object, StartBlock, GlobalObject, LiteralObject, LocalObject, HeapBlock, Cell, NumberCell, NullCell, PointerCell, UnsetCell}
use Rattle.cs_events.specs.Acts.{Act, Goes, Touches}
use Rattle.cs_events.specs.Simulation.{Yields, both_go, both_stop, both_ask, both_allocate, both_touch}
use Rattle.cs_meaning.specs.Types.{integer_of}
use Rattle.cs_meaning.specs.Initials.{number_in, truth_cell, directed}
use Rattle.cs_meaning.specs.Memory.{Block, Memory, Fill, UnsetFill, ZeroFill, Unknown}
use Rattle.cs_meaning.specs.Access.{Access, shows_then}
use Rattle.cs_meaning.specs.Operators.{branch}
use Rattle.cs_meaning.specs.Machine.{Operand, Scalar, Whole, Nothing, CallFrame, State, push, push_cell, pop, pop_many, with_memory, cell_of, operand_at}
use Rattle.cs_meaning.specs.Machine.{cell_at, newest, routine_of}
use Rattle.cs_meaning.specs.CountedPoints.{reached_again}
use Rattle.cs_meaning.specs.Calls.{result_path, write_through, write_arguments, outside_result, call_outside, call_routine, call, allocated, allocate, release}
use Rattle.cs_meaning.specs.Calls.{release_block, release_known, release_object}
use Rattle.cs_meaning.specs.Expressions.{pointer_age, amount_age, given, number_at, stores_to, use_result}
use Rattle.cs_cfg.specs.declared.operation.Work as w
use Rattle.cs_cfg.specs.declared.operation.Work.TheVariants as of
use Rattle.cs_cfg.specs.Graph.{Reach, Call, Point, Flow, Code, flow_of}
use Rattle.cs_cfg.specs.GraphView.{work, access}
use Rattle.cs_cfg.specs.Working.{CodeState, if_local, call_flow, do_work}
use Rattle.cs_cfg.proofs.Alike.{Reported as ReportedOfOne, ReportedOfTwo, yields_receive, yields_branch, yields_if, yields_shows, yields_touches, yields_set}
use Rattle.cs_cfg.proofs.Alike.{yields_load, yields_store, yields_truth, yields_operate, yields_convert_number, yields_convert, yields_sum, yields_compare}
use Rattle.cs_cfg.proofs.Alike.{yields_difference, yields_arrow}
use Rattle.cs_replay.specs.Works.{works}
use Rattle.cs_replay.specs.CodeStates.{code_state}
use Rattle.cs_replay.proofs.Performs.{Seen}

module _ (p : ℕ → Point) (callers : List (CallFrame Point)) where
  abbrev R : State → CodeState → Type 0
  R = Seen (code_state p callers)

  -- an act of the code's run does what one of the machine does, and leads to its state at the same point
  abbrev pub Reported : Act State → Act CodeState → Type 0
  Reported = Yields R

  release_reported : (at : Place) (cell : Cell) (m : State) → Reported (release at cell m) (release at cell (code_state p callers m))
  release_reported at NullCell m = yields_shows R at _ (both_go refl)
  release_reported at (PointerCell object offset) m = yields_shows R at _ (object_reported object)
    where
      block_reported : (standing : Standing) (object : Object)
          → Reported (release_block at standing object offset m) (release_block at standing object offset (code_state p callers m))
      block_reported Live object = yields_if R (int_eq offset (pos 0)) (both_go refl) both_stop
      block_reported Freed object = both_stop
      block_reported Ended object = both_stop

      known_reported : (block : Option Block) (object : Object)
          → Reported (release_known at block object offset m) (release_known at block object offset (code_state p callers m))
      known_reported None object = both_stop
      known_reported (Some block) object = block_reported block.standing object

      object_reported : (object : Object) → Reported (release_object at object offset m) (release_object at object offset (code_state p callers m))
      object_reported (StartBlock path) = known_reported (m.memory (StartBlock path)) (StartBlock path)
      object_reported (HeapBlock allocation) = known_reported (m.memory (HeapBlock allocation)) (HeapBlock allocation)
      object_reported (GlobalObject global) = both_stop
      object_reported (LiteralObject literal) = both_stop
      object_reported (LocalObject frame declaration) = both_stop
  release_reported at (NumberCell n) m = both_go refl
  release_reported at UnsetCell m = both_go refl

  allocated_reported : (element : Shape) (bytes : ℤ) (fill : Fill) (given : Bool) (m : State)
      → R (allocated element bytes fill given m) (allocated element bytes fill given (code_state p callers m))
  allocated_reported element bytes fill true m = refl
  allocated_reported element bytes fill false m = refl

  allocate_reported : (program : TypedProgram) (at : Place) (allocator : Allocator) (element : Shape) (m : State)
      → Reported (allocate program at allocator element m) (allocate program at allocator element (code_state p callers m))
  allocate_reported program at Malloc element m =
      both_allocate (λ given. both_go (allocated_reported element (number_in (cell_at m 0)) UnsetFill given (pop m)))
  allocate_reported program at Calloc element m =
      both_ask (λ holds. yields_if R (is_true holds)
      (yields_operate R program.model at Mul (size_type_of program.model) (number_in (cell_at m 1)) (number_in (cell_at m 0))
      (λ bytes. both_allocate (λ given. both_go (allocated_reported element bytes ZeroFill given (pop_many 2 m)))))
      (both_go refl))

  stores_reported : (program : TypedProgram) (at : Place) (object : Access) (age : ℕ) (operand : Operand) (count : ℕ) (left : Operand) (m : State)
      → Reported (stores_to program at object age operand count left m) (stores_to program at object age operand count left (code_state p callers m))
  stores_reported program at object age operand count left m =
      yields_store R program m.memory m.frame.number at object (cell_at m age) operand
      {f = λ memory. Goes (push left (with_memory memory (pop_many count m)))} {g = λ memory.
      Goes (push left (with_memory memory (pop_many count (code_state p callers m))))}
      (λ memory. both_go refl)

  use_reported : (at : Place) (operand : Operand) (m : State) → Reported (use_result at operand m) (use_result at operand (code_state p callers m))
  use_reported at (Scalar cell) m = yields_set R at cell (both_go refl)
  use_reported at (Whole cells) m = both_go refl
  use_reported at Nothing m = both_go refl

  again_reported : (budgets : RunBudgets) (at : Place) (kind : PointKind) (counted_point : ℕ) (count : Option ℕ) (m : State)
      → Reported (reached_again budgets at kind counted_point count m) (reached_again budgets at kind counted_point count (code_state p callers m))
  again_reported budgets at kind counted_point None m = both_stop
  again_reported budgets at kind counted_point (Some count) m = yields_if R (nat_lt count budgets.visits) (both_touch (both_go refl)) both_stop

  -- a counted point that is visited
  pub counted_point_reported : (code : Code) (program : TypedProgram) (budgets : RunBudgets) (at : Place) (kind : PointKind) (counted_point : ℕ) (m : State)
      → Reported (works program budgets at (Reach kind counted_point) m) (do_work code program budgets at (Reach kind counted_point) (code_state p callers m))
  counted_point_reported code program budgets at kind counted_point m = again_reported budgets at kind counted_point (slice_get m.frame.visits counted_point) m

  -- an operation that isn't a call
  pub work_reported : (code : Code) (program : TypedProgram) (budgets : RunBudgets) (at : Place) (one : w.Work) (m : State)
      → ((callee count : _) → one ≡ of.Call callee count → ⊥)
      → Reported (works program budgets at (work one) m) (do_work code program budgets at (work one) (code_state p callers m))
  work_reported code program budgets at (of.Number n) m h = both_go refl
  work_reported code program budgets at of.Null m h = both_go refl
  work_reported code program budgets at (of.Text literal) m h = both_go refl
  work_reported code program budgets at (of.Local declaration) m h = both_go refl
  work_reported code program budgets at (of.Global global) m h = both_go refl
  work_reported code program budgets at of.Nothing m h = both_go refl
  work_reported code program budgets at (of.Sum bytes direction order) m h =
      yields_sum R program.model at (cell_at m (pointer_age order)) (directed direction (number_at m (amount_age order))) bytes (λ cell. both_go refl)
  work_reported code program budgets at (of.Member offset) m h = both_go refl
  work_reported code program budgets at (of.Arrow offset) m h =
      yields_arrow R at (cell_at m 0) offset {f = λ cell. Goes (push_cell cell (pop m))} {g = λ cell.
      Goes (push_cell cell (pop (code_state p callers m)))}
      (λ cell. both_go refl)
  work_reported code program budgets at (of.Load object) m h =
      yields_load R program m.memory m.frame.number (access object) (cell_at m 0) (λ memory operand. both_go refl)
  work_reported code program budgets at (of.Convert from to) m h =
      yields_convert R program.model at (shape_of from) (shape_of to) (operand_at m 0) (λ operand. both_go refl)
  work_reported code program budgets at (of.Unary operator ty) m h = both_ask (λ number. both_go refl)
  work_reported code program budgets at of.Not m h = yields_truth R at (cell_at m 0) (λ holds. yields_shows R at _ (both_go refl))
  work_reported code program budgets at (of.Binary operator ty) m h =
      yields_operate R program.model at operator ty (number_at m 1) (number_at m 0) (λ number. both_go refl)
  work_reported code program budgets at (of.Compare operator) m h = yields_compare R at operator (cell_at m 1) (cell_at m 0) (λ number. both_go refl)
  work_reported code program budgets at (of.Difference bytes) m h = yields_difference R at (cell_at m 1) (cell_at m 0) bytes (λ number. both_go refl)
  work_reported code program budgets at of.Judge m h = yields_truth R at (cell_at m 0) (λ holds. yields_shows R at _ (both_go refl))
  work_reported code program budgets at (of.Store object) m h = stores_reported program at (access object) 1 (operand_at m 0) 2 (operand_at m 0) m
  work_reported code program budgets at (of.FetchNumber object works_in) m h =
      yields_load R program m.memory m.frame.number (access object) (cell_at m 0) (λ memory operand.
      yields_convert_number R program.model at (access object).ty works_in (number_in (cell_of operand))
      {f = λ number. Goes (push_cell (NumberCell number) (push operand (with_memory memory m)))} {g = λ number.
      Goes (push_cell (NumberCell number) (push operand (with_memory memory (code_state p callers m))))}
      (λ number. both_go refl))
  work_reported code program budgets at (of.Update operator object works_in gives) m h =
      yields_operate R program.model at operator works_in (number_at m 1) (number_at m 0) (λ number.
      yields_convert_number R program.model at (integer works_in) (integer_of (access object).ty) number (λ stored.
      stores_reported program at (access object) 3 (Scalar (NumberCell stored)) 4 (given gives (operand_at m 2) (Scalar (NumberCell stored))) m))
  work_reported code program budgets at (of.FetchPointer object) m h =
      yields_load R program m.memory m.frame.number (access object) (cell_at m 0) (λ memory operand. both_go refl)
  work_reported code program budgets at (of.Move object bytes direction gives) m h =
      yields_sum R program.model at (cell_at m 1) (directed direction (number_at m 0)) bytes (λ cell.
      stores_reported program at (access object) 2 (Scalar cell) 3 (given gives (operand_at m 1) (Scalar cell)) m)
  work_reported code program budgets at (of.Call callee count) m h = absurd (h callee count refl)
  work_reported code program budgets at (of.Allocate allocator element) m h = allocate_reported program at allocator (shape_of element) m
  work_reported code program budgets at of.Free m h = release_reported at (cell_at m 0) (pop m)
  work_reported code program budgets at of.Use m h = use_reported at (operand_at m 0) m
  work_reported code program budgets at of.Drop m h = both_go refl
  work_reported code program budgets at (of.Clear declaration scalar) m h = yields_touches R _ (if_local scalar declaration) (both_go refl)
  work_reported code program budgets at (of.Zero declaration) m h = both_go refl
  work_reported code program budgets at (of.StoreLocal declaration offset ty scalar) m h = yields_touches R _ (if_local scalar declaration) (both_go refl)
  work_reported code program budgets at (of.Spell declaration offset bytes) m h = both_go refl
  work_reported code program budgets at (of.Meet kind) m h = both_touch (both_go refl)
  work_reported code program budgets at (of.Close nothing) m h = both_touch (both_go refl)

module _ {S T : Type 0} (R : S → T → Type 0) where
  yields_through : (program : TypedProgram) (at : Place) (path : Path) (cell : Cell) (memory : Memory) {f : Memory → Act S} {g : Memory → Act T}
      → ReportedOfOne R f g → Yields R (write_through program at path cell memory f) (write_through program at path cell memory g)
  yields_through program at path NullCell memory h = yields_shows R at _ (h memory)
  yields_through program at path (PointerCell object offset) memory h = yields_shows R at _ (h _)
  yields_through program at path (NumberCell n) memory h = h memory
  yields_through program at path UnsetCell memory h = h memory

  yields_arguments : (program : TypedProgram) (at : Place) (call argument : ℕ) (written : List Bool) (operands : List Operand) (memory : Memory) {f : Memory
      → Act S} {g : Memory → Act T} → ReportedOfOne R f g
      → Yields R (write_arguments program at call argument written operands memory f) (write_arguments program at call argument written operands memory g)
  yields_arguments program at call argument (true ∷ written) (operand ∷ operands) memory h =
      yields_through program at _ (cell_of operand) memory (λ after. yields_arguments program at call (argument + 1) written operands after h)
  yields_arguments program at call argument (false ∷ written) (operand ∷ operands) memory h =
      yields_arguments program at call (argument + 1) written operands memory h
  yields_arguments program at call argument [] operands memory h = h memory
  yields_arguments program at call argument (true ∷ written) [] memory h = h memory
  yields_arguments program at call argument (false ∷ written) [] memory h = h memory

  yields_result : (program : TypedProgram) (ty : Shape) (call : ℕ) (memory : Memory) {f : Memory → Operand → Act S} {g : Memory → Operand → Act T}
      → ReportedOfTwo R f g → Yields R (outside_result program ty call memory f) (outside_result program ty call memory g)
  yields_result program void call memory h = h memory Nothing
  yields_result program (integer ty) call memory h =
      yields_receive R program memory (Unknown (result_path call) (integer ty)) (λ after cell. h after (Scalar cell))
  yields_result program (pointer target) call memory h =
      yields_receive R program memory (Unknown (result_path call) (pointer target)) (λ after cell. h after (Scalar cell))
  yields_result program (array element count) call memory h =
      yields_receive R program memory (Unknown (result_path call) (array element count)) (λ after cell. h after (Scalar cell))
  yields_result program (struct tag) call memory h =
      yields_receive R program memory (Unknown (result_path call) (struct tag)) (λ after cell. h after (Scalar cell))

-- a call of a function without a body
outside_reported : (p : ℕ → Point) (callers : List (CallFrame Point)) (program : TypedProgram) (at : Place) (callee : ℕ) (routine : Routine)
    (arguments : List Operand) (m : State)
    → Reported p callers (call_outside program at callee routine arguments m) (call_outside program at callee routine arguments (code_state p callers m))
outside_reported p callers program at callee routine arguments m =
    let R = Seen (code_state p callers) in
    yields_shows R at _ (yields_result R program routine.returns (m.calls + 1) m.memory (λ memory result.
    yields_arguments R program at (m.calls + 1) 0 routine.written arguments memory (λ after.
    both_go {s = push result (record m { memory = after; calls = m.calls + 1 })} {t =
    push result (record (code_state p callers m) { memory = after; calls = m.calls + 1 })} refl)))

-- a call of a function without a graph, which has no body
pub call_reported : (p : ℕ → Point) (callers : List (CallFrame Point)) (code : Code) (program : TypedProgram) (budgets : RunBudgets) (at : Place)
    (callee count : ℕ) (m : State) → flow_of code callee ≡ None → (routine_of program callee).body ≡ None
    → Reported p callers (call program budgets at callee count m) (do_work code program budgets at (Call callee count) (code_state p callers m))
call_reported p callers code program budgets at callee count m none outside =
    let routine = routine_of program callee in
    let left = pop_many count m in
    subst (λ (flow : Option Flow).
    Reported p callers (call program budgets at callee count m)
    (call_flow program budgets at callee routine flow (newest count m) (pop_many count (code_state p callers m)))) (sym none)
    (subst (λ (body : Option Statement).
    Reported p callers (call_routine program budgets at callee routine body (newest count m) left)
    (call_outside program at callee routine (newest count m) (pop_many count (code_state p callers m)))) (sym outside)
    (outside_reported p callers program at callee routine (newest count m) left))

-- the event of a label is the same, whatever state follows
pub shown_reported : (at : Place) (what : Label) (m : State) (t : CodeState)
    → Yields (Seen (λ (s : State). t)) (shows_then at what (Goes m)) (shows_then at what (Goes t))
shown_reported at what m t = yields_shows (Seen (λ (s : State). t)) at what (both_go refl)

pub touched_reported : (touch : Touch) (at : Place) (what : Label) (m : State) (t : CodeState)
    → Yields (Seen (λ (s : State). t)) (Touches touch (shows_then at what (Goes m))) (Touches touch (shows_then at what (Goes t)))
touched_reported touch at what m t = both_touch (shown_reported at what m t)

-- a test continues in a state for each of its branches; the machine's stack records which one it was
abbrev pub with_truth : State → Bool → State
with_truth m holds = push_cell (truth_cell holds) m

abbrev pub way_seen : (Bool → CodeState) → State → CodeState
way_seen ways m = ways (is_true (number_at m 0))

pub with_truth_so : (ways : Bool → CodeState) (m : State) (holds : Bool) → ways holds ≡ way_seen ways (with_truth m holds)
with_truth_so ways m true = refl
with_truth_so ways m false = refl

pub branch_reported : (at : Place) (cell : Cell) (m : State) (ways : Bool → CodeState)
    → Yields (Seen (way_seen ways)) (branch at cell (λ holds. Goes (with_truth m holds))) (branch at cell (λ holds. Goes (ways holds)))
branch_reported at cell m ways = yields_branch (Seen (way_seen ways)) at cell (λ holds. both_go (with_truth_so ways m holds))
