-- Where a step of the code's run leaves its frames: the running frame moves to the next point, calls another, or is left. For the laws
-- `lowered_code_follows_flow` and `programs_follow_flow`.
use Rattle.std.specs.Prelude.{⊤}
use Rattle.std.proofs.Common.{◌≡◌, ℕ, ◌+◌, nat_lt, ℤ, Bool, true, false, List, [], ◌∷◌, length, map, Option, Some, None}
use Rattle.std.proofs.Common.{slice_get}
use Rattle.std.proofs.Common.{unwrap_or, if◌then◌else◌, refl, sym, subst}
use Rattle.cs_types.specs.Shape.{Shape, integer}
use Rattle.cs_types.specs.DataModel.{size_type_of}
use Rattle.cs_inputs.specs.declared.path.Path.{Path}
use Rattle.cs_ast.specs.declared.place.Place.{Place}
use Rattle.cs_ast.specs.declared.typed.operator.Allocator.{Allocator}
use Rattle.cs_ast.specs.declared.typed.operator.Allocator.TheVariants.{Malloc, Calloc}
use Rattle.cs_ast.specs.declared.typed.operator.BinOp.TheVariants.{Mul}
use Rattle.cs_ast.specs.TypedProgram.{TypedProgram, Routine}
use Rattle.cs_events.specs.declared.operation.Operation.{Operation as Asked}
use Rattle.cs_events.specs.declared.outcome.Outcome.{Outcome}
use Rattle.cs_events.specs.declared.outcome.RunBudgets.{RunBudgets}
use Rattle.cs_events.specs.declared.point.PointKind.{PointKind}
use Rattle.cs_events.specs.declared.input.InputKind.{InputKind}
use Rattle.cs_events.specs.Operations.{is_true}
use Rattle.cs_events.specs.Objects.{Object, Cell, NumberCell, NullCell, PointerCell, UnsetCell}
use Rattle.cs_events.specs.Touches.{Touch, Loads, Stores}
use Rattle.cs_events.specs.Acts.{Act, Goes, Stops, Reads, Asks, Allocates, Reaches, Touches}
use Rattle.cs_events.specs.Runs.{Setting, Log, Performed, Continues, Finishes, perform, with_operation, with_allocation, with_access, with_read, with_touch}
use Rattle.cs_events.specs.Runs.{allows_event, number_of, read_cell}
use Rattle.cs_meaning.specs.Initials.{number_in, directed}
use Rattle.cs_meaning.specs.Types.{integer_of}
use Rattle.cs_meaning.specs.Memory.{Memory, UnsetFill, ZeroFill, changed}
use Rattle.cs_meaning.specs.Access.{NO_BLOCK, Access, touches_then, load_object, write_operand}
use Rattle.cs_meaning.specs.Machine.{Operand, Scalar, Whole, Nothing as NoOperand, CallFrame, to_do, push, push_cell, pop, pop_many, with_memory, operand_at}
use Rattle.cs_meaning.specs.Machine.{cell_of, cell_at, newest, routine_of}
use Rattle.cs_meaning.specs.CountedPoints.{reached_again}
use Rattle.cs_meaning.specs.Calls.{leave_to, release, allocated, allocate}
use Rattle.cs_meaning.specs.Expressions.{pointer_age, amount_age, given, number_at, stores_to, use_result}
use Rattle.cs_cfg.specs.Graph.{Work, Number, Null, Text, Local, Global, Nothing, Sum, Member, Arrow, Load, Convert, Unary, Not, Binary, Compare, Difference}
use Rattle.cs_cfg.specs.Graph.{Judge, Store, FetchNumber, Update, FetchPointer, Move, Call, Allocate, Free, Use, Drop, Clear, Zero, StoreLocal, Spell, Reach}
use Rattle.cs_cfg.specs.Graph.{Meet, Close, Operation, BlockEnd, Jump, Branch, Switch, Return, Finish, Point, Flow, Code, flow_of, block_of, block_in}
use Rattle.cs_cfg.specs.Working.{CodeState, cut, takes, call_flow, do_work}
use Rattle.cs_cfg.specs.CodeSteps.{do_end, step_at}
use Rattle.cs_cfg.proofs.Onward.{Inherited, EachOfTwo, keeps_if, keeps_shows, keeps_writable, keeps_locate, keeps_value, keeps_truth, keeps_operate}
use Rattle.cs_cfg.proofs.Onward.{keeps_convert_number, keeps_convert, keeps_sum, keeps_compare, keeps_difference, keeps_arrow, keeps_set}
use Rattle.cs_cfg.proofs.OnwardCalls.{keeps_arguments, keeps_result, keeps_within_depth, keeps_at_beginning, keeps_not_freed, keeps_known, keeps_releasable}

module _ {S : Type 0} where
  -- an act that continues only in states with a property
  data GoesIn (So : S → Type 0) : Act S → Type 0 where
    goes : {s : S} → So s → GoesIn So (Goes s)
    stops : {outcome : Outcome} → GoesIn So (Stops outcome)
    reads : {path : Path} {kind : InputKind} {f : Cell → Act S} → ((cell : Cell) → GoesIn So (f cell)) → GoesIn So (Reads path kind f)
    asks : {at : Place} {operation : Asked} {f : ℤ → Act S} → ((number : ℤ) → GoesIn So (f number)) → GoesIn So (Asks at operation f)
    allocates : {at : Place} {path : Path} {f : Bool → Act S} → ((given : Bool) → GoesIn So (f given)) → GoesIn So (Allocates at path f)
    reaches : {at : Place} {object : Object} {offset : ℤ} {a : Act S} → GoesIn So a → GoesIn So (Reaches at object offset a)
    touches : {one : Touch} {a : Act S} → GoesIn So a → GoesIn So (Touches one a)

  inherited : (So : S → Type 0) → Inherited (GoesIn So)
  inherited So = record { stops = λ none. stops; reads = reads; asks = asks; allocates = allocates; reaches = reaches }

  -- the budget of events allowed one more event, since the run continued
  pub in_room : (room : Bool) (done : Performed S) (outcome : Outcome) (log : Log) {later : Log} {next : S}
      → (if room then done else Finishes outcome log) ≡ Continues next later → done ≡ Continues next later
  in_room true done outcome log e = e
  in_room false done outcome log e = cc

  -- an act that continued did so in such a state
  went : (So : S → Type 0) (setting : Setting) (log : Log) {act : Act S} {next : S} {later : Log} → GoesIn So act
      → perform setting log act ≡ Continues next later → So next
  unfolding perform
  went So setting log {next = next} (goes {s = s} so) e = let same : s ≡ next = cc in subst So same so
  went So setting log stops e = cc
  went So setting log (reads {path = path} {kind = kind} h) e = went So setting (with_read log path kind) (h (read_cell setting path kind)) e
  went So setting log (asks {at = at} {operation = operation} h) e =
      went So setting (with_operation setting log at operation) (h (number_of setting log operation)) (in_room (allows_event setting log) _ _ _ e)
  went So setting log (allocates {at = at} {path = path} h) e =
      went So setting (with_allocation setting log at path) (h (is_true (setting.inputs path))) (in_room (allows_event setting log) _ _ _ e)
  went So setting log (reaches {at = at} {object = object} {offset = offset} h) e =
      went So setting (with_access log at object offset) h (in_room (allows_event setting log) _ _ _ e)
  went So setting log (touches {one = one} h) e = went So setting (with_touch log one) h e

-- where a frame is: its function, its number, and its point
pub record Stand : Type 0 where
  pub function : ℕ
  pub number : ℕ
  pub here : Point

abbrev pub stand_of : CallFrame Point → Stand
stand_of frame = record { function = frame.function; number = frame.number; here = frame.todo }

-- where the frames of a state are, the running one first
abbrev pub stands_of : CodeState → List Stand
stands_of m = stand_of m.frame ∷ map stand_of m.callers

-- where an operation leaves the frames: where they were, or below a new frame at the beginning of a graph
pub data Works (code : Code) (m : CodeState) : CodeState → Type 0 where
  stays : {next : CodeState} → stands_of next ≡ stands_of m → next.frames ≡ m.frames → Works code m next
  enters : {next : CodeState} (function : ℕ) (flow : Flow) → flow_of code function ≡ Some flow
      → stands_of next ≡ record { function = function; number = m.frames; here = block_of flow flow.entry } ∷ stands_of m
      → next.frames ≡ m.frames + 1 → Works code m next

module _ (code : Code) (program : TypedProgram) (m : CodeState) where
  onward : Inherited (GoesIn (Works code m))
  onward = inherited (Works code m)

  goes_touching : (local : Option ℕ) (yields : ℕ → Touch) {a : Act CodeState} → GoesIn (Works code m) a
      → GoesIn (Works code m) (touches_then yields local a)
  goes_touching None yields h = h
  goes_touching (Some declaration) yields h = touches h

  goes_load : (memory : Memory) (frame : ℕ) (access : Access) (cell : Cell) {f : Memory → Operand → Act CodeState} → EachOfTwo onward f
      → GoesIn (Works code m) (load_object program memory frame access cell f)
  goes_load memory frame access cell h =
      keeps_locate onward program memory access cell (λ object offset.
      goes_touching access.local (λ declaration. Loads frame declaration access.at) (keeps_value onward program memory access.at access.ty object offset h))

  goes_stores : (at : Place) (access : Access) (age : ℕ) (operand : Operand) (count : ℕ) (left : Operand)
      → GoesIn (Works code m) (stores_to program at access age operand count left m)
  goes_stores at access age operand count left =
      keeps_locate onward program m.memory access (cell_at m age) (λ object offset.
      keeps_writable onward program access.at object (goes_touching access.local (λ declaration. Stores m.frame.number declaration at)
      (goes {s = push left (with_memory (changed (write_operand program access.ty offset operand) object m.memory) (pop_many count m))} (stays refl refl))))

  goes_counted_point : (budgets : RunBudgets) (at : Place) (kind : PointKind) (counted_point : ℕ) (count : Option ℕ)
      → GoesIn (Works code m) (reached_again budgets at kind counted_point count m)
  goes_counted_point budgets at kind counted_point None = stops
  goes_counted_point budgets at kind counted_point (Some count) =
      keeps_if onward (nat_lt count budgets.visits) (touches (goes (stays refl refl))) stops

  goes_release : (at : Place) (cell : Cell) → GoesIn (Works code m) (release at cell (pop m))
  goes_release at NullCell = keeps_shows onward at _ (goes (stays refl refl))
  goes_release at (PointerCell object offset) =
      keeps_shows onward at _ (keeps_releasable onward at object (keeps_known onward at (m.memory object)
      (keeps_not_freed onward at (unwrap_or (m.memory object) NO_BLOCK).standing (keeps_at_beginning onward at offset (goes (stays refl refl))))))
  goes_release at (NumberCell n) = goes (stays refl refl)
  goes_release at UnsetCell = goes (stays refl refl)

  goes_allocate : (at : Place) (allocator : Allocator) (element : Shape) → GoesIn (Works code m) (allocate program at allocator element m)
  goes_allocate at Malloc element = allocates (λ given. goes_allocated given)
    where
      goes_allocated : (given : Bool) → GoesIn (Works code m) (Goes (allocated element (number_in (cell_at m 0)) UnsetFill given (pop m)))
      goes_allocated true = goes (stays refl refl)
      goes_allocated false = goes (stays refl refl)
  goes_allocate at Calloc element =
      asks (λ holds.
      keeps_if onward (is_true holds)
      (keeps_operate onward program.model at Mul (size_type_of program.model) _ _ (λ bytes. allocates (λ given. goes_allocated bytes given)))
      (goes (stays refl refl)))
    where
      goes_allocated : (bytes : ℤ) (given : Bool) → GoesIn (Works code m) (Goes (allocated element bytes ZeroFill given (pop_many 2 m)))
      goes_allocated bytes true = goes (stays refl refl)
      goes_allocated bytes false = goes (stays refl refl)

  goes_call : (budgets : RunBudgets) (at : Place) (function count : ℕ) (routine : Routine) (flow : Option Flow) (arguments : List Operand)
      → flow_of code function ≡ flow
      → GoesIn (Works code m) (call_flow program budgets at function routine flow arguments (pop_many count m))
  goes_call budgets at function count routine None arguments e =
      keeps_shows onward at _ (keeps_result onward program routine.returns (m.calls + 1) m.memory
      (λ memory result. keeps_arguments onward program at (m.calls + 1) 0 routine.written arguments memory (λ after. goes (stays refl refl))))
  goes_call budgets at function count routine (Some flow) arguments e =
      keeps_within_depth onward budgets at (length m.callers + 1) (keeps_shows onward at _ (goes (enters function flow e refl refl)))

  goes_use : (at : Place) (operand : Operand) → GoesIn (Works code m) (use_result at operand m)
  goes_use at (Scalar cell) = keeps_set onward at cell (goes (stays refl refl))
  goes_use at (Whole cells) = goes (stays refl refl)
  goes_use at NoOperand = goes (stays refl refl)

  goes_work : (budgets : RunBudgets) (at : Place) (work : Work) → GoesIn (Works code m) (do_work code program budgets at work m)
  goes_work budgets at (Number n) = goes (stays refl refl)
  goes_work budgets at Null = goes (stays refl refl)
  goes_work budgets at (Text literal) = goes (stays refl refl)
  goes_work budgets at (Local declaration) = goes (stays refl refl)
  goes_work budgets at (Global global) = goes (stays refl refl)
  goes_work budgets at Nothing = goes (stays refl refl)
  goes_work budgets at (Sum bytes direction order) =
      keeps_sum onward program.model at (cell_at m (pointer_age order)) (directed direction (number_at m (amount_age order))) bytes
      (λ cell. goes (stays refl refl))
  goes_work budgets at (Member offset) = goes (stays refl refl)
  goes_work budgets at (Arrow offset) = keeps_arrow onward at (cell_at m 0) offset (λ cell. goes {s = push_cell cell (pop m)} (stays refl refl))
  goes_work budgets at (Load access) = goes_load m.memory m.frame.number access (cell_at m 0) (λ memory operand. goes (stays refl refl))
  goes_work budgets at (Convert from to) = keeps_convert onward program.model at from to (operand_at m 0) (λ operand. goes (stays refl refl))
  goes_work budgets at (Unary operator ty) = asks (λ number. goes (stays refl refl))
  goes_work budgets at Not = keeps_truth onward at (cell_at m 0) (λ holds. keeps_shows onward at _ (goes (stays refl refl)))
  goes_work budgets at (Binary operator ty) =
      keeps_operate onward program.model at operator ty (number_at m 1) (number_at m 0) (λ number. goes (stays refl refl))
  goes_work budgets at (Compare operator) = keeps_compare onward at operator (cell_at m 1) (cell_at m 0) (λ number. goes (stays refl refl))
  goes_work budgets at (Difference bytes) = keeps_difference onward at (cell_at m 1) (cell_at m 0) bytes (λ number. goes (stays refl refl))
  goes_work budgets at Judge = keeps_truth onward at (cell_at m 0) (λ holds. keeps_shows onward at _ (goes (stays refl refl)))
  goes_work budgets at (Store access) = goes_stores at access 1 (operand_at m 0) 2 (operand_at m 0)
  goes_work budgets at (FetchNumber access works_in) =
      goes_load m.memory m.frame.number access (cell_at m 0) (λ memory operand.
      keeps_convert_number onward program.model at access.ty works_in (number_in (cell_of operand))
      (λ number. goes {s = push_cell (NumberCell number) (push operand (with_memory memory m))} (stays refl refl)))
  goes_work budgets at (Update operator access works_in gives) =
      keeps_operate onward program.model at operator works_in (number_at m 1) (number_at m 0) (λ number.
      keeps_convert_number onward program.model at (integer works_in) (integer_of access.ty) number (λ stored.
      goes_stores at access 3 (Scalar (NumberCell stored)) 4 (given gives (operand_at m 2) (Scalar (NumberCell stored)))))
  goes_work budgets at (FetchPointer access) = goes_load m.memory m.frame.number access (cell_at m 0) (λ memory operand. goes (stays refl refl))
  goes_work budgets at (Move access bytes direction gives) =
      keeps_sum onward program.model at (cell_at m 1) (directed direction (number_at m 0)) bytes
      (λ cell. goes_stores at access 2 (Scalar cell) 3 (given gives (operand_at m 1) (Scalar cell)))
  goes_work budgets at (Call function count) =
      goes_call budgets at function count (routine_of program function) (flow_of code function) (newest count m) refl
  goes_work budgets at (Allocate allocator element) = goes_allocate at allocator element
  goes_work budgets at Free = goes_release at (cell_at m 0)
  goes_work budgets at Use = goes_use at (operand_at m 0)
  goes_work budgets at Drop = goes (stays refl refl)
  goes_work budgets at (Clear declaration true) = touches (goes (stays refl refl))
  goes_work budgets at (Clear declaration false) = goes (stays refl refl)
  goes_work budgets at (Zero declaration) = goes (stays refl refl)
  goes_work budgets at (StoreLocal declaration offset ty true) = touches (goes (stays refl refl))
  goes_work budgets at (StoreLocal declaration offset ty false) = goes (stays refl refl)
  goes_work budgets at (Spell declaration offset bytes) = goes (stays refl refl)
  goes_work budgets at (Reach kind counted_point) = goes_counted_point budgets at kind counted_point (slice_get m.frame.visits counted_point)
  goes_work budgets at (Meet kind) = touches (goes (stays refl refl))
  goes_work budgets at (Close nothing) = touches (goes (stays refl refl))

-- a block at which the run may continue after the end of a block
abbrev pub LeadsTo : BlockEnd → ℕ → Type 0
LeadsTo (Jump to) block = to ≡ block
LeadsTo (Branch at temporary one other) block = ⊤
LeadsTo (Switch at temporary cases otherwise) block = ⊤
LeadsTo (Return temporary) block = ⊥
LeadsTo Finish block = ⊥

-- where a step leaves the frames, by the number of frames so far
pub data Moves (code : Code) : ℕ → List Stand → ℕ → List Stand → Type 0 where
  works : {frames f n : ℕ} {others : List Stand} {operation : Operation} {operations : List Operation} {end : BlockEnd}
      → Moves code frames (record { function = f; number = n; here = record { operations = operation ∷ operations; end = end } } ∷ others)
      frames (record { function = f; number = n; here = record { operations = operations; end = end } } ∷ others)
  calls : {frames f n : ℕ} {others : List Stand} {operation : Operation} {operations : List Operation} {end : BlockEnd} (function : ℕ) (flow : Flow)
      → flow_of code function ≡ Some flow
      → Moves code frames (record { function = f; number = n; here = record { operations = operation ∷ operations; end = end } } ∷ others)
      (frames + 1) (record { function = function; number = frames; here = block_of flow flow.entry }
      ∷ (record { function = f; number = n; here = record { operations = operations; end = end } } ∷ others))
  jumps : {frames f n : ℕ} {others : List Stand} {end : BlockEnd} (block : ℕ) → LeadsTo end block
      → Moves code frames (record { function = f; number = n; here = record { operations = []; end = end } } ∷ others)
      frames (record { function = f; number = n; here = block_in code f block } ∷ others)
  leaves : {frames : ℕ} {one : Stand} {others : List Stand} → Moves code frames (one ∷ others) frames others

module _ (code : Code) (program : TypedProgram) (budgets : RunBudgets) (setting : Setting) where
  -- where the frames of a state are if the running one is at a point
  abbrev standing : List Operation → BlockEnd → CodeState → List Stand
  standing operations end m =
      record { function = m.frame.function; number = m.frame.number; here = record { operations = operations; end = end } } ∷ map stand_of m.callers

  -- the frames of the state after a step from there
  abbrev Moved : List Operation → BlockEnd → CodeState → CodeState → Type 0
  Moved operations end m next = Moves code m.frames (standing operations end m) next.frames (stands_of next)

  moved_by : (operation : Operation) (operations : List Operation) (end : BlockEnd) (m next : CodeState)
      → Works code (cut (operation.temporary + takes operation.work) (to_do (record { operations = operations; end = end }) m)) next
      → Moved (operation ∷ operations) end m next
  moved_by operation operations end m next (stays e f) =
      subst (λ frames. Moves code m.frames (standing (operation ∷ operations) end m) frames (stands_of next)) (sym f)
      (subst (λ stands. Moves code m.frames (standing (operation ∷ operations) end m) m.frames stands) (sym e) works)
  moved_by operation operations end m next (enters function flow is e f) =
      subst (λ frames. Moves code m.frames (standing (operation ∷ operations) end m) frames (stands_of next)) (sym f)
      (subst (λ stands. Moves code m.frames (standing (operation ∷ operations) end m) (m.frames + 1) stands) (sym e) (calls function flow is))

  goes_left : (end : BlockEnd) (callers : List (CallFrame Point)) (value : Operand) (m : CodeState) → m.callers ≡ callers
      → GoesIn (Moved [] end m) (leave_to callers value m)
  goes_left end [] value m e = stops
  goes_left end (caller ∷ callers) value m e =
      goes (subst (λ all.
      Moves code m.frames (record {
        function = m.frame.function;
        number = m.frame.number;
        here = record { operations = []; end = end };
      } ∷ map stand_of all) m.frames (stand_of caller ∷ map stand_of callers)) (sym e) leaves)

  goes_end : (end : BlockEnd) (m : CodeState) → GoesIn (Moved [] end m) (do_end code end m)
  goes_end (Jump block) m = goes (jumps block refl)
  goes_end (Branch at temporary one other) m =
      keeps_truth (inherited _) at _ (λ holds. touches (keeps_shows (inherited _) at _ (goes (jumps (if holds then one else other) tt))))
  goes_end (Switch at temporary cases otherwise) m = touches (keeps_shows (inherited _) at _ (goes (jumps _ tt)))
  goes_end (Return temporary) m = goes_left (Return temporary) m.callers _ m refl
  goes_end Finish m = goes_left Finish m.callers _ m refl

  moves_from : (operations : List Operation) (end : BlockEnd) (m next : CodeState) (log later : Log)
      → perform setting log (step_at code program budgets operations end m) ≡ Continues next later → Moved operations end m next
  moves_from [] end m next log later e = went _ setting log (goes_end end m) e
  moves_from (operation ∷ operations) end m next log later e =
      moved_by operation operations end m next (went _ setting log (goes_work code program _ budgets operation.at operation.work) e)

  -- a step of the run moves its frames in this way
  pub moves : (m next : CodeState) (log later : Log)
      → perform setting log (step_at code program budgets m.frame.todo.operations m.frame.todo.end m) ≡ Continues next later
      → Moves code m.frames (stands_of m) next.frames (stands_of next)
  moves m next log later e = moves_from m.frame.todo.operations m.frame.todo.end m next log later e
