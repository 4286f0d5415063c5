-- The run of an integer entry reads no inputs but its parameters: its pointers point to locals, whose scalars were set or never set.
use Rattle.std.proofs.Common.{◌≡◌, ℕ, ◌-◌, ◌+◌, ℤ, pos, Bool, true, false, List, [], ◌∷◌, length, Option, None, Some, All}
use Rattle.std.proofs.Common.{if◌then◌else◌, refl, sym, subst}
use Rattle.std.specs.Prelude.{unwrap_or, slice_get}
use Rattle.std.proofs.lemmas.List.Elements.{All-nil, All-cons, All-head, All-tail, All-drop, All-get_or}
use Rattle.cs_inputs.specs.Inputs.{number_at as input_at}
use Rattle.std.proofs.lemmas.Option.{slice_get_within, get_or_from_slice_get}
use Rattle.cs_types.specs.declared.data_model.DataModel.{DataModel}
use Rattle.cs_types.specs.declared.int_type.IntType.{IntType}
use Rattle.cs_types.specs.Shape.{Shape, void, integer}
use Rattle.cs_ast.specs.declared.place.Place.{Place}
use Rattle.cs_ast.specs.declared.typed.operator.Gives.{Gives}
use Rattle.cs_ast.specs.declared.typed.operator.Gives.TheVariants.{Old, New}
use Rattle.cs_ast.specs.TypedProgram.{TypedProgram}
use Rattle.cs_events.specs.declared.outcome.Outcome.{Outcome}
use Rattle.cs_events.specs.declared.outcome.Outcome.TheVariants.{Fault}
use Rattle.cs_events.specs.declared.outcome.RunBudgets.{RunBudgets}
use Rattle.cs_events.specs.declared.point.PointKind.{PointKind}
use Rattle.cs_events.specs.Objects.{Object, LocalObject, Cell, NumberCell, NullCell, PointerCell, UnsetCell}
use Rattle.cs_events.specs.Touches.{Loads, Stores}
use Rattle.cs_events.specs.Acts.{Act, Goes, Stops}
use Rattle.cs_events.specs.Runs.{Log}
use Rattle.cs_model.specs.declared.kind.Kind.TheVariants.{ConstWrite}
use Rattle.cs_meaning.specs.Access as access
use Rattle.cs_meaning.specs.Calls.{leave_to}
use Rattle.cs_meaning.specs.CountedPoints.{reached_again}
use Rattle.cs_meaning.specs.Expressions.{number_at, stores_to, given}
use Rattle.cs_meaning.specs.Initials.{number_in, truth_cell}
use Rattle.cs_meaning.specs.Machine.{Operand, Scalar, Nothing as NoOperand, CallFrame, push, push_cell, pop_many, with_memory, to_do, operand_at, cell_of}
use Rattle.cs_meaning.specs.Machine.{cell_at}
use Rattle.cs_meaning.specs.Machine.{routine_of}
use Rattle.cs_meaning.specs.Memory.{UnsetFill, Memory, Found, changed, refill, is_constant}
use Rattle.cs_meaning.specs.Operators as operators
use Rattle.cs_meaning.specs.ProgramRuns.{ProgramRun, setting_of}
use Rattle.cs_meaning.specs.Steps.{parameters_of}
use Rattle.cs_meaning.specs.Types.{integer_of}
use Rattle.cs_cfg.specs.Graph.{Work, Number, Local, Nothing, Load, Convert, Unary, Not, Binary, Compare, Judge, Store, FetchNumber, Update, Drop, Clear}
use Rattle.cs_cfg.specs.Graph.{StoreLocal, Reach, Meet, Close, Operation as CodeOperation, Point, BlockEnd, Jump, Branch, Switch, Return, Finish, Flow, Code}
use Rattle.cs_cfg.specs.Graph.{flow_of, no_flow, block_of, block_in, no_point}
use Rattle.cs_cfg.specs.Working.{CodeState, takes, cut, if_local, closed_with, do_work}
use Rattle.cs_cfg.specs.CodeSteps.{code_step, step_at, do_end, enters, code_start, CodeGives}
use Rattle.cs_cfg.specs.IntegerCode.{IsOfInteger, IsIntegerWork, IsIntegerOperation, IsIntegerPoint, HasIntegerCode, count_of_locals}
use Rattle.cs_coverage.specs.IntegerEntries.{IsIntegerEntry}
use Rattle.cs_completeness.proofs.InputFree.{either, Keeps, goes, stops, asks, touches, at_end, truth, operate, convert_number, compare, touched}
use Rattle.cs_completeness.proofs.PlainMemory.{IsLocal, IsPlainCell, IsPlainOperand, IsPlainThere, IsPlainMemory, plain_cell, memory_after, operand_written}
use Rattle.cs_completeness.proofs.PlainMemory.{refilled_block, found_plain, local_named, begins_plain}

module _ (code : Code) (program : TypedProgram) (entry : ℕ) where
  abbrev count : ℕ
  count = count_of_locals program entry

  -- the entry's frame is the only one, its operations work only with integers, and operands and locals are plain
  record IsPlain (m : CodeState) : Type 0 where
    function : m.frame.function ≡ entry
    alone : m.callers ≡ []
    point : All (IsIntegerOperation count) m.frame.todo.operations
    stack : All IsPlainOperand m.frame.stack
    memory : IsPlainMemory m.memory

  abbrev Stays : Act CodeState → Type 0
  Stays act = Keeps IsPlain act

  -- operands
  operand_there : (found : Option Operand) → ((operand : Operand) → found ≡ Some operand → IsPlainOperand operand)
      → IsPlainOperand (unwrap_or found (Scalar UnsetCell))
  operand_there None each = tt
  operand_there (Some operand) each = each operand refl

  plain_operand : (m : CodeState) → IsPlain m → (age : ℕ) → IsPlainOperand (operand_at m age)
  plain_operand m plain age =
      operand_there (slice_get m.frame.stack age) (λ operand there.
      subst IsPlainOperand (get_or_from_slice_get m.frame.stack age operand operand there)
      (All-get_or IsPlainOperand m.frame.stack age operand (slice_get_within m.frame.stack age operand there) plain.stack))

  pushed : (m : CodeState) (operand : Operand) → IsPlain m → IsPlainOperand operand → IsPlain (push operand m)
  pushed m operand plain fits = record {
    function = plain.function;
    alone = plain.alone;
    point = plain.point;
    stack = All-cons IsPlainOperand operand m.frame.stack fits plain.stack;
    memory = plain.memory;
  }

  popped : (m : CodeState) (number : ℕ) → IsPlain m → IsPlain (pop_many number m)
  popped m number plain = record {
    function = plain.function;
    alone = plain.alone;
    point = plain.point;
    stack = All-drop IsPlainOperand number m.frame.stack plain.stack;
    memory = plain.memory;
  }

  remembered : (m : CodeState) (memory : Memory) → IsPlain m → IsPlainMemory memory → IsPlain (with_memory memory m)
  remembered m memory plain fits =
      record { function = plain.function; alone = plain.alone; point = plain.point; stack = plain.stack; memory = fits }

  done : (m : CodeState) (p : Point) → IsPlain m → All (IsIntegerOperation count) p.operations → IsPlain (to_do p m)
  done m p plain fits = record { function = plain.function; alone = plain.alone; point = fits; stack = plain.stack; memory = plain.memory }

  -- accesses
  named : (at : Place) (cell : Cell) (onward : Object → ℤ → Act CodeState) → IsPlainCell cell
      → ((object : Object) (offset : ℤ) → IsLocal object → Stays (onward object offset)) → Stays (access.named at cell onward)
  named at (PointerCell object offset) onward plain keeps = keeps object offset plain
  named at NullCell onward plain keeps = stops
  named at (NumberCell n) onward plain keeps = stops
  named at UnsetCell onward plain keeps = stops

  locate : (memory : Memory) (one : access.Access) (cell : Cell) (onward : Object → ℕ → Act CodeState) → one.direct ≡ true → IsPlainCell cell
      → ((object : Object) (offset : ℕ) → IsLocal object → Stays (onward object offset)) → Stays (access.locate_object program memory one cell onward)
  locate memory one cell onward direct plain keeps =
      subst (λ (b : Bool). Stays (if b then access.direct one.at cell onward else access.reach program memory one.at one.ty cell onward)) (sym direct)
      (named one.at cell _ plain (λ object offset is. keeps object _ is))

  set_then : (at : Place) (cell : Cell) (act : Act CodeState) → Stays act → Stays (access.set_then at cell act)
  set_then at UnsetCell act keeps = stops
  set_then at NullCell act keeps = keeps
  set_then at (NumberCell n) act keeps = keeps
  set_then at (PointerCell object offset) act keeps = keeps

  value_at : (memory : Memory) (at : Place) (ty : IntType) (object : Object) (offset : ℕ) (onward : Memory → Operand → Act CodeState)
      → IsPlainThere (memory object) → ((operand : Operand) → IsPlainOperand operand → Stays (onward memory operand))
      → Stays (access.value_at program memory at (integer ty) object offset onward)
  value_at memory at ty object offset onward plain keeps =
      let found = found_plain program object (memory object) plain offset in
      subst (λ (f : Found). Stays (access.receive program memory f (λ after cell. access.set_then at cell (onward after (Scalar cell))))) (sym found.1)
      (set_then at found.0 (onward memory (Scalar found.0)) (keeps (Scalar found.0) found.2))

  load : (memory : Memory) (frame : ℕ) (one : access.Access) (cell : Cell) (onward : Memory → Operand → Act CodeState) → IsOfInteger one
      → IsPlainMemory memory → IsPlainCell cell → ((operand : Operand) → IsPlainOperand operand → Stays (onward memory operand))
      → Stays (access.load_object program memory frame one cell onward)
  load memory frame one cell onward integers plain points keeps =
      locate memory one cell
      (λ object offset. access.touches_then (λ declaration. Loads frame declaration one.at) one.local
      (access.value_at program memory one.at one.ty object offset onward))
      integers.direct points
      (λ object offset local. touched IsPlain (λ declaration. Loads frame declaration one.at) one.local
      (access.value_at program memory one.at one.ty object offset onward)
      (subst (λ (ty : Shape). Stays (access.value_at program memory one.at ty object offset onward)) (sym integers.of)
      (value_at memory one.at integers.ty object offset onward (local_named IsPlainThere object memory local plain) keeps)))

  store : (memory : Memory) (frame : ℕ) (at : Place) (one : access.Access) (cell : Cell) (operand : Operand) (onward : Memory → Act CodeState)
      → IsOfInteger one → IsPlainMemory memory → IsPlainCell cell → IsPlainOperand operand
      → ((after : Memory) → IsPlainMemory after → Stays (onward after)) → Stays (access.store_object program memory frame at one cell operand onward)
  store memory frame at one cell operand onward integers plain points fits keeps =
      locate memory one cell
      (λ object offset. access.writable program one.at object
      (access.touches_then (λ declaration. Stores frame declaration at) one.local
      (onward (changed (access.write_operand program one.ty offset operand) object memory))))
      integers.direct points
      (λ object offset local. either Stays (is_constant program object) (Stops (Fault ConstWrite one.at))
      (access.touches_then (λ declaration. Stores frame declaration at) one.local
      (onward (changed (access.write_operand program one.ty offset operand) object memory))) stops
      (touched IsPlain (λ declaration. Stores frame declaration at) one.local
      (onward (changed (access.write_operand program one.ty offset operand) object memory))
      (keeps (changed (access.write_operand program one.ty offset operand) object memory)
      (memory_after (access.write_operand program one.ty offset operand) (operand_written program one.ty offset operand fits) object memory plain))))

  -- operations
  stored : (at : Place) (one : access.Access) (age : ℕ) (operand : Operand) (number : ℕ) (left : Operand) (m : CodeState) → IsOfInteger one → IsPlain m
      → IsPlainOperand operand → IsPlainOperand left → Stays (stores_to program at one age operand number left m)
  stored at one age operand number left m integers plain fits leaves =
      store m.memory m.frame.number at one (cell_at m age) operand (λ memory. Goes (push left (with_memory memory (pop_many number m)))) integers plain.memory
      (plain_cell (operand_at m age) (plain_operand m plain age)) fits
      (λ after is. goes (pushed (with_memory after (pop_many number m)) left (remembered (pop_many number m) after (popped m number plain) is) leaves))

  left_there : (gives : Gives) (before after : Operand) → IsPlainOperand before → IsPlainOperand after → IsPlainOperand (given gives before after)
  left_there Old before after first second = first
  left_there New before after first second = second

  converted : (model : DataModel) (at : Place) (from to : Shape) (operand : Operand) (onward : Operand → Act CodeState) → IsPlainOperand operand
      → ((given : Operand) → IsPlainOperand given → Stays (onward given)) → Stays (operators.convert model at from to operand onward)
  converted model at from void operand onward plain keeps = keeps _ tt
  converted model at from (integer ty) (Scalar (NumberCell n)) onward plain keeps =
      convert_number IsPlain model at from ty n (λ number. onward (Scalar (NumberCell number))) (λ number. keeps (Scalar (NumberCell number)) tt)
  converted model at from (integer ty) other onward plain keeps = keeps other plain
  converted model at from other operand onward plain keeps = keeps operand plain

  module _ (budgets : RunBudgets) where
    reached : (at : Place) (kind : PointKind) (counted_point : ℕ) (found : Option ℕ) (m : CodeState) → IsPlain m
        → Stays (reached_again budgets at kind counted_point found m)
    reached at kind counted_point None m plain = stops
    reached at kind counted_point (Some visits) m plain =
        either Stays _ _ _
        (touches (goes (record { function = plain.function; alone = plain.alone; point = plain.point; stack = plain.stack; memory = plain.memory }))) stops

    closed : (nothing : Bool) → IsPlainOperand (closed_with nothing)
    closed true = tt
    closed false = tt

    works : (at : Place) (work : Work) (m : CodeState) → IsIntegerWork count work → IsPlain m → Stays (do_work code program budgets at work m)
    works at (Number n) m integers plain = goes (pushed m (Scalar (NumberCell n)) plain tt)
    works at (Local declaration) m integers plain = goes (pushed m (Scalar (PointerCell (LocalObject m.frame.number declaration) (pos 0))) plain tt)
    works at Nothing m integers plain = goes (pushed m NoOperand plain tt)
    works at (Load one) m integers plain =
        load m.memory m.frame.number one (cell_at m 0) _ integers plain.memory (plain_cell (operand_at m 0) (plain_operand m plain 0))
        (λ operand fits. goes (pushed (with_memory m.memory (pop_many 1 m)) operand (popped m 1 plain) fits))
    works at (Convert from to) m integers plain =
        converted program.model at from to (operand_at m 0) _ (plain_operand m plain 0)
        (λ operand fits. goes (pushed (pop_many 1 m) operand (popped m 1 plain) fits))
    works at (Unary operator ty) m integers plain = asks (λ n. goes (pushed (pop_many 1 m) (Scalar (NumberCell n)) (popped m 1 plain) tt))
    works at Not m integers plain =
        truth IsPlain at (cell_at m 0) _ (λ b. asks (λ n. goes (pushed (pop_many 1 m) (Scalar (truth_cell _)) (popped m 1 plain) tt)))
    works at (Binary operator ty) m integers plain =
        operate IsPlain program.model at operator ty _ _ _ (λ n. goes (pushed (pop_many 2 m) (Scalar (NumberCell n)) (popped m 2 plain) tt))
    works at (Compare operator) m integers plain =
        compare IsPlain at operator _ _ _ (λ n. goes (pushed (pop_many 2 m) (Scalar (NumberCell n)) (popped m 2 plain) tt))
    works at Judge m integers plain =
        truth IsPlain at (cell_at m 0) _ (λ b. asks (λ n. goes (pushed (pop_many 1 m) (Scalar (truth_cell b)) (popped m 1 plain) tt)))
    works at (Store one) m integers plain =
        stored at one 1 (operand_at m 0) 2 (operand_at m 0) m integers plain (plain_operand m plain 0) (plain_operand m plain 0)
    works at (FetchNumber one works_in) m integers plain =
        load m.memory m.frame.number one (cell_at m 0)
        (λ memory operand. operators.convert_number program.model at one.ty works_in (number_in (cell_of operand))
        (λ number. Goes (push_cell (NumberCell number) (push operand (with_memory memory m)))))
        integers plain.memory (plain_cell (operand_at m 0) (plain_operand m plain 0))
        (λ operand fits. convert_number IsPlain program.model at one.ty works_in (number_in (cell_of operand))
        (λ number. Goes (push_cell (NumberCell number) (push operand m)))
        (λ n. goes (pushed (push operand m) (Scalar (NumberCell n)) (pushed m operand plain fits) tt)))
    works at (Update operator one works_in gives) m integers plain =
        operate IsPlain program.model at operator works_in (number_at m 1) (number_at m 0)
        (λ number. operators.convert_number program.model at (integer works_in) (integer_of one.ty) number
        (λ after. stores_to program at one 3 (Scalar (NumberCell after)) 4 (given gives (operand_at m 2) (Scalar (NumberCell after))) m))
        (λ number. convert_number IsPlain program.model at (integer works_in) (integer_of one.ty) number
        (λ after. stores_to program at one 3 (Scalar (NumberCell after)) 4 (given gives (operand_at m 2) (Scalar (NumberCell after))) m)
        (λ after. stored at one 3 (Scalar (NumberCell after)) 4 (given gives (operand_at m 2) (Scalar (NumberCell after))) m integers plain tt
        (left_there gives (operand_at m 2) (Scalar (NumberCell after)) (plain_operand m plain 2) tt)))
    works at Drop m integers plain = goes (popped m 1 plain)
    works at (Clear declaration scalar) m integers plain =
        touched IsPlain _ (if_local scalar declaration) _
        (goes (remembered m _ plain (memory_after (refill UnsetFill) refilled_block (LocalObject m.frame.number declaration) m.memory plain.memory)))
    works at (StoreLocal declaration offset ty scalar) m integers plain =
        touched IsPlain _ (if_local scalar declaration) _
        (goes (remembered (pop_many 1 m) _ (popped m 1 plain)
        (memory_after (access.write_operand program ty offset (operand_at m 0)) (operand_written program ty offset (operand_at m 0) (plain_operand m plain 0))
        (LocalObject m.frame.number declaration) m.memory plain.memory)))
    works at (Reach kind counted_point) m integers plain = reached at kind counted_point (slice_get m.frame.visits counted_point) m plain
    works at (Meet kind) m integers plain = touches (goes plain)
    works at (Close nothing) m integers plain = touches (goes (pushed m (closed_with nothing) plain (closed nothing)))
    works at other m integers plain = absurd integers

    module _ (integers : HasIntegerCode code program entry) where
      -- blocks
      in_list : (found : Option Point) → ((p : Point) → found ≡ Some p → IsIntegerPoint count p) → IsIntegerPoint count (unwrap_or found no_point)
      in_list None each = All-nil (IsIntegerOperation count)
      in_list (Some p) each = each p refl

      in_flow : (found : Option Flow) → flow_of code entry ≡ found → (block : ℕ) → IsIntegerPoint count (block_of (unwrap_or found no_flow) block)
      in_flow None is block = All-nil (IsIntegerOperation count)
      in_flow (Some flow) is block =
          in_list (slice_get flow.blocks block) (λ p there.
          subst (IsIntegerPoint count) (get_or_from_slice_get flow.blocks block p p there)
          (All-get_or (IsIntegerPoint count) flow.blocks block p (slice_get_within flow.blocks block p there) (integers flow is)))

      entered : (block : ℕ) (m : CodeState) → IsPlain m → IsPlain (enters code block m)
      entered block m plain =
          done m (block_in code m.frame.function block) plain
          (subst (λ (function : ℕ). IsIntegerPoint count (block_in code function block)) (sym plain.function) (in_flow (flow_of code entry) refl block))

      shortened : (m : CodeState) (number : ℕ) → IsPlain m → IsPlain (cut number m)
      shortened m number plain = popped m (length m.frame.stack - number) plain

      left_alone : (value : Operand) (m : CodeState) → IsPlain m → Stays (leave_to m.callers value m)
      left_alone value m plain = subst (λ (callers : List (CallFrame Point)). Stays (leave_to callers value m)) (sym plain.alone) stops

      ends : (end : BlockEnd) (m : CodeState) → IsPlain m → Stays (do_end code end m)
      ends (Jump block) m plain = goes (entered block m plain)
      ends (Branch at temporary one other) m plain =
          truth IsPlain at _ _ (λ b. touches (asks (λ n.
          goes (entered (if b then one else other) (pop_many 1 (cut (temporary + 1) m))
          (popped (cut (temporary + 1) m) 1 (shortened m (temporary + 1) plain))))))
      ends (Switch at temporary cases otherwise) m plain =
          touches (asks (λ n.
          goes (entered _ (pop_many 1 (cut (temporary + 1) m)) (popped (cut (temporary + 1) m) 1 (shortened m (temporary + 1) plain)))))
      ends (Return temporary) m plain = left_alone _ m plain
      ends Finish m plain = left_alone _ m plain

      at_point : (operations : List CodeOperation) (end : BlockEnd) (m : CodeState) → IsPlain m → All (IsIntegerOperation count) operations
          → Stays (step_at code program budgets operations end m)
      at_point [] end m plain each = ends end m plain
      at_point (one ∷ rest) end m plain each =
          let next : Point = record { operations = rest; end = end } in
          works one.at one.work (cut (one.temporary + takes one.work) (to_do next m)) (All-head (IsIntegerOperation count) one rest each)
          (shortened (to_do next m) (one.temporary + takes one.work) (done m next plain (All-tail (IsIntegerOperation count) one rest each)))

      steps : (m : CodeState) → IsPlain m → Stays (code_step code program budgets m)
      steps m plain = at_point m.frame.todo.operations m.frame.todo.end m plain plain.point

module _ (code : Code) (program : TypedProgram) (entry : ℕ) (integer_entry : IsIntegerEntry code program entry) where
  starts : (run : ProgramRun) → IsPlain code program entry (code_start code program entry run)
  starts run = record {
    function = refl;
    alone = refl;
    point = in_flow code program entry (record { events = 0; visits = 0; depth = 0 }) integer_entry.integers (flow_of code entry) refl _;
    stack = All-nil IsPlainOperand;
    memory = begins_plain program (input_at run.inputs) (parameters_of (routine_of program entry)) integer_entry.parameters
        (routine_of program entry).variables;
  }

  -- a run of the code reads nothing
  pub reads_nothing : (run : ProgramRun) (budgets : RunBudgets) (outcome : Outcome) (log : Log) → CodeGives code program entry run budgets outcome log
      → log.read ≡ []
  reads_nothing run budgets outcome log ended =
      at_end (IsPlain code program entry) (code_step code program budgets) (setting_of program run budgets)
      (steps code program entry budgets integer_entry.integers) ended.leads ended.finishes (starts run)
