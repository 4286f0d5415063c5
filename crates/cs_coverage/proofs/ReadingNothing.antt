-- Integer code reads no input: each cell of its memory was set, or was never set. For the coverage of runs, whose cells are those of their own inputs.
use Rattle.std.proofs.Common.{◌≡◌, ℕ, ℤ, Bool, true, false, List, [], ◌∷◌, Option, None, Some, All, if◌then◌else◌, refl, sym}
use Rattle.std.proofs.Common.{subst}
use Rattle.std.specs.Prelude.{unwrap_or, slice_get}
use Rattle.std.proofs.lemmas.List.Elements.{All-drop, All-get_or}
use Rattle.std.proofs.lemmas.Option.{slice_get_within, get_or_from_slice_get}
use Rattle.cs_types.specs.declared.data_model.DataModel.{DataModel}
use Rattle.cs_types.specs.declared.int_type.IntType.{IntType}
use Rattle.cs_types.specs.Shape.{Shape, void, integer}
use Rattle.cs_inputs.specs.declared.path.Path.{Path}
use Rattle.cs_ast.specs.declared.place.Place.{Place}
use Rattle.cs_ast.specs.declared.typed.operator.BinOp.{BinOp}
use Rattle.cs_ast.specs.declared.typed.operator.BinOp.TheVariants.{Add, Sub, Mul, Div, Rem, Shl, Shr, And, Xor, Or}
use Rattle.cs_ast.specs.declared.typed.operator.CmpOp.{CmpOp}
use Rattle.cs_ast.specs.TypedProgram.{TypedProgram}
use Rattle.cs_events.specs.declared.input.InputKind.{InputKind}
use Rattle.cs_events.specs.declared.operation.Operation.{Operation}
use Rattle.cs_events.specs.declared.operation.Operation.TheVariants as operation
use Rattle.cs_model.specs.declared.kind.Kind.TheVariants.{ConstWrite}
use Rattle.cs_events.specs.declared.outcome.Outcome.{Outcome}
use Rattle.cs_events.specs.declared.outcome.Outcome.TheVariants.{Fault}
use Rattle.cs_events.specs.declared.outcome.RunBudgets.{RunBudgets}
use Rattle.cs_events.specs.declared.point.PointKind.{PointKind}
use Rattle.cs_events.specs.Objects.{Object, Cell, NumberCell, NullCell, PointerCell, UnsetCell}
use Rattle.cs_events.specs.Touches.{Touch, Loads, Stores}
use Rattle.cs_events.specs.Operations.{is_true}
use Rattle.cs_events.specs.Acts.{Act, Goes, Stops, Asks, Allocates, Reaches, Touches}
use Rattle.cs_event_runs.specs.Left.{left_of}
use Rattle.cs_meaning.specs.Access as access
use Rattle.cs_meaning.specs.Calls.{leave_to}
use Rattle.cs_meaning.specs.Initials.{number_in}
use Rattle.cs_meaning.specs.Types.{integer_of}
use Rattle.cs_meaning.specs.Expressions.{number_at, stores_to, given}
use Rattle.cs_meaning.specs.CountedPoints.{reached_again}
use Rattle.cs_meaning.specs.Machine.{Operand, Scalar, CallFrame, push, push_cell, pop_many, with_memory, operand_at, cell_of, cell_at}
use Rattle.cs_meaning.specs.Memory.{Memory, Found, Holds, found_in, changed, is_constant}
use Rattle.cs_meaning.specs.Operators as operators
use Rattle.cs_cfg.specs.Graph.{Work, Number, Local, Nothing, Load, Convert, Unary, Not, Binary, Compare}
use Rattle.cs_cfg.specs.Graph.{Judge, Store, FetchNumber, Update, Drop, Clear, StoreLocal, Reach}
use Rattle.cs_cfg.specs.Graph.{Meet, Close, Operation as CodeOperation, Point, BlockEnd, Jump, Branch, Switch, Return, Finish, Code}
use Rattle.cs_cfg.specs.Working.{CodeState, if_local, do_work}
use Rattle.cs_cfg.specs.CodeSteps.{step_at, do_end}
use Rattle.cs_cfg.specs.IntegerCode.{IsOfInteger, IsIntegerWork}

-- a value that is a pointer points to an object of this kind
abbrev pub PointsTo : (Object → Type 0) → Cell → Type 0
PointsTo Is (PointerCell object offset) = Is object
PointsTo Is other = Unit {0}

-- each cell of an object is known, so that no input has to be looked up for it
abbrev pub IsKnown : TypedProgram → Memory → Object → Type 0
IsKnown program memory object = (offset : ℕ) → (cell : Cell) × (found_in program object (memory object) offset ≡ Holds cell)

module _ {S : Type 0} where
  -- an act reads no input, whatever answers it has
  pub data ReadsNothing : Act S → Type 0 where
    goes : {next : S} → ReadsNothing (Goes next)
    stops : {outcome : Outcome} → ReadsNothing (Stops outcome)
    asks : {at : Place} {operation : Operation} {onward : ℤ → Act S} → ((number : ℤ) → ReadsNothing (onward number))
        → ReadsNothing (Asks at operation onward)
    allocates : {at : Place} {path : Path} {onward : Bool → Act S} → ((gives : Bool) → ReadsNothing (onward gives))
        → ReadsNothing (Allocates at path onward)
    reaches : {at : Place} {object : Object} {offset : ℤ} {act : Act S} → ReadsNothing act → ReadsNothing (Reaches at object offset act)
    touches : {touch : Touch} {act : Act S} → ReadsNothing act → ReadsNothing (Touches touch act)

  -- so what remains of it is the same, whatever cells inputs have
  pub same_left : (cells others : Path → InputKind → Cell) (answers : List ℤ) {act : Act S} → ReadsNothing act
      → left_of cells answers act ≡ left_of others answers act
  unfolding left_of
  same_left cells others answers goes = refl
  same_left cells others answers stops = refl
  same_left cells others [] (asks reads) = refl
  same_left cells others [] (allocates reads) = refl
  same_left cells others [] (reaches reads) = refl
  same_left cells others answers (touches reads) = same_left cells others answers reads
  same_left cells others (answer ∷ answers) (asks reads) = same_left cells others answers (reads answer)
  same_left cells others (answer ∷ answers) (allocates reads) = same_left cells others answers (reads (is_true answer))
  same_left cells others (answer ∷ answers) (reaches reads) = same_left cells others answers reads

  either : (b : Bool) (one other : Act S) → ReadsNothing one → ReadsNothing other → ReadsNothing (if b then one else other)
  either true one other first second = first
  either false one other first second = second

  -- operators
  truth : (at : Place) (cell : Cell) (onward : Bool → Act S) → ((b : Bool) → ReadsNothing (onward b)) → ReadsNothing (operators.truth at cell onward)
  truth at (NumberCell n) onward reads = reads _
  truth at NullCell onward reads = asks (λ n. reads false)
  truth at (PointerCell object offset) onward reads = asks (λ n. reads true)
  truth at UnsetCell onward reads = reads false

  checked : (model : DataModel) (at : Place) (operator : BinOp) (ty : IntType) (right : ℤ) (act : Act S) → ReadsNothing act
      → ReadsNothing (operators.checked model at operator ty right act)
  checked model at Add ty right act reads = reads
  checked model at Sub ty right act reads = reads
  checked model at Mul ty right act reads = reads
  checked model at Div ty right act reads = either _ _ act stops reads
  checked model at Rem ty right act reads = either _ _ act stops reads
  checked model at Shl ty right act reads = either _ act _ reads stops
  checked model at Shr ty right act reads = either _ act _ reads stops
  checked model at And ty right act reads = reads
  checked model at Xor ty right act reads = reads
  checked model at Or ty right act reads = reads

  operate : (model : DataModel) (at : Place) (operator : BinOp) (ty : IntType) (left right : ℤ) (onward : ℤ → Act S)
      → ((n : ℤ) → ReadsNothing (onward n)) → ReadsNothing (operators.operate model at operator ty left right onward)
  operate model at operator ty left right onward reads =
      checked model at operator ty right (Asks at (operation.Binary operator ty left right) onward) (asks reads)

  convert_number : (model : DataModel) (at : Place) (from : Shape) (to : IntType) (number : ℤ) (onward : ℤ → Act S)
      → ((n : ℤ) → ReadsNothing (onward n)) → ReadsNothing (operators.convert_number model at from to number onward)
  convert_number model at from to number onward reads =
      either (operators.takes_all model from to) (onward number) (Asks at (operation.Convert to number) onward) (reads number) (asks reads)

  convert : (model : DataModel) (at : Place) (from to : Shape) (operand : Operand) (onward : Operand → Act S)
      → ((given : Operand) → ReadsNothing (onward given)) → ReadsNothing (operators.convert model at from to operand onward)
  convert model at from void operand onward reads = reads _
  convert model at from (integer ty) (Scalar (NumberCell n)) onward reads =
      convert_number model at from ty n (λ number. onward (Scalar (NumberCell number))) (λ number. reads (Scalar (NumberCell number)))
  convert model at from (integer ty) other onward reads = reads _
  convert model at from other operand onward reads = reads _

  look : (at : Place) (cell : Cell) (act : Act S) → ReadsNothing act → ReadsNothing (access.look at cell act)
  look at NullCell act reads = asks (λ n. reads)
  look at (PointerCell object offset) act reads = asks (λ n. reads)
  look at (NumberCell n) act reads = reads
  look at UnsetCell act reads = reads

  one_object : (at : Place) (found : Option (ℤ × ℤ)) (act : Act S) → ReadsNothing act → ReadsNothing (operators.one_object at found act)
  one_object at None act reads = stops
  one_object at (Some offsets) act reads = reads

  equality : (at : Place) (operator : CmpOp) (same : Bool) (found : Option (ℤ × ℤ)) (onward : ℤ → Act S) → ((n : ℤ) → ReadsNothing (onward n))
      → ReadsNothing (operators.equality at operator same found onward)
  equality at operator same None onward reads = asks (λ n. reads _)
  equality at operator same (Some offsets) onward reads = asks reads

  compare : (at : Place) (operator : CmpOp) (left right : Cell) (onward : ℤ → Act S) → ((n : ℤ) → ReadsNothing (onward n))
      → ReadsNothing (operators.compare at operator left right onward)
  compare at operator left right onward reads =
      either _ _ _ (look at left _ (look at right _ (either _ _ _ (one_object at _ _ (asks reads)) (equality at operator _ _ onward reads)))) (asks reads)

  -- accesses
  touched : (touch : ℕ → Touch) (local : Option ℕ) (act : Act S) → ReadsNothing act → ReadsNothing (access.touches_then touch local act)
  touched touch None act reads = reads
  touched touch (Some declaration) act reads = touches reads

  set_then : (at : Place) (cell : Cell) (act : Act S) → ReadsNothing act → ReadsNothing (access.set_then at cell act)
  set_then at UnsetCell act reads = stops
  set_then at NullCell act reads = reads
  set_then at (NumberCell n) act reads = reads
  set_then at (PointerCell object offset) act reads = reads

  named : (Is : Object → Type 0) (at : Place) (cell : Cell) (onward : Object → ℤ → Act S) → PointsTo Is cell
      → ((object : Object) (offset : ℤ) → Is object → ReadsNothing (onward object offset)) → ReadsNothing (access.named at cell onward)
  named Is at (PointerCell object offset) onward points reads = reads object offset points
  named Is at NullCell onward points reads = stops
  named Is at (NumberCell n) onward points reads = stops
  named Is at UnsetCell onward points reads = stops

  locate : (Is : Object → Type 0) (program : TypedProgram) (memory : Memory) (one : access.Access) (cell : Cell) (onward : Object → ℕ → Act S)
      → one.direct ≡ true → PointsTo Is cell → ((object : Object) (offset : ℕ) → Is object → ReadsNothing (onward object offset))
      → ReadsNothing (access.locate_object program memory one cell onward)
  locate Is program memory one cell onward direct points reads =
      subst (λ (b : Bool). ReadsNothing (if b then access.direct one.at cell onward else access.reach program memory one.at one.ty cell onward)) (sym direct)
      (named Is one.at cell _ points (λ object offset is. reads object _ is))

  receive : (program : TypedProgram) (memory : Memory) (found : Found) (cell : Cell) (onward : Memory → Cell → Act S) → found ≡ Holds cell
      → ReadsNothing (onward memory cell) → ReadsNothing (access.receive program memory found onward)
  receive program memory found cell onward is reads = subst (λ f. ReadsNothing (access.receive program memory f onward)) (sym is) reads

  value_at : (program : TypedProgram) (memory : Memory) (at : Place) (ty : IntType) (object : Object) (offset : ℕ) (onward : Memory → Operand → Act S)
      → IsKnown program memory object → ((after : Memory) (operand : Operand) → ReadsNothing (onward after operand))
      → ReadsNothing (access.value_at program memory at (integer ty) object offset onward)
  value_at program memory at ty object offset onward known reads =
      receive program memory _ (known offset).0 _ (known offset).1
      (set_then at (known offset).0 (onward memory (Scalar (known offset).0)) (reads memory (Scalar (known offset).0)))

  load : (program : TypedProgram) (memory : Memory) (frame : ℕ) (one : access.Access) (cell : Cell) (onward : Memory → Operand → Act S)
      → IsOfInteger one → PointsTo (IsKnown program memory) cell → ((after : Memory) (operand : Operand) → ReadsNothing (onward after operand))
      → ReadsNothing (access.load_object program memory frame one cell onward)
  load program memory frame one cell onward integers points reads =
      locate (IsKnown program memory) program memory one cell
      (λ object offset. access.touches_then (λ declaration. Loads frame declaration one.at) one.local
      (access.value_at program memory one.at one.ty object offset onward))
      integers.direct points
      (λ object offset known. touched (λ declaration. Loads frame declaration one.at) one.local
      (access.value_at program memory one.at one.ty object offset onward)
      (subst (λ (ty : Shape). ReadsNothing (access.value_at program memory one.at ty object offset onward)) (sym integers.of)
      (value_at program memory one.at integers.ty object offset onward known reads)))

  store : (program : TypedProgram) (memory : Memory) (frame : ℕ) (at : Place) (one : access.Access) (cell : Cell) (operand : Operand)
      (onward : Memory → Act S) → IsOfInteger one → PointsTo (IsKnown program memory) cell → ((after : Memory) → ReadsNothing (onward after))
      → ReadsNothing (access.store_object program memory frame at one cell operand onward)
  store program memory frame at one cell operand onward integers points reads =
      locate (IsKnown program memory) program memory one cell
      (λ object offset. access.writable program one.at object
      (access.touches_then (λ declaration. Stores frame declaration at) one.local
      (onward (changed (access.write_operand program one.ty offset operand) object memory))))
      integers.direct points
      (λ object offset known. either (is_constant program object) (Stops (Fault ConstWrite one.at))
      (access.touches_then (λ declaration. Stores frame declaration at) one.local
      (onward (changed (access.write_operand program one.ty offset operand) object memory))) stops
      (touched (λ declaration. Stores frame declaration at) one.local
      (onward (changed (access.write_operand program one.ty offset operand) object memory))
      (reads (changed (access.write_operand program one.ty offset operand) object memory))))

reached : (budgets : RunBudgets) (at : Place) (kind : PointKind) (counted_point : ℕ) (count : Option ℕ) (m : CodeState)
    → ReadsNothing (reached_again budgets at kind counted_point count m)
reached budgets at kind counted_point None m = stops
reached budgets at kind counted_point (Some count) m = either _ _ _ (touches goes) stops

-- a pointer of an operand points to a known object
abbrev pub IsKnownOperand : TypedProgram → Memory → Operand → Type 0
IsKnownOperand program memory operand = PointsTo (IsKnown program memory) (cell_of operand)

-- the operand at some age points to a known object, or there is none
operand_known : (program : TypedProgram) (memory : Memory) (found : Option Operand)
    → ((operand : Operand) → found ≡ Some operand → IsKnownOperand program memory operand)
    → PointsTo (IsKnown program memory) (cell_of (unwrap_or found (Scalar UnsetCell)))
operand_known program memory None known = tt
operand_known program memory (Some operand) known = known operand refl

module _ (code : Code) (program : TypedProgram) (budgets : RunBudgets) where
  -- each operand of a state points to known objects
  abbrev pub HasKnownOperands : CodeState → Type 0
  HasKnownOperands m = All (IsKnownOperand program m.memory) m.frame.stack

  cell_known : (m : CodeState) → HasKnownOperands m → (age : ℕ) → PointsTo (IsKnown program m.memory) (cell_at m age)
  cell_known m known age =
      operand_known program m.memory (slice_get m.frame.stack age) (λ operand there.
      subst (IsKnownOperand program m.memory) (get_or_from_slice_get m.frame.stack age operand operand there)
      (All-get_or (IsKnownOperand program m.memory) m.frame.stack age operand (slice_get_within m.frame.stack age operand there) known))

  stores : (at : Place) (one : access.Access) (age : ℕ) (operand : Operand) (popped : ℕ) (left : Operand) (m : CodeState) → IsOfInteger one
      → HasKnownOperands m → ReadsNothing (stores_to program at one age operand popped left m)
  stores at one age operand popped left m integers known =
      store program m.memory m.frame.number at one (cell_at m age) operand (λ memory. Goes (push left (with_memory memory (pop_many popped m)))) integers
      (cell_known m known age) (λ memory. goes)

  work_reads : (at : Place) (count : ℕ) (work : Work) (m : CodeState) → IsIntegerWork count work → HasKnownOperands m
      → ReadsNothing (do_work code program budgets at work m)
  work_reads at count (Number n) m integers known = goes
  work_reads at count (Local declaration) m integers known = goes
  work_reads at count Nothing m integers known = goes
  work_reads at count (Load access) m integers known =
      load program m.memory m.frame.number access (cell_at m 0) _ integers (cell_known m known 0) (λ memory operand. goes)
  work_reads at count (Convert from to) m integers known = convert program.model at from to (operand_at m 0) _ (λ operand. goes)
  work_reads at count (Unary operator ty) m integers known = asks (λ n. goes)
  work_reads at count Not m integers known = truth at (cell_at m 0) _ (λ b. asks (λ n. goes))
  work_reads at count (Binary operator ty) m integers known = operate program.model at operator ty _ _ _ (λ n. goes)
  work_reads at count (Compare operator) m integers known = compare at operator _ _ _ (λ n. goes)
  work_reads at count Judge m integers known = truth at (cell_at m 0) _ (λ b. asks (λ n. goes))
  work_reads at count (Store access) m integers known = stores at access 1 (operand_at m 0) 2 (operand_at m 0) m integers known
  work_reads at count (FetchNumber access works_in) m integers known =
      load program m.memory m.frame.number access (cell_at m 0)
      (λ memory operand. operators.convert_number program.model at access.ty works_in (number_in (cell_of operand))
      (λ number. Goes (push_cell (NumberCell number) (push operand (with_memory memory m)))))
      integers (cell_known m known 0)
      (λ memory operand. convert_number program.model at access.ty works_in (number_in (cell_of operand))
      (λ number. Goes (push_cell (NumberCell number) (push operand (with_memory memory m)))) (λ n. goes))
  work_reads at count (Update operator access works_in gives) m integers known =
      operate program.model at operator works_in (number_at m 1) (number_at m 0)
      (λ number. operators.convert_number program.model at (integer works_in) (integer_of access.ty) number
      (λ stored. stores_to program at access 3 (Scalar (NumberCell stored)) 4 (given gives (operand_at m 2) (Scalar (NumberCell stored))) m))
      (λ number. convert_number program.model at (integer works_in) (integer_of access.ty) number
      (λ stored. stores_to program at access 3 (Scalar (NumberCell stored)) 4 (given gives (operand_at m 2) (Scalar (NumberCell stored))) m)
      (λ stored. stores at access 3 (Scalar (NumberCell stored)) 4 (given gives (operand_at m 2) (Scalar (NumberCell stored))) m integers known))
  work_reads at count Drop m integers known = goes
  work_reads at count (Clear declaration scalar) m integers known = touched _ (if_local scalar declaration) _ goes
  work_reads at count (StoreLocal declaration offset ty scalar) m integers known = touched _ (if_local scalar declaration) _ goes
  work_reads at count (Reach kind counted_point) m integers known = reached budgets at kind counted_point (slice_get m.frame.visits counted_point) m
  work_reads at count (Meet kind) m integers known = touches goes
  work_reads at count (Close nothing) m integers known = touches goes
  work_reads at count other m integers known = absurd integers

  leaves : (callers : List (CallFrame Point)) (value : Operand) (m : CodeState) → ReadsNothing (leave_to callers value m)
  leaves [] value m = stops
  leaves (caller ∷ callers) value m = goes

  end_reads : (end : BlockEnd) (m : CodeState) → ReadsNothing (do_end code end m)
  end_reads (Jump block) m = goes
  end_reads (Branch at temporary one other) m = truth at _ _ (λ b. touches (asks (λ n. goes)))
  end_reads (Switch at temporary cases otherwise) m = touches (asks (λ n. goes))
  end_reads (Return temporary) m = leaves m.callers _ m
  end_reads Finish m = leaves m.callers _ m

  -- a step at a point whose first operation works only with integers
  pub step_reads : (count : ℕ) (operations : List CodeOperation) (end : BlockEnd) (m : CodeState)
      → ((one : CodeOperation) (rest : List CodeOperation) → operations ≡ one ∷ rest → IsIntegerWork count one.work) → HasKnownOperands m
      → ReadsNothing (step_at code program budgets operations end m)
  step_reads count [] end m integers known = end_reads end m
  step_reads count (one ∷ rest) end m integers known =
      work_reads one.at count one.work _ (integers one rest refl)
      (All-drop (IsKnownOperand program m.memory) _ m.frame.stack known)
