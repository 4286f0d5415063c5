-- Each step of the code's run touches what is reported for the point where it starts: for the law `steps_touch_as_reported`.
use Rattle.std.proofs.Common.{◌≡◌, ℕ, nat_lt, ℤ, Bool, true, false, List, [], ◌∷◌, ◌++◌, inl, inr, Option, Some, None, slice_get}
use Rattle.std.proofs.Common.{if◌then◌else◌, refl, sym, ap, ◌∙◌, subst}
use Rattle.std.specs.Prelude.{option_map}
use Rattle.std.specs.Option.{option_and_then}
use Rattle.std.proofs.lemmas.List.{append-nil}
use Rattle.cs_types.specs.Shape.{integer}
use Rattle.cs_inputs.specs.declared.path.Path.{Path}
use Rattle.cs_ast.specs.declared.place.Place.{Place}
use Rattle.cs_ast.specs.TypedProgram.{TypedProgram, Routine}
use Rattle.cs_events.specs.declared.operation.Operation.{Operation as Asked}
use Rattle.cs_events.specs.declared.outcome.Outcome.{Outcome}
use Rattle.cs_events.specs.declared.outcome.Outcome.TheVariants.{Over}
use Rattle.cs_events.specs.declared.outcome.Budget.TheVariants.{Events}
use Rattle.cs_events.specs.declared.outcome.RunBudgets.{RunBudgets}
use Rattle.cs_events.specs.declared.point.PointKind.{PointKind}
use Rattle.cs_events.specs.Operations.{is_true}
use Rattle.cs_events.specs.declared.input.InputKind.{InputKind}
use Rattle.cs_events.specs.Objects.{Object, Cell, NumberCell}
use Rattle.cs_events.specs.Touches.{Touch}
use Rattle.cs_events.specs.Acts.{Act, Goes, Stops, Reads, Asks, Allocates, Reaches, Touches}
use Rattle.cs_events.specs.Runs.{Setting, Log, Performed, Continues, Finishes, perform, with_operation, with_allocation, with_access, with_read, with_touch}
use Rattle.cs_events.specs.Runs.{allows_event, number_of, read_cell}
use Rattle.cs_meaning.specs.Initials.{number_in, directed}
use Rattle.cs_meaning.specs.Types.{integer_of}
use Rattle.cs_meaning.specs.Memory.{Memory, changed}
use Rattle.cs_meaning.specs.Access.{Access, touches_then, load_object, write_operand, store_object}
use Rattle.cs_meaning.specs.Machine.{Operand, Scalar, CallFrame, to_do, push, push_cell, pop, pop_many, with_memory, operand_at, cell_of, cell_at, newest}
use Rattle.cs_meaning.specs.Machine.{routine_of}
use Rattle.cs_meaning.specs.CountedPoints.{reached_again}
use Rattle.cs_meaning.specs.Calls.{leave_to}
use Rattle.cs_meaning.specs.Expressions.{pointer_age, amount_age, given, number_at, stores_to}
use Rattle.cs_cfg.specs.declared.code.Spot.{Spot}
use Rattle.cs_cfg.specs.declared.touch.Touch as reported
use Rattle.cs_cfg.specs.declared.touch.Touch.TheVariants as touch
use Rattle.cs_cfg.specs.Graph.{Work, Number, Null, Text, Local, Global, Nothing, Sum, Member, Arrow, Load, Convert, Unary, Not, Binary, Compare, Difference}
use Rattle.cs_cfg.specs.Graph.{Judge, Store, FetchNumber, Update, FetchPointer, Move, Call, Allocate, Free, Use, Drop, Clear, Zero, StoreLocal, Spell, Reach}
use Rattle.cs_cfg.specs.Graph.{Meet, Close, Operation, BlockEnd, Jump, Branch, Switch, Return, Finish, Point, Flow, Code, flow_of}
use Rattle.cs_cfg.specs.Working.{CodeState, cut, code_frame, call_flow, do_work}
use Rattle.cs_cfg.specs.CodeSteps.{do_end, step_at, code_step}
use Rattle.cs_cfg.specs.Touching.{touch_of_load, touch_of_store, touch_of_work, touch_of_end, touch_first, touch_from, touch_at, in_frame, HasTouched}
use Rattle.cs_cfg.specs.Spots.{point_at}
use Rattle.cs_cfg.proofs.Onward.{Inherited, Each, EachOfTwo, keeps_if, keeps_shows, keeps_writable, keeps_locate, keeps_value, keeps_truth, keeps_operate}
use Rattle.cs_cfg.proofs.Onward.{keeps_convert_number}
use Rattle.cs_cfg.proofs.Onward.{keeps_convert, keeps_sum, keeps_compare, keeps_difference, keeps_arrow}
use Rattle.cs_cfg.proofs.OnwardCalls.{keeps_release, keeps_allocate, keeps_enter, keeps_outside, keeps_use}

module _ {S : Type 0} where
  -- an act that touches exactly this if it continues, and at most this if it ends the run
  data TouchesJust : Option Touch → Act S → Type 0 where
    goes : {s : S} → TouchesJust None (Goes s)
    stops : {what : Option Touch} {outcome : Outcome} → TouchesJust what (Stops outcome)
    reads : {what : Option Touch} {path : Path} {kind : InputKind} {f : Cell → Act S} → ((cell : Cell) → TouchesJust what (f cell))
        → TouchesJust what (Reads path kind f)
    asks : {what : Option Touch} {at : Place} {operation : Asked} {f : ℤ → Act S} → ((number : ℤ) → TouchesJust what (f number))
        → TouchesJust what (Asks at operation f)
    allocates : {what : Option Touch} {at : Place} {path : Path} {f : Bool → Act S} → ((given : Bool) → TouchesJust what (f given))
        → TouchesJust what (Allocates at path f)
    reaches : {what : Option Touch} {at : Place} {object : Object} {offset : ℤ} {a : Act S} → TouchesJust what a
        → TouchesJust what (Reaches at object offset a)
    touches : {one : Touch} {a : Act S} → TouchesJust None a → TouchesJust (Some one) (Touches one a)

  inherited : (what : Option Touch) → Inherited (TouchesJust what)
  inherited what = record { stops = λ none. stops; reads = reads; asks = asks; allocates = allocates; reaches = reaches }

  silent : Inherited (TouchesJust None)
  silent = inherited None

  -- an event that exceeds the budget ends the run, and nothing was touched
  in_room : (room : Bool) (at : Place) (log : Log) (what : Option Touch) (done : Performed S) → HasTouched log.touches what done
      → HasTouched log.touches what (if room then done else Finishes (Over Events at) log)
  in_room true at log what done h = h
  in_room false at log what done h = inl refl

  -- one touch, and nothing after it
  one_touch : (before : List Touch) (one : Touch) (done : Performed S) → HasTouched (before ++ one ∷ []) None done → HasTouched before (Some one) done
  one_touch before one (Continues next log) e = e ∙ append-nil (before ++ one ∷ [])
  one_touch before one (Finishes outcome log) (inl e) = inr e
  one_touch before one (Finishes outcome log) (inr e) = inr (e ∙ append-nil (before ++ one ∷ []))

  -- performing such an act has touched this
  touched : (setting : Setting) (log : Log) {what : Option Touch} {act : Act S} → TouchesJust what act
      → HasTouched log.touches what (perform setting log act)
  unfolding perform
  touched setting log goes = sym (append-nil log.touches)
  touched setting log stops = inl refl
  touched setting log (reads {path = path} {kind = kind} h) = touched setting (with_read log path kind) (h (read_cell setting path kind))
  touched setting log (asks {what = what} {at = at} {operation = operation} h) =
      in_room (allows_event setting log) at log what _
      (touched setting (with_operation setting log at operation) (h (number_of setting log operation)))
  touched setting log (allocates {what = what} {at = at} {path = path} h) =
      in_room (allows_event setting log) at log what _
      (touched setting (with_allocation setting log at path) (h (is_true (setting.inputs path))))
  touched setting log (reaches {what = what} {at = at} {object = object} {offset = offset} h) =
      in_room (allows_event setting log) at log what _ (touched setting (with_access log at object offset) h)
  touched setting log (touches {one = one} h) = one_touch log.touches one _ (touched setting (with_touch log one) h)

  -- what is reported for a local of a frame
  touches_local : (frame : ℕ) (yields : ℕ → reported.Touch) (local : Option ℕ) {a : Act S} → TouchesJust None a →
      TouchesJust (option_map (in_frame frame) (option_map yields local)) (touches_then (λ declaration. in_frame frame (yields declaration)) local a)
  touches_local frame yields None h = h
  touches_local frame yields (Some declaration) h = touches h

  touches_load : (program : TypedProgram) (memory : Memory) (frame : ℕ) (access : Access) (cell : Cell) {f : Memory → Operand → Act S}
      → EachOfTwo silent f →
      TouchesJust (option_map (in_frame frame) (touch_of_load access)) (load_object program memory frame access cell f)
  touches_load program memory frame access cell h =
      keeps_locate (inherited _) program memory access cell (λ object offset.
      touches_local frame (λ declaration. touch.Load declaration access.at) access.local
      (keeps_value silent program memory access.at access.ty object offset h))

  touches_store : (program : TypedProgram) (memory : Memory) (frame : ℕ) (at : Place) (access : Access) (cell : Cell) (operand : Operand) {f : Memory
      → Act S} → Each silent f →
      TouchesJust (option_map (in_frame frame) (touch_of_store at access)) (store_object program memory frame at access cell operand f)
  touches_store program memory frame at access cell operand h =
      keeps_locate (inherited _) program memory access cell (λ object offset.
      keeps_writable (inherited _) program access.at object
      (touches_local frame (λ declaration. touch.Store declaration at) access.local
      (h (changed (write_operand program access.ty offset operand) object memory))))

-- a counted point is reached
touches_counted_point : (budgets : RunBudgets) (at : Place) (kind : PointKind) (counted_point : ℕ) (count : Option ℕ) (m : CodeState) →
    TouchesJust (option_map (in_frame m.frame.number) (Some (touch.Point kind at))) (reached_again budgets at kind counted_point count m)
touches_counted_point budgets at kind counted_point None m = stops
touches_counted_point budgets at kind counted_point (Some count) m = keeps_if (inherited _) (nat_lt count budgets.visits) (touches goes) stops

-- the frame is left
touches_leave : (callers : List (CallFrame Point)) (value : Operand) (m : CodeState) → TouchesJust None (leave_to callers value m)
touches_leave [] value m = stops
touches_leave (caller ∷ callers) value m = goes

-- a call of a function
touches_call : (program : TypedProgram) (budgets : RunBudgets) (at : Place) (function : ℕ) (routine : Routine) (flow : Option Flow) (arguments : List Operand)
    (m : CodeState) →
    TouchesJust None (call_flow program budgets at function routine flow arguments m)
touches_call program budgets at function routine None arguments m = keeps_outside silent (λ m. goes) program at function routine arguments m
touches_call program budgets at function routine (Some flow) arguments m =
    keeps_enter silent (λ m. goes) program budgets (code_frame function flow) at function routine arguments m

module _ (code : Code) (program : TypedProgram) (budgets : RunBudgets) where
  -- an operation touches what is reported for it, in the running frame
  abbrev AsReported : Place → Work → CodeState → Type 0
  AsReported at work m = TouchesJust (option_map (in_frame m.frame.number) (touch_of_work at work)) (do_work code program budgets at work m)

  touches_stores : (at : Place) (access : Access) (age : ℕ) (operand : Operand) (count : ℕ) (left : Operand) (m : CodeState) →
      TouchesJust (option_map (in_frame m.frame.number) (touch_of_store at access)) (stores_to program at access age operand count left m)
  touches_stores at access age operand count left m =
      touches_store program m.memory m.frame.number at access (cell_at m age) operand (λ memory. goes {s = push left (with_memory memory (pop_many count m))})

  work_touches : (at : Place) (work : Work) (m : CodeState) → AsReported at work m
  work_touches at (Number n) m = goes
  work_touches at Null m = goes
  work_touches at (Text literal) m = goes
  work_touches at (Local declaration) m = goes
  work_touches at (Global global) m = goes
  work_touches at Nothing m = goes
  work_touches at (Sum bytes direction order) m =
      keeps_sum silent program.model at (cell_at m (pointer_age order)) (directed direction (number_at m (amount_age order))) bytes (λ cell. goes)
  work_touches at (Member offset) m = goes
  work_touches at (Arrow offset) m = keeps_arrow silent at (cell_at m 0) offset (λ cell. goes {s = push_cell cell (pop m)})
  work_touches at (Load access) m = touches_load program m.memory m.frame.number access (cell_at m 0) (λ memory operand. goes)
  work_touches at (Convert from to) m = keeps_convert silent program.model at from to (operand_at m 0) (λ operand. goes)
  work_touches at (Unary operator ty) m = asks (λ number. goes)
  work_touches at Not m = keeps_truth silent at (cell_at m 0) (λ holds. keeps_shows silent at _ goes)
  work_touches at (Binary operator ty) m = keeps_operate silent program.model at operator ty (number_at m 1) (number_at m 0) (λ number. goes)
  work_touches at (Compare operator) m = keeps_compare silent at operator (cell_at m 1) (cell_at m 0) (λ number. goes)
  work_touches at (Difference bytes) m = keeps_difference silent at (cell_at m 1) (cell_at m 0) bytes (λ number. goes)
  work_touches at Judge m = keeps_truth silent at (cell_at m 0) (λ holds. keeps_shows silent at _ goes)
  work_touches at (Store access) m = touches_stores at access 1 (operand_at m 0) 2 (operand_at m 0) m
  work_touches at (FetchNumber access works_in) m =
      touches_load program m.memory m.frame.number access (cell_at m 0) (λ memory operand.
      keeps_convert_number silent program.model at access.ty works_in (number_in (cell_of operand))
      (λ number. goes {s = push_cell (NumberCell number) (push operand (with_memory memory m))}))
  work_touches at (Update operator access works_in gives) m =
      keeps_operate (inherited _) program.model at operator works_in (number_at m 1) (number_at m 0) (λ number.
      keeps_convert_number (inherited _) program.model at (integer works_in) (integer_of access.ty) number (λ stored.
      touches_stores at access 3 (Scalar (NumberCell stored)) 4 (given gives (operand_at m 2) (Scalar (NumberCell stored))) m))
  work_touches at (FetchPointer access) m = touches_load program m.memory m.frame.number access (cell_at m 0) (λ memory operand. goes)
  work_touches at (Move access bytes direction gives) m =
      keeps_sum (inherited _) program.model at (cell_at m 1) (directed direction (number_at m 0)) bytes
      (λ cell. touches_stores at access 2 (Scalar cell) 3 (given gives (operand_at m 1) (Scalar cell)) m)
  work_touches at (Call function count) m =
      touches_call program budgets at function (routine_of program function) (flow_of code function) (newest count m) (pop_many count m)
  work_touches at (Allocate allocator element) m = keeps_allocate silent (λ m. goes) program at allocator element m
  work_touches at Free m = keeps_release silent (λ m. goes) at (cell_at m 0) _
  work_touches at Use m = keeps_use silent (λ m. goes) at (operand_at m 0) m
  work_touches at Drop m = goes
  work_touches at (Clear declaration true) m = touches goes
  work_touches at (Clear declaration false) m = goes
  work_touches at (Zero declaration) m = goes
  work_touches at (StoreLocal declaration offset ty true) m = touches goes
  work_touches at (StoreLocal declaration offset ty false) m = goes
  work_touches at (Spell declaration offset bytes) m = goes
  work_touches at (Reach kind counted_point) m = touches_counted_point budgets at kind counted_point (slice_get m.frame.visits counted_point) m
  work_touches at (Meet kind) m = touches goes
  work_touches at (Close nothing) m = touches goes

  -- and so does the end of a block
  end_touches : (end : BlockEnd) (m : CodeState) → TouchesJust (option_map (in_frame m.frame.number) (touch_of_end end)) (do_end code end m)
  end_touches (Jump block) m = goes
  end_touches (Branch at temporary one other) m = keeps_truth (inherited _) at _ (λ holds. touches (keeps_shows silent at _ goes))
  end_touches (Switch at temporary cases otherwise) m = touches (keeps_shows silent at _ goes)
  end_touches (Return temporary) m = touches_leave m.callers _ m
  end_touches Finish m = touches_leave m.callers _ m

  -- and so does the step from a point
  first_touches : (operations : List Operation) (end : BlockEnd) (m : CodeState)
      → TouchesJust (option_map (in_frame m.frame.number) (touch_first operations end)) (step_at code program budgets operations end m)
  first_touches [] end m = end_touches end m
  first_touches (operation ∷ operations) end m =
      work_touches operation.at operation.work (cut _ (to_do (record { operations = operations; end = end }) m))

  -- a step touches what is reported for what comes first at the point where it starts
  pub steps_touch : (setting : Setting) (m : CodeState) (log : Log)
      → HasTouched log.touches (option_map (in_frame m.frame.number) (touch_first m.frame.todo.operations m.frame.todo.end))
      (perform setting log (code_step code program budgets m))
  steps_touch setting m log = touched setting log (first_touches m.frame.todo.operations m.frame.todo.end m)

  pub steps_as_reported : (spot : Spot) (setting : Setting) (m : CodeState) (log : Log) → point_at code spot ≡ Some m.frame.todo →
      HasTouched log.touches (option_map (in_frame m.frame.number) (touch_at code spot)) (perform setting log (code_step code program budgets m))
  steps_as_reported spot setting m log e =
      subst (λ what. HasTouched log.touches (option_map (in_frame m.frame.number) what) (perform setting log (code_step code program budgets m)))
      (sym (ap (option_and_then touch_from) e)) (steps_touch setting m log)
