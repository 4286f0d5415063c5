-- Acts of integer code have no offset of an access, no allocation, no division by 0 and no shift by 64 bits or more: for the contract of `find`.
use Rattle.std.proofs.Common.{◌≡◌, ℕ, zero, suc, ℤ, Bool, true, false, List, [], ◌∷◌, Option, None, Some, All, if◌then◌else◌, refl, sym}
use Rattle.std.proofs.Common.{◌≢◌, ◌≤◌, ◌*◌, pos, ◌&&◌, true≢false, ap, ◌∙◌, subst, arith}
use Rattle.std.proofs.lemmas.Bool.{and_parts}
use Rattle.std.proofs.lemmas.Int.{ints}
use Rattle.std.proofs.lemmas.List.Elements.{All-head, All-tail}
use Rattle.std.proofs.lemmas.Option.{slice_get_within, get_or_from_slice_get}
use Rattle.std.specs.Prelude.{option_map, unwrap_or, slice_get, ◌≤ℤ◌, ◌<ℤ◌, int_le, int_lt}
use Rattle.std.specs.Option.{option_and_then}
use Rattle.std.specs.Ordering.{int_eq}
use Rattle.cs_types.specs.declared.data_model.DataModel.{DataModel}
use Rattle.cs_types.specs.declared.data_model.DataModel.TheVariants.{Lp64, Ilp32}
use Rattle.cs_types.specs.declared.int_type.IntType.{IntType}
use Rattle.cs_types.specs.declared.int_type.IntType.TheVariants.{Char, SChar, UChar, Short, UShort, Int, UInt, Long, ULong, LLong, ULLong}
use Rattle.cs_types.specs.IntType.{word_bytes, bytes_of}
use Rattle.cs_types.specs.Shape.{Shape, void, integer, pointer, array, struct}
use Rattle.cs_inputs.specs.declared.path.Path.{Path}
use Rattle.cs_ast.specs.declared.place.Place.{Place}
use Rattle.cs_ast.specs.declared.typed.operator.BinOp.{BinOp}
use Rattle.cs_ast.specs.declared.typed.operator.BinOp.TheVariants.{Add, Sub, Mul, Div, Rem, Shl, Shr, And, Xor, Or}
use Rattle.cs_ast.specs.declared.typed.operator.CmpOp.{CmpOp}
use Rattle.cs_ast.specs.TypedProgram.{TypedProgram}
use Rattle.cs_model.specs.declared.kind.Kind.TheVariants as kind
use Rattle.cs_events.specs.declared.event.Label.TheVariants as label
use Rattle.cs_events.specs.declared.input.InputKind.{InputKind}
use Rattle.cs_events.specs.declared.operation.Operation.{Operation}
use Rattle.cs_events.specs.declared.operation.Operation.TheVariants as operation
use Rattle.cs_events.specs.declared.outcome.Outcome.{Outcome}
use Rattle.cs_events.specs.declared.outcome.Outcome.TheVariants.{Fault}
use Rattle.cs_events.specs.declared.outcome.RunBudgets.{RunBudgets}
use Rattle.cs_events.specs.declared.point.PointKind.{PointKind}
use Rattle.cs_events.specs.Objects.{Object, Cell, NumberCell, NullCell, PointerCell, UnsetCell}
use Rattle.cs_events.specs.Touches.{Touch, Loads, Stores}
use Rattle.cs_events.specs.Acts.{Act, Goes, Stops, Reads, Asks, Touches}
use Rattle.cs_event_runs.specs.Left.{left_of}
use Rattle.cs_meaning.specs.Access as access
use Rattle.cs_meaning.specs.Calls.{leave_to}
use Rattle.cs_meaning.specs.CountedPoints.{reached_again}
use Rattle.cs_meaning.specs.Expressions.{number_at, given}
use Rattle.cs_meaning.specs.Initials.{number_in}
use Rattle.cs_meaning.specs.Machine.{Operand, Scalar, Whole, CallFrame, push, push_cell, pop, pop_many, with_memory, operand_at, cell_of, cell_at}
use Rattle.cs_meaning.specs.Memory.{Memory, Found, Holds, Unknown, changed, is_constant}
use Rattle.cs_meaning.specs.Operators as operators
use Rattle.cs_meaning.specs.Types.{integer_of}
use Rattle.cs_cfg.specs.declared.code.Spot.{Spot}
use Rattle.cs_cfg.specs.Graph.{Work, Number, Local, Nothing, Load, Convert, Unary, Not, Binary, Compare}
use Rattle.cs_cfg.specs.Graph.{Judge, Store, FetchNumber, Update, Drop, Clear, StoreLocal, Reach}
use Rattle.cs_cfg.specs.Graph.{Meet, Close, Operation as Step, BlockEnd, Jump, Branch, Switch, Return, Finish, Point, Flow, Code, no_point, flow_of}
use Rattle.cs_cfg.specs.Working.{CodeState, if_local, do_work}
use Rattle.cs_cfg.specs.CodeSteps.{step_at, do_end, code_step}
use Rattle.cs_cfg.specs.Spots.{rest_from, point_in, point_of}
use Rattle.cs_successors.specs.Coming.{IsCountOfBits, IsCheckedRight, IsAskedByIntegers}
use Rattle.cs_cfg.specs.IntegerCode.{IsOfInteger, IsIntegerWork, IsIntegerOperation, IsIntegerPoint, HasIntegerCode, count_of_locals}

-- an operation that isn't the event of an allocation
abbrev pub IsNoAllocation : Operation → Type 0
IsNoAllocation (operation.Show (label.Alloc gives)) = ⊥
IsNoAllocation other = Unit {0}

-- an operation of integer code
abbrev pub IsOfIntegers : Operation → Type 0
IsOfIntegers one = IsNoAllocation one × IsAskedByIntegers one

-- no type has more than 8 bytes
few_word_bytes : (model : DataModel) → word_bytes model ≤ 8
few_word_bytes Lp64 = omega arith
few_word_bytes Ilp32 = omega arith

few_bytes : (model : DataModel) (ty : IntType) → bytes_of model ty ≤ 8
few_bytes model Char = omega arith
few_bytes model SChar = omega arith
few_bytes model UChar = omega arith
few_bytes model Short = omega arith
few_bytes model UShort = omega arith
few_bytes model Int = omega arith
few_bytes model UInt = omega arith
few_bytes model Long = few_word_bytes model
few_bytes model ULong = few_word_bytes model
few_bytes model LLong = omega arith
few_bytes model ULLong = omega arith

-- a count that passes the check of a shift
count_of_bits : (bytes : ℕ) (count : ℤ) → bytes ≤ 8 → int_le (pos 0) count ≡ true → int_lt count (pos (8 * bytes)) ≡ true → IsCountOfBits count
count_of_bits bytes count few from_zero below =
    let first : pos 0 ≤ℤ count = grind (arith, ints) in
    let second : count <ℤ pos (8 * bytes) = grind (arith, ints) in
    (first, omega (arith, ints, second, few))

module _ {S : Type 0} where
  -- an act allocates nothing, doesn't divide by 0, shifts by fewer than 64 bits, and shows no offset
  pub data ShowsNumbers : Act S → Type 0 where
    goes : {next : S} → ShowsNumbers (Goes next)
    stops : {outcome : Outcome} → ShowsNumbers (Stops outcome)
    reads : {path : Path} {kind : InputKind} {onward : Cell → Act S} → ((cell : Cell) → ShowsNumbers (onward cell))
        → ShowsNumbers (Reads path kind onward)
    asks : {at : Place} {operation : Operation} {onward : ℤ → Act S} → IsOfIntegers operation → ((number : ℤ) → ShowsNumbers (onward number))
        → ShowsNumbers (Asks at operation onward)
    touches : {touch : Touch} {act : Act S} → ShowsNumbers act → ShowsNumbers (Touches touch act)

  -- and so does what remains of it after answers
  pub left_shows : (cells : Path → InputKind → Cell) (answers : List ℤ) {act : Act S} → ShowsNumbers act → ShowsNumbers (left_of cells answers act)
  unfolding left_of
  left_shows cells answers goes = goes
  left_shows cells answers stops = stops
  left_shows cells answers (reads {path = path} {kind = kind} shows) = left_shows cells answers (shows (cells path kind))
  left_shows cells answers (touches shows) = left_shows cells answers shows
  left_shows cells [] (asks plain shows) = asks plain shows
  left_shows cells (answer ∷ answers) (asks plain shows) = left_shows cells answers (shows answer)

  either : (b : Bool) (one other : Act S) → ShowsNumbers one → ShowsNumbers other → ShowsNumbers (if b then one else other)
  either true one other first second = first
  either false one other first second = second

  -- operators
  truth : (at : Place) (cell : Cell) (onward : Bool → Act S) → ((b : Bool) → ShowsNumbers (onward b)) → ShowsNumbers (operators.truth at cell onward)
  truth at (NumberCell n) onward shows = shows _
  truth at NullCell onward shows = asks (tt, tt) (λ n. shows false)
  truth at (PointerCell object offset) onward shows = asks (tt, tt) (λ n. shows true)
  truth at UnsetCell onward shows = shows false

  divided : (at : Place) (right : ℤ) (act : Act S) → (right ≢ pos 0 → ShowsNumbers act) → ShowsNumbers (operators.divide at right act)
  divided at right act shows = by (int_eq right (pos 0)) refl
    where
      by : (b : Bool) → int_eq right (pos 0) ≡ b → ShowsNumbers (if b then Stops (Fault kind.Divide at) else act)
      by true is = stops
      by false isnt = shows (λ zero. true≢false (sym (subst (λ (n : ℤ). int_eq n (pos 0) ≡ true) (sym zero) refl) ∙ isnt))

  shifted : (model : DataModel) (at : Place) (ty : IntType) (count : ℤ) (act : Act S) → (IsCountOfBits count → ShowsNumbers act)
      → ShowsNumbers (operators.shift model at ty count act)
  shifted model at ty count act shows = by (int_le (pos 0) count && int_lt count (pos (8 * bytes_of model ty))) refl
    where
      by : (b : Bool) → (int_le (pos 0) count && int_lt count (pos (8 * bytes_of model ty))) ≡ b
          → ShowsNumbers (if b then act else Stops (Fault kind.Shift at))
      by true is =
          let both = and_parts (int_le (pos 0) count) (int_lt count (pos (8 * bytes_of model ty))) is in
          shows (count_of_bits (bytes_of model ty) count (few_bytes model ty) both.0 both.1)
      by false isnt = stops

  checked : (model : DataModel) (at : Place) (operator : BinOp) (ty : IntType) (right : ℤ) (act : Act S)
      → (IsCheckedRight operator right → ShowsNumbers act) → ShowsNumbers (operators.checked model at operator ty right act)
  checked model at Add ty right act shows = shows tt
  checked model at Sub ty right act shows = shows tt
  checked model at Mul ty right act shows = shows tt
  checked model at Div ty right act shows = divided at right act shows
  checked model at Rem ty right act shows = divided at right act shows
  checked model at Shl ty right act shows = shifted model at ty right act shows
  checked model at Shr ty right act shows = shifted model at ty right act shows
  checked model at And ty right act shows = shows tt
  checked model at Xor ty right act shows = shows tt
  checked model at Or ty right act shows = shows tt

  operate : (model : DataModel) (at : Place) (operator : BinOp) (ty : IntType) (left right : ℤ) (onward : ℤ → Act S)
      → ((n : ℤ) → ShowsNumbers (onward n)) → ShowsNumbers (operators.operate model at operator ty left right onward)
  operate model at operator ty left right onward shows =
      checked model at operator ty right (Asks at (operation.Binary operator ty left right) onward) (λ right_checked. asks (tt, right_checked) shows)

  convert_number : (model : DataModel) (at : Place) (from : Shape) (to : IntType) (number : ℤ) (onward : ℤ → Act S)
      → ((n : ℤ) → ShowsNumbers (onward n)) → ShowsNumbers (operators.convert_number model at from to number onward)
  convert_number model at from to number onward shows =
      either (operators.takes_all model from to) (onward number) (Asks at (operation.Convert to number) onward) (shows number) (asks (tt, tt) shows)

  convert : (model : DataModel) (at : Place) (from to : Shape) (operand : Operand) (onward : Operand → Act S)
      → ((given : Operand) → ShowsNumbers (onward given)) → ShowsNumbers (operators.convert model at from to operand onward)
  convert model at from void operand onward shows = shows _
  convert model at from (integer ty) (Scalar (NumberCell n)) onward shows =
      convert_number model at from ty n (λ number. onward (Scalar (NumberCell number))) (λ number. shows (Scalar (NumberCell number)))
  convert model at from (integer ty) other onward shows = shows _
  convert model at from other operand onward shows = shows _

  look : (at : Place) (cell : Cell) (act : Act S) → ShowsNumbers act → ShowsNumbers (access.look at cell act)
  look at NullCell act shows = asks (tt, tt) (λ n. shows)
  look at (PointerCell object offset) act shows = asks (tt, tt) (λ n. shows)
  look at (NumberCell n) act shows = shows
  look at UnsetCell act shows = shows

  one_object : (at : Place) (found : Option (ℤ × ℤ)) (act : Act S) → ShowsNumbers act → ShowsNumbers (operators.one_object at found act)
  one_object at None act shows = stops
  one_object at (Some offsets) act shows = shows

  equality : (at : Place) (operator : CmpOp) (same : Bool) (found : Option (ℤ × ℤ)) (onward : ℤ → Act S) → ((n : ℤ) → ShowsNumbers (onward n))
      → ShowsNumbers (operators.equality at operator same found onward)
  equality at operator same None onward shows = asks (tt, tt) (λ n. shows _)
  equality at operator same (Some offsets) onward shows = asks (tt, tt) shows

  compare : (at : Place) (operator : CmpOp) (left right : Cell) (onward : ℤ → Act S) → ((n : ℤ) → ShowsNumbers (onward n))
      → ShowsNumbers (operators.compare at operator left right onward)
  compare at operator left right onward shows =
      either _ _ _
      (look at left _ (look at right _ (either _ _ _ (one_object at _ _ (asks (tt, tt) shows)) (equality at operator _ _ onward shows))))
      (asks (tt, tt) shows)

  -- accesses
  touched : (touch : ℕ → Touch) (local : Option ℕ) (act : Act S) → ShowsNumbers act → ShowsNumbers (access.touches_then touch local act)
  touched touch None act shows = shows
  touched touch (Some declaration) act shows = touches shows

  named : (at : Place) (cell : Cell) (onward : Object → ℤ → Act S) → ((object : Object) (offset : ℤ) → ShowsNumbers (onward object offset))
      → ShowsNumbers (access.named at cell onward)
  named at (PointerCell object offset) onward shows = shows object offset
  named at NullCell onward shows = stops
  named at (NumberCell n) onward shows = stops
  named at UnsetCell onward shows = stops

  locate : (program : TypedProgram) (memory : Memory) (one : access.Access) (cell : Cell) (onward : Object → ℕ → Act S) → one.direct ≡ true
      → ((object : Object) (offset : ℕ) → ShowsNumbers (onward object offset)) → ShowsNumbers (access.locate_object program memory one cell onward)
  locate program memory one cell onward direct shows =
      subst (λ (b : Bool). ShowsNumbers (if b then access.direct one.at cell onward else access.reach program memory one.at one.ty cell onward)) (sym direct)
      (named one.at cell _ (λ object offset. shows object _))

  receive : (program : TypedProgram) (memory : Memory) (found : Found) (onward : Memory → Cell → Act S)
      → ((after : Memory) (cell : Cell) → ShowsNumbers (onward after cell)) → ShowsNumbers (access.receive program memory found onward)
  receive program memory (Holds cell) onward shows = shows memory cell
  receive program memory (Unknown path scalar) onward shows = reads (λ cell. shows _ cell)

  read_all : (program : TypedProgram) (memory : Memory) (object : Object) (from : ℕ) (offsets : List ℕ) (onward : Memory → List Cell → Act S)
      → ((after : Memory) (cells : List Cell) → ShowsNumbers (onward after cells))
      → ShowsNumbers (access.read_all program memory object from offsets onward)
  read_all program memory object from [] onward shows = shows memory []
  read_all program memory object from (offset ∷ offsets) onward shows =
      receive program memory _ _ (λ after cell. read_all program after object from offsets _ (λ end cells. shows end (cell ∷ cells)))

  set_then : (at : Place) (cell : Cell) (act : Act S) → ShowsNumbers act → ShowsNumbers (access.set_then at cell act)
  set_then at UnsetCell act shows = stops
  set_then at NullCell act shows = shows
  set_then at (NumberCell n) act shows = shows
  set_then at (PointerCell object offset) act shows = shows

  scalar_at : (program : TypedProgram) (memory : Memory) (at : Place) (object : Object) (offset : ℕ) (onward : Memory → Operand → Act S)
      → ((after : Memory) (operand : Operand) → ShowsNumbers (onward after operand))
      → ShowsNumbers (access.read program memory object offset (λ after cell. access.set_then at cell (onward after (Scalar cell))))
  scalar_at program memory at object offset onward shows =
      receive program memory _ _ (λ after cell. set_then at cell (onward after (Scalar cell)) (shows after (Scalar cell)))

  value_at : (program : TypedProgram) (memory : Memory) (at : Place) (ty : Shape) (object : Object) (offset : ℕ) (onward : Memory → Operand → Act S)
      → ((after : Memory) (operand : Operand) → ShowsNumbers (onward after operand))
      → ShowsNumbers (access.value_at program memory at ty object offset onward)
  value_at program memory at (struct number) object offset onward shows =
      read_all program memory object offset _ _ (λ after cells. shows after (Whole cells))
  value_at program memory at void object offset onward shows = scalar_at program memory at object offset onward shows
  value_at program memory at (integer ty) object offset onward shows = scalar_at program memory at object offset onward shows
  value_at program memory at (pointer to) object offset onward shows = scalar_at program memory at object offset onward shows
  value_at program memory at (array of count) object offset onward shows = scalar_at program memory at object offset onward shows

  load : (program : TypedProgram) (memory : Memory) (frame : ℕ) (one : access.Access) (cell : Cell) (onward : Memory → Operand → Act S)
      → IsOfInteger one → ((after : Memory) (operand : Operand) → ShowsNumbers (onward after operand))
      → ShowsNumbers (access.load_object program memory frame one cell onward)
  load program memory frame one cell onward plain shows =
      let touch : ℕ → Touch = λ declaration. Loads frame declaration one.at in
      let found : Object → ℕ → Act S = λ object offset. access.value_at program memory one.at one.ty object offset onward in
      locate program memory one cell (λ object offset. access.touches_then touch one.local (found object offset)) plain.direct
      (λ object offset. touched touch one.local (found object offset) (value_at program memory one.at one.ty object offset onward shows))

  store : (program : TypedProgram) (memory : Memory) (frame : ℕ) (at : Place) (one : access.Access) (cell : Cell) (operand : Operand)
      (onward : Memory → Act S) → IsOfInteger one → ((after : Memory) → ShowsNumbers (onward after))
      → ShowsNumbers (access.store_object program memory frame at one cell operand onward)
  store program memory frame at one cell operand onward plain shows =
      let touch : ℕ → Touch = λ declaration. Stores frame declaration at in
      let written : Object → ℕ → Act S = λ object offset. onward (changed (access.write_operand program one.ty offset operand) object memory) in
      let touching : Object → ℕ → Act S = λ object offset. access.touches_then touch one.local (written object offset) in
      locate program memory one cell (λ object offset. access.writable program one.at object (touching object offset)) plain.direct
      (λ object offset. either (is_constant program object) _ (touching object offset) stops
      (touched touch one.local (written object offset) (shows _)))

reached : (budgets : RunBudgets) (at : Place) (kind : PointKind) (counted_point : ℕ) (count : Option ℕ) (m : CodeState)
    → ShowsNumbers (reached_again budgets at kind counted_point count m)
reached budgets at kind counted_point None m = stops
reached budgets at kind counted_point (Some count) m = either _ _ _ (touches goes) stops

module _ (code : Code) (program : TypedProgram) (budgets : RunBudgets) where
  work_shows : (at : Place) (count : ℕ) (work : Work) (m : CodeState) → IsIntegerWork count work → ShowsNumbers (do_work code program budgets at work m)
  work_shows at count (Number n) m plain = goes
  work_shows at count (Local declaration) m plain = goes
  work_shows at count Nothing m plain = goes
  work_shows at count (Load access) m plain =
      load program m.memory m.frame.number access (cell_at m 0) (λ memory operand. Goes (push operand (with_memory memory (pop m)))) plain
      (λ memory operand. goes)
  work_shows at count (Convert from to) m plain = convert program.model at from to _ _ (λ operand. goes)
  work_shows at count (Unary operator ty) m plain = asks (tt, tt) (λ n. goes)
  work_shows at count Not m plain = truth at _ _ (λ b. asks (tt, tt) (λ n. goes))
  work_shows at count (Binary operator ty) m plain = operate program.model at operator ty _ _ _ (λ n. goes)
  work_shows at count (Compare operator) m plain = compare at operator _ _ _ (λ n. goes)
  work_shows at count Judge m plain = truth at _ _ (λ b. asks (tt, tt) (λ n. goes))
  work_shows at count (Store access) m plain =
      store program m.memory m.frame.number at access (cell_at m 1) (operand_at m 0)
      (λ memory. Goes (push (operand_at m 0) (with_memory memory (pop_many 2 m)))) plain (λ memory. goes)
  work_shows at count (FetchNumber access works_in) m plain =
      load program m.memory m.frame.number access (cell_at m 0) _ plain (λ memory operand.
      convert_number program.model at access.ty works_in (number_in (cell_of operand))
      (λ number. Goes (push_cell (NumberCell number) (push operand (with_memory memory m)))) (λ n. goes))
  work_shows at count (Update operator access works_in gives) m plain =
      operate program.model at operator works_in (number_at m 1) (number_at m 0) _ (λ n.
      convert_number program.model at (integer works_in) (integer_of access.ty) n _ (λ stored.
      store program m.memory m.frame.number at access (cell_at m 3) (Scalar (NumberCell stored))
      (λ memory. Goes (push (given gives (operand_at m 2) (Scalar (NumberCell stored))) (with_memory memory (pop_many 4 m)))) plain (λ memory. goes)))
  work_shows at count Drop m plain = goes
  work_shows at count (Clear declaration scalar) m plain = touched _ (if_local scalar declaration) _ goes
  work_shows at count (StoreLocal declaration offset ty scalar) m plain = touched _ (if_local scalar declaration) _ goes
  work_shows at count (Reach kind counted_point) m plain = reached budgets at kind counted_point _ m
  work_shows at count (Meet kind) m plain = touches goes
  work_shows at count (Close nothing) m plain = touches goes
  work_shows at count other m plain = absurd plain

  leaves : (callers : List (CallFrame Point)) (value : Operand) (m : CodeState) → ShowsNumbers (leave_to callers value m)
  leaves [] value m = stops
  leaves (caller ∷ callers) value m = goes

  end_shows : (end : BlockEnd) (m : CodeState) → ShowsNumbers (do_end code end m)
  end_shows (Jump block) m = goes
  end_shows (Branch at temporary one other) m = truth at _ _ (λ b. touches (asks (tt, tt) (λ n. goes)))
  end_shows (Switch at temporary cases otherwise) m = touches (asks (tt, tt) (λ n. goes))
  end_shows (Return temporary) m = leaves m.callers _ m
  end_shows Finish m = leaves m.callers _ m

  -- a step at a point whose first operation works only with integers
  pub step_shows : (count : ℕ) (operations : List Step) (end : BlockEnd) (m : CodeState)
      → ((one : Step) (rest : List Step) → operations ≡ one ∷ rest → IsIntegerOperation count one)
      → ShowsNumbers (step_at code program budgets operations end m)
  step_shows count [] end m plain = end_shows end m
  step_shows count (one ∷ rest) end m plain = work_shows one.at count one.work _ (plain one rest refl)

abbrev point : List Step → BlockEnd → Point
point operations end = record { operations = operations; end = end }

module _ (code : Code) (program : TypedProgram) (budgets : RunBudgets) (spot : Spot) where
  abbrev IsPlain : Step → Type 0
  IsPlain one = IsIntegerOperation (count_of_locals program spot.function) one

  plain_rest : (number : ℕ) (operations : List Step) (one : Step) (rest : List Step) → All IsPlain operations
      → rest_from number operations ≡ Some (one ∷ rest) → IsPlain one
  plain_rest zero [] one rest all is = cc
  plain_rest zero (first ∷ operations) one rest all is =
      let same : first ≡ one = cc in
      subst IsPlain same (All-head IsPlain first operations all)
  plain_rest (suc number) [] one rest all is = cc
  plain_rest (suc number) (first ∷ operations) one rest all is = plain_rest number operations one rest (All-tail IsPlain first operations all) is

  -- the first operation at a spot of integer code
  plain_at : HasIntegerCode code program spot.function → (one : Step) (rest : List Step) → (point_of code spot).operations ≡ one ∷ rest → IsPlain one
  plain_at has one rest is = in_flow (flow_of code spot.function) refl is
    where
      in_rest : (block : Point) → All IsPlain block.operations → (left : Option (List Step)) → rest_from spot.operation block.operations ≡ left
          → (unwrap_or (option_map (λ operations. point operations block.end) left) no_point).operations ≡ one ∷ rest → IsPlain one
      in_rest block all None found is = cc
      in_rest block all (Some operations) found is = plain_rest spot.operation block.operations one rest all (found ∙ ap Some is)

      in_block : (blocks : List Point) → All (IsIntegerPoint (count_of_locals program spot.function)) blocks
          → (block : Option Point) → slice_get blocks spot.block ≡ block
          → (unwrap_or (option_and_then (λ b. point_in b spot.operation) block) no_point).operations ≡ one ∷ rest → IsPlain one
      in_block blocks all None found is = cc
      in_block blocks all (Some block) found is =
          let within = slice_get_within blocks spot.block block found in
          let there = get_or_from_slice_get blocks spot.block block block found in
          in_rest block (subst (IsIntegerPoint (count_of_locals program spot.function)) there (all spot.block block within))
          (rest_from spot.operation block.operations) refl is

      in_flow : (flow : Option Flow) → flow_of code spot.function ≡ flow
          → (unwrap_or (option_and_then (λ b. point_in b spot.operation) (option_and_then (λ (f : Flow). slice_get f.blocks spot.block) flow))
          no_point).operations
          ≡ one ∷ rest → IsPlain one
      in_flow None found is = cc
      in_flow (Some flow) found is = in_block flow.blocks (has flow found) (slice_get flow.blocks spot.block) refl is

  -- the step of integer code from a state whose frame is at a spot
  pub code_shows : (m : CodeState) → m.frame.todo ≡ point_of code spot → HasIntegerCode code program spot.function
      → ShowsNumbers (code_step code program budgets m)
  code_shows m stands has =
      step_shows code program budgets (count_of_locals program spot.function) m.frame.todo.operations m.frame.todo.end m
      (λ one rest is. plain_at has one rest (sym (ap (λ (p : Point). p.operations) stands) ∙ is))
