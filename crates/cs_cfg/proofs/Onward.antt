-- What holds for acts, whatever they look up, ask and reach, holds for each operation if it holds for what follows.
use Rattle.std.proofs.Common.{ℕ, ◌+◌, ◌*◌, ℤ, pos, int_le, int_lt, int_eq, ◌&&◌, ◌||◌, Bool, true, false, List, [], ◌∷◌, Option, Some}
use Rattle.std.proofs.Common.{None, unwrap_or, if◌then◌else◌}
use Rattle.std.specs.Prelude.{⊤}
use Rattle.cs_types.specs.Shape.{Shape, void, integer, pointer, array, struct}
use Rattle.cs_types.specs.IntType.{bytes_of}
use Rattle.cs_types.specs.declared.int_type.IntType.{IntType}
use Rattle.cs_types.specs.declared.data_model.DataModel.{DataModel}
use Rattle.cs_inputs.specs.declared.path.Path.{Path}
use Rattle.cs_ast.specs.declared.place.Place.{Place}
use Rattle.cs_ast.specs.declared.typed.operator.BinOp.{BinOp}
use Rattle.cs_ast.specs.declared.typed.operator.BinOp.TheVariants.{Add, Sub, Mul, Div, Rem, Shl, Shr, And, Xor, Or}
use Rattle.cs_ast.specs.declared.typed.operator.CmpOp.{CmpOp}
use Rattle.cs_ast.specs.TypedProgram.{TypedProgram}
use Rattle.cs_model.specs.declared.standing.Standing.{Standing}
use Rattle.cs_model.specs.declared.standing.Standing.TheVariants.{Live, Freed, Ended}
use Rattle.cs_events.specs.declared.event.Label.{Label}
use Rattle.cs_events.specs.declared.operation.Operation.{Operation}
use Rattle.cs_events.specs.declared.operation.Operation.TheVariants as operation
use Rattle.cs_events.specs.declared.outcome.Outcome.{Outcome}
use Rattle.cs_events.specs.declared.outcome.Outcome.TheVariants.{Done, Fault, Over}
use Rattle.cs_events.specs.Operations.{is_true}
use Rattle.cs_events.specs.declared.input.InputKind.{InputKind}
use Rattle.cs_events.specs.Objects.{Object, StartBlock, GlobalObject, LiteralObject, LocalObject, HeapBlock, Cell, NumberCell, NullCell, PointerCell, UnsetCell}
use Rattle.cs_events.specs.Acts.{Act, Stops, Reads, Asks, Allocates, Reaches}
use Rattle.cs_meaning.specs.Types.{scalar_offsets}
use Rattle.cs_meaning.specs.Initials.{number_in}
use Rattle.cs_meaning.specs.Memory.{Block, Memory, Found, Holds, Unknown, found_in, is_constant}
use Rattle.cs_meaning.specs.Access.{NO_BLOCK, Access, shows_then, look, not_null, within, ordered, there, stands, fits, writable, reach_block, reach_in}
use Rattle.cs_meaning.specs.Access.{named, reach, direct, locate_object, receive, read, read_all, set_then, value_at}
use Rattle.cs_meaning.specs.Operators.{takes_all, is_pointer, in_one_object, related, both_null, asks_order, truth, operate, convert_number, convert}
use Rattle.cs_meaning.specs.Operators.{NO_OFFSETS, unmoved, move_null, sum, equality, one_object, in_relation, compare, difference, arrow}
use Rattle.cs_meaning.specs.Machine.{Operand, Scalar, Whole, Nothing}

-- the run isn't done with this outcome
abbrev pub IsNoReturn : Outcome → Type 0
IsNoReturn (Done what) = ⊥
IsNoReturn (Fault kind at) = ⊤
IsNoReturn (Over budget at) = ⊤

-- a property of the end of a run with a fault or over a budget, and of acts that look up, ask, allocate or reach if it holds for what
-- follows
pub record Inherited {S : Type 0} (P : Act S → Type 0) : Type 0 where
  pub stops : {outcome : Outcome} → IsNoReturn outcome → P (Stops outcome)
  pub reads : {path : Path} {kind : InputKind} {f : Cell → Act S} → ((cell : Cell) → P (f cell)) → P (Reads path kind f)
  pub asks : {at : Place} {operation : Operation} {f : ℤ → Act S} → ((number : ℤ) → P (f number)) → P (Asks at operation f)
  pub allocates : {at : Place} {path : Path} {f : Bool → Act S} → ((given : Bool) → P (f given)) → P (Allocates at path f)
  pub reaches : {at : Place} {object : Object} {offset : ℤ} {a : Act S} → P a → P (Reaches at object offset a)

module _ {S : Type 0} {P : Act S → Type 0} (inherited : Inherited P) where
  -- continuations of one and of two arguments for which it holds
  abbrev pub Each : {A : Type 0} → (A → Act S) → Type 0
  Each {A = A} f = (a : A) → P (f a)

  abbrev pub EachOfTwo : {A B : Type 0} → (A → B → Act S) → Type 0
  EachOfTwo {A = A} {B = B} f = (a : A) (b : B) → P (f a b)

  pub keeps_if : (b : Bool) {one other : Act S} → P one → P other → P (if b then one else other)
  keeps_if true h k = h
  keeps_if false h k = k

  pub keeps_shows : (at : Place) (what : Label) {a : Act S} → P a → P (shows_then at what a)
  keeps_shows at what h = inherited.asks (λ number. h)

  keeps_look : (at : Place) (cell : Cell) {a : Act S} → P a → P (look at cell a)
  keeps_look at NullCell h = keeps_shows at _ h
  keeps_look at (PointerCell object offset) h = keeps_shows at _ h
  keeps_look at (NumberCell n) h = h
  keeps_look at UnsetCell h = h

  -- a check ends the run with a fault, or continues
  keeps_not_null : (at : Place) (cell : Cell) {a : Act S} → P a → P (not_null at cell a)
  keeps_not_null at NullCell h = inherited.stops tt
  keeps_not_null at (PointerCell object offset) h = h
  keeps_not_null at (NumberCell n) h = h
  keeps_not_null at UnsetCell h = h

  keeps_within : (at : Place) (number : ℤ) {a : Act S} → P a → P (within at number a)
  keeps_within at number h = keeps_if (is_true number) h (inherited.stops tt)

  pub keeps_ordered : (at : Place) (first second : ℤ) {a : Act S} → P a → P (ordered at first second a)
  keeps_ordered at first second h = inherited.asks (λ number. keeps_within at number h)

  keeps_there : (at : Place) (object : Object) (found : Option Block) {a : Act S} → P a → P (there at object found a)
  keeps_there at (StartBlock path) None h = inherited.stops tt
  keeps_there at (GlobalObject global) None h = inherited.stops tt
  keeps_there at (LiteralObject literal) None h = inherited.stops tt
  keeps_there at (LocalObject frame declaration) None h = inherited.stops tt
  keeps_there at (HeapBlock allocation) None h = inherited.stops tt
  keeps_there at (StartBlock path) (Some block) h = h
  keeps_there at (GlobalObject global) (Some block) h = h
  keeps_there at (LiteralObject literal) (Some block) h = h
  keeps_there at (LocalObject frame declaration) (Some block) h = h
  keeps_there at (HeapBlock allocation) (Some block) h = h

  keeps_stands : (at : Place) (standing : Standing) {a : Act S} → P a → P (stands at standing a)
  keeps_stands at Live h = h
  keeps_stands at Freed h = inherited.stops tt
  keeps_stands at Ended h = inherited.stops tt

  keeps_fits : (at : Place) (fit : Bool) {a : Act S} → P a → P (fits at fit a)
  keeps_fits at true h = h
  keeps_fits at false h = inherited.stops tt

  pub keeps_writable : (program : TypedProgram) (at : Place) (object : Object) {a : Act S} → P a → P (writable program at object a)
  keeps_writable program at object h = keeps_if (is_constant program object) (inherited.stops tt) h

  keeps_reach_block : (program : TypedProgram) (at : Place) (ty : Shape) (object : Object) (offset : ℤ) (block : Block) {f : ℕ → Act S} → Each f
      → P (reach_block program at ty object offset block f)
  keeps_reach_block program at ty object offset block h =
      keeps_stands at block.standing (keeps_ordered at _ _ (keeps_ordered at _ _ (inherited.reaches (keeps_fits at _ (h _)))))

  keeps_reach_in : (program : TypedProgram) (at : Place) (ty : Shape) (object : Object) (offset : ℤ) (found : Option Block) {f : ℕ → Act S} → Each f
      → P (reach_in program at ty object offset found f)
  keeps_reach_in program at ty object offset found h =
      keeps_there at object found (keeps_reach_block program at ty object offset (unwrap_or found NO_BLOCK) h)

  keeps_named : (at : Place) (cell : Cell) {f : Object → ℤ → Act S} → EachOfTwo f → P (named at cell f)
  keeps_named at (PointerCell object offset) h = h object offset
  keeps_named at NullCell h = inherited.stops tt
  keeps_named at (NumberCell n) h = inherited.stops tt
  keeps_named at UnsetCell h = inherited.stops tt

  keeps_reach : (program : TypedProgram) (memory : Memory) (at : Place) (ty : Shape) (cell : Cell) {f : Object → ℕ → Act S} → EachOfTwo f
      → P (reach program memory at ty cell f)
  keeps_reach program memory at ty cell h =
      keeps_look at cell
      (keeps_not_null at cell
      (keeps_named at cell (λ object offset. keeps_reach_in program at ty object offset (memory object) (λ n. h object n))))

  keeps_direct : (at : Place) (cell : Cell) {f : Object → ℕ → Act S} → EachOfTwo f → P (direct at cell f)
  keeps_direct at cell h = keeps_named at cell (λ object offset. h object _)

  pub keeps_locate : (program : TypedProgram) (memory : Memory) (access : Access) (cell : Cell) {f : Object → ℕ → Act S} → EachOfTwo f
      → P (locate_object program memory access cell f)
  keeps_locate program memory access cell h = keeps_if access.direct (keeps_direct access.at cell h) (keeps_reach program memory access.at access.ty cell h)

  pub keeps_receive : (program : TypedProgram) (memory : Memory) (found : Found) {f : Memory → Cell → Act S} → EachOfTwo f
      → P (receive program memory found f)
  keeps_receive program memory (Holds cell) h = h memory cell
  keeps_receive program memory (Unknown path scalar) h = inherited.reads (λ cell. h _ cell)

  keeps_read : (program : TypedProgram) (memory : Memory) (object : Object) (offset : ℕ) {f : Memory → Cell → Act S} → EachOfTwo f
      → P (read program memory object offset f)
  keeps_read program memory object offset h = keeps_receive program memory (found_in program object (memory object) offset) h

  keeps_read_all : (program : TypedProgram) (memory : Memory) (object : Object) (from : ℕ) (offsets : List ℕ) {f : Memory → List Cell → Act S}
      → EachOfTwo f → P (read_all program memory object from offsets f)
  keeps_read_all program memory object from [] h = h memory []
  keeps_read_all program memory object from (offset ∷ offsets) h =
      keeps_read program memory object (from + offset) (λ after cell. keeps_read_all program after object from offsets (λ end cells. h end (cell ∷ cells)))

  pub keeps_set : (at : Place) (cell : Cell) {a : Act S} → P a → P (set_then at cell a)
  keeps_set at (NumberCell n) h = h
  keeps_set at NullCell h = h
  keeps_set at (PointerCell object offset) h = h
  keeps_set at UnsetCell h = inherited.stops tt

  pub keeps_value : (program : TypedProgram) (memory : Memory) (at : Place) (ty : Shape) (object : Object) (offset : ℕ) {f : Memory → Operand → Act S}
      → EachOfTwo f → P (value_at program memory at ty object offset f)
  keeps_value program memory at void object offset h = keeps_read program memory object offset (λ after cell. keeps_set at cell (h after (Scalar cell)))
  keeps_value program memory at (integer ty) object offset h =
      keeps_read program memory object offset (λ after cell. keeps_set at cell (h after (Scalar cell)))
  keeps_value program memory at (pointer target) object offset h =
      keeps_read program memory object offset (λ after cell. keeps_set at cell (h after (Scalar cell)))
  keeps_value program memory at (array element count) object offset h =
      keeps_read program memory object offset (λ after cell. keeps_set at cell (h after (Scalar cell)))
  keeps_value program memory at (struct number) object offset h =
      keeps_read_all program memory object offset (scalar_offsets program (struct number)) (λ after cells. h after (Whole cells))

  pub keeps_truth : (at : Place) (cell : Cell) {f : Bool → Act S} → Each f → P (truth at cell f)
  keeps_truth at (NumberCell n) h = h _
  keeps_truth at NullCell h = keeps_shows at _ (h false)
  keeps_truth at (PointerCell object offset) h = keeps_shows at _ (h true)
  keeps_truth at UnsetCell h = h false

  pub keeps_operate : (model : DataModel) (at : Place) (op : BinOp) (ty : IntType) (left right : ℤ) {f : ℤ → Act S} → Each f
      → P (operate model at op ty left right f)
  keeps_operate model at Add ty left right h = inherited.asks h
  keeps_operate model at Sub ty left right h = inherited.asks h
  keeps_operate model at Mul ty left right h = inherited.asks h
  keeps_operate model at Div ty left right h = keeps_if (int_eq right (pos 0)) (inherited.stops tt) (inherited.asks h)
  keeps_operate model at Rem ty left right h = keeps_if (int_eq right (pos 0)) (inherited.stops tt) (inherited.asks h)
  keeps_operate model at Shl ty left right h =
      keeps_if (int_le (pos 0) right && int_lt right (pos (8 * bytes_of model ty))) (inherited.asks h) (inherited.stops tt)
  keeps_operate model at Shr ty left right h =
      keeps_if (int_le (pos 0) right && int_lt right (pos (8 * bytes_of model ty))) (inherited.asks h) (inherited.stops tt)
  keeps_operate model at And ty left right h = inherited.asks h
  keeps_operate model at Xor ty left right h = inherited.asks h
  keeps_operate model at Or ty left right h = inherited.asks h

  pub keeps_convert_number : (model : DataModel) (at : Place) (from : Shape) (to : IntType) (number : ℤ) {f : ℤ → Act S} → Each f
      → P (convert_number model at from to number f)
  keeps_convert_number model at from to number h = keeps_if (takes_all model from to) (h number) (inherited.asks h)

  pub keeps_convert : (model : DataModel) (at : Place) (from to : Shape) (operand : Operand) {f : Operand → Act S} → Each f
      → P (convert model at from to operand f)
  keeps_convert model at from void operand h = h Nothing
  keeps_convert model at from (integer ty) (Scalar (NumberCell n)) h = keeps_convert_number model at from ty n (λ number. h (Scalar (NumberCell number)))
  keeps_convert model at from (integer ty) (Scalar NullCell) h = h (Scalar NullCell)
  keeps_convert model at from (integer ty) (Scalar (PointerCell object offset)) h = h (Scalar (PointerCell object offset))
  keeps_convert model at from (integer ty) (Scalar UnsetCell) h = h (Scalar UnsetCell)
  keeps_convert model at from (integer ty) (Whole cells) h = h (Whole cells)
  keeps_convert model at from (integer ty) Nothing h = h Nothing
  keeps_convert model at from (pointer target) operand h = h operand
  keeps_convert model at from (array element count) operand h = h operand
  keeps_convert model at from (struct number) operand h = h operand

  keeps_unmoved : (at : Place) (amount : ℤ) {a : Act S} → P a → P (unmoved at amount a)
  keeps_unmoved at amount h = keeps_if (int_eq amount (pos 0)) h (inherited.stops tt)

  keeps_move_null : (at : Place) (amount : ℤ) {f : Cell → Act S} → Each f → P (move_null at amount f)
  keeps_move_null at amount h = keeps_unmoved at amount (h NullCell)

  pub keeps_sum : (model : DataModel) (at : Place) (cell : Cell) (amount : ℤ) (size : ℕ) {f : Cell → Act S} → Each f
      → P (sum model at cell amount size f)
  keeps_sum model at NullCell amount size h = keeps_shows at _ (keeps_move_null at amount h)
  keeps_sum model at (PointerCell object offset) amount size h =
      keeps_shows at _ (keeps_ordered at _ _ (keeps_ordered at _ _ (inherited.asks (λ moved. h (PointerCell object moved)))))
  keeps_sum model at (NumberCell n) amount size h = h UnsetCell
  keeps_sum model at UnsetCell amount size h = h UnsetCell

  keeps_equality : (at : Place) (op : CmpOp) (same : Bool) (offsets : Option (ℤ × ℤ)) {f : ℤ → Act S} → Each f → P (equality at op same offsets f)
  keeps_equality at op same None h = keeps_shows at _ (h _)
  keeps_equality at op same (Some offsets) h = inherited.asks h

  keeps_one_object : (at : Place) (found : Option (ℤ × ℤ)) {a : Act S} → P a → P (one_object at found a)
  keeps_one_object at None h = inherited.stops tt
  keeps_one_object at (Some offsets) h = h

  keeps_in_relation : (at : Place) (offsets : Option (ℤ × ℤ)) {f : ℤ → ℤ → Act S} → EachOfTwo f → P (in_relation at offsets f)
  keeps_in_relation at offsets h = keeps_one_object at offsets (h (unwrap_or offsets NO_OFFSETS).0 (unwrap_or offsets NO_OFFSETS).1)

  pub keeps_compare : (at : Place) (op : CmpOp) (left right : Cell) {f : ℤ → Act S} → Each f → P (compare at op left right f)
  keeps_compare at op left right h =
      keeps_if (is_pointer left || is_pointer right)
      (keeps_look at left
      (keeps_look at right (keeps_if (asks_order op)
      (keeps_in_relation at (related left right) (λ one other. inherited.asks {at = at} {operation = operation.Compare op one other} h))
      (keeps_equality at op (both_null left right) (in_one_object left right) h))))
      (inherited.asks {at = at} {operation = operation.Compare op (number_in left) (number_in right)} h)

  pub keeps_difference : (at : Place) (left right : Cell) (size : ℕ) {f : ℤ → Act S} → Each f → P (difference at left right size f)
  keeps_difference at left right size h = keeps_look at left (keeps_look at right (keeps_in_relation at (related left right) (λ one other.
      inherited.asks {at = at} {operation = operation.Difference one other size} h)))

  pub keeps_arrow : (at : Place) (cell : Cell) (offset : ℕ) {f : Cell → Act S} → Each f → P (arrow at cell offset f)
  keeps_arrow at cell offset h = keeps_look at cell (keeps_not_null at cell (h _))
