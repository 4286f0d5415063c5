-- Each operation yields the same for two states if its continuation does.
use Rattle.std.proofs.Common.{ℕ, ◌+◌, ◌*◌, ℤ, pos, int_le, int_lt, int_eq, ◌&&◌, ◌||◌, Bool, true, false, List, [], ◌∷◌, Option, Some}
use Rattle.std.proofs.Common.{None, unwrap_or, if◌then◌else◌}
use Rattle.cs_types.specs.Shape.{Shape, void, integer, pointer, array, struct}
use Rattle.cs_types.specs.IntType.{bytes_of}
use Rattle.cs_types.specs.declared.int_type.IntType.{IntType}
use Rattle.cs_types.specs.declared.data_model.DataModel.{DataModel}
use Rattle.cs_ast.specs.declared.place.Place.{Place}
use Rattle.cs_ast.specs.declared.typed.operator.BinOp.{BinOp}
use Rattle.cs_ast.specs.declared.typed.operator.BinOp.TheVariants.{Add, Sub, Mul, Div, Rem, Shl, Shr, And, Xor, Or}
use Rattle.cs_ast.specs.declared.typed.operator.CmpOp.{CmpOp}
use Rattle.cs_ast.specs.TypedProgram.{TypedProgram}
use Rattle.cs_model.specs.declared.standing.Standing.{Standing}
use Rattle.cs_model.specs.declared.standing.Standing.TheVariants.{Live, Freed, Ended}
use Rattle.cs_events.specs.declared.event.Label.{Label}
use Rattle.cs_events.specs.declared.operation.Operation.TheVariants as operation
use Rattle.cs_events.specs.Operations.{is_true}
use Rattle.cs_events.specs.Objects.{Object, StartBlock, GlobalObject, LiteralObject, LocalObject, HeapBlock, Cell, NumberCell, NullCell, PointerCell, UnsetCell}
use Rattle.cs_events.specs.Touches.{Touch, Loads, Stores}
use Rattle.cs_events.specs.Acts.{Act}
use Rattle.cs_events.specs.Simulation.{Yields, both_stop, both_read, both_ask, both_reach, both_touch}
use Rattle.cs_meaning.specs.Types.{scalar_offsets}
use Rattle.cs_meaning.specs.Initials.{number_in}
use Rattle.cs_meaning.specs.Memory.{Block, Memory, Found, Holds, Unknown, found_in, is_constant, changed}
use Rattle.cs_meaning.specs.Access.{NO_BLOCK, Access, shows_then, touches_then, look, not_null, within, ordered, there, stands, fits, writable, reach_block}
use Rattle.cs_meaning.specs.Access.{reach_in, named, reach, direct, locate_object, receive, read, read_all, set_then, value_at, load_object, write_operand}
use Rattle.cs_meaning.specs.Access.{store_object}
use Rattle.cs_meaning.specs.Operators.{takes_all, is_pointer, in_one_object, related, both_null, asks_order, truth, branch, operate, convert_number}
use Rattle.cs_meaning.specs.Operators.{NO_OFFSETS, convert, unmoved, move_null, sum, equality, one_object, in_relation, compare, difference, arrow}
use Rattle.cs_meaning.specs.Machine.{Operand, Scalar, Whole, Nothing}

module _ {S T : Type 0} (R : S → T → Type 0) where
  -- continuations of one and of two arguments that yield the same
  abbrev pub Reported : {A : Type 0} → (A → Act S) → (A → Act T) → Type 0
  Reported {A = A} f g = (a : A) → Yields R (f a) (g a)

  abbrev pub ReportedOfTwo : {A B : Type 0} → (A → B → Act S) → (A → B → Act T) → Type 0
  ReportedOfTwo {A = A} {B = B} f g = (a : A) (b : B) → Yields R (f a b) (g a b)

  pub yields_if : (b : Bool) {one other : Act S} {one' other' : Act T} → Yields R one one' → Yields R other other'
      → Yields R (if b then one else other) (if b then one' else other')
  yields_if true h k = h
  yields_if false h k = k

  pub yields_shows : (at : Place) (what : Label) {a : Act S} {b : Act T} → Yields R a b → Yields R (shows_then at what a) (shows_then at what b)
  yields_shows at what h = both_ask (λ number. h)

  pub yields_touches : (touch : ℕ → Touch) (local : Option ℕ) {a : Act S} {b : Act T} → Yields R a b
      → Yields R (touches_then touch local a) (touches_then touch local b)
  yields_touches touch None h = h
  yields_touches touch (Some declaration) h = both_touch h

  yields_look : (at : Place) (cell : Cell) {a : Act S} {b : Act T} → Yields R a b → Yields R (look at cell a) (look at cell b)
  yields_look at NullCell h = yields_shows at _ h
  yields_look at (PointerCell object offset) h = yields_shows at _ h
  yields_look at (NumberCell n) h = h
  yields_look at UnsetCell h = h

  -- checks yield the same if their continuations do
  yields_not_null : (at : Place) (cell : Cell) {a : Act S} {b : Act T} → Yields R a b → Yields R (not_null at cell a) (not_null at cell b)
  yields_not_null at NullCell h = both_stop
  yields_not_null at (PointerCell object offset) h = h
  yields_not_null at (NumberCell n) h = h
  yields_not_null at UnsetCell h = h

  yields_within : (at : Place) (number : ℤ) {a : Act S} {b : Act T} → Yields R a b → Yields R (within at number a) (within at number b)
  yields_within at number h = yields_if (is_true number) h both_stop

  pub yields_ordered : (at : Place) (first second : ℤ) {a : Act S} {b : Act T} → Yields R a b
      → Yields R (ordered at first second a) (ordered at first second b)
  yields_ordered at first second h = both_ask (λ number. yields_within at number h)

  yields_there : (at : Place) (object : Object) (found : Option Block) {a : Act S} {b : Act T} → Yields R a b
      → Yields R (there at object found a) (there at object found b)
  yields_there at (StartBlock path) None h = both_stop
  yields_there at (GlobalObject global) None h = both_stop
  yields_there at (LiteralObject literal) None h = both_stop
  yields_there at (LocalObject frame declaration) None h = both_stop
  yields_there at (HeapBlock allocation) None h = both_stop
  yields_there at (StartBlock path) (Some block) h = h
  yields_there at (GlobalObject global) (Some block) h = h
  yields_there at (LiteralObject literal) (Some block) h = h
  yields_there at (LocalObject frame declaration) (Some block) h = h
  yields_there at (HeapBlock allocation) (Some block) h = h

  yields_stands : (at : Place) (standing : Standing) {a : Act S} {b : Act T} → Yields R a b → Yields R (stands at standing a) (stands at standing b)
  yields_stands at Live h = h
  yields_stands at Freed h = both_stop
  yields_stands at Ended h = both_stop

  yields_fits : (at : Place) (fit : Bool) {a : Act S} {b : Act T} → Yields R a b → Yields R (fits at fit a) (fits at fit b)
  yields_fits at true h = h
  yields_fits at false h = both_stop

  yields_writable : (program : TypedProgram) (at : Place) (object : Object) {a : Act S} {b : Act T} → Yields R a b
      → Yields R (writable program at object a) (writable program at object b)
  yields_writable program at object h = yields_if (is_constant program object) both_stop h

  yields_reach_block : (program : TypedProgram) (at : Place) (ty : Shape) (object : Object) (offset : ℤ) (block : Block) {f : ℕ → Act S} {g : ℕ
      → Act T}
      → Reported f g → Yields R (reach_block program at ty object offset block f) (reach_block program at ty object offset block g)
  yields_reach_block program at ty object offset block h =
      yields_stands at block.standing (yields_ordered at _ _ (yields_ordered at _ _ (both_reach (yields_fits at _ (h _)))))

  yields_reach_in : (program : TypedProgram) (at : Place) (ty : Shape) (object : Object) (offset : ℤ) (found : Option Block) {f : ℕ → Act S} {g : ℕ
      → Act T} → Reported f g → Yields R (reach_in program at ty object offset found f) (reach_in program at ty object offset found g)
  yields_reach_in program at ty object offset found h =
      yields_there at object found (yields_reach_block program at ty object offset (unwrap_or found NO_BLOCK) h)

  yields_named : (at : Place) (cell : Cell) {f : Object → ℤ → Act S} {g : Object → ℤ → Act T} → ReportedOfTwo f g
      → Yields R (named at cell f) (named at cell g)
  yields_named at (PointerCell object offset) h = h object offset
  yields_named at NullCell h = both_stop
  yields_named at (NumberCell n) h = both_stop
  yields_named at UnsetCell h = both_stop

  yields_reach : (program : TypedProgram) (memory : Memory) (at : Place) (ty : Shape) (cell : Cell) {f : Object → ℕ → Act S} {g : Object → ℕ
      → Act T} → ReportedOfTwo f g → Yields R (reach program memory at ty cell f) (reach program memory at ty cell g)
  yields_reach program memory at ty cell h =
      yields_look at cell
      (yields_not_null at cell
      (yields_named at cell (λ object offset. yields_reach_in program at ty object offset (memory object) (λ n. h object n))))

  yields_direct : (at : Place) (cell : Cell) {f : Object → ℕ → Act S} {g : Object → ℕ → Act T} → ReportedOfTwo f g
      → Yields R (direct at cell f) (direct at cell g)
  yields_direct at cell h = yields_named at cell (λ object offset. h object _)

  yields_locate : (program : TypedProgram) (memory : Memory) (access : Access) (cell : Cell) {f : Object → ℕ → Act S} {g : Object → ℕ → Act T}
      → ReportedOfTwo f g → Yields R (locate_object program memory access cell f) (locate_object program memory access cell g)
  yields_locate program memory access cell h = yields_if access.direct (yields_direct access.at cell h) (yields_reach program memory access.at access.ty cell h)

  pub yields_receive : (program : TypedProgram) (memory : Memory) (found : Found) {f : Memory → Cell → Act S} {g : Memory → Cell → Act T}
      → ReportedOfTwo f g → Yields R (receive program memory found f) (receive program memory found g)
  yields_receive program memory (Holds cell) h = h memory cell
  yields_receive program memory (Unknown path scalar) h = both_read (λ cell. h _ cell)

  yields_read : (program : TypedProgram) (memory : Memory) (object : Object) (offset : ℕ) {f : Memory → Cell → Act S} {g : Memory → Cell → Act T}
      → ReportedOfTwo f g → Yields R (read program memory object offset f) (read program memory object offset g)
  yields_read program memory object offset h = yields_receive program memory (found_in program object (memory object) offset) h

  yields_read_all : (program : TypedProgram) (memory : Memory) (object : Object) (from : ℕ) (offsets : List ℕ) {f : Memory → List Cell
      → Act S} {g : Memory → List Cell → Act T} → ReportedOfTwo f g
      → Yields R (read_all program memory object from offsets f) (read_all program memory object from offsets g)
  yields_read_all program memory object from [] h = h memory []
  yields_read_all program memory object from (offset ∷ offsets) h =
      yields_read program memory object (from + offset) (λ after cell.
      yields_read_all program after object from offsets (λ end cells. h end (cell ∷ cells)))

  pub yields_set : (at : Place) (cell : Cell) {a : Act S} {b : Act T} → Yields R a b → Yields R (set_then at cell a) (set_then at cell b)
  yields_set at (NumberCell n) h = h
  yields_set at NullCell h = h
  yields_set at (PointerCell object offset) h = h
  yields_set at UnsetCell h = both_stop

  yields_value : (program : TypedProgram) (memory : Memory) (at : Place) (ty : Shape) (object : Object) (offset : ℕ) {f : Memory → Operand
      → Act S} {g : Memory → Operand → Act T} → ReportedOfTwo f g
      → Yields R (value_at program memory at ty object offset f) (value_at program memory at ty object offset g)
  yields_value program memory at void object offset h = yields_read program memory object offset (λ after cell. yields_set at cell (h after (Scalar cell)))
  yields_value program memory at (integer ty) object offset h =
      yields_read program memory object offset (λ after cell. yields_set at cell (h after (Scalar cell)))
  yields_value program memory at (pointer target) object offset h =
      yields_read program memory object offset (λ after cell. yields_set at cell (h after (Scalar cell)))
  yields_value program memory at (array element count) object offset h =
      yields_read program memory object offset (λ after cell. yields_set at cell (h after (Scalar cell)))
  yields_value program memory at (struct number) object offset h =
      yields_read_all program memory object offset (scalar_offsets program (struct number)) (λ after cells. h after (Whole cells))

  pub yields_load : (program : TypedProgram) (memory : Memory) (frame : ℕ) (access : Access) (cell : Cell) {f : Memory → Operand → Act S} {g : Memory
      → Operand → Act T} → ReportedOfTwo f g
      → Yields R (load_object program memory frame access cell f) (load_object program memory frame access cell g)
  yields_load program memory frame access cell h =
      yields_locate program memory access cell (λ object offset.
      yields_touches (λ declaration. Loads frame declaration access.at) access.local (yields_value program memory access.at access.ty object offset h))

  pub yields_store : (program : TypedProgram) (memory : Memory) (frame : ℕ) (at : Place) (access : Access) (cell : Cell) (operand : Operand) {f : Memory
      → Act S} {g : Memory → Act T} → Reported f g
      → Yields R (store_object program memory frame at access cell operand f) (store_object program memory frame at access cell operand g)
  yields_store program memory frame at access cell operand h =
      yields_locate program memory access cell (λ object offset.
      yields_writable program access.at object
      (yields_touches (λ declaration. Stores frame declaration at) access.local (h (changed (write_operand program access.ty offset operand) object memory))))

  pub yields_truth : (at : Place) (cell : Cell) {f : Bool → Act S} {g : Bool → Act T} → Reported f g → Yields R (truth at cell f) (truth at cell g)
  yields_truth at (NumberCell n) h = h _
  yields_truth at NullCell h = yields_shows at _ (h false)
  yields_truth at (PointerCell object offset) h = yields_shows at _ (h true)
  yields_truth at UnsetCell h = h false

  pub yields_branch : (at : Place) (cell : Cell) {f : Bool → Act S} {g : Bool → Act T} → Reported f g → Yields R (branch at cell f) (branch at cell g)
  yields_branch at cell h = yields_truth at cell (λ holds. both_touch (yields_shows at _ (h holds)))

  pub yields_operate : (model : DataModel) (at : Place) (op : BinOp) (ty : IntType) (left right : ℤ) {f : ℤ → Act S} {g : ℤ → Act T} → Reported f g
      → Yields R (operate model at op ty left right f) (operate model at op ty left right g)
  yields_operate model at Add ty left right h = both_ask h
  yields_operate model at Sub ty left right h = both_ask h
  yields_operate model at Mul ty left right h = both_ask h
  yields_operate model at Div ty left right h = yields_if (int_eq right (pos 0)) both_stop (both_ask h)
  yields_operate model at Rem ty left right h = yields_if (int_eq right (pos 0)) both_stop (both_ask h)
  yields_operate model at Shl ty left right h = yields_if (int_le (pos 0) right && int_lt right (pos (8 * bytes_of model ty))) (both_ask h) both_stop
  yields_operate model at Shr ty left right h = yields_if (int_le (pos 0) right && int_lt right (pos (8 * bytes_of model ty))) (both_ask h) both_stop
  yields_operate model at And ty left right h = both_ask h
  yields_operate model at Xor ty left right h = both_ask h
  yields_operate model at Or ty left right h = both_ask h

  pub yields_convert_number : (model : DataModel) (at : Place) (from : Shape) (to : IntType) (number : ℤ) {f : ℤ → Act S} {g : ℤ → Act T}
      → Reported f g → Yields R (convert_number model at from to number f) (convert_number model at from to number g)
  yields_convert_number model at from to number h = yields_if (takes_all model from to) (h number) (both_ask h)

  pub yields_convert : (model : DataModel) (at : Place) (from to : Shape) (operand : Operand) {f : Operand → Act S} {g : Operand → Act T} → Reported f g
      → Yields R (convert model at from to operand f) (convert model at from to operand g)
  yields_convert model at from void operand h = h Nothing
  yields_convert model at from (integer ty) (Scalar (NumberCell n)) h = yields_convert_number model at from ty n (λ number. h (Scalar (NumberCell number)))
  yields_convert model at from (integer ty) (Scalar NullCell) h = h (Scalar NullCell)
  yields_convert model at from (integer ty) (Scalar (PointerCell object offset)) h = h (Scalar (PointerCell object offset))
  yields_convert model at from (integer ty) (Scalar UnsetCell) h = h (Scalar UnsetCell)
  yields_convert model at from (integer ty) (Whole cells) h = h (Whole cells)
  yields_convert model at from (integer ty) Nothing h = h Nothing
  yields_convert model at from (pointer target) operand h = h operand
  yields_convert model at from (array element count) operand h = h operand
  yields_convert model at from (struct number) operand h = h operand

  yields_unmoved : (at : Place) (amount : ℤ) {a : Act S} {b : Act T} → Yields R a b → Yields R (unmoved at amount a) (unmoved at amount b)
  yields_unmoved at amount h = yields_if (int_eq amount (pos 0)) h both_stop

  yields_move_null : (at : Place) (amount : ℤ) {f : Cell → Act S} {g : Cell → Act T} → Reported f g
      → Yields R (move_null at amount f) (move_null at amount g)
  yields_move_null at amount h = yields_unmoved at amount (h NullCell)

  pub yields_sum : (model : DataModel) (at : Place) (cell : Cell) (amount : ℤ) (size : ℕ) {f : Cell → Act S} {g : Cell → Act T} → Reported f g
      → Yields R (sum model at cell amount size f) (sum model at cell amount size g)
  yields_sum model at NullCell amount size h = yields_shows at _ (yields_move_null at amount h)
  yields_sum model at (PointerCell object offset) amount size h =
      yields_shows at _ (yields_ordered at _ _ (yields_ordered at _ _ (both_ask (λ moved. h (PointerCell object moved)))))
  yields_sum model at (NumberCell n) amount size h = h UnsetCell
  yields_sum model at UnsetCell amount size h = h UnsetCell

  yields_equality : (at : Place) (op : CmpOp) (same : Bool) (offsets : Option (ℤ × ℤ)) {f : ℤ → Act S} {g : ℤ → Act T} → Reported f g
      → Yields R (equality at op same offsets f) (equality at op same offsets g)
  yields_equality at op same None h = yields_shows at _ (h _)
  yields_equality at op same (Some offsets) h = both_ask h

  yields_one_object : (at : Place) (found : Option (ℤ × ℤ)) {a : Act S} {b : Act T} → Yields R a b
      → Yields R (one_object at found a) (one_object at found b)
  yields_one_object at None h = both_stop
  yields_one_object at (Some offsets) h = h

  yields_in_relation : (at : Place) (offsets : Option (ℤ × ℤ)) {f : ℤ → ℤ → Act S} {g : ℤ → ℤ → Act T} → ReportedOfTwo f g
      → Yields R (in_relation at offsets f) (in_relation at offsets g)
  yields_in_relation at offsets h = yields_one_object at offsets (h (unwrap_or offsets NO_OFFSETS).0 (unwrap_or offsets NO_OFFSETS).1)

  pub yields_compare : (at : Place) (op : CmpOp) (left right : Cell) {f : ℤ → Act S} {g : ℤ → Act T} → Reported f g
      → Yields R (compare at op left right f) (compare at op left right g)
  yields_compare at op left right h =
      yields_if (is_pointer left || is_pointer right)
      (yields_look at left
      (yields_look at right (yields_if (asks_order op)
      (yields_in_relation at (related left right) (λ one other. both_ask {at = at} {operation = operation.Compare op one other} h))
      (yields_equality at op (both_null left right) (in_one_object left right) h))))
      (both_ask {at = at} {operation = operation.Compare op (number_in left) (number_in right)} h)

  pub yields_difference : (at : Place) (left right : Cell) (size : ℕ) {f : ℤ → Act S} {g : ℤ → Act T} → Reported f g
      → Yields R (difference at left right size f) (difference at left right size g)
  yields_difference at left right size h = yields_look at left (yields_look at right (yields_in_relation at (related left right) (λ one other.
      both_ask {at = at} {operation = operation.Difference one other size} h)))

  pub yields_arrow : (at : Place) (cell : Cell) (offset : ℕ) {f : Cell → Act S} {g : Cell → Act T} → Reported f g
      → Yields R (arrow at cell offset f) (arrow at cell offset g)
  yields_arrow at cell offset h = yields_look at cell (yields_not_null at cell (h _))
