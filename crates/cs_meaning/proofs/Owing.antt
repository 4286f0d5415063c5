-- For each operation, what holds of the state after it if it has no event.
use Rattle.std.proofs.Common.{ℕ, ◌+◌, ◌*◌, ℤ, pos, int_le, int_lt, int_eq, ◌&&◌, ◌||◌, Bool, true, false, List, [], ◌∷◌, Option, Some}
use Rattle.std.proofs.Common.{None, if◌then◌else◌}
use Rattle.cs_types.specs.Shape.{Shape, void, integer, pointer, array, struct}
use Rattle.cs_types.specs.declared.int_type.IntType.{IntType}
use Rattle.cs_types.specs.declared.data_model.DataModel.{DataModel}
use Rattle.cs_ast.specs.declared.place.Place.{Place}
use Rattle.cs_ast.specs.declared.typed.operator.BinOp.{BinOp}
use Rattle.cs_ast.specs.declared.typed.operator.BinOp.TheVariants.{Add, Sub, Mul, Div, Rem, Shl, Shr, And, Xor, Or}
use Rattle.cs_ast.specs.declared.typed.operator.CmpOp.{CmpOp}
use Rattle.cs_types.specs.IntType.{bytes_of}
use Rattle.cs_model.specs.declared.kind.Kind.TheVariants as kind
use Rattle.cs_events.specs.declared.event.Label.TheVariants as label
use Rattle.cs_events.specs.declared.operation.Operation.TheVariants as operation
use Rattle.cs_events.specs.declared.outcome.Outcome.TheVariants.{Fault}
use Rattle.cs_events.specs.declared.point.PointKind.TheVariants.{Branch}
use Rattle.cs_ast.specs.TypedTree.{Typed}
use Rattle.cs_meaning.specs.Initials.{number_in}
use Rattle.cs_ast.specs.TypedProgram.{TypedProgram}
use Rattle.cs_events.specs.Objects.{Object, Cell, NumberCell, NullCell, PointerCell, UnsetCell}
use Rattle.cs_events.specs.Touches.{Touch, Meets, Loads, Stores}
use Rattle.cs_events.specs.Acts.{Act, Stops, Asks, Touches}
use Rattle.cs_events.specs.Silence.{Owes, owes_next, stops, reads, asks, allocates, reaches, touches}
use Rattle.cs_meaning.specs.Types.{scalar_offsets, type_of}
use Rattle.cs_meaning.specs.Memory.{Memory, Found, Holds, Unknown, found_in, is_constant, changed}
use Rattle.cs_meaning.specs.Inputs.{opened}
use Rattle.cs_meaning.specs.Access.{look, shows_then, place_of, is_direct, scalar_local, touches_then, direct, reach, locate, receive, read, read_all, set_then}
use Rattle.cs_meaning.specs.Access.{value_at, load, store, write_operand}
use Rattle.cs_meaning.specs.Operators.{takes_all, is_pointer, in_one_object, related, both_null, asks_order, truth, branch, operate, convert_number}
use Rattle.cs_meaning.specs.Operators.{convert, sum, equality, in_relation, compare_pointers, compare, difference, arrow}
use Rattle.cs_meaning.specs.Machine.{Operand, Scalar, Whole, Nothing, State}

module _ (P : State → Type 0) where
  -- one of two acts
  pub owes_if : (b : Bool) (one other : Act State) → Owes P one → Owes P other → Owes P (if b then one else other)
  owes_if true one other h g = h
  owes_if false one other h g = g

  pub owes_truth : (at : Place) (cell : Cell) (onward : Bool → Act State) → ((holds : Bool) → Owes P (onward holds)) → Owes P (truth at cell onward)
  owes_truth at (NumberCell n) onward h = h _
  owes_truth at NullCell onward h = asks
  owes_truth at (PointerCell object offset) onward h = asks
  owes_truth at UnsetCell onward h = h false

  pub owes_branch : (at : Place) (cell : Cell) (onward : Bool → Act State) → Owes P (branch at cell onward)
  owes_branch at cell onward = owes_truth at cell (λ holds. Touches (Meets Branch at) (shows_then at (label.Branch holds) (onward holds)))
      (λ holds. touches asks)

  pub owes_operate : (model : DataModel) (at : Place) (op : BinOp) (ty : IntType) (left right : ℤ) (onward : ℤ → Act State)
      → Owes P (operate model at op ty left right onward)
  owes_operate model at Add ty left right onward = asks
  owes_operate model at Sub ty left right onward = asks
  owes_operate model at Mul ty left right onward = asks
  owes_operate model at Div ty left right onward =
      owes_if (int_eq right (pos 0)) (Stops (Fault kind.Divide at)) (Asks at (operation.Binary Div ty left right) onward) stops asks
  owes_operate model at Rem ty left right onward =
      owes_if (int_eq right (pos 0)) (Stops (Fault kind.Divide at)) (Asks at (operation.Binary Rem ty left right) onward) stops asks
  owes_operate model at Shl ty left right onward =
      owes_if (int_le (pos 0) right && int_lt right (pos (8 * bytes_of model ty))) (Asks at (operation.Binary Shl ty left right) onward)
      (Stops (Fault kind.Shift at)) asks stops
  owes_operate model at Shr ty left right onward =
      owes_if (int_le (pos 0) right && int_lt right (pos (8 * bytes_of model ty))) (Asks at (operation.Binary Shr ty left right) onward)
      (Stops (Fault kind.Shift at)) asks stops
  owes_operate model at And ty left right onward = asks
  owes_operate model at Xor ty left right onward = asks
  owes_operate model at Or ty left right onward = asks

  pub owes_convert_number : (model : DataModel) (at : Place) (from : Shape) (to : IntType) (number : ℤ) (onward : ℤ → Act State)
      → ((n : ℤ) → Owes P (onward n)) → Owes P (convert_number model at from to number onward)
  owes_convert_number model at from to number onward h =
      owes_if (takes_all model from to) (onward number) (Asks at (operation.Convert to number) onward) (h number) asks

  pub owes_convert : (model : DataModel) (at : Place) (from to : Shape) (operand : Operand) (onward : Operand → Act State)
      → ((o : Operand) → Owes P (onward o)) → Owes P (convert model at from to operand onward)
  owes_convert model at from void operand onward h = h Nothing
  owes_convert model at from (integer ty) (Scalar (NumberCell n)) onward h =
      owes_convert_number model at from ty n (λ number. onward (Scalar (NumberCell number))) (λ number. h (Scalar (NumberCell number)))
  owes_convert model at from (integer ty) (Scalar NullCell) onward h = h (Scalar NullCell)
  owes_convert model at from (integer ty) (Scalar (PointerCell object offset)) onward h = h (Scalar (PointerCell object offset))
  owes_convert model at from (integer ty) (Scalar UnsetCell) onward h = h (Scalar UnsetCell)
  owes_convert model at from (integer ty) (Whole cells) onward h = h (Whole cells)
  owes_convert model at from (integer ty) Nothing onward h = h Nothing
  owes_convert model at from (pointer target) operand onward h = h operand
  owes_convert model at from (array element count) operand onward h = h operand
  owes_convert model at from (struct number) operand onward h = h operand

  pub owes_sum : (model : DataModel) (at : Place) (cell : Cell) (amount : ℤ) (size : ℕ) (onward : Cell → Act State) → ((c : Cell) → Owes P (onward c))
      → Owes P (sum model at cell amount size onward)
  owes_sum model at (NumberCell n) amount size onward h = h UnsetCell
  owes_sum model at NullCell amount size onward h = asks
  owes_sum model at (PointerCell object offset) amount size onward h = asks
  owes_sum model at UnsetCell amount size onward h = h UnsetCell

  owes_look : (at : Place) (cell : Cell) (act : Act State) → Owes P act → Owes P (look at cell act)
  owes_look at (NumberCell n) act h = h
  owes_look at NullCell act h = asks
  owes_look at (PointerCell object offset) act h = asks
  owes_look at UnsetCell act h = h

  owes_in_relation : (at : Place) (offsets : Option (ℤ × ℤ)) (onward : ℤ → ℤ → Act State) → ((one other : ℤ) → Owes P (onward one other))
      → Owes P (in_relation at offsets onward)
  owes_in_relation at None onward h = stops
  owes_in_relation at (Some offsets) onward h = h offsets.0 offsets.1

  owes_equality : (at : Place) (op : CmpOp) (same : Bool) (offsets : Option (ℤ × ℤ)) (onward : ℤ → Act State)
      → Owes P (equality at op same offsets onward)
  owes_equality at op same None onward = asks
  owes_equality at op same (Some offsets) onward = asks

  owes_compare_pointers : (at : Place) (op : CmpOp) (left right : Cell) (onward : ℤ → Act State) → Owes P (compare_pointers at op left right onward)
  owes_compare_pointers at op left right onward =
      let ordered : Act State = in_relation at (related left right) (λ one other. Asks at (operation.Compare op one other) onward) in
      let equal : Act State = equality at op (both_null left right) (in_one_object left right) onward in
      let either : Owes P (if asks_order op then ordered else equal) =
      owes_if (asks_order op) ordered equal
      (owes_in_relation at (related left right) (λ one other. Asks at (operation.Compare op one other) onward) (λ one other. asks))
      (owes_equality at op (both_null left right) (in_one_object left right) onward) in
      owes_look at left (look at right (if asks_order op then ordered else equal)) (owes_look at right (if asks_order op then ordered else equal) either)

  pub owes_compare : (at : Place) (op : CmpOp) (left right : Cell) (onward : ℤ → Act State) → Owes P (compare at op left right onward)
  owes_compare at op left right onward =
      owes_if (is_pointer left || is_pointer right) (compare_pointers at op left right onward)
      (Asks at (operation.Compare op (number_in left) (number_in right)) onward) (owes_compare_pointers at op left right onward) asks

  pub owes_difference : (at : Place) (left right : Cell) (size : ℕ) (onward : ℤ → Act State) → Owes P (difference at left right size onward)
  owes_difference at left right size onward =
      let shown : Act State = in_relation at (related left right) (λ one other. Asks at (operation.Difference one other size) onward) in
      owes_look at left (look at right shown)
      (owes_look at right shown (owes_in_relation at (related left right) (λ one other. Asks at (operation.Difference one other size) onward)
      (λ one other. asks)))

  pub owes_arrow : (at : Place) (cell : Cell) (offset : ℕ) (onward : Cell → Act State) → ((c : Cell) → Owes P (onward c))
      → Owes P (arrow at cell offset onward)
  owes_arrow at (NumberCell n) offset onward h = h UnsetCell
  owes_arrow at NullCell offset onward h = asks
  owes_arrow at (PointerCell object from) offset onward h = asks
  owes_arrow at UnsetCell offset onward h = h UnsetCell

  owes_direct : (at : Place) (cell : Cell) (onward : Object → ℕ → Act State) → ((object : Object) (offset : ℕ) → Owes P (onward object offset))
      → Owes P (direct at cell onward)
  owes_direct at (NumberCell n) onward h = stops
  owes_direct at NullCell onward h = stops
  owes_direct at (PointerCell object offset) onward h = h object _
  owes_direct at UnsetCell onward h = stops

  owes_reach : (program : TypedProgram) (memory : Memory) (at : Place) (ty : Shape) (cell : Cell) (onward : Object → ℕ → Act State)
      → Owes P (reach program memory at ty cell onward)
  owes_reach program memory at ty (NumberCell n) onward = stops
  owes_reach program memory at ty NullCell onward = asks
  owes_reach program memory at ty (PointerCell object offset) onward = asks
  owes_reach program memory at ty UnsetCell onward = stops

  owes_locate : (program : TypedProgram) (memory : Memory) (e : Typed) (cell : Cell) (onward : Object → ℕ → Act State)
      → ((object : Object) (offset : ℕ) → Owes P (onward object offset)) → Owes P (locate program memory e cell onward)
  owes_locate program memory e cell onward h =
      owes_if (is_direct e) (direct (place_of e) cell onward) (reach program memory (place_of e) (type_of e) cell onward)
      (owes_direct (place_of e) cell onward h) (owes_reach program memory (place_of e) (type_of e) cell onward)

  pub owes_touches : (touch : ℕ → Touch) (local : Option ℕ) (act : Act State) → Owes P act → Owes P (touches_then touch local act)
  owes_touches touch None act h = h
  owes_touches touch (Some declaration) act h = touches h

  pub owes_receive : (program : TypedProgram) (memory : Memory) (found : Found) (onward : Memory → Cell → Act State)
      → ((after : Memory) (cell : Cell) → Owes P (onward after cell)) → Owes P (receive program memory found onward)
  owes_receive program memory (Holds cell) onward h = h memory cell
  owes_receive program memory (Unknown path scalar) onward h =
      reads (λ cell. h (opened program path scalar None cell memory) cell)

  owes_read : (program : TypedProgram) (memory : Memory) (object : Object) (offset : ℕ) (onward : Memory → Cell → Act State)
      → ((after : Memory) (cell : Cell) → Owes P (onward after cell)) → Owes P (read program memory object offset onward)
  owes_read program memory object offset onward h = owes_receive program memory (found_in program object (memory object) offset) onward h

  owes_read_all : (program : TypedProgram) (memory : Memory) (object : Object) (from : ℕ) (offsets : List ℕ) (onward : Memory → List Cell → Act State)
      → ((after : Memory) (cells : List Cell) → Owes P (onward after cells)) → Owes P (read_all program memory object from offsets onward)
  owes_read_all program memory object from [] onward h = h memory []
  owes_read_all program memory object from (offset ∷ offsets) onward h =
      owes_read program memory object (from + offset) (λ after cell. read_all program after object from offsets (λ end cells. onward end (cell ∷ cells)))
      (λ after cell. owes_read_all program after object from offsets (λ end cells. onward end (cell ∷ cells)) (λ end cells. h end (cell ∷ cells)))

  pub owes_set : (at : Place) (cell : Cell) (act : Act State) → Owes P act → Owes P (set_then at cell act)
  owes_set at (NumberCell n) act h = h
  owes_set at NullCell act h = h
  owes_set at (PointerCell object offset) act h = h
  owes_set at UnsetCell act h = stops

  owes_value : (program : TypedProgram) (memory : Memory) (at : Place) (ty : Shape) (object : Object) (offset : ℕ) (onward : Memory → Operand → Act State)
      → ((after : Memory) (operand : Operand) → Owes P (onward after operand)) → Owes P (value_at program memory at ty object offset onward)
  owes_value program memory at void object offset onward h =
      owes_read program memory object offset (λ after cell. set_then at cell (onward after (Scalar cell)))
      (λ after cell. owes_set at cell (onward after (Scalar cell)) (h after (Scalar cell)))
  owes_value program memory at (integer ty) object offset onward h =
      owes_read program memory object offset (λ after cell. set_then at cell (onward after (Scalar cell)))
      (λ after cell. owes_set at cell (onward after (Scalar cell)) (h after (Scalar cell)))
  owes_value program memory at (pointer target) object offset onward h =
      owes_read program memory object offset (λ after cell. set_then at cell (onward after (Scalar cell)))
      (λ after cell. owes_set at cell (onward after (Scalar cell)) (h after (Scalar cell)))
  owes_value program memory at (array element count) object offset onward h =
      owes_read program memory object offset (λ after cell. set_then at cell (onward after (Scalar cell)))
      (λ after cell. owes_set at cell (onward after (Scalar cell)) (h after (Scalar cell)))
  owes_value program memory at (struct number) object offset onward h =
      owes_read_all program memory object offset (scalar_offsets program (struct number)) (λ after cells. onward after (Whole cells))
      (λ after cells. h after (Whole cells))

  pub owes_load : (program : TypedProgram) (memory : Memory) (frame : ℕ) (e : Typed) (cell : Cell) (onward : Memory → Operand → Act State)
      → ((after : Memory) (operand : Operand) → Owes P (onward after operand)) → Owes P (load program memory frame e cell onward)
  owes_load program memory frame e cell onward h =
      owes_locate program memory e cell
      (λ object offset.
      touches_then (λ declaration. Loads frame declaration (place_of e)) (scalar_local e)
      (value_at program memory (place_of e) (type_of e) object offset onward))
      (λ object offset.
      owes_touches (λ declaration. Loads frame declaration (place_of e)) (scalar_local e)
      (value_at program memory (place_of e) (type_of e) object offset onward)
      (owes_value program memory (place_of e) (type_of e) object offset onward h))

  pub owes_store : (program : TypedProgram) (memory : Memory) (frame : ℕ) (at : Place) (e : Typed) (cell : Cell) (operand : Operand) (onward : Memory
      → Act State) → ((after : Memory) → Owes P (onward after)) → Owes P (store program memory frame at e cell operand onward)
  owes_store program memory frame at e cell operand onward h =
      owes_locate program memory e cell
      (λ object offset.
      if is_constant program object then Stops (Fault kind.ConstWrite (place_of e))
      else touches_then (λ declaration. Stores frame declaration at) (scalar_local e)
      (onward (changed (write_operand program (type_of e) offset operand) object memory)))
      (λ object offset.
      owes_if (is_constant program object) (Stops (Fault kind.ConstWrite (place_of e)))
      (touches_then (λ declaration. Stores frame declaration at) (scalar_local e)
      (onward (changed (write_operand program (type_of e) offset operand) object memory))) stops
      (owes_touches (λ declaration. Stores frame declaration at) (scalar_local e)
      (onward (changed (write_operand program (type_of e) offset operand) object memory))
      (h (changed (write_operand program (type_of e) offset operand) object memory))))

-- what an act owes of one property of states, it owes of a weaker one
pub owes_wider : (P Q : State → Type 0) → ((next : State) → P next → Q next) → {act : Act State} → Owes P act → Owes Q act
owes_wider P Q wider (owes_next {next = next} p) = owes_next (wider next p)
owes_wider P Q wider stops = stops
owes_wider P Q wider (reads onward) = reads (λ number. owes_wider P Q wider (onward number))
owes_wider P Q wider asks = asks
owes_wider P Q wider allocates = allocates
owes_wider P Q wider reaches = reaches
owes_wider P Q wider (touches owed) = touches (owes_wider P Q wider owed)
