-- Operators on values (C11 6.3, 6.5.3 to 6.5.10): their checks, their events, and the results that a run continues with.
use Rattle.std.specs.Prelude.{ℕ, ◌*◌, ℤ, pos, ◌+ℤ◌, ◌-ℤ◌, ◌*ℤ◌, neg_ℤ, int_le, int_lt, Bool, true, false, not, ◌&&◌, ◌||◌}
use Rattle.std.specs.Prelude.{Option, Some, None, unwrap_or, if◌then◌else◌}
use Rattle.std.specs.Ordering.{int_eq}
use Rattle.cs_types.specs.declared.data_model.DataModel.{DataModel}
use Rattle.cs_types.specs.declared.int_type.IntType.{IntType}
use Rattle.cs_types.specs.IntType.{bytes_of}
use Rattle.cs_types.specs.DataModel.{offset_bound_of}
use Rattle.cs_types.specs.Conversions.{holds_all_of}
use Rattle.cs_types.specs.Shape.{Shape, void, integer}
use Rattle.cs_ast.specs.declared.place.Place.{Place}
use Rattle.cs_ast.specs.declared.typed.operator.BinOp.{BinOp}
use Rattle.cs_ast.specs.declared.typed.operator.BinOp.TheVariants.{Div, Rem, Shl, Shr}
use Rattle.cs_ast.specs.declared.typed.operator.CmpOp.{CmpOp}
use Rattle.cs_ast.specs.declared.typed.operator.CmpOp.TheVariants.{Equal, Differs}
use Rattle.cs_model.specs.declared.kind.Kind.TheVariants as kind
use Rattle.cs_events.specs.declared.event.Label.TheVariants as label
use Rattle.cs_events.specs.declared.operation.Operation.TheVariants as operation
use Rattle.cs_events.specs.declared.outcome.Outcome.TheVariants.{Fault}
use Rattle.cs_events.specs.declared.point.PointKind.TheVariants.{Branch}
use Rattle.cs_events.specs.Operations.{is_true, truth_number}
use Rattle.cs_events.specs.Objects.{same_object, Cell, NumberCell, NullCell, PointerCell, UnsetCell}
use Rattle.cs_events.specs.Touches.{Meets}
use Rattle.cs_events.specs.Acts.{Act, Stops, Asks, Touches}
use Rattle.cs_meaning.specs.Initials.{number_in, further}
use Rattle.cs_meaning.specs.Machine.{Operand, Scalar, Nothing}
use Rattle.cs_meaning.specs.Access.{shows_then, look, not_null, ordered}

-- whether all numbers of a type are in another
abbrev pub takes_all : DataModel → Shape → IntType → Bool
takes_all model (integer from) to = holds_all_of model to from
takes_all model other to = false

-- whether a value is a pointer, null or not
abbrev pub is_pointer : Cell → Bool
is_pointer NullCell = true
is_pointer (PointerCell object offset) = true
is_pointer other = false

-- the offsets of two pointers into the same object
abbrev pub in_one_object : Cell → Cell → Option (ℤ × ℤ)
in_one_object (PointerCell object offset) (PointerCell other further_on) = if same_object object other then Some (offset, further_on) else None
in_one_object one other = None

-- the same, with null as an object of its own
abbrev pub related : Cell → Cell → Option (ℤ × ℤ)
related NullCell NullCell = Some (pos 0, pos 0)
related one other = in_one_object one other

-- whether two pointers that don't point into the same object are equal: both are null
abbrev pub both_null : Cell → Cell → Bool
both_null NullCell NullCell = true
both_null one other = false

-- whether a comparison is for equality
abbrev pub asks_equal : CmpOp → Bool
asks_equal Equal = true
asks_equal other = false

-- whether it is for order
abbrev pub asks_order : CmpOp → Bool
asks_order Equal = false
asks_order Differs = false
asks_order other = true

-- the result of `==` or `!=` for equal, or different, pointers
abbrev pub equality_of : CmpOp → Bool → Bool
equality_of operator same = if asks_equal operator then same else not same

-- a pointer plus a number of bytes; unset if it isn't a pointer
abbrev pub pointed : Cell → ℕ → Cell
pointed (PointerCell object from) offset = further (PointerCell object from) offset
pointed other offset = UnsetCell

-- a default for the offsets of pointers that don't point into the same object
abbrev pub NO_OFFSETS : ℤ × ℤ
NO_OFFSETS = (pos 0, pos 0)

module _ {S : Type 0} where
  -- whether a value is true: a number other than 0, or a pointer other than null (C11 6.8.4.1, paragraph 2)
  abbrev pub truth : Place → Cell → (Bool → Act S) → Act S
  truth at (NumberCell n) onward = onward (is_true n)
  truth at NullCell onward = shows_then at (label.Look false) (onward false)
  truth at (PointerCell object offset) onward = shows_then at (label.Look true) (onward true)
  truth at UnsetCell onward = onward false

  -- a test: the branch that it takes shows
  abbrev pub branch : Place → Cell → (Bool → Act S) → Act S
  branch at cell onward = truth at cell (λ holds. Touches (Meets Branch at) (shows_then at (label.Branch holds) (onward holds)))

  -- a division by 0 is a fault (C11 6.5.5, paragraph 5)
  abbrev pub divide : Place → ℤ → Act S → Act S
  divide at divisor act = if int_eq divisor (pos 0) then Stops (Fault kind.Divide at) else act

  -- a shift by a negative count, or one not less than the width, is a fault (C11 6.5.7, paragraph 3)
  abbrev pub shift : DataModel → Place → IntType → ℤ → Act S → Act S
  shift model at ty count act = if int_le (pos 0) count && int_lt count (pos (8 * bytes_of model ty)) then act else Stops (Fault kind.Shift at)

  -- the check of a binary integer operator
  abbrev pub checked : DataModel → Place → BinOp → IntType → ℤ → Act S → Act S
  checked model at Div ty right act = divide at right act
  checked model at Rem ty right act = divide at right act
  checked model at Shl ty right act = shift model at ty right act
  checked model at Shr ty right act = shift model at ty right act
  checked model at other ty right act = act

  -- a binary integer operator
  abbrev pub operate : DataModel → Place → BinOp → IntType → ℤ → ℤ → (ℤ → Act S) → Act S
  operate model at operator ty left right onward = checked model at operator ty right (Asks at (operation.Binary operator ty left right) onward)

  -- a conversion of a number from a type: it shows unless all numbers of the old type are in the new one (C11 6.3.1.3)
  abbrev pub convert_number : DataModel → Place → Shape → IntType → ℤ → (ℤ → Act S) → Act S
  convert_number model at from to number onward = if takes_all model from to then onward number else Asks at (operation.Convert to number) onward

  -- a conversion of a value from a type: only that of a number to an integer type changes it; the result of one from `void` is nothing (C11 6.3.2.2)
  abbrev pub convert : DataModel → Place → Shape → Shape → Operand → (Operand → Act S) → Act S
  convert model at from void operand onward = onward Nothing
  convert model at from (integer ty) (Scalar (NumberCell n)) onward = convert_number model at from ty n (λ number. onward (Scalar (NumberCell number)))
  convert model at from other operand onward = onward operand

  -- moving null by an amount other than 0 is a fault
  abbrev pub unmoved : Place → ℤ → Act S → Act S
  unmoved at amount act = if int_eq amount (pos 0) then act else Stops (Fault kind.Null at)

  abbrev pub move_null : Place → ℤ → (Cell → Act S) → Act S
  move_null at amount onward = unmoved at amount (onward NullCell)

  -- a pointer plus an amount of elements of a size: its offset stays within its bounds (C11 6.5.6, paragraph 8)
  abbrev pub sum : DataModel → Place → Cell → ℤ → ℕ → (Cell → Act S) → Act S
  sum model at NullCell amount size onward = shows_then at (label.Look false) (move_null at amount onward)
  sum model at (PointerCell object offset) amount size onward =
      shows_then at (label.Look true)
      (ordered at (offset +ℤ pos (offset_bound_of model)) (amount *ℤ pos size)
      (ordered at (pos (offset_bound_of model) -ℤ offset) (neg_ℤ (amount *ℤ pos size))
      (Asks at (operation.Sum offset amount size) (λ moved. onward (PointerCell object moved)))))
  sum model at (NumberCell n) amount size onward = onward UnsetCell
  sum model at UnsetCell amount size onward = onward UnsetCell

  -- two pointers compared for equality: offsets are compared if they point into the same object (C11 6.5.9, paragraph 6)
  abbrev pub equality : Place → CmpOp → Bool → Option (ℤ × ℤ) → (ℤ → Act S) → Act S
  equality at operator same None onward = shows_then at (label.Truth (equality_of operator same)) (onward (truth_number (equality_of operator same)))
  equality at operator same (Some offsets) onward = Asks at (operation.Compare operator offsets.0 offsets.1) onward

  -- pointers that don't point into the same object are a fault (C11 6.5.6, paragraph 9; 6.5.8, paragraph 5)
  abbrev pub one_object : Place → Option (ℤ × ℤ) → Act S → Act S
  one_object at None act = Stops (Fault kind.Unrelated at)
  one_object at (Some offsets) act = act

  -- an operation on two pointers that requires that they point into the same object
  abbrev pub in_relation : Place → Option (ℤ × ℤ) → (ℤ → ℤ → Act S) → Act S
  in_relation at found onward = one_object at found (onward (unwrap_or found NO_OFFSETS).0 (unwrap_or found NO_OFFSETS).1)

  -- a comparison of two pointers
  abbrev pub compare_pointers : Place → CmpOp → Cell → Cell → (ℤ → Act S) → Act S
  compare_pointers at operator left right onward =
      look at left (look at right
      (if asks_order operator
      then in_relation at (related left right) (λ one other. Asks at (operation.Compare operator one other) onward)
      else equality at operator (both_null left right) (in_one_object left right) onward))

  -- a comparison of two numbers or two pointers (C11 6.5.8, 6.5.9)
  abbrev pub compare : Place → CmpOp → Cell → Cell → (ℤ → Act S) → Act S
  compare at operator left right onward =
      if is_pointer left || is_pointer right
      then compare_pointers at operator left right onward
      else Asks at (operation.Compare operator (number_in left) (number_in right)) onward

  -- the difference of two pointers, in elements of a size (C11 6.5.6, paragraph 9)
  abbrev pub difference : Place → Cell → Cell → ℕ → (ℤ → Act S) → Act S
  difference at left right size onward =
      look at left (look at right (in_relation at (related left right) (λ one other. Asks at (operation.Difference one other size) onward)))

  -- the member at an offset of the object that a pointer points to (C11 6.5.2.3, paragraph 4)
  abbrev pub arrow : Place → Cell → ℕ → (Cell → Act S) → Act S
  arrow at cell offset onward = look at cell (not_null at cell (onward (pointed cell offset)))
