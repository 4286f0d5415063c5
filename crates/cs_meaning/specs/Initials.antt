-- The initial contents of objects (C11 6.7.9): the pieces of an initializer by offset, and the values of constant expressions.
use Rattle.std.specs.Prelude.{ℕ, ◌+◌, ◌-◌, ◌==◌, nat_lt, nat_le, ℤ, pos, ◌+ℤ◌, ◌*ℤ◌, neg_ℤ, int_lt, Bool, true, false, not}
use Rattle.std.specs.Prelude.{◌&&◌, ◌||◌, List}
use Rattle.std.specs.Prelude.{[], ◌∷◌, ◌++◌, take, length, slice_index_or, if◌then◌else◌}
use Rattle.cs_types.specs.declared.data_model.DataModel.{DataModel}
use Rattle.cs_types.specs.DataModel.{offset_bound_of}
use Rattle.cs_types.specs.Shape.{Shape, integer, pointer}
use Rattle.cs_types.specs.Wrap.{wrapped}
use Rattle.cs_ast.specs.declared.typed.operator.Direction.{Direction}
use Rattle.cs_ast.specs.declared.typed.operator.Direction.TheVariants.{Forward, Back}
use Rattle.cs_ast.specs.TypedTree.{Typed, Of, Form, Number, Null, Text, Global, Index, Member, Address, Decay, Convert, Unary, Not, Binary, Compare, Sum, And}
use Rattle.cs_ast.specs.TypedTree.{Or, Choice, Initial, Value, Parts, Bytes, Initials, NoPart, Part}
use Rattle.cs_ast.specs.TypedProgram.{TypedProgram}
use Rattle.cs_events.specs.declared.operation.Operation.TheVariants as operation
use Rattle.cs_events.specs.Operations.{own_result, truth_number, is_true}
use Rattle.cs_events.specs.Objects.{GlobalObject, LiteralObject, Cell, NumberCell, NullCell, PointerCell, UnsetCell}
use Rattle.cs_meaning.specs.Types.{size_of, target_of, integer_of, part_type, part_offset, count_of}

-- a piece of an initializer: an expression whose value is stored at an offset, or bytes that are stored from an offset on
pub data Piece : Type 0 where
  Evaluated : (offset : ℕ) (value : Typed) → Piece
  Spelled : (offset : ℕ) (bytes : List ℕ) → Piece

abbrev mutual
  -- the pieces of an initializer of an object of a type, at an offset; of a text, as many bytes as fit
  pub pieces : TypedProgram → Shape → ℕ → Initial → List Piece
  pieces program shape from (Value value) = Evaluated from value ∷ []
  pieces program shape from (Bytes bytes) = Spelled from (take (count_of shape) bytes) ∷ []
  pieces program shape from (Parts parts) = pieces_from program shape from 0 parts

  -- the same for its parts, from the one with a number on
  pub pieces_from : TypedProgram → Shape → ℕ → ℕ → Initials → List Piece
  pieces_from program shape from number NoPart = []
  pieces_from program shape from number (Part first others) =
      pieces program (part_type program shape number) (from + part_offset program shape number) first ++ pieces_from program shape from (number + 1) others

-- the number of a cell; any other cell counts as 0
abbrev pub number_in : Cell → ℤ
number_in (NumberCell n) = n
number_in other = pos 0

-- whether a cell is true: a number other than 0, or a pointer other than null (C11 6.5.3.3, paragraph 5)
abbrev pub is_set : Cell → Bool
is_set (NumberCell n) = is_true n
is_set (PointerCell object offset) = true
is_set other = false

-- the cell of a truth value
abbrev pub truth_cell : Bool → Cell
truth_cell holds = NumberCell (truth_number holds)

-- a pointer plus a number of bytes; null stays null
abbrev pub further : Cell → ℕ → Cell
further (PointerCell object offset) bytes = PointerCell object (offset +ℤ pos bytes)
further other bytes = other

-- a number with the sign of a direction
abbrev pub directed : Direction → ℤ → ℤ
directed Forward n = n
directed Back n = neg_ℤ n

-- an offset, or the nearer bound of offsets if it is outside
abbrev pub clamped : DataModel → ℤ → ℤ
clamped model offset =
    if int_lt (pos (offset_bound_of model)) offset
    then pos (offset_bound_of model)
    else (if int_lt offset (neg_ℤ (pos (offset_bound_of model))) then neg_ℤ (pos (offset_bound_of model)) else offset)

-- a constant pointer plus an amount of elements of a size. No object extends to the bounds: past one, each access is out of bounds
abbrev pub moved : DataModel → Cell → ℤ → ℕ → Cell
moved model (PointerCell object offset) amount size = PointerCell object (clamped model (offset +ℤ amount *ℤ pos size))
moved model other amount size = other

-- a cell converted to a type
abbrev pub converted : DataModel → Shape → Cell → Cell
converted model (integer ty) (NumberCell n) = NumberCell (own_result model (operation.Convert ty n))
converted model ty cell = cell

abbrev mutual
  -- the value of a constant expression (C11 6.6): each operation yields its own result
  pub constant : TypedProgram → Typed → Cell
  constant program (Of at ty form) = constant_form program ty form

  pub constant_form : TypedProgram → Shape → Form → Cell
  constant_form program ty (Number n) = NumberCell n
  constant_form program ty Null = NullCell
  constant_form program ty (Text literal) = PointerCell (LiteralObject literal) (pos 0)
  constant_form program ty (Global global) = PointerCell (GlobalObject global) (pos 0)
  constant_form program ty (Index a i order) = moved program.model (constant program a) (number_in (constant program i)) (size_of program ty)
  constant_form program ty (Member a offset) = further (constant program a) offset
  constant_form program ty (Address a) = constant program a
  constant_form program ty (Decay a) = constant program a
  constant_form program ty (Convert a) = converted program.model ty (constant program a)
  constant_form program ty (Unary op a) = NumberCell (own_result program.model (operation.Unary op (integer_of ty) (number_in (constant program a))))
  constant_form program ty (Not a) = truth_cell (not (is_set (constant program a)))
  constant_form program ty (Binary op a b) =
      NumberCell (own_result program.model (operation.Binary op (integer_of ty) (number_in (constant program a)) (number_in (constant program b))))
  constant_form program ty (Compare op a b) =
      NumberCell (own_result program.model (operation.Compare op (number_in (constant program a)) (number_in (constant program b))))
  constant_form program ty (Sum a n direction order) =
      moved program.model (constant program a) (directed direction (number_in (constant program n))) (size_of program (target_of ty))
  constant_form program ty (And a b) = truth_cell (is_set (constant program a) && is_set (constant program b))
  constant_form program ty (Or a b) = truth_cell (is_set (constant program a) || is_set (constant program b))
  constant_form program ty (Choice a b c) = if is_set (constant program a) then constant program b else constant program c
  constant_form program ty other = UnsetCell

-- the zero of a scalar: 0, or a null pointer (C11 6.7.9, paragraph 10)
abbrev pub zero_of : Shape → Cell
zero_of (pointer target) = NullCell
zero_of other = NumberCell (pos 0)

-- the cell of a byte of a text, in a scalar of a character type
abbrev pub byte_cell : DataModel → Shape → ℕ → Cell
byte_cell model scalar byte = NumberCell (wrapped model (integer_of scalar) (pos byte))

-- the cell that the pieces of a constant initializer determine for the scalar at an offset; zero if there is no piece for it
abbrev pub initial_cell : TypedProgram → Shape → List Piece → ℕ → Cell
initial_cell program scalar [] offset = zero_of scalar
initial_cell program scalar (Evaluated from value ∷ others) offset =
    if from == offset then constant program value else initial_cell program scalar others offset
initial_cell program scalar (Spelled from bytes ∷ others) offset =
    if nat_le from offset && nat_lt offset (from + length bytes)
    then byte_cell program.model scalar (slice_index_or bytes (offset - from) 0)
    else initial_cell program scalar others offset
