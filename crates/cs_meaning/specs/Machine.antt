-- The states of the reference machine.
use Rattle.std.specs.Prelude.{ℕ, List, [], ◌∷◌, take, drop, reverse, None, unwrap_or, slice_get}
use Rattle.cs_types.specs.Shape.{Shape, void}
use Rattle.cs_ast.specs.declared.place.Place.{Place}
use Rattle.cs_ast.specs.TypedTree.{Typed, Statement, Block as Compound, Empty}
use Rattle.cs_ast.specs.TypedProgram.{TypedProgram, Routine}
use Rattle.cs_events.specs.Objects.{Cell, UnsetCell}
use Rattle.cs_meaning.specs.Memory.{Memory}

-- the value of an expression: a scalar, the scalars of a struct in order, or nothing. An lvalue is represented by a pointer to it
pub data Operand : Type 0 where
  Scalar : (cell : Cell) → Operand
  Whole : (cells : List Cell) → Operand
  Nothing : Operand

-- the things to do. A statement comes with the number of its first counted point in the function's body: loop heads and labels are
-- counted points, numbered in file order
pub data Item : Type 0 where
  -- evaluate an expression
  Evaluate : (e : Typed) → Item
  -- evaluate an expression whose value is dropped or converted to `void`
  EvaluateUnused : (e : Typed) → Item
  -- apply the operation of an expression to its operands, which are on the stack
  Act : (e : Typed) → Item
  -- load the object of an update, whose lvalue is on the stack
  Fetch : (e : Typed) → Item
  -- take the branch that the first operand of `&&`, `||` or `?:`, which is on the stack, selects
  Choose : (e : Typed) → Item
  -- make the right operand of `&&` or `||` a truth value
  Judge : (at : Place) → Item
  -- check that the result of a call, which is used, was set
  Use : (at : Place) → Item
  -- drop a value
  Drop : Item
  -- store the newest value in a declared object at an offset
  Store : (at : Place) (declaration offset : ℕ) (ty : Shape) → Item
  -- store bytes in a declared object from an offset on
  Spell : (declaration offset : ℕ) (bytes : List ℕ) → Item
  Execute : (s : Statement) (counted_point : ℕ) → Item
  -- take the branch that the test of a statement, or the value of a `switch`, selects
  Decide : (s : Statement) (counted_point : ℕ) → Item
  -- reach the head of a loop
  Turn : (s : Statement) (counted_point : ℕ) → Item
  -- after the body of a loop; `continue` leads here
  Again : (s : Statement) (counted_point : ℕ) → Item
  -- where `break` leads
  Out : Item
  -- begin a function's body
  Begin : (at : Place) → Item
  -- reach the end of a function's body, with this result
  End : (at : Place) (value : Operand) → Item
  -- return with the newest value
  Give : (at : Place) → Item
  -- end the frame with the newest value
  Leave : Item

-- a call of a function that hasn't ended (C11 5.1.2.3), generic in the machine's representation of the work that remains in it
pub record CallFrame (Rest : Type 0) : Type 0 where
  -- the function's number in the program
  pub function : ℕ
  -- the frame's number in the run
  pub number : ℕ
  -- the work that remains
  pub todo : Rest
  -- values and lvalues, the newest first
  pub stack : List Operand
  -- the number of visits of each counted point of the body
  pub visits : List ℕ

-- a state of such a machine
pub record Running (Rest : Type 0) : Type 0 where
  -- the current frame
  pub frame : CallFrame Rest
  -- the frames below it on the call stack, its caller first
  pub callers : List (CallFrame Rest)
  pub memory : Memory
  -- the number of frames so far
  pub frames : ℕ
  -- the number of allocations so far
  pub allocations : ℕ
  -- the number of calls so far of functions without a body
  pub calls : ℕ

-- the reference machine has a list of things to do, first things first
abbrev pub Frame : Type 0
Frame = CallFrame (List Item)

abbrev pub State : Type 0
State = Running (List Item)

-- the machine with this to do in the current frame
abbrev pub to_do : {Rest : Type 0} → Rest → Running Rest → Running Rest
to_do items m = record m { frame = record m.frame { todo = items } }

-- the machine with these operands in the current frame
abbrev pub with_stack : {Rest : Type 0} → List Operand → Running Rest → Running Rest
with_stack stack m = record m { frame = record m.frame { stack = stack } }

-- the machine with one more operand
abbrev pub push : {Rest : Type 0} → Operand → Running Rest → Running Rest
push operand m = with_stack (operand ∷ m.frame.stack) m

abbrev pub push_cell : {Rest : Type 0} → Cell → Running Rest → Running Rest
push_cell cell m = push (Scalar cell) m

-- the machine without the newest operand
abbrev pub pop : {Rest : Type 0} → Running Rest → Running Rest
pop m = with_stack (drop 1 m.frame.stack) m

-- the machine without the `count` newest operands
abbrev pub pop_many : {Rest : Type 0} → ℕ → Running Rest → Running Rest
pop_many count m = with_stack (drop count m.frame.stack) m

-- the machine with this memory
abbrev pub with_memory : {Rest : Type 0} → Memory → Running Rest → Running Rest
with_memory memory m = record m { memory = memory }

-- an operand by its age, the newest being 0; unset if there is none
abbrev pub operand_at : {Rest : Type 0} → Running Rest → ℕ → Operand
operand_at m age = unwrap_or (slice_get m.frame.stack age) (Scalar UnsetCell)

-- an operand as a scalar; any other counts as unset
abbrev pub cell_of : Operand → Cell
cell_of (Scalar cell) = cell
cell_of other = UnsetCell

abbrev pub cell_at : {Rest : Type 0} → Running Rest → ℕ → Cell
cell_at m age = cell_of (operand_at m age)

-- the newest operands, the oldest of them first
abbrev pub newest : {Rest : Type 0} → ℕ → Running Rest → List Operand
newest count m = reverse (take count m.frame.stack)

-- a default for a function that doesn't exist: it has no body and returns nothing
abbrev pub no_routine : Place → Routine
no_routine at = record { name = []; at = at; returns = void; parameters = 0; variables = []; body = None; closes = at; written = [] }

-- a default source position
abbrev pub NOWHERE : Place
NOWHERE = record { file = 0; line = 0; column = 0 }

-- the function with this number
abbrev pub routine_of : TypedProgram → ℕ → Routine
routine_of program function = unwrap_or (slice_get program.routines function) (no_routine NOWHERE)

-- the body of a function, empty if it has none
abbrev pub body_of : Routine → Statement
body_of routine = unwrap_or routine.body (Compound routine.at Empty)
