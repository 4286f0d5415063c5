-- The code of a program as plain data: a flow graph for each function with a body.
use Rattle.std.specs.Prelude.{ℕ, ℤ, Bool, List, [], ◌∷◌, Option, None, unwrap_or, slice_get}
use Rattle.cs_types.specs.declared.int_type.IntType.{IntType}
use Rattle.cs_types.specs.Shape.{Shape}
use Rattle.cs_ast.specs.declared.place.Place.{Place}
use Rattle.cs_ast.specs.declared.typed.operator.BinOp.{BinOp}
use Rattle.cs_ast.specs.declared.typed.operator.UnOp.{UnOp}
use Rattle.cs_ast.specs.declared.typed.operator.CmpOp.{CmpOp}
use Rattle.cs_ast.specs.declared.typed.operator.Direction.{Direction}
use Rattle.cs_ast.specs.declared.typed.operator.Gives.{Gives}
use Rattle.cs_ast.specs.declared.typed.operator.Order.{Order}
use Rattle.cs_ast.specs.declared.typed.operator.Allocator.{Allocator}
use Rattle.cs_events.specs.declared.point.PointKind.{PointKind}
use Rattle.cs_meaning.specs.Access.{Access}

-- what an operation does with its operands
pub data Work : Type 0 where
  Number : (value : ℤ) → Work
  Null : Work
  Text : (literal : ℕ) → Work
  Local : (declaration : ℕ) → Work
  Global : (global : ℕ) → Work
  Nothing : Work
  Sum : (bytes : ℕ) (direction : Direction) (order : Order) → Work
  Member : (offset : ℕ) → Work
  Arrow : (offset : ℕ) → Work
  Load : (access : Access) → Work
  Convert : (from to : Shape) → Work
  Unary : (operator : UnOp) (ty : IntType) → Work
  Not : Work
  Binary : (operator : BinOp) (ty : IntType) → Work
  Compare : (operator : CmpOp) → Work
  Difference : (bytes : ℕ) → Work
  Judge : Work
  Store : (access : Access) → Work
  FetchNumber : (access : Access) (works_in : IntType) → Work
  Update : (operator : BinOp) (access : Access) (works_in : IntType) (gives : Gives) → Work
  FetchPointer : (access : Access) → Work
  Move : (access : Access) (bytes : ℕ) (direction : Direction) (gives : Gives) → Work
  Call : (function count : ℕ) → Work
  Allocate : (allocator : Allocator) (element : Shape) → Work
  Free : Work
  Use : Work
  Drop : Work
  Clear : (declaration : ℕ) (scalar : Bool) → Work
  Zero : (declaration : ℕ) → Work
  StoreLocal : (declaration offset : ℕ) (ty : Shape) (scalar : Bool) → Work
  Spell : (declaration offset : ℕ) (bytes : List ℕ) → Work
  -- the loop head or label that is the counted point with a number is reached
  Reach : (kind : PointKind) (counted_point : ℕ) → Work
  Meet : (kind : PointKind) → Work
  Close : (nothing : Bool) → Work

-- an operation at a source position; its operands are the temporaries from the one with a number on
pub record Operation : Type 0 where
  pub at : Place
  pub temporary : ℕ
  pub work : Work

-- a case of a `switch` that has a value, and the block to which it leads
pub record SwitchCase : Type 0 where
  pub value : ℤ
  pub block : ℕ

-- how a block ends
pub data BlockEnd : Type 0 where
  Jump : (block : ℕ) → BlockEnd
  Branch : (at : Place) (temporary one other : ℕ) → BlockEnd
  Switch : (at : Place) (temporary : ℕ) (cases : List SwitchCase) (otherwise : ℕ) → BlockEnd
  Return : (temporary : ℕ) → BlockEnd
  Finish : BlockEnd

-- a point of the code: the rest of a block. A block is the point at its beginning
pub record Point : Type 0 where
  pub operations : List Operation
  pub end : BlockEnd

-- the flow graph of a function: its blocks, the one where a call begins, and the number of counted points
pub record Flow : Type 0 where
  pub blocks : List Point
  pub entry : ℕ
  pub counted_points : ℕ

-- the code of a program: the graph of each function that has a body
pub record Code : Type 0 where
  pub flows : List (Option Flow)

-- an operation before a point
abbrev pub before : Operation → Point → Point
before operation p = record p { operations = operation ∷ p.operations }

-- the point of a block that doesn't exist: the frame returns
abbrev pub no_point : Point
no_point = record { operations = []; end = Finish }

-- the block with a number
abbrev pub block_of : Flow → ℕ → Point
block_of flow block = unwrap_or (slice_get flow.blocks block) no_point

-- a graph without blocks
abbrev pub no_flow : Flow
no_flow = record { blocks = []; entry = 0; counted_points = 0 }

-- the graph of a function, if it has one
abbrev pub flow_of : Code → ℕ → Option Flow
flow_of code function = unwrap_or (slice_get code.flows function) None

-- the block with a number in a function
abbrev pub block_in : Code → ℕ → ℕ → Point
block_in code function block = block_of (unwrap_or (flow_of code function) no_flow) block
