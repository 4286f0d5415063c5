-- The code of the program seen as plain data.
use Rattle.std.specs.Prelude.{List, ◌∷◌, map, Option, Some, None, option_map}
use Rattle.std.specs.Borrow.{Bor}
use Rattle.cs_types.specs.Shape.{shape_of}
use Rattle.cs_cfg.specs.declared.operation.Work as w
use Rattle.cs_cfg.specs.declared.operation.Work.TheVariants as of
use Rattle.cs_cfg.specs.declared.operation.Operation as o
use Rattle.cs_cfg.specs.declared.operation.Access as a
use Rattle.cs_cfg.specs.declared.code.Code as c
use Rattle.cs_cfg.specs.declared.code.Flow as f
use Rattle.cs_cfg.specs.declared.code.Block as b
use Rattle.cs_cfg.specs.declared.code.CountedPoint.{CountedPoint}
use Rattle.cs_cfg.specs.declared.code.BlockEnd as e
use Rattle.cs_cfg.specs.declared.code.BlockEnd.TheVariants as ends
use Rattle.cs_cfg.specs.declared.code.SwitchCase as s
use Rattle.cs_meaning.specs.Access.{Access}
use Rattle.cs_cfg.specs.Graph.{Work, Number, Null, Text, Local, Global, Nothing, Sum, Member, Arrow, Load, Convert, Unary, Not, Binary, Compare, Difference}
use Rattle.cs_cfg.specs.Graph.{Judge, Store, FetchNumber, Update, FetchPointer, Move, Call, Allocate, Free, Use, Drop, Clear, Zero, StoreLocal, Spell, Reach}
use Rattle.cs_cfg.specs.Graph.{Meet, Close, Operation, SwitchCase, BlockEnd, Jump, Branch, Switch, Return, Finish, Point, Flow, Code}

abbrev pub access : a.Access → Access
access object = record { at = object.place; ty = shape_of object.ty; direct = object.direct; local = object.local }

abbrev pub work : w.Work → Work
work (of.Number n) = Number n
work of.Null = Null
work (of.Text literal) = Text literal
work (of.Local declaration) = Local declaration
work (of.Global global) = Global global
work of.Nothing = Nothing
work (of.Sum bytes direction order) = Sum bytes direction order
work (of.Member offset) = Member offset
work (of.Arrow offset) = Arrow offset
work (of.Load object) = Load (access object)
work (of.Convert from to) = Convert (shape_of from) (shape_of to)
work (of.Unary operator ty) = Unary operator ty
work of.Not = Not
work (of.Binary operator ty) = Binary operator ty
work (of.Compare operator) = Compare operator
work (of.Difference bytes) = Difference bytes
work of.Judge = Judge
work (of.Store object) = Store (access object)
work (of.FetchNumber object ty) = FetchNumber (access object) ty
work (of.Update operator object ty gives) = Update operator (access object) ty gives
work (of.FetchPointer object) = FetchPointer (access object)
work (of.Move object bytes direction gives) = Move (access object) bytes direction gives
work (of.Call function count) = Call function count
work (of.Allocate allocator element) = Allocate allocator (shape_of element)
work of.Free = Free
work of.Use = Use
work of.Drop = Drop
work (of.Clear declaration scalar) = Clear declaration scalar
work (of.Zero declaration) = Zero declaration
work (of.StoreLocal declaration offset ty scalar) = StoreLocal declaration offset (shape_of ty) scalar
work (of.Spell declaration offset bytes) = Spell declaration offset bytes
work (of.Meet kind) = Meet kind
work (of.Close nothing) = Close nothing

abbrev pub operation : o.Operation → Operation
operation one = record { at = one.place; temporary = one.temporary; work = work one.work }

abbrev pub switch_case : s.SwitchCase → SwitchCase
switch_case one = record { value = one.value; block = one.block }

abbrev pub block_end : e.BlockEnd → BlockEnd
block_end (ends.Jump block) = Jump block
block_end (ends.Branch at temporary one other) = Branch at temporary one other
block_end (ends.Switch at temporary cases otherwise) = Switch at temporary (map switch_case cases.items) otherwise
block_end (ends.Return temporary) = Return temporary
block_end ends.Finish = Finish

-- the operation that reaches a counted point
abbrev pub reaching : CountedPoint → Operation
reaching counted_point = record { at = counted_point.place; temporary = 0; work = Reach counted_point.kind counted_point.number }

-- the counted point of a block is the first thing that the block does
abbrev pub with_counted_point : Option CountedPoint → List Operation → List Operation
with_counted_point None operations = operations
with_counted_point (Some counted_point) operations = reaching counted_point ∷ operations

abbrev pub block : b.Block → Point
block one = record { operations = with_counted_point one.counted_point (map operation one.operations.items); end = block_end one.end }

abbrev pub flow : f.Flow → Flow
flow graph = record { blocks = map block graph.blocks.items; entry = graph.entry; counted_points = graph.counted_points }

abbrev pub code : c.Code → Code
code graphs = record { flows = map (option_map flow) graphs.flows.items }

-- a borrowed block, and a borrowed graph, if there is one
abbrev pub lent_block : Option (Bor b.Block) → Option Point
lent_block = option_map (λ one. block one.now)

abbrev pub lent_flow : Option (Bor f.Flow) → Option Flow
lent_flow = option_map (λ one. flow one.now)
