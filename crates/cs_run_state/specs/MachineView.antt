-- The interpreter's state, seen as that of the reference machine. In the interpreter's lists of things to do, of operands and of frames the
-- first element comes last.
use Rattle.std.specs.Prelude.{ℕ, List, map, reverse, length}
use Rattle.cs_types.specs.Shape.{shape_of}
use Rattle.cs_ast.specs.TypedTree.{Typed, Statement, Block, Empty}
use Rattle.cs_ast.specs.TypedView.{typed, statement}
use Rattle.cs_meaning.specs.Machine as machine
use Rattle.cs_meaning.specs.Calls.{falls_off}
use Rattle.cs_run_state.specs.declared.items.Item.{Item}
use Rattle.cs_run_state.specs.declared.items.Item.TheVariants as item
use Rattle.cs_run_state.specs.declared.items.ExprStep.{ExprStep}
use Rattle.cs_run_state.specs.declared.items.ExprStep.TheVariants as expr_step
use Rattle.cs_run_state.specs.declared.items.StmtStep.{StmtStep}
use Rattle.cs_run_state.specs.declared.items.StmtStep.TheVariants as stmt_step
use Rattle.cs_run_state.specs.declared.machine.Frame.{Frame}
use Rattle.cs_run_state.specs.declared.machine.Machine.{Machine}
use Rattle.cs_values.specs.View.{operand_of}
use Rattle.cs_memory.specs.MemoryView.{memory_of}
use Rattle.cs_objects.specs.BlockView.{type_of}

-- a step of an expression
abbrev pub expression_item : ExprStep → Typed → machine.Item
expression_item expr_step.Evaluate e = machine.Evaluate e
expression_item expr_step.EvaluateUnused e = machine.EvaluateUnused e
expression_item expr_step.Act e = machine.Act e
expression_item expr_step.Fetch e = machine.Fetch e
expression_item expr_step.Choose e = machine.Choose e

-- a step of a statement whose first counted point has a number
abbrev pub statement_item : StmtStep → Statement → ℕ → machine.Item
statement_item stmt_step.Execute s counted_point = machine.Execute s counted_point
statement_item stmt_step.Decide s counted_point = machine.Decide s counted_point
statement_item stmt_step.Turn s counted_point = machine.Turn s counted_point
statement_item stmt_step.Again s counted_point = machine.Again s counted_point

-- a thing to do
abbrev pub item_of : Item → machine.Item
item_of (item.Expression step e) = expression_item step (typed e.now)
item_of (item.Statement step s counted_point) = statement_item step (statement s.now) counted_point
item_of (item.Judge place) = machine.Judge place
item_of (item.Use place) = machine.Use place
item_of item.Discard = machine.Drop
item_of (item.Store place declaration offset ty) = machine.Store place declaration offset (shape_of ty.now)
item_of (item.Spell declaration offset bytes) = machine.Spell declaration offset bytes.now
item_of (item.Pass place) = machine.Execute (Block place Empty) 0
item_of item.Out = machine.Out
item_of (item.Begin place) = machine.Begin place
item_of (item.End place ty) = machine.End place (falls_off (type_of ty))
item_of (item.Give place) = machine.Give place
item_of item.Leave = machine.Leave

-- the things to do, first things first
abbrev pub todo_of : List Item → List machine.Item
todo_of items = reverse (map item_of items)

-- a frame
abbrev pub frame_of : Frame → machine.Frame
frame_of frame = record {
  function = frame.function;
  number = frame.number;
  todo = todo_of frame.todo.items;
  stack = reverse (map operand_of frame.stack.items);
  visits = frame.visits.items;
}

-- the state: frames are seen as their locals, and allocations by their results
unfoldable pub state_of : Machine → machine.State
state_of m = record {
  frame = frame_of m.frame;
  callers = reverse (map frame_of m.callers.items);
  memory = memory_of m.memory;
  frames = length m.memory.frames.items;
  allocations = length m.memory.heap.items;
  calls = m.calls;
}
