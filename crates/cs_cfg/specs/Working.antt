-- What each operation of the code does: its checks, its events, and the results that replace its operands.
use Rattle.std.specs.Prelude.{ℕ, ◌-◌, pos, Bool, true, false, not, List, [], drop, length, Option, Some, None, replicate, if◌then◌else◌}
use Rattle.cs_types.specs.Shape.{integer}
use Rattle.cs_ast.specs.declared.place.Place.{Place}
use Rattle.cs_ast.specs.declared.typed.operator.Allocator.{Allocator}
use Rattle.cs_ast.specs.declared.typed.operator.Allocator.TheVariants.{Malloc, Calloc}
use Rattle.cs_ast.specs.TypedProgram.{TypedProgram, Routine}
use Rattle.cs_events.specs.declared.event.Label.TheVariants as label
use Rattle.cs_events.specs.declared.operation.Operation.TheVariants as operation
use Rattle.cs_events.specs.declared.outcome.RunBudgets.{RunBudgets}
use Rattle.cs_events.specs.declared.point.PointKind.TheVariants as point
use Rattle.cs_events.specs.Objects.{GlobalObject, LiteralObject, LocalObject, NumberCell, NullCell, PointerCell, UnsetCell}
use Rattle.cs_events.specs.Touches.{Meets, Stores, Clears}
use Rattle.cs_events.specs.Acts.{Act, Goes, Asks, Touches}
use Rattle.cs_meaning.specs.Initials.{number_in, truth_cell, further, directed}
use Rattle.cs_meaning.specs.Types.{integer_of}
use Rattle.cs_meaning.specs.Memory.{UnsetFill, ZeroFill, changed}
use Rattle.cs_meaning.specs.Access.{shows_then, touches_then, load_object, write_operand}
use Rattle.cs_meaning.specs.Operators.{truth, operate, convert_number, convert, sum, compare, difference, arrow}
use Rattle.cs_meaning.specs.Machine.{Operand, Scalar, Nothing as NoOperand, CallFrame, Running, push, push_cell, pop, pop_many, with_stack, with_memory}
use Rattle.cs_meaning.specs.Machine.{operand_at, cell_of, cell_at, newest, routine_of}
use Rattle.cs_meaning.specs.CountedPoints.{reach_counted_point}
use Rattle.cs_meaning.specs.Calls.{enter_as, call_outside, allocate, release}
use Rattle.cs_meaning.specs.Expressions.{pointer_age, amount_age, given, number_at, stores_to, judge, use_result}
use Rattle.cs_meaning.specs.Statements.{refilled, spell_local}
use Rattle.cs_cfg.specs.Graph.{Work, Number, Null, Text, Local, Global, Nothing, Sum, Member, Arrow, Load, Convert, Unary, Not, Binary, Compare, Difference}
use Rattle.cs_cfg.specs.Graph.{Judge, Store, FetchNumber, Update, FetchPointer, Move, Call, Allocate, Free, Use, Drop, Clear, Zero, StoreLocal, Spell, Reach}
use Rattle.cs_cfg.specs.Graph.{Meet, Close, Point, Flow, Code, block_of, flow_of}

-- the states of a run of the code: the work that remains in a frame is the point that it has reached
abbrev pub CodeState : Type 0
CodeState = Running Point

abbrev pub allocator_takes : Allocator → ℕ
allocator_takes Malloc = 1
allocator_takes Calloc = 2

-- how many operands an operation has
abbrev pub takes : Work → ℕ
takes (Number value) = 0
takes Null = 0
takes (Text literal) = 0
takes (Local declaration) = 0
takes (Global global) = 0
takes Nothing = 0
takes (Sum bytes direction order) = 2
takes (Member offset) = 1
takes (Arrow offset) = 1
takes (Load access) = 1
takes (Convert from to) = 1
takes (Unary operator ty) = 1
takes Not = 1
takes (Binary operator ty) = 2
takes (Compare operator) = 2
takes (Difference bytes) = 2
takes Judge = 1
takes (Store access) = 2
takes (FetchNumber access works_in) = 1
takes (Update operator access works_in gives) = 4
takes (FetchPointer access) = 1
takes (Move access bytes direction gives) = 3
takes (Call function count) = count
takes (Allocate allocator element) = allocator_takes allocator
takes Free = 1
takes Use = 1
takes Drop = 1
takes (Clear declaration scalar) = 0
takes (Zero declaration) = 0
takes (StoreLocal declaration offset ty scalar) = 1
takes (Spell declaration offset bytes) = 0
takes (Reach kind counted_point) = 0
takes (Meet kind) = 0
takes (Close nothing) = 0

-- the temporaries below a number, the newest first: temporary 0 is the last of the list
abbrev pub below : ℕ → List Operand → List Operand
below number temporaries = drop (length temporaries - number) temporaries

-- the state whose frame has only the temporaries below a number
abbrev pub cut : ℕ → CodeState → CodeState
cut number m = with_stack (below number m.frame.stack) m

-- a frame at the beginning of the graph of a function
abbrev pub code_frame : ℕ → Flow → ℕ → CallFrame Point
code_frame function flow number = record {
  function = function;
  number = number;
  todo = block_of flow flow.entry;
  stack = [];
  visits = replicate flow.counted_points 0;
}

-- a call of a function, which has a graph or no body
abbrev pub call_flow : TypedProgram → RunBudgets → Place → ℕ → Routine → Option Flow → List Operand → CodeState → Act CodeState
call_flow program budgets at function routine None arguments m = call_outside program at function routine arguments m
call_flow program budgets at function routine (Some flow) arguments m = enter_as program budgets (code_frame function flow) at function routine arguments m

-- a touch of a scalar local
abbrev pub if_local : Bool → ℕ → Option ℕ
if_local scalar declaration = if scalar then Some declaration else None

-- the result at the end of a function's body: nothing, or an unset value (C11 6.9.1, paragraph 12)
abbrev pub closed_with : Bool → Operand
closed_with true = NoOperand
closed_with false = Scalar UnsetCell

-- the act of an operation at a source position; its operands are the newest temporaries
abbrev pub do_work : Code → TypedProgram → RunBudgets → Place → Work → CodeState → Act CodeState
do_work code program budgets at (Number n) m = Goes (push_cell (NumberCell n) m)
do_work code program budgets at Null m = Goes (push_cell NullCell m)
do_work code program budgets at (Text literal) m = Goes (push_cell (PointerCell (LiteralObject literal) (pos 0)) m)
do_work code program budgets at (Local declaration) m = Goes (push_cell (PointerCell (LocalObject m.frame.number declaration) (pos 0)) m)
do_work code program budgets at (Global global) m = Goes (push_cell (PointerCell (GlobalObject global) (pos 0)) m)
do_work code program budgets at Nothing m = Goes (push NoOperand m)
do_work code program budgets at (Sum bytes direction order) m =
    sum program.model at (cell_at m (pointer_age order)) (directed direction (number_at m (amount_age order))) bytes
    (λ cell. Goes (push_cell cell (pop_many 2 m)))
do_work code program budgets at (Member offset) m = Goes (push_cell (further (cell_at m 0) offset) (pop m))
do_work code program budgets at (Arrow offset) m = arrow at (cell_at m 0) offset (λ cell. Goes (push_cell cell (pop m)))
do_work code program budgets at (Load access) m =
    load_object program m.memory m.frame.number access (cell_at m 0) (λ memory operand. Goes (push operand (with_memory memory (pop m))))
do_work code program budgets at (Convert from to) m = convert program.model at from to (operand_at m 0) (λ operand. Goes (push operand (pop m)))
do_work code program budgets at (Unary operator ty) m =
    Asks at (operation.Unary operator ty (number_at m 0)) (λ number. Goes (push_cell (NumberCell number) (pop m)))
do_work code program budgets at Not m =
    truth at (cell_at m 0) (λ holds. shows_then at (label.Truth (not holds)) (Goes (push_cell (truth_cell (not holds)) (pop m))))
do_work code program budgets at (Binary operator ty) m =
    operate program.model at operator ty (number_at m 1) (number_at m 0) (λ number. Goes (push_cell (NumberCell number) (pop_many 2 m)))
do_work code program budgets at (Compare operator) m =
    compare at operator (cell_at m 1) (cell_at m 0) (λ number. Goes (push_cell (NumberCell number) (pop_many 2 m)))
do_work code program budgets at (Difference bytes) m =
    difference at (cell_at m 1) (cell_at m 0) bytes (λ number. Goes (push_cell (NumberCell number) (pop_many 2 m)))
do_work code program budgets at Judge m = judge at m
do_work code program budgets at (Store access) m = stores_to program at access 1 (operand_at m 0) 2 (operand_at m 0) m
do_work code program budgets at (FetchNumber access works_in) m =
    load_object program m.memory m.frame.number access (cell_at m 0) (λ memory operand.
    convert_number program.model at access.ty works_in (number_in (cell_of operand)) (λ number.
    Goes (push_cell (NumberCell number) (push operand (with_memory memory m)))))
do_work code program budgets at (Update operator access works_in gives) m =
    operate program.model at operator works_in (number_at m 1) (number_at m 0) (λ number.
    convert_number program.model at (integer works_in) (integer_of access.ty) number (λ stored.
    stores_to program at access 3 (Scalar (NumberCell stored)) 4 (given gives (operand_at m 2) (Scalar (NumberCell stored))) m))
do_work code program budgets at (FetchPointer access) m =
    load_object program m.memory m.frame.number access (cell_at m 0) (λ memory operand. Goes (push operand (with_memory memory m)))
do_work code program budgets at (Move access bytes direction gives) m =
    sum program.model at (cell_at m 1) (directed direction (number_at m 0)) bytes (λ cell.
    stores_to program at access 2 (Scalar cell) 3 (given gives (operand_at m 1) (Scalar cell)) m)
do_work code program budgets at (Call function count) m =
    call_flow program budgets at function (routine_of program function) (flow_of code function) (newest count m) (pop_many count m)
do_work code program budgets at (Allocate allocator element) m = allocate program at allocator element m
do_work code program budgets at Free m = release at (cell_at m 0) (pop m)
do_work code program budgets at Use m = use_result at (operand_at m 0) m
do_work code program budgets at Drop m = Goes (pop m)
do_work code program budgets at (Clear declaration scalar) m =
    touches_then (λ local. Clears m.frame.number local at) (if_local scalar declaration) (Goes (refilled UnsetFill declaration m))
do_work code program budgets at (Zero declaration) m = Goes (refilled ZeroFill declaration m)
do_work code program budgets at (StoreLocal declaration offset ty scalar) m =
    touches_then (λ local. Stores m.frame.number local at) (if_local scalar declaration)
    (Goes (with_memory (changed (write_operand program ty offset (operand_at m 0)) (LocalObject m.frame.number declaration) m.memory) (pop m)))
do_work code program budgets at (Spell declaration offset bytes) m = spell_local program declaration offset bytes m
do_work code program budgets at (Reach kind counted_point) m = reach_counted_point budgets at kind counted_point m
do_work code program budgets at (Meet kind) m = Touches (Meets kind at) (Goes m)
do_work code program budgets at (Close nothing) m = Touches (Meets point.End at) (Goes (push (closed_with nothing) m))
