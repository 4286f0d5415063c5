-- The operations of the code except calls, for every machine in frames, whatever it has still to do.
use Rattle.std.specs.Prelude.{ℕ, pos, not}
use Rattle.cs_types.specs.Shape.{integer}
use Rattle.cs_ast.specs.declared.place.Place.{Place}
use Rattle.cs_ast.specs.TypedProgram.{TypedProgram}
use Rattle.cs_events.specs.declared.event.Label.TheVariants as label
use Rattle.cs_events.specs.declared.operation.Operation.TheVariants as operation
use Rattle.cs_events.specs.declared.outcome.RunBudgets.{RunBudgets}
use Rattle.cs_events.specs.declared.point.PointKind.TheVariants as point
use Rattle.cs_events.specs.Objects.{GlobalObject, LiteralObject, LocalObject, NumberCell, NullCell, PointerCell}
use Rattle.cs_events.specs.Touches.{Meets, Stores, Clears}
use Rattle.cs_events.specs.Acts.{Act, Goes, Asks, Touches}
use Rattle.cs_meaning.specs.Initials.{number_in, truth_cell, further, directed}
use Rattle.cs_meaning.specs.Types.{integer_of}
use Rattle.cs_meaning.specs.Memory.{UnsetFill, ZeroFill, changed}
use Rattle.cs_meaning.specs.Access.{shows_then, touches_then, load_object, write_operand}
use Rattle.cs_meaning.specs.Operators.{truth, operate, convert_number, convert, sum, compare, difference, arrow}
use Rattle.cs_meaning.specs.Machine.{Scalar, Nothing as NoOperand, Running, push, push_cell, pop, pop_many, with_stack, with_memory, operand_at, cell_of}
use Rattle.cs_meaning.specs.Machine.{cell_at}
use Rattle.cs_meaning.specs.CountedPoints.{reach_counted_point}
use Rattle.cs_meaning.specs.Calls.{allocate, release}
use Rattle.cs_meaning.specs.Expressions.{pointer_age, amount_age, given, number_at, stores_to, judge, use_result}
use Rattle.cs_meaning.specs.Statements.{refilled, spell_local}
use Rattle.cs_cfg.specs.Graph.{Work, Number, Null, Text, Local, Global, Nothing, Sum, Member, Arrow, Load, Convert, Unary, Not, Binary, Compare, Difference}
use Rattle.cs_cfg.specs.Graph.{Judge, Store, FetchNumber, Update, FetchPointer, Move, Call, Allocate, Free, Use, Drop, Clear, Zero, StoreLocal, Spell, Reach}
use Rattle.cs_cfg.specs.Graph.{Meet, Close}
use Rattle.cs_cfg.specs.Working.{below, if_local, closed_with}

-- the machine whose frame has only the temporaries below a number
abbrev pub cut_to : {Rest : Type 0} → ℕ → Running Rest → Running Rest
cut_to number m = with_stack (below number m.frame.stack) m

-- the act of an operation, whose operands are the newest temporaries. A call continues in another frame, and is defined elsewhere
abbrev pub works : {Rest : Type 0} → TypedProgram → RunBudgets → Place → Work → Running Rest → Act (Running Rest)
works program budgets at (Number n) m = Goes (push_cell (NumberCell n) m)
works program budgets at Null m = Goes (push_cell NullCell m)
works program budgets at (Text literal) m = Goes (push_cell (PointerCell (LiteralObject literal) (pos 0)) m)
works program budgets at (Local declaration) m = Goes (push_cell (PointerCell (LocalObject m.frame.number declaration) (pos 0)) m)
works program budgets at (Global global) m = Goes (push_cell (PointerCell (GlobalObject global) (pos 0)) m)
works program budgets at Nothing m = Goes (push NoOperand m)
works program budgets at (Sum bytes direction order) m =
    sum program.model at (cell_at m (pointer_age order)) (directed direction (number_at m (amount_age order))) bytes
    (λ cell. Goes (push_cell cell (pop_many 2 m)))
works program budgets at (Member offset) m = Goes (push_cell (further (cell_at m 0) offset) (pop m))
works program budgets at (Arrow offset) m = arrow at (cell_at m 0) offset (λ cell. Goes (push_cell cell (pop m)))
works program budgets at (Load access) m =
    load_object program m.memory m.frame.number access (cell_at m 0) (λ memory operand. Goes (push operand (with_memory memory (pop m))))
works program budgets at (Convert from to) m = convert program.model at from to (operand_at m 0) (λ operand. Goes (push operand (pop m)))
works program budgets at (Unary operator ty) m = Asks at (operation.Unary operator ty (number_at m 0)) (λ number. Goes (push_cell (NumberCell number) (pop m)))
works program budgets at Not m = truth at (cell_at m 0) (λ holds. shows_then at (label.Truth (not holds)) (Goes (push_cell (truth_cell (not holds)) (pop m))))
works program budgets at (Binary operator ty) m =
    operate program.model at operator ty (number_at m 1) (number_at m 0) (λ number. Goes (push_cell (NumberCell number) (pop_many 2 m)))
works program budgets at (Compare operator) m = compare at operator (cell_at m 1) (cell_at m 0) (λ number. Goes (push_cell (NumberCell number) (pop_many 2 m)))
works program budgets at (Difference bytes) m = difference at (cell_at m 1) (cell_at m 0) bytes (λ number. Goes (push_cell (NumberCell number) (pop_many 2 m)))
works program budgets at Judge m = judge at m
works program budgets at (Store access) m = stores_to program at access 1 (operand_at m 0) 2 (operand_at m 0) m
works program budgets at (FetchNumber access works_in) m =
    load_object program m.memory m.frame.number access (cell_at m 0) (λ memory operand.
    convert_number program.model at access.ty works_in (number_in (cell_of operand)) (λ number.
    Goes (push_cell (NumberCell number) (push operand (with_memory memory m)))))
works program budgets at (Update operator access works_in gives) m =
    operate program.model at operator works_in (number_at m 1) (number_at m 0) (λ number.
    convert_number program.model at (integer works_in) (integer_of access.ty) number (λ stored.
    stores_to program at access 3 (Scalar (NumberCell stored)) 4 (given gives (operand_at m 2) (Scalar (NumberCell stored))) m))
works program budgets at (FetchPointer access) m =
    load_object program m.memory m.frame.number access (cell_at m 0) (λ memory operand. Goes (push operand (with_memory memory m)))
works program budgets at (Move access bytes direction gives) m =
    sum program.model at (cell_at m 1) (directed direction (number_at m 0)) bytes (λ cell.
    stores_to program at access 2 (Scalar cell) 3 (given gives (operand_at m 1) (Scalar cell)) m)
works program budgets at (Call function count) m = Goes m
works program budgets at (Allocate allocator element) m = allocate program at allocator element m
works program budgets at Free m = release at (cell_at m 0) (pop m)
works program budgets at Use m = use_result at (operand_at m 0) m
works program budgets at Drop m = Goes (pop m)
works program budgets at (Clear declaration scalar) m =
    touches_then (λ local. Clears m.frame.number local at) (if_local scalar declaration) (Goes (refilled UnsetFill declaration m))
works program budgets at (Zero declaration) m = Goes (refilled ZeroFill declaration m)
works program budgets at (StoreLocal declaration offset ty scalar) m =
    touches_then (λ local. Stores m.frame.number local at) (if_local scalar declaration)
    (Goes (with_memory (changed (write_operand program ty offset (operand_at m 0)) (LocalObject m.frame.number declaration) m.memory) (pop m)))
works program budgets at (Spell declaration offset bytes) m = spell_local program declaration offset bytes m
works program budgets at (Reach kind counted_point) m = reach_counted_point budgets at kind counted_point m
works program budgets at (Meet kind) m = Touches (Meets kind at) (Goes m)
works program budgets at (Close nothing) m = Touches (Meets point.End at) (Goes (push (closed_with nothing) m))
