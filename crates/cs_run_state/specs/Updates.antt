-- Loads, assignments and updates of an object whose access is known: their operands are the newest on the stack.
use Rattle.std.specs.Prelude.{ℕ, ℤ}
use Rattle.cs_types.specs.declared.int_type.IntType.{IntType}
use Rattle.cs_types.specs.Shape.{integer}
use Rattle.cs_ast.specs.declared.place.Place.{Place}
use Rattle.cs_ast.specs.declared.typed.operator.BinOp.{BinOp}
use Rattle.cs_ast.specs.declared.typed.operator.Direction.{Direction}
use Rattle.cs_ast.specs.declared.typed.operator.Gives.{Gives}
use Rattle.cs_ast.specs.TypedProgram.{TypedProgram}
use Rattle.cs_events.specs.Objects.{Cell, NumberCell}
use Rattle.cs_events.specs.Acts.{Act, Goes}
use Rattle.cs_meaning.specs.Initials.{directed, number_in}
use Rattle.cs_meaning.specs.Memory.{Memory}
use Rattle.cs_meaning.specs.Types.{integer_of}
use Rattle.cs_meaning.specs.Access.{Access, load_object, store_object}
use Rattle.cs_meaning.specs.Operators.{operate, convert_number, sum}
use Rattle.cs_meaning.specs.Expressions.{given, number_at, stores_to}
use Rattle.cs_run_log.specs.Computing.{computes}
use Rattle.cs_meaning.specs.Machine.{State, Scalar, cell_at, cell_of, operand_at, pop, push, push_cell, with_memory}

-- a load
abbrev pub load_act : TypedProgram → Access → State → Act State
load_act program access m =
    load_object program m.memory m.frame.number access (cell_at m 0) (λ memory operand.
    Goes (push operand (with_memory memory (pop m))))

-- an assignment, which pushes the stored value
abbrev pub assign_act : TypedProgram → Place → Access → State → Act State
assign_act program at access m = stores_to program at access 1 (operand_at m 0) 2 (operand_at m 0) m

-- the load of an update of a number; the lvalue stays below the value and the value in the operator's type
abbrev pub fetch_number_act : TypedProgram → Place → Access → IntType → State → Act State
fetch_number_act program at access works_in m =
    load_object program m.memory m.frame.number access (cell_at m 0) (λ memory operand.
    convert_number program.model at access.ty works_in (number_in (cell_of operand)) (λ number.
    Goes (push_cell (NumberCell number) (push operand (with_memory memory m)))))

-- the load of an update of a pointer; the lvalue stays below the value
abbrev pub fetch_pointer_act : TypedProgram → Access → State → Act State
fetch_pointer_act program access m =
    load_object program m.memory m.frame.number access (cell_at m 0) (λ memory operand.
    Goes (push operand (with_memory memory m)))

-- an update of a number: the operands are the lvalue, the old value, the same converted, and the right operand
abbrev pub update_act : TypedProgram → Place → BinOp → Access → IntType → Gives → State → Act State
update_act program at op access works_in gives m =
    operate program.model at op works_in (number_at m 1) (number_at m 0) (λ number.
    convert_number program.model at (integer works_in) (integer_of access.ty) number (λ stored.
    stores_to program at access 3 (Scalar (NumberCell stored)) 4
    (given gives (operand_at m 2) (Scalar (NumberCell stored))) m))

-- an update of a pointer by a number of elements of a size in bytes: the operands are the lvalue, the old value, and the amount
abbrev pub move_act : TypedProgram → Place → Access → ℕ → Direction → Gives → State → Act State
move_act program at access bytes direction gives m =
    sum program.model at (cell_at m 1) (directed direction (number_at m 0)) bytes (λ cell.
    stores_to program at access 2 (Scalar cell) 3 (given gives (operand_at m 1) (Scalar cell)) m)

-- the result of an update is stored in a frame's object
abbrev pub stores_computed : TypedProgram → Memory → ℕ → Place → BinOp → Access → IntType → Cell → ℤ → ℤ
    → (Memory → ℤ → Act State) → Act State
stores_computed program memory frame at op access works_in target left right onward =
    computes program at op access works_in left right (λ stored.
    store_object program memory frame at access target (Scalar (NumberCell stored)) (λ after. onward after stored))

-- a moved pointer is stored in a frame's object
abbrev pub stores_moved : TypedProgram → Memory → ℕ → Place → Access → Cell → Cell → ℤ → ℕ → (Memory → Cell → Act State)
    → Act State
stores_moved program memory frame at access target pointer amount bytes onward =
    sum program.model at pointer amount bytes (λ moved.
    store_object program memory frame at access target (Scalar moved) (λ after. onward after moved))
