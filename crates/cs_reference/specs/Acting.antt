-- The operation of an expression of each form on its operands, which are on the stack, defined without the operands' expressions.
use Rattle.std.specs.Prelude.{ℕ, pos, not}
use Rattle.cs_types.specs.Shape.{Shape}
use Rattle.cs_ast.specs.declared.place.Place.{Place}
use Rattle.cs_ast.specs.declared.typed.operator.BinOp.{BinOp}
use Rattle.cs_ast.specs.declared.typed.operator.UnOp.{UnOp}
use Rattle.cs_ast.specs.declared.typed.operator.CmpOp.{CmpOp}
use Rattle.cs_ast.specs.declared.typed.operator.Order.{Order}
use Rattle.cs_ast.specs.declared.typed.operator.Direction.{Direction}
use Rattle.cs_ast.specs.TypedTree.{Typed}
use Rattle.cs_ast.specs.TypedProgram.{TypedProgram}
use Rattle.cs_events.specs.declared.event.Label.TheVariants as label
use Rattle.cs_events.specs.declared.operation.Operation.TheVariants as operation
use Rattle.cs_events.specs.Objects.{LocalObject, NumberCell, PointerCell}
use Rattle.cs_events.specs.Acts.{Act, Goes, Asks}
use Rattle.cs_meaning.specs.Types.{size_of, target_of, integer_of, type_of}
use Rattle.cs_meaning.specs.Initials.{truth_cell, further, directed}
use Rattle.cs_meaning.specs.Access.{shows_then}
use Rattle.cs_meaning.specs.Operators.{truth, operate, convert, sum, compare, difference, arrow}
use Rattle.cs_meaning.specs.Calls.{release}
use Rattle.cs_meaning.specs.Machine.{State, push, push_cell, pop, pop_many, operand_at, cell_at}
use Rattle.cs_meaning.specs.Expressions.{pointer_age, amount_age, number_at}

-- pushes the lvalue of a local of the current frame
abbrev pub local_place : ℕ → State → State
local_place declaration m = push_cell (PointerCell (LocalObject m.frame.number declaration) (pos 0)) m

-- replaces the lvalue of an object by that of a member
abbrev pub member_place : ℕ → State → State
member_place offset m = push_cell (further (cell_at m 0) offset) (pop m)

-- the element of an array
abbrev pub index_act : TypedProgram → Place → Shape → Order → State → Act State
index_act program at ty order m =
    sum program.model at (cell_at m (pointer_age order)) (number_at m (amount_age order)) (size_of program ty) (λ cell. Goes (push_cell cell (pop_many 2 m)))

-- the member of the object that a pointer points to
abbrev pub arrow_act : Place → ℕ → State → Act State
arrow_act at offset m = arrow at (cell_at m 0) offset (λ cell. Goes (push_cell cell (pop m)))

-- a conversion
abbrev pub convert_act : TypedProgram → Place → Shape → Shape → State → Act State
convert_act program at from to m = convert program.model at from to (operand_at m 0) (λ operand. Goes (push operand (pop m)))

-- operators
abbrev pub unary_act : Place → Shape → UnOp → State → Act State
unary_act at ty op m = Asks at (operation.Unary op (integer_of ty) (number_at m 0)) (λ number. Goes (push_cell (NumberCell number) (pop m)))

abbrev pub not_act : Place → State → Act State
not_act at m = truth at (cell_at m 0) (λ holds. shows_then at (label.Truth (not holds)) (Goes (push_cell (truth_cell (not holds)) (pop m))))

abbrev pub binary_act : TypedProgram → Place → Shape → BinOp → State → Act State
binary_act program at ty op m =
    operate program.model at op (integer_of ty) (number_at m 1) (number_at m 0) (λ number. Goes (push_cell (NumberCell number) (pop_many 2 m)))

abbrev pub compare_act : Place → CmpOp → State → Act State
compare_act at op m = compare at op (cell_at m 1) (cell_at m 0) (λ number. Goes (push_cell (NumberCell number) (pop_many 2 m)))

abbrev pub sum_act : TypedProgram → Place → Shape → Direction → Order → State → Act State
sum_act program at ty direction order m =
    sum program.model at (cell_at m (pointer_age order)) (directed direction (number_at m (amount_age order))) (size_of program (target_of ty))
    (λ cell. Goes (push_cell cell (pop_many 2 m)))

abbrev pub difference_act : TypedProgram → Place → Shape → State → Act State
difference_act program at ty m =
    difference at (cell_at m 1) (cell_at m 0) (size_of program (target_of ty)) (λ number. Goes (push_cell (NumberCell number) (pop_many 2 m)))

-- the size of what the pointer that an expression designates points to
abbrev pub size_of_target : TypedProgram → Typed → ℕ
size_of_target program object = size_of program (target_of (type_of object))

-- a call of `free`
abbrev pub free_act : Place → State → Act State
free_act at m = release at (cell_at m 0) (pop m)
