-- Calls (C11 6.5.2.2, 7.22.3): frames, functions without a body, allocations and releases.
use Rattle.std.specs.Prelude.{ℕ, ◌+◌, ◌==◌, nat_lt, ℤ, pos, negsuc, Bool, true, false, not, List, [], ◌∷◌, length, replicate, Option, Some}
use Rattle.std.specs.Prelude.{None, option_map, unwrap_or, slice_get, if◌then◌else◌}
use Rattle.std.specs.Ordering.{int_eq}
use Rattle.cs_types.specs.DataModel.{size_type_of}
use Rattle.cs_types.specs.Shape.{Shape, void}
use Rattle.cs_inputs.specs.declared.path.Path.{Path}
use Rattle.cs_inputs.specs.declared.path.Root.{Root}
use Rattle.cs_inputs.specs.declared.path.Root.TheVariants as root
use Rattle.cs_ast.specs.declared.place.Place.{Place}
use Rattle.cs_ast.specs.declared.typed.operator.BinOp.TheVariants.{Mul}
use Rattle.cs_ast.specs.declared.typed.operator.Allocator.{Allocator}
use Rattle.cs_ast.specs.declared.typed.operator.Allocator.TheVariants.{Malloc, Calloc}
use Rattle.cs_ast.specs.TypedTree.{Statement}
use Rattle.cs_ast.specs.TypedProgram.{TypedProgram, Routine, Variable}
use Rattle.cs_model.specs.declared.kind.Kind.TheVariants as kind
use Rattle.cs_model.specs.declared.standing.Standing.{Standing}
use Rattle.cs_model.specs.declared.standing.Standing.TheVariants.{Live, Freed, Ended}
use Rattle.cs_events.specs.declared.event.Label.TheVariants as label
use Rattle.cs_events.specs.declared.operation.Operation.TheVariants as operation
use Rattle.cs_events.specs.declared.outcome.Outcome.TheVariants.{Done, Fault, Over}
use Rattle.cs_events.specs.declared.outcome.Budget.TheVariants.{Depth}
use Rattle.cs_events.specs.declared.outcome.Returned.{Returned}
use Rattle.cs_events.specs.declared.outcome.Returned.TheVariants as returned
use Rattle.cs_events.specs.declared.outcome.RunBudgets.{RunBudgets}
use Rattle.cs_events.specs.Operations.{is_true}
use Rattle.cs_events.specs.Objects.{Object, StartBlock, LocalObject, HeapBlock, Cell, NumberCell, NullCell, PointerCell, UnsetCell}
use Rattle.cs_events.specs.Acts.{Act, Goes, Stops, Asks, Allocates}
use Rattle.cs_meaning.specs.Types.{size_of, element_of}
use Rattle.cs_meaning.specs.Initials.{number_in}
use Rattle.cs_meaning.specs.Memory.{Block, Memory, Fill, UnsetFill, ZeroFill, InputFill, new_block, with_block, changed, refill, stand, is_constant, Unknown}
use Rattle.cs_meaning.specs.Access.{NO_BLOCK, shows_then, receive}
use Rattle.cs_meaning.specs.Operators.{operate}
use Rattle.cs_meaning.specs.Machine.{Operand, Scalar, Whole, Nothing, Execute, Begin, End, CallFrame, Frame, Running, State, push, push_cell, pop}
use Rattle.cs_meaning.specs.Machine.{pop_many, with_memory, cell_of, cell_at, newest, routine_of, body_of}
use Rattle.cs_meaning.specs.CountedPoints.{counted_points}

-- the path of the result of a call, of what a call wrote through an argument, and of an allocation
abbrev pub root_path : Root → Path
root_path root = record { root = root; cells = [] }

abbrev pub result_path : ℕ → Path
result_path call = root_path (root.Call call)

abbrev pub wrote_path : ℕ → ℕ → Path
wrote_path call argument = root_path (root.Wrote call argument)

abbrev pub allocation_path : ℕ → Path
allocation_path allocation = root_path (root.Malloc allocation)

-- the initial contents of a parameter: its argument, at offset 0
abbrev pub argument_at : Option Operand → ℕ → Option Cell
argument_at argument offset = if offset == 0 then option_map cell_of argument else None

-- a local of a new frame: it is unset, but a parameter holds its argument (C11 6.2.4, paragraph 6)
abbrev pub local_block : TypedProgram → Option Operand → Variable → Block
local_block program argument v = record (new_block v.ty (size_of program v.ty) UnsetFill) { written = argument_at argument }

-- memory with all locals of a new frame
abbrev pub with_locals : TypedProgram → ℕ → List Variable → List Operand → Memory → Memory
with_locals program frame variables arguments memory (LocalObject number declaration) =
    if number == frame
    then option_map (local_block program (slice_get arguments declaration)) (slice_get variables declaration)
    else memory (LocalObject number declaration)
with_locals program frame variables arguments memory other = memory other

-- memory once a frame has ended: its locals no longer exist
abbrev pub without_locals : ℕ → Memory → Memory
without_locals frame memory (LocalObject number declaration) = if number == frame then None else memory (LocalObject number declaration)
without_locals frame memory other = memory other

-- the result at the end of a function's body: nothing, or an unset value (C11 6.9.1, paragraph 12)
abbrev pub falls_off : Shape → Operand
falls_off void = Nothing
falls_off other = Scalar UnsetCell

-- a frame at the beginning of a function
abbrev pub new_frame : ℕ → ℕ → Routine → Frame
new_frame function number routine = record {
  function = function;
  number = number;
  todo = Begin routine.at ∷ (Execute (body_of routine) 0 ∷ (End routine.closes (falls_off routine.returns) ∷ []));
  stack = [];
  visits = replicate (counted_points (body_of routine)) 0;
}

-- the machine in a new frame and its locals, with these arguments
abbrev pub inside : {Rest : Type 0} → TypedProgram → CallFrame Rest → Routine → List Operand → Running Rest → Running Rest
inside program frame routine arguments m = record m {
  frame = frame;
  callers = m.frame ∷ m.callers;
  memory = with_locals program m.frames routine.variables arguments m.memory;
  frames = m.frames + 1;
}

-- the machine in a new frame of a function, with these arguments
abbrev pub entered : TypedProgram → ℕ → Routine → List Operand → State → State
entered program function routine arguments m = inside program (new_frame function m.frames routine) routine arguments m

-- a further frame exceeds the budget of depth if it is used up
abbrev pub within_depth : {S : Type 0} → RunBudgets → Place → ℕ → Act S → Act S
within_depth budgets at frames act = if nat_lt frames budgets.depth then act else Stops (Over Depth at)

-- a call of a function with a body: it shows, unless the budget of depth is used up
abbrev pub enter_as : {Rest : Type 0} → TypedProgram → RunBudgets → (ℕ → CallFrame Rest) → Place → ℕ → Routine → List Operand
    → Running Rest → Act (Running Rest)
enter_as program budgets begins at function routine arguments m =
    within_depth budgets at (length m.callers + 1)
    (shows_then at (label.Callee function) (Goes (inside program (begins m.frames) routine arguments m)))

abbrev pub enter : TypedProgram → RunBudgets → Place → ℕ → Routine → List Operand → State → Act State
enter program budgets at function routine arguments m = enter_as program budgets (λ number. new_frame function number routine) at function routine arguments m

-- whether a function without a body may write an object with this standing
abbrev pub is_writable : TypedProgram → Object → Standing → Bool
is_writable program object Live = not (is_constant program object)
is_writable program object Freed = false
is_writable program object Ended = false

-- an object after a call of such a function: its scalars are inputs below a path
abbrev pub overwrite : TypedProgram → Object → Path → Block → Block
overwrite program object path block = if is_writable program object block.standing then refill (InputFill path) block else block

-- the effect of such a call on the object that an argument points to: it shows whether there is one, and writes all of it
abbrev pub write_through : {S : Type 0} → TypedProgram → Place → Path → Cell → Memory → (Memory → Act S) → Act S
write_through program at path NullCell memory onward = shows_then at (label.Look false) (onward memory)
write_through program at path (PointerCell object offset) memory onward =
    shows_then at (label.Look true) (onward (changed (overwrite program object path) object memory))
write_through program at path (NumberCell n) memory onward = onward memory
write_through program at path UnsetCell memory onward = onward memory

-- the same for each argument whose parameter may be written through, from the argument with a number on
abbrev pub write_arguments : {S : Type 0} → TypedProgram → Place → ℕ → ℕ → List Bool → List Operand → Memory → (Memory → Act S) → Act S
write_arguments program at call argument (true ∷ written) (operand ∷ operands) memory onward =
    write_through program at (wrote_path call argument) (cell_of operand) memory
    (λ after. write_arguments program at call (argument + 1) written operands after onward)
write_arguments program at call argument (false ∷ written) (operand ∷ operands) memory onward =
    write_arguments program at call (argument + 1) written operands memory onward
write_arguments program at call argument written operands memory onward = onward memory

-- the result of a call of such a function, by its type: it is looked up, except if the type is `void`
abbrev pub outside_result : {S : Type 0} → TypedProgram → Shape → ℕ → Memory → (Memory → Operand → Act S) → Act S
outside_result program void call memory onward = onward memory Nothing
outside_result program ty call memory onward = receive program memory (Unknown (result_path call) ty) (λ after cell. onward after (Scalar cell))

-- a call of a function without a body: it shows, gets a number, its result is looked up, and it writes through its arguments
abbrev pub call_outside : {Rest : Type 0} → TypedProgram → Place → ℕ → Routine → List Operand → Running Rest → Act (Running Rest)
call_outside program at function routine arguments m =
    shows_then at (label.Callee function)
    (outside_result program routine.returns (m.calls + 1) m.memory (λ memory result.
    write_arguments program at (m.calls + 1) 0 routine.written arguments memory (λ after.
    Goes (push result (record m { memory = after; calls = m.calls + 1 })))))

-- a call of a function, with a body or without one
abbrev pub call_routine : TypedProgram → RunBudgets → Place → ℕ → Routine → Option Statement → List Operand → State → Act State
call_routine program budgets at function routine None arguments m = call_outside program at function routine arguments m
call_routine program budgets at function routine (Some body) arguments m = enter program budgets at function routine arguments m

-- a call with `count` arguments, which are on the stack
abbrev pub call : TypedProgram → RunBudgets → Place → ℕ → ℕ → State → Act State
call program budgets at function count m =
    call_routine program budgets at function (routine_of program function) (routine_of program function).body (newest count m) (pop_many count m)

-- what an entry returned
abbrev pub returned_cell : Cell → Returned
returned_cell (NumberCell n) = returned.Number n
returned_cell NullCell = returned.Null
returned_cell (PointerCell object offset) = returned.Object
returned_cell UnsetCell = returned.Unset

abbrev pub returned_of : Operand → Returned
returned_of (Scalar cell) = returned_cell cell
returned_of (Whole cells) = returned.Unset
returned_of Nothing = returned.Nothing

-- the current frame ends, and returns a value to its caller; the run is done if there is none
abbrev pub leave_to : {Rest : Type 0} → List (CallFrame Rest) → Operand → Running Rest → Act (Running Rest)
leave_to [] value m = Stops (Done (returned_of value))
leave_to (caller ∷ callers) value m = Goes (record m {
  frame = record caller { stack = value ∷ caller.stack };
  callers = callers;
  memory = without_locals m.frame.number m.memory;
})

abbrev pub leave : {Rest : Type 0} → Operand → Running Rest → Act (Running Rest)
leave value m = leave_to m.callers value m

-- a number as a number of bytes; 0 if it is negative
abbrev pub bytes_of_number : ℤ → ℕ
bytes_of_number (pos n) = n
bytes_of_number (negsuc n) = 0

-- the result of an allocation: a block of a size with this fill, or null
abbrev pub allocated : {Rest : Type 0} → Shape → ℤ → Fill → Bool → Running Rest → Running Rest
allocated element bytes fill true m =
    push_cell (PointerCell (HeapBlock (m.allocations + 1)) (pos 0))
    (record m {
      allocations = m.allocations + 1;
      memory = with_block (HeapBlock (m.allocations + 1)) (new_block (element_of element) (bytes_of_number bytes) fill) m.memory;
    })
allocated element bytes fill false m = push_cell NullCell (record m { allocations = m.allocations + 1 })

-- an allocation of a number of bytes (C11 7.22.3.4)
abbrev pub allocate_bytes : {Rest : Type 0} → Place → Shape → ℤ → Fill → Running Rest → Act (Running Rest)
allocate_bytes at element bytes fill m =
    Allocates at (allocation_path (m.allocations + 1)) (λ given. Goes (allocated element bytes fill given m))

-- an allocation of `count` elements of a size: null if the product is too large (C11 7.22.3.2)
abbrev pub allocate_zeros : {Rest : Type 0} → TypedProgram → Place → Shape → ℤ → ℤ → Running Rest → Act (Running Rest)
allocate_zeros program at element count size m =
    Asks at (operation.Product count size) (λ holds.
    if is_true holds
    then operate program.model at Mul (size_type_of program.model) count size (λ bytes. allocate_bytes at element bytes ZeroFill m)
    else Goes (allocated element (pos 0) ZeroFill false m))

-- a call of `malloc` or `calloc`, whose arguments are on the stack
abbrev pub allocate : {Rest : Type 0} → TypedProgram → Place → Allocator → Shape → Running Rest → Act (Running Rest)
allocate program at Malloc element m = allocate_bytes at element (number_in (cell_at m 0)) UnsetFill (pop m)
allocate program at Calloc element m = allocate_zeros program at element (number_in (cell_at m 1)) (number_in (cell_at m 0)) (pop_many 2 m)

-- only the beginning of a block can be freed (C11 7.22.3.3)
abbrev pub at_beginning : {S : Type 0} → Place → ℤ → Act S → Act S
at_beginning at offset act = if int_eq offset (pos 0) then act else Stops (Fault kind.BadFree at)

-- a block that was freed can't be freed again
abbrev pub not_freed : {S : Type 0} → Place → Standing → Act S → Act S
not_freed at Live act = act
not_freed at Freed act = Stops (Fault kind.DoubleFree at)
not_freed at Ended act = Stops (Fault kind.BadFree at)

-- an object that doesn't exist can't be freed
abbrev pub known : {S : Type 0} → Place → Option Block → Act S → Act S
known at None act = Stops (Fault kind.BadFree at)
known at (Some block) act = act

-- only start and heap blocks can be freed
abbrev pub releasable : {S : Type 0} → Place → Object → Act S → Act S
releasable at (StartBlock path) act = act
releasable at (HeapBlock allocation) act = act
releasable at other act = Stops (Fault kind.BadFree at)

-- frees a block with this standing
abbrev pub release_block : {Rest : Type 0} → Place → Standing → Object → ℤ → Running Rest → Act (Running Rest)
release_block at standing object offset m =
    not_freed at standing (at_beginning at offset (Goes (push Nothing (with_memory (changed (stand Freed) object m.memory) m))))

-- frees a block that may not exist
abbrev pub release_known : {Rest : Type 0} → Place → Option Block → Object → ℤ → Running Rest → Act (Running Rest)
release_known at found object offset m = known at found (release_block at (unwrap_or found NO_BLOCK).standing object offset m)

-- frees an object
abbrev pub release_object : {Rest : Type 0} → Place → Object → ℤ → Running Rest → Act (Running Rest)
release_object at object offset m = releasable at object (release_known at (m.memory object) object offset m)

-- a call of `free`
abbrev pub release : {Rest : Type 0} → Place → Cell → Running Rest → Act (Running Rest)
release at NullCell m = shows_then at (label.Look false) (Goes (push Nothing m))
release at (PointerCell object offset) m = shows_then at (label.Look true) (release_object at object offset m)
release at (NumberCell n) m = Goes (push Nothing m)
release at UnsetCell m = Goes (push Nothing m)
