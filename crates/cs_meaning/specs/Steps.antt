-- The reference machine: its steps, and how it begins.
use Rattle.std.specs.Prelude.{ℕ, ◌+◌, ℤ, Bool, true, false, List, [], ◌∷◌, length, map, take, Option, Some, None, option_map, slice_get}
use Rattle.cs_types.specs.declared.int_type.IntType.TheVariants.{Char}
use Rattle.cs_types.specs.Shape.{integer, array}
use Rattle.cs_inputs.specs.declared.path.Path.{Path}
use Rattle.cs_inputs.specs.declared.path.Root.TheVariants as root
use Rattle.cs_ast.specs.TypedTree.{Initial}
use Rattle.cs_ast.specs.TypedProgram.{TypedProgram, FileObject, Routine, Variable}
use Rattle.cs_events.specs.declared.outcome.RunBudgets.{RunBudgets}
use Rattle.cs_events.specs.declared.point.PointKind.TheVariants as point
use Rattle.cs_events.specs.InputCells.{input_cell, input_kind}
use Rattle.cs_events.specs.Objects.{GlobalObject, LiteralObject, Cell, UnsetCell}
use Rattle.cs_events.specs.Touches.{Meets}
use Rattle.cs_events.specs.Acts.{Act, Goes, Touches}
use Rattle.cs_meaning.specs.Types.{size_of}
use Rattle.cs_meaning.specs.Initials.{Spelled, pieces}
use Rattle.cs_meaning.specs.Memory.{Block, Memory, Fill, ZeroFill, InitialFill, InputFill, new_block}
use Rattle.cs_meaning.specs.Inputs.{opened}
use Rattle.cs_meaning.specs.Machine.{Scalar, Item, Evaluate, EvaluateUnused, Act as Acting, Fetch, Choose, Judge, Use, Drop, Store, Spell, Execute}
use Rattle.cs_meaning.specs.Machine.{Decide, Turn, Again, Out, Begin, End, Give, Leave, State, to_do, push, pop, operand_at, routine_of}
use Rattle.cs_meaning.specs.Calls.{root_path, with_locals, new_frame, falls_off, leave}
use Rattle.cs_meaning.specs.Expressions.{evaluates, uses, act, fetch, choose, judge, use_result}
use Rattle.cs_meaning.specs.Statements.{store_local, spell_local, execute, decide, turn, again}

-- the things to do at the end of a function's body
abbrev pub at_end : Routine → List Item
at_end routine = End routine.closes (falls_off routine.returns) ∷ []

-- the act of the first thing to do, with the other things still to do
abbrev pub do_item : TypedProgram → RunBudgets → Item → State → Act State
do_item program budgets (Evaluate e) m = Goes (to_do (evaluates e (uses e m.frame.todo)) m)
do_item program budgets (EvaluateUnused e) m = Goes (to_do (evaluates e m.frame.todo) m)
do_item program budgets (Acting e) m = act program budgets e m
do_item program budgets (Fetch e) m = fetch program e m
do_item program budgets (Choose e) m = choose e m
do_item program budgets (Judge at) m = judge at m
do_item program budgets (Use at) m = use_result at (operand_at m 0) m
do_item program budgets Drop m = Goes (pop m)
do_item program budgets (Store at declaration offset ty) m = store_local program at declaration offset ty m
do_item program budgets (Spell declaration offset bytes) m = spell_local program declaration offset bytes m
do_item program budgets (Execute s counted_point) m = execute program budgets (at_end (routine_of program m.frame.function)) s counted_point m
do_item program budgets (Decide s counted_point) m = decide s counted_point m
do_item program budgets (Turn s counted_point) m = turn budgets s counted_point m
do_item program budgets (Again s counted_point) m = Goes (to_do (again s counted_point m.frame.todo) m)
do_item program budgets Out m = Goes m
do_item program budgets (Begin at) m = Touches (Meets point.Enter at) (Goes m)
do_item program budgets (End at value) m = Touches (Meets point.End at) (Goes (to_do (Leave ∷ []) (push value m)))
do_item program budgets (Give at) m = Touches (Meets point.Return at) (Goes (to_do (Leave ∷ []) m))
do_item program budgets Leave m = leave (operand_at m 0) m

-- with nothing left to do, as after a `break` outside of loops, the frame returns an unset value
abbrev pub step_with : TypedProgram → RunBudgets → List Item → State → Act State
step_with program budgets [] m = leave (Scalar UnsetCell) m
step_with program budgets (item ∷ following) m = do_item program budgets item (to_do following m)

-- one step of the machine
abbrev pub step : TypedProgram → RunBudgets → State → Act State
step program budgets m = step_with program budgets m.frame.todo m

-- the initial contents of a file-scope object: for a const one its initializer, or zeros (C11 6.7.9, paragraph 10); else inputs
abbrev pub global_fill : TypedProgram → FileObject → Bool → Option Initial → Fill
global_fill program object false initial = InputFill (root_path (root.Global object.name))
global_fill program object true None = ZeroFill
global_fill program object true (Some initial) = InitialFill (pieces program object.ty 0 initial)

abbrev pub global_block : TypedProgram → FileObject → Block
global_block program object = new_block object.ty (size_of program object.ty) (global_fill program object object.constant object.initial)

-- a string literal holds its bytes and a zero byte (C11 6.4.5, paragraph 6)
abbrev pub literal_block : List ℕ → Block
literal_block bytes = new_block (array (integer Char) (length bytes + 1)) (length bytes + 1) (InitialFill (Spelled 0 bytes ∷ []))

-- the file-scope objects and the literals
abbrev pub static_memory : TypedProgram → Memory
static_memory program (GlobalObject global) = option_map (global_block program) (slice_get program.globals global)
static_memory program (LiteralObject literal) = option_map literal_block (slice_get program.literals literal)
static_memory program other = None

-- the path of a parameter
abbrev pub parameter_path : Variable → Path
parameter_path v = root_path (root.Param v.name)

-- the initial cell of a parameter of an entry
abbrev pub received : TypedProgram → (Path → ℤ) → Variable → Cell
received program inputs v = input_cell program.model (parameter_path v) (input_kind v.ty) (inputs (parameter_path v))

-- memory with the start blocks of an entry's parameters
abbrev pub with_received : TypedProgram → (Path → ℤ) → List Variable → Memory → Memory
with_received program inputs [] memory = memory
with_received program inputs (v ∷ others) memory =
    with_received program inputs others (opened program (parameter_path v) v.ty v.block (received program inputs v) memory)

-- the parameters of a function
abbrev pub parameters_of : Routine → List Variable
parameters_of routine = take routine.parameters routine.variables

-- the machine in the first frame of an entry, whose parameters hold the values of their paths
abbrev pub started : TypedProgram → (Path → ℤ) → ℕ → Routine → State
started program inputs entry routine = record {
  frame = new_frame entry 0 routine;
  callers = [];
  memory = with_locals program 0 routine.variables (map (λ v. Scalar (received program inputs v)) (parameters_of routine))
      (with_received program inputs (parameters_of routine) (static_memory program));
  frames = 1;
  allocations = 0;
  calls = 0;
}

abbrev pub start : TypedProgram → (Path → ℤ) → ℕ → State
start program inputs entry = started program inputs entry (routine_of program entry)
