-- The execution of statements (C11 6.8).
use Rattle.std.specs.Prelude.{ℕ, zero, suc, ◌+◌, ℤ, Bool, false, List, [], ◌∷◌, Option, Some, None, unwrap_or, option_map, slice_get}
use Rattle.std.specs.Prelude.{if◌then◌else◌}
use Rattle.std.specs.Ordering.{int_eq}
use Rattle.cs_types.specs.Shape.{Shape, void}
use Rattle.cs_ast.specs.declared.place.Place.{Place}
use Rattle.cs_ast.specs.declared.typed.statement.Case.{Case}
use Rattle.cs_ast.specs.TypedTree.{Typed, Initial, Value, Statement, Block, Declare, Run, If, IfElse, While, Do, For, Switch, Goto, Label, Break, Continue}
use Rattle.cs_ast.specs.TypedTree.{Return, Statements, Empty, Then, count_of}
use Rattle.cs_ast.specs.TypedProgram.{TypedProgram, Variable}
use Rattle.cs_events.specs.declared.event.Label.TheVariants as label
use Rattle.cs_events.specs.declared.outcome.RunBudgets.{RunBudgets}
use Rattle.cs_events.specs.declared.point.PointKind.TheVariants as point
use Rattle.cs_events.specs.Objects.{LocalObject}
use Rattle.cs_events.specs.Touches.{Meets, Stores, Clears}
use Rattle.cs_events.specs.Acts.{Act, Goes, Touches}
use Rattle.cs_meaning.specs.Types.{type_of, is_scalar}
use Rattle.cs_meaning.specs.Initials.{Piece, Evaluated, Spelled, pieces, number_in}
use Rattle.cs_meaning.specs.Memory.{Fill, UnsetFill, ZeroFill, changed, refill}
use Rattle.cs_meaning.specs.Access.{shows_then, touches_then, write_operand, write_bytes}
use Rattle.cs_meaning.specs.Operators.{branch}
use Rattle.cs_meaning.specs.Machine.{Nothing, Item, Evaluate, EvaluateUnused, Drop, Store, Spell, Execute, Decide, Turn, Again, Out, Give, Running, State}
use Rattle.cs_meaning.specs.Machine.{to_do, push, pop, with_memory, operand_at, cell_at, routine_of, body_of}
use Rattle.cs_meaning.specs.CountedPoints.{counted_points, counted_points_in, reach_counted_point}
use Rattle.cs_meaning.specs.Jumps.{executes, broken_out, continued, Landing, landing}

-- the type of a local of the current function
abbrev pub local_type : {Rest : Type 0} → TypedProgram → ℕ → Running Rest → Shape
local_type program declaration m =
    unwrap_or (option_map (λ (v : Variable). v.ty) (slice_get (routine_of program m.frame.function).variables declaration)) void

-- a local of the current frame, if it is a scalar
abbrev pub if_scalar : Shape → ℕ → Option ℕ
if_scalar ty declaration = if is_scalar ty then Some declaration else None

-- the machine in which a local of the current frame has the contents of a fill
abbrev pub refilled : {Rest : Type 0} → Fill → ℕ → Running Rest → Running Rest
refilled fill declaration m = with_memory (changed (refill fill) (LocalObject m.frame.number declaration) m.memory) m

-- the pieces of an initializer, stored one after another
abbrev pub stores_pieces : Place → ℕ → List Piece → List Item → List Item
stores_pieces at declaration [] following = following
stores_pieces at declaration (Evaluated offset e ∷ others) following =
    Evaluate e ∷ (Store at declaration offset (type_of e) ∷ stores_pieces at declaration others following)
stores_pieces at declaration (Spelled offset bytes ∷ others) following = Spell declaration offset bytes ∷ stores_pieces at declaration others following

-- a declaration without an initializer: the object becomes unset, which is a touch if it is a scalar
abbrev pub clear_local : {Rest : Type 0} → TypedProgram → Place → ℕ → Running Rest → Act (Running Rest)
clear_local program at declaration m =
    touches_then (λ local. Clears m.frame.number local at) (if_scalar (local_type program declaration m) declaration) (Goes (refilled UnsetFill declaration m))

-- a declaration (C11 6.2.4, paragraph 6; 6.7.9): the object becomes unset, or gets a value, or becomes zero before its pieces are stored
abbrev pub declare : TypedProgram → Place → ℕ → Option Initial → State → Act State
declare program at declaration None m = clear_local program at declaration m
declare program at declaration (Some (Value e)) m = Goes (to_do (Evaluate e ∷ (Store at declaration 0 (type_of e) ∷ m.frame.todo)) m)
declare program at declaration (Some initial) m =
    Goes (to_do (stores_pieces at declaration (pieces program (local_type program declaration m) 0 initial) m.frame.todo) (refilled ZeroFill declaration m))

-- the newest value is stored in a local
abbrev pub store_local : {Rest : Type 0} → TypedProgram → Place → ℕ → ℕ → Shape → Running Rest → Act (Running Rest)
store_local program at declaration offset ty m =
    touches_then (λ local. Stores m.frame.number local at) (if_scalar (local_type program declaration m) declaration)
    (Goes (with_memory (changed (write_operand program ty offset (operand_at m 0)) (LocalObject m.frame.number declaration) m.memory) (pop m)))

-- bytes are stored in a local
abbrev pub spell_local : {Rest : Type 0} → TypedProgram → ℕ → ℕ → List ℕ → Running Rest → Act (Running Rest)
spell_local program declaration offset bytes m =
    Goes (with_memory (changed (write_bytes program offset bytes) (LocalObject m.frame.number declaration) m.memory) m)

-- a `return`: the frame ends with a value, if there is one
abbrev pub returns : Place → Option Typed → State → State
returns at None m = to_do (Give at ∷ m.frame.todo) (push Nothing m)
returns at (Some e) m = to_do (Evaluate e ∷ (Give at ∷ m.frame.todo)) m

-- a `goto` reaches a label; if there is no such label, it continues with the next statement
abbrev pub lands : RunBudgets → Option Landing → State → Act State
lands budgets None m = Goes m
lands budgets (Some landing) m = reach_counted_point budgets landing.at point.Label landing.counted_point (to_do landing.todo m)

-- a jump to a label of the current function
abbrev pub go_to : TypedProgram → RunBudgets → ℕ → List Item → State → Act State
go_to program budgets wanted at_end m = lands budgets (landing wanted (body_of (routine_of program m.frame.function)) 0 at_end) m

-- a statement begins; `at_end` is to do at the end of the function's body
abbrev pub execute : TypedProgram → RunBudgets → List Item → Statement → ℕ → State → Act State
execute program budgets at_end (Block at statements) counted_point m = Goes (to_do (executes statements counted_point m.frame.todo) m)
execute program budgets at_end (Declare at declaration initial) counted_point m = declare program at declaration initial m
execute program budgets at_end (Run at e) counted_point m = Goes (to_do (EvaluateUnused e ∷ (Drop ∷ m.frame.todo)) m)
execute program budgets at_end (If at test body) counted_point m = Goes (to_do (Evaluate test ∷ (Decide (If at test body) counted_point ∷ m.frame.todo)) m)
execute program budgets at_end (IfElse at test body other) counted_point m =
    Goes (to_do (Evaluate test ∷ (Decide (IfElse at test body other) counted_point ∷ m.frame.todo)) m)
execute program budgets at_end (While at test body) counted_point m = Goes (to_do (Turn (While at test body) counted_point ∷ (Out ∷ m.frame.todo)) m)
execute program budgets at_end (Do at body test) counted_point m = Goes (to_do (Turn (Do at body test) counted_point ∷ (Out ∷ m.frame.todo)) m)
execute program budgets at_end (For at first test last body) counted_point m =
    Goes (to_do (executes first (counted_point + 1) (Turn (For at first test last body) counted_point ∷ (Out ∷ m.frame.todo))) m)
execute program budgets at_end (Switch at value cases statements) counted_point m =
    Goes (to_do (Evaluate value ∷ (Decide (Switch at value cases statements) counted_point ∷ (Out ∷ m.frame.todo))) m)
execute program budgets at_end (Goto at wanted) counted_point m = go_to program budgets wanted at_end m
execute program budgets at_end (Label at number body) counted_point m =
    reach_counted_point budgets at point.Label counted_point (to_do (Execute body (counted_point + 1) ∷ m.frame.todo) m)
execute program budgets at_end (Break at) counted_point m = Goes (to_do (broken_out m.frame.todo) m)
execute program budgets at_end (Continue at) counted_point m = Goes (to_do (continued m.frame.todo) m)
execute program budgets at_end (Return at value) counted_point m = Goes (returns at value m)

-- before a loop's body, its test is evaluated, if it has one
abbrev pub tests : Option Typed → Statement → ℕ → Statement → ℕ → List Item → List Item
tests None loop counted_point body inner following = Execute body inner ∷ (Again loop counted_point ∷ following)
tests (Some test) loop counted_point body inner following = Evaluate test ∷ (Decide loop counted_point ∷ following)

-- the things to do once the head of a loop is reached (C11 6.8.5)
abbrev pub turned : Statement → ℕ → List Item → List Item
turned (While at test body) counted_point following = Evaluate test ∷ (Decide (While at test body) counted_point ∷ following)
turned (Do at body test) counted_point following = Execute body (counted_point + 1) ∷ (Again (Do at body test) counted_point ∷ following)
turned (For at first test last body) counted_point following =
    tests test (For at first test last body) counted_point body (counted_point + 1 + counted_points_in first) following
turned other counted_point following = following

-- reaches the head of a loop; other statements have none
abbrev pub turn : RunBudgets → Statement → ℕ → State → Act State
turn budgets (While at test body) counted_point m =
    reach_counted_point budgets at point.Head counted_point (to_do (turned (While at test body) counted_point m.frame.todo) m)
turn budgets (Do at body test) counted_point m =
    reach_counted_point budgets at point.Head counted_point (to_do (turned (Do at body test) counted_point m.frame.todo) m)
turn budgets (For at first test last body) counted_point m =
    reach_counted_point budgets at point.Head counted_point (to_do (turned (For at first test last body) counted_point m.frame.todo) m)
turn budgets other counted_point m = Goes m

-- the last part of a `for`, if it has one, before the other things to do
abbrev pub last_part : Option Typed → List Item → List Item
last_part None following = following
last_part (Some e) following = Evaluate e ∷ (Drop ∷ following)

-- the things to do after the body of a loop
abbrev pub again : Statement → ℕ → List Item → List Item
again (While at test body) counted_point following = Turn (While at test body) counted_point ∷ following
again (Do at body test) counted_point following = Evaluate test ∷ (Decide (Do at body test) counted_point ∷ following)
again (For at first test last body) counted_point following = last_part last (Turn (For at first test last body) counted_point ∷ following)
again other counted_point following = following

-- statements from the one with a number on
abbrev pub executes_from : ℕ → Statements → ℕ → List Item → List Item
executes_from number Empty counted_point following = following
executes_from zero (Then first others) counted_point following = executes (Then first others) counted_point following
executes_from (suc number) (Then first others) counted_point following = executes_from number others (counted_point + counted_points first) following

-- a selected case: its number among those with a value, and the number of the statement that it leads to
pub record Chosen : Type 0 where
  pub number : ℕ
  pub item : ℕ

-- whether a case has this value
abbrev pub stands_for : Option ℤ → ℤ → Bool
stands_for None number = false
stands_for (Some value) number = int_eq value number

-- 1 for a case with a value, else 0
abbrev pub has_value : Option ℤ → ℕ
has_value None = 0
has_value (Some value) = 1

-- the case with a value, with the cases with a value counted from a start
abbrev pub case_of : List Case → ℤ → ℕ → Option Chosen
case_of [] number count = None
case_of (c ∷ cases) number count =
    if stands_for c.value number then Some (record { number = count; item = c.item }) else case_of cases number (count + has_value c.value)

-- the statement that a case leads to, if it is the `default`, or else this one
abbrev pub default_or : Option ℤ → ℕ → ℕ → ℕ
default_or None item otherwise = item
default_or (Some value) item otherwise = otherwise

-- the statement that `default` leads to, or else this one
abbrev pub default_item : List Case → ℕ → ℕ
default_item [] otherwise = otherwise
default_item (c ∷ cases) otherwise = default_or c.value c.item (default_item cases otherwise)

-- how many cases have a value
abbrev pub values_in : List Case → ℕ
values_in [] = 0
values_in (c ∷ cases) = has_value c.value + values_in cases

-- the case that a `switch` takes: that of its value, else `default`, else none, which leads to the end of all statements (C11 6.8.4.2)
abbrev pub chosen_case : List Case → Statements → Option Chosen → Chosen
chosen_case cases statements (Some chosen) = chosen
chosen_case cases statements None = record { number = values_in cases; item = default_item cases (count_of statements) }

-- continues with the statements of a `switch` from those of a case on: the case shows
abbrev pub switch_to : Place → Statements → ℕ → Chosen → State → Act State
switch_to at statements counted_point chosen m =
    Touches (Meets point.Switch at)
    (shows_then at (label.Case chosen.number) (Goes (to_do (executes_from chosen.item statements counted_point m.frame.todo) m)))

-- takes the branch that the newest value, a test's or a `switch`'s, selects
abbrev pub decide : Statement → ℕ → State → Act State
decide (If at test body) counted_point m =
    branch at (cell_at m 0) (λ holds. Goes (to_do (if holds then Execute body counted_point ∷ m.frame.todo else m.frame.todo) (pop m)))
decide (IfElse at test body other) counted_point m =
    branch at (cell_at m 0) (λ holds.
    Goes (to_do (if holds then Execute body counted_point ∷ m.frame.todo else Execute other (counted_point + counted_points body) ∷ m.frame.todo)
    (pop m)))
decide (While at test body) counted_point m =
    branch at (cell_at m 0) (λ holds.
    Goes (to_do (if holds then Execute body (counted_point + 1) ∷ (Again (While at test body) counted_point ∷ m.frame.todo) else m.frame.todo) (pop m)))
decide (Do at body test) counted_point m =
    branch at (cell_at m 0) (λ holds. Goes (to_do (if holds then Turn (Do at body test) counted_point ∷ m.frame.todo else m.frame.todo) (pop m)))
decide (For at first test last body) counted_point m =
    branch at (cell_at m 0) (λ holds.
    Goes (to_do (if holds then Execute body (counted_point + 1 + counted_points_in first)
    ∷ (Again (For at first test last body) counted_point ∷ m.frame.todo) else m.frame.todo) (pop m)))
decide (Switch at value cases statements) counted_point m =
    switch_to at statements counted_point (chosen_case cases statements (case_of cases (number_in (cell_at m 0)) 0)) (pop m)
decide other counted_point m = Goes m
