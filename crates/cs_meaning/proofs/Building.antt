-- Shorthands for small programs by hand, all in one line of one file, and for how their runs end.
use Rattle.std.proofs.Common.{◌≡◌, ℕ, ℤ, pos, Bool, List, [], ◌∷◌, Option, Some, None, unwrap_or, refl, ap, subst}
use Rattle.cs_types.specs.declared.data_model.DataModel.TheVariants.{Lp64}
use Rattle.cs_types.specs.declared.int_type.IntType.TheVariants.{Int}
use Rattle.cs_types.specs.Shape.{Shape, integer, pointer}
use Rattle.cs_inputs.specs.declared.path.Path.{Path}
use Rattle.cs_inputs.specs.declared.path.Root.{Root}
use Rattle.cs_inputs.specs.declared.path.Root.TheVariants.{Param}
use Rattle.cs_ast.specs.declared.place.Place.{Place}
use Rattle.cs_ast.specs.TypedTree.{Typed, Of, Number, Local, Load, TypedList, NoMore, Further, Statement, Block, Statements, Empty, Then}
use Rattle.cs_ast.specs.TypedProgram.{TypedProgram, Routine, Variable}
use Rattle.cs_events.specs.declared.event.Event.{Event}
use Rattle.cs_events.specs.declared.event.Label.{Label}
use Rattle.cs_events.specs.declared.guess.Guess.{Guess}
use Rattle.cs_events.specs.declared.outcome.Outcome.{Outcome}
use Rattle.cs_events.specs.declared.outcome.RunBudgets.{RunBudgets}
use Rattle.cs_events.specs.Runs.{empty, Performed, Continues, Finishes}
use Rattle.cs_events.specs.Counted.{followed}
use Rattle.cs_events.proofs.RunLaws.{ends_by}
use Rattle.cs_meaning.specs.Types.{type_of}
use Rattle.cs_meaning.specs.Access.{place_of}
use Rattle.cs_meaning.specs.Machine.{State}
use Rattle.cs_meaning.specs.Steps.{step}
use Rattle.cs_meaning.specs.ProgramRuns.{ProgramRun, setting_of, start_of, RunGives, RunEnds}

-- the position of a column
abbrev pub at : ℕ → Place
at column = record { file = 0; line = 1; column = column }

abbrev pub int : Shape
int = integer Int

abbrev pub to_int : Shape
to_int = pointer (integer Int)

-- a constant, the object of a local, and its value
abbrev pub literal : ℕ → ℕ → Typed
literal column number = Of (at column) int (Number (pos number))

abbrev pub local : ℕ → Shape → ℕ → Typed
local column ty declaration = Of (at column) ty (Local declaration)

-- the value of an object
abbrev pub loaded : Typed → Typed
loaded object = Of (place_of object) (type_of object) (Load object)

-- the value of a local
abbrev pub value : ℕ → Shape → ℕ → Typed
value column ty declaration = loaded (local column ty declaration)

-- lists of expressions and statements
abbrev pub row : List Typed → TypedList
row [] = NoMore
row (e ∷ es) = Further e (row es)

abbrev pub sequence : List Statement → Statements
sequence [] = Empty
sequence (s ∷ ss) = Then s (sequence ss)

-- a parameter or a local by the byte of its name
abbrev pub named : ℕ → Shape → Variable
named letter ty = record { name = letter ∷ []; ty = ty; block = None }

-- a function whose name is at a column, with so many parameters, and with a body that ends at a column
abbrev pub defined : ℕ → Shape → ℕ → List Variable → ℕ → List Statement → Routine
defined column ty parameters variables closes body = record {
  name = 102 ∷ [];
  at = at column;
  returns = ty;
  parameters = parameters;
  variables = variables;
  body = Some (Block (at column) (sequence body));
  closes = at closes;
  written = [];
}

-- a function without a body, which may write through the marked parameters
abbrev pub declared : ℕ → Shape → List Variable → List Bool → Routine
declared column ty variables written = record {
  name = 101 ∷ [];
  at = at column;
  returns = ty;
  parameters = 1;
  variables = variables;
  body = None;
  closes = at column;
  written = written;
}

-- a program of functions only
abbrev pub functions : List Routine → TypedProgram
functions routines = record { model = Lp64; files = []; table = []; globals = []; literals = []; routines = routines; constants = [] }

-- a parameter, by the byte of its name, with its number
abbrev pub given : ℕ → ℤ → Path × ℤ
given letter number = (record { root = Param (letter ∷ []); cells = [] }, number)

-- a path without cells, with its number
abbrev pub input : Root → ℤ → Path × ℤ
input root number = (record { root = root; cells = [] }, number)

-- an event, by its column and its label
abbrev pub event : ℕ → Label → Event
event column label = record { place = at column; label = label }

-- a guess, by its event and its number
abbrev pub guess : ℕ → ℤ → Guess
guess event number = record { event = event; number = number }

-- the budgets, if nothing else is stated
abbrev pub USUAL : RunBudgets
USUAL = record { visits = 4; depth = 5; events = 20000 }

abbrev pub plain : List (Path × ℤ) → ProgramRun
plain inputs = record { inputs = inputs; guesses = [] }

-- the state of a run of a program's entry after so many steps
abbrev pub come_to : TypedProgram → ℕ → ProgramRun → RunBudgets → ℕ → Performed State
come_to program entry run budgets steps = followed (step program budgets) (setting_of program run budgets) steps (start_of program entry run) empty

-- its outcome and events, if it has ended
abbrev pub reported : Performed State → Option (Outcome × List Event)
reported (Continues m log) = None
reported (Finishes outcome log) = Some (outcome, log.events)

-- a run that has ended after so many steps has this outcome and these events
pub ends_so : (program : TypedProgram) (entry : ℕ) (run : ProgramRun) (budgets : RunBudgets) (steps : ℕ) {outcome : Outcome} {events : List Event}
    → reported (come_to program entry run budgets steps) ≡ Some (outcome, events) → RunEnds program entry run budgets events outcome
ends_so program entry run budgets steps {outcome = outcome} {events = events} h = finished (come_to program entry run budgets steps) refl h
  where
    finished : (done : Performed State) → come_to program entry run budgets steps ≡ done → reported done ≡ Some (outcome, events)
        → RunEnds program entry run budgets events outcome
    finished (Continues m log) e h = cc
    finished (Finishes end log) e h =
        let ended = ends_by (step program budgets) (setting_of program run budgets) steps (start_of program entry run) empty log end e in
        let same : end ≡ outcome = ap (λ o. (unwrap_or {T = Outcome × List Event} o (end, log.events)).0) h in
        let shown : log.events ≡ events = ap (λ o. (unwrap_or {T = Outcome × List Event} o (end, log.events)).1) h in
        (log, subst (λ o. RunGives program entry run budgets o log) same ended, shown)
