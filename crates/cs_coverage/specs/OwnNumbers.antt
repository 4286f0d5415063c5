-- A run's own numbers of symbols: for an input the number that the run reads, for a guess the number with which the run continues.
use Rattle.std.specs.Prelude.{◌≡◌, ◌⊎◌, ℕ, zero, suc, ℤ, pos, List, [], ◌∷◌, ◌++◌, map, Some, None, option_map, unwrap_or}
use Rattle.std.specs.Prelude.{slice_get, if◌then◌else◌, Contains}
use Rattle.std.specs.FinMap as finite
use Rattle.cs_types.specs.declared.data_model.DataModel.{DataModel}
use Rattle.cs_inputs.specs.declared.path.Path.{Path}
use Rattle.cs_inputs.specs.declared.path.Root.{Root}
use Rattle.cs_inputs.specs.declared.path.Root.TheVariants.{Malloc}
use Rattle.cs_inputs.specs.PathOrder.{path_order}
use Rattle.cs_ast.specs.TypedProgram.{TypedProgram, Variable}
use Rattle.cs_terms.specs.declared.symbol.SymName.{SymName}
use Rattle.cs_terms.specs.declared.symbol.SymName.TheVariants.{Input, Guess as GuessAt}
use Rattle.cs_terms.specs.Term.{Valuation}
use Rattle.cs_events.specs.declared.event.Event.{Event}
use Rattle.cs_events.specs.declared.guess.Guess.{Guess}
use Rattle.cs_events.specs.declared.input.InputKind.{InputKind}
use Rattle.cs_events.specs.declared.input.InputKind.TheVariants.{Integer, Pointer, Allocation, Nothing}
use Rattle.cs_events.specs.declared.input.Lookup.{Lookup}
use Rattle.cs_events.specs.InputCells.{input_kind, lies_in}
use Rattle.cs_events.specs.Objects.{is_equal}
use Rattle.cs_events.specs.Operations.{numbers_of, is_true, truth_number}
use Rattle.cs_events.specs.Runs.{Setting, Log, guess_at}
use Rattle.cs_event_runs.specs.First.{Step}
use Rattle.cs_meaning.specs.Machine.{routine_of}
use Rattle.cs_meaning.specs.Steps.{parameter_path, parameters_of}
use Rattle.cs_state.specs.declared.asked.Asked.{Asked}
use Rattle.cs_state.specs.declared.state.State.{State}
use Rattle.cs_state.specs.Naming.{Naming}
use Rattle.cs_successors.specs.Coming.{IsTruth, ListsTruth}

-- the number of an input as its reader sees it: itself, or 0 if its type doesn't have it; 0 for null or no block, and 1 for a block
abbrev pub input_number : DataModel → InputKind → ℤ → ℤ
input_number model (Integer ty) number = if lies_in (numbers_of model ty) number then number else pos 0
input_number model Pointer number = truth_number (is_true number)
input_number model Allocation number = truth_number (is_true number)
input_number model Nothing number = pos 0

-- the inputs of an entry's parameters
abbrev pub received_by : TypedProgram → ℕ → List Lookup
received_by program entry =
    map (λ (v : Variable). record { path = parameter_path v; kind = input_kind v.ty }) (parameters_of (routine_of program entry))

-- the kind of the input at a path that was never looked up: a block, if the path is that of an allocation
abbrev pub kind_unread : Root → InputKind
kind_unread (Malloc number) = Allocation
kind_unread other = Nothing

-- the kind of the input at a path, according to these lookups
abbrev pub kind_in : List Lookup → Path → InputKind
kind_in [] path = kind_unread path.root
kind_in (lookup ∷ lookups) path = if is_equal (path_order path lookup.path) then lookup.kind else kind_in lookups path

-- the answer of the event with this number
abbrev pub answer_at : List Step → ℕ → ℤ
answer_at steps zero = pos 0
answer_at steps (suc passed) = unwrap_or (option_map (λ (one : Step). one.answer) (slice_get steps passed)) (pos 0)

-- a run's number for a name. For a guess it is the run's guess at the event, or if there is none, the operation's own result
abbrev pub number_of : Setting → List Lookup → List Step → SymName → ℤ
number_of setting lookups steps (Input path) = input_number setting.model (kind_in lookups path) (setting.inputs path)
number_of setting lookups steps (GuessAt event) = unwrap_or (guess_at setting.guesses event) (answer_at steps event)

-- the valuation that has the run's numbers for the names of symbols, after these steps and with this log
abbrev pub own_valuation : TypedProgram → ℕ → Naming → Setting → List Step → Log → Valuation
own_valuation program entry names setting steps log sym =
    unwrap_or (option_map (number_of setting (received_by program entry ++ log.read) steps) (slice_get names.syms sym)) (pos 0)

-- the state has a guess at the event with this number
abbrev pub IsGuessedAt : State → ℕ → Type 0
IsGuessedAt state event = (asked : Asked) × Contains (finite.values state.asked) asked × (asked.event ≡ event)

-- each event of a state's chain that is meant, and at which the state guesses, shows a truth, as that of a comparison or of an order test; and of the meant
-- events, the run has guesses at exactly these, each 0 or 1
pub record ListsTruths (state : State) (chain : List Event) (IsMeant : ℕ → Type 0) (guesses : List Guess) : Type 0 where
  pub truths : (passed : ℕ) (event : Event) → slice_get chain passed ≡ Some event → IsMeant (suc passed) → IsGuessedAt state (suc passed)
      → IsTruth event.label
  pub listed : (event : ℕ) → IsMeant event → IsGuessedAt state event → ListsTruth guesses event
  pub elsewhere : (event : ℕ) → IsMeant event → ¬ IsGuessedAt state event → guess_at guesses event ≡ None

-- the run has no guesses; or of the meant events, it guesses at exactly those of the state's guesses, each time 0 or 1
abbrev pub ListsOwn : State → List Event → (ℕ → Type 0) → List Guess → Type 0
ListsOwn state chain IsMeant guesses = (guesses ≡ []) ⊎ ListsTruths state chain IsMeant guesses
