-- Settings that a run can't distinguish.
use Rattle.std.specs.Prelude.{◌≡◌, ℕ, suc, ◌<◌, ◌≤◌, ℤ, List, [], ◌∷◌, length}
use Rattle.cs_types.specs.declared.data_model.DataModel.{DataModel}
use Rattle.cs_inputs.specs.declared.path.Path.{Path}
use Rattle.cs_events.specs.declared.outcome.RunBudgets.{RunBudgets}
use Rattle.cs_events.specs.declared.guess.Guess.{Guess}
use Rattle.cs_events.specs.declared.input.InputKind.TheVariants.{Integer, Pointer, Allocation, Nothing}
use Rattle.cs_events.specs.declared.input.Lookup.{Lookup}
use Rattle.cs_events.specs.InputCells.{input_cell}
use Rattle.cs_events.specs.Operations.{result_with, guess_range, is_true}
use Rattle.cs_events.specs.Runs.{Setting, Log, guess_at, used}
use Rattle.cs_events.specs.PendingEvents.{Operates, Tries, Accesses}
use Rattle.cs_event_runs.specs.First.{Step, First, Silent, Shown, Ended}

-- the log of what comes first
abbrev pub log_in : {State : Type 0} → First State → Log
log_in (Silent next log) = log
log_in (Shown shown left log) = log
log_in (Ended outcome log) = log

-- inputs agree on a lookup: they yield the same cell, or both a block or none
abbrev pub GiveAlike : DataModel → (Path → ℤ) → (Path → ℤ) → Lookup → Type 0
GiveAlike model one other lookup = elim lookup.kind [
  | Integer ty ↦ input_cell model lookup.path (Integer ty) (one lookup.path) ≡ input_cell model lookup.path (Integer ty) (other lookup.path)
  | Pointer ↦ input_cell model lookup.path Pointer (one lookup.path) ≡ input_cell model lookup.path Pointer (other lookup.path)
  | Allocation ↦ is_true (one lookup.path) ≡ is_true (other lookup.path)
  | Nothing ↦ Unit {0}
]

-- inputs agree on all of these lookups
abbrev pub Agree : DataModel → (Path → ℤ) → (Path → ℤ) → List Lookup → Type 0
Agree model one other [] = Unit {0}
Agree model one other (lookup ∷ lookups) = GiveAlike model one other lookup × Agree model one other lookups

-- the setting with other inputs
abbrev pub with_inputs : (Path → ℤ) → Setting → Setting
with_inputs inputs setting = record setting { inputs = inputs }

-- the setting with other guesses and budgets
abbrev pub with_guesses : List Guess → RunBudgets → Setting → Setting
with_guesses guesses budgets setting = record setting { guesses = guesses; budgets = budgets }

-- the guesses at the events before this one are the same, and the budget of events allows these
pub record AlikeBefore (setting : Setting) (guesses : List Guess) (budgets : RunBudgets) (event : ℕ) : Type 0 where
  pub same : (earlier : ℕ) → earlier < event → guess_at guesses earlier ≡ guess_at setting.guesses earlier
  pub budget : event ≤ budgets.events

-- a step that continues with the same number if these guesses are listed
abbrev pub LeadsAlike : Setting → List Guess → ℕ → Step → Type 0
LeadsAlike setting guesses event one = elim one.pending [
  | Operates at operation ↦ result_with setting.model operation (used (guess_range setting.model operation) (guess_at guesses event)) ≡ one.answer
  | Tries at path ↦ Unit {0}
  | Accesses at object offset ↦ Unit {0}
]

-- steps from this event on, each of which continues with the same number if these guesses are listed
abbrev pub LeadAlike : Setting → List Guess → ℕ → List Step → Type 0
LeadAlike setting guesses event [] = Unit {0}
LeadAlike setting guesses event (one ∷ steps) = LeadsAlike setting guesses event one × LeadAlike setting guesses (suc event) steps

-- steps that differ at most in their labels
pub record LabelsDiffer (one other : Step) : Type 0 where
  pub pends : other.pending ≡ one.pending
  pub answers : other.answer ≡ one.answer
  pub places : other.event.place ≡ one.event.place

abbrev pub AllLabelsDiffer : List Step → List Step → Type 0
AllLabelsDiffer [] [] = Unit {0}
AllLabelsDiffer [] (other ∷ others) = ⊥
AllLabelsDiffer (one ∷ steps) [] = ⊥
AllLabelsDiffer (one ∷ steps) (other ∷ others) = LabelsDiffer one other × AllLabelsDiffer steps others

-- logs with the same number of events, and the same pending operations, lookups and touches
pub record LogsAlike (log other : Log) : Type 0 where
  pub passed : length other.events ≡ length log.events
  pub pending : other.pending ≡ log.pending
  pub read : other.read ≡ log.read
  pub touches : other.touches ≡ log.touches
