-- Runs as plain data.
use Rattle.std.specs.Prelude.{ℕ, nat_lt, Bool, is_some, filter, ◌||◌}
use Rattle.cs_events.specs.Runs.{guess_at}
use Rattle.cs_meaning.specs.ProgramRuns.{ProgramRun}
pub use Rattle.cs_results.specs.RunBudgets.{run_budgets}
use Rattle.cs_results.specs.declared.run.Run.{Run}
use Rattle.cs_results.specs.declared.run.Others.{Others}
use Rattle.cs_results.specs.declared.run.Others.TheVariants.{One, Two}

-- the inputs and guesses that a run begins with
abbrev pub run_of : Run → ProgramRun
run_of run = record { inputs = run.inputs; guesses = run.guesses.items }

-- the run with only those of its guesses that are before an event
abbrev pub before : ℕ → ProgramRun → ProgramRun
before event run = record run { guesses = filter (λ g. nat_lt g.event event) run.guesses }

-- whether a run lists a guess at an event
abbrev pub lists : ProgramRun → ℕ → Bool
lists run event = is_some (guess_at run.guesses event)

module _ {A : Type 0} where
  -- whether one of them passes a test
  abbrev pub some_other : (A → Bool) → Others A → Bool
  some_other test (One first) = test first
  some_other test (Two first second) = test first || test second

module _ {A B : Type 0} where
  abbrev pub each_other : (A → B) → Others A → Others B
  each_other f (One first) = One (f first)
  each_other f (Two first second) = Two (f first) (f second)

  -- there are equally many of both kinds, and they are related one by one
  abbrev pub AllRelated : (A → B → Type 0) → Others A → Others B → Type 0
  AllRelated R (One first) (One first') = R first first'
  AllRelated R (Two first second) (Two first' second') = R first first' × R second second'
  AllRelated R others others' = ⊥
