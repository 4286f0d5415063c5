-- Pools of replays, and what the judge shows of them.
use Rattle.std.specs.Prelude.{◌≡◌, ℕ, suc, ◌≤◌, List, length, take, Some, slice_get}
use Rattle.cs_types.specs.declared.data_model.DataModel.{DataModel}
use Rattle.cs_ast.specs.declared.place.Place.{Place}
use Rattle.cs_ast.specs.TypedProgram.{TypedProgram}
use Rattle.cs_events.specs.declared.guess.Guess.{Guess}
use Rattle.cs_events.specs.declared.operation.Operation.{Operation}
use Rattle.cs_events.specs.declared.outcome.RunBudgets.{RunBudgets}
use Rattle.cs_events.specs.PendingEvents as pending
use Rattle.cs_meaning.specs.ProgramRuns.{ProgramRun}
use Rattle.cs_results.specs.declared.run.Others.{Others}
use Rattle.cs_findings.specs.Runs.{run_of, AllRelated}
use Rattle.cs_findings.specs.RealGuesses.{Comes, IsReal, AreReal}
use Rattle.cs_judge.specs.declared.pool.Partners.{Partners}
use Rattle.cs_judge.specs.declared.pool.Replay.{Replay}
use Rattle.cs_judge.specs.declared.pool.Kept.TheVariants as kept

-- the run of the replay with a number
pub record IsRunAt (pool : List Replay) (number : ℕ) (run : ProgramRun) : Type 0 where
  pub replay : Replay
  pub there : slice_get pool number ≡ Some replay
  pub same : run_of replay.run ≡ run

module _ (program : TypedProgram) (entry : ℕ) (budgets : RunBudgets) where
  -- what is kept is true: if an operation is kept at an index, the run first passes the events before it, and then this operation is pending
  abbrev pub IsKept : Replay → Type 0
  IsKept replay = (passed : ℕ) (at : Place) (operation : Operation) → slice_get replay.kept.items passed ≡ Some (kept.Operates at operation)
      → passed ≤ length replay.events.items
      → Comes program entry budgets (run_of replay.run) (take passed replay.events.items) (pending.Operates at operation)

  abbrev pub AreKept : List Replay → Type 0
  AreKept pool = (number : ℕ) (replay : Replay) → slice_get pool number ≡ Some replay → IsKept replay

  -- the guess at this place among those of a replay is real with its partners, at the position of the operation that was kept there
  pub record IsRealWithPartners (pool : List Replay) (replay : Replay) (place : ℕ) (guess : Guess) : Type 0 where
    pub at : Place
    pub passed : ℕ
    pub number : guess.event ≡ suc passed
    pub operation : Operation
    pub kept : slice_get replay.kept.items passed ≡ Some (kept.Operates at operation)
    pub partners : Partners
    pub named : slice_get replay.partners.items place ≡ Some partners
    pub others : Others ProgramRun
    pub they : AllRelated (IsRunAt pool) partners.others others
    pub real : IsReal program entry budgets (run_of replay.run) guess at others

  -- all guesses of a replay are real, each with its partners
  pub record IsReplayReal (pool : List Replay) (replay : Replay) : Type 0 where
    pub all : AreReal program entry budgets (run_of replay.run)
    pub each : (place : ℕ) (guess : Guess) → slice_get replay.run.guesses.items place ≡ Some guess → IsRealWithPartners pool replay place guess

-- all guesses of the pool are real, in every program of this data model for which the pool is kept
abbrev pub ShowsReal : DataModel → List Replay → Type 0
ShowsReal model pool = (program : TypedProgram) (entry : ℕ) (budgets : RunBudgets) → program.model ≡ model → AreKept program entry budgets pool
    → (number : ℕ) (replay : Replay) → slice_get pool number ≡ Some replay → IsReplayReal program entry budgets pool replay
