-- What a pool contains: the runs of the corners of guesses, each replayed up to its guess; and the partners that are found in it.
use Rattle.std.specs.Prelude.{◌≡◌, ℕ, ◌-◌, ◌^◌, ◌<◌, ◌≤◌, List, ◌++◌, map, length, All, Contains, Some, slice_get, Vec}
use Rattle.std.specs.declared.alloc.Global.{Global}
use Rattle.std.specs.Map.{keys_of}
use Rattle.cs_types.specs.declared.data_model.DataModel.{DataModel}
use Rattle.cs_ast.specs.TypedProgram.{typed_program}
use Rattle.cs_inputs.specs.declared.path.Path.{Path}
use Rattle.cs_events.specs.declared.outcome.Outcome.{Outcome}
use Rattle.cs_events.specs.Runs.{Log}
use Rattle.cs_meaning.specs.ProgramRuns.{ProgramRun, RunGives}
use Rattle.cs_findings.specs.Runs.{run_of, run_budgets}
use Rattle.cs_findings.specs.GoodFindings.{IsEach, AllOthers}
use Rattle.cs_judge.specs.declared.pool.Partners.{Partners}
use Rattle.cs_judge.specs.declared.pool.Replay.{Replay}
use Rattle.cs_judge.specs.Proving.{HasProof, bare as judged}
use Rattle.cs_suspect_types.specs.declared.suspect.Suspect.{Suspect}
use Rattle.cs_suspect_types.specs.declared.suspect.SuspectedGuess.{SuspectedGuess}
use Rattle.cs_witness.specs.declared.entry.Entry.{Entry}
use Rattle.cs_witness.specs.Corners.{IsCorner}
use Rattle.cs_witness.specs.Entries.{up_to}
use Rattle.cs_witness.specs.Evidence.{Changes, AreCorners, IsRunOf, IsParameter, IsEvident}
use Rattle.cs_witness.specs.Keeping.{noted}

-- a replay has all events of its run under a budget of events that allows at least those events up to this one which the entry's budget allows
pub record IsReplayUpTo (entry : Entry) (event : ℕ) (replay : Replay) : Type 0 where
  pub events : ℕ
  pub enough : (number : ℕ) → number ≤ event → number ≤ entry.budgets.events → number ≤ events
  pub outcome : Outcome
  pub log : Log
  pub gives : RunGives (typed_program entry.program.now) entry.function (run_of replay.run) (up_to events entry.budgets) outcome log
  pub passed : replay.events.items ≡ log.events
  pub kept : replay.kept.items ≡ map noted log.pending

module _ (entry : Entry) (run : ProgramRun) where
  -- the replay of the shown run, which is the first of a pool
  pub record IsShownReplay (replay : Replay) : Type 0 where
    pub same : run_of replay.run ≡ run
    pub replayed : IsReplayUpTo entry entry.budgets.events replay

  -- the replay of a corner
  pub record IsCornerReplay (event : ℕ) (changes : Changes) (replay : Replay) : Type 0 where
    pub corner : IsCorner changes event run (run_of replay.run)
    pub replayed : IsReplayUpTo entry event replay

  -- the replays of all corners of a guess are added to a pool, in order
  pub record AddsCorners (guess : SuspectedGuess) (old new : List Replay) : Type 0 where
    pub more : List Replay
    pub is : new ≡ old ++ more
    pub all : List Changes
    pub are : AreCorners guess.left guess.right all
    pub each : IsEach (IsCornerReplay guess.guess.event) all more

  -- a replay of a corner of one of the guesses
  pub record IsSomeCorner (guesses : List SuspectedGuess) (replay : Replay) : Type 0 where
    pub guess : SuspectedGuess
    pub among : Contains guesses guess
    pub all : List Changes
    pub are : AreCorners guess.left guess.right all
    pub changes : Changes
    pub one : Contains all changes
    pub is : IsCornerReplay guess.guess.event changes replay

  -- a pool has a replay of each corner of a guess
  abbrev pub HasCornersOf : List Replay → SuspectedGuess → Type 0
  HasCornersOf pool guess = (all : List Changes) (changes : Changes) → AreCorners guess.left guess.right all → Contains all changes
      → (replay : Replay) × Contains pool replay × IsCornerReplay guess.guess.event changes replay

  -- the replays of the corners of these guesses are added to a pool, and no others
  pub record AddsAllCorners (guesses : List SuspectedGuess) (old new : List Replay) : Type 0 where
    pub more : List Replay
    pub is : new ≡ old ++ more
    pub each : All (HasCornersOf new) guesses
    pub only : All (IsSomeCorner guesses) more

-- each guess of each replay has a proof in the pool
abbrev pub HaveProofs : DataModel → List Replay → Type 0
HaveProofs model pool = (number : ℕ) (mine : Replay) (place : ℕ) → slice_get pool number ≡ Some mine → place < length mine.run.guesses.items
    → HasProof (map judged pool) (judged mine) place model

-- partners were found: their numbers are ones that a run of a pool may have
abbrev pub IsFound : Partners → Type 0
IsFound partners = AllOthers (λ (number : ℕ). number < 2 ^ 64 - 1) partners.others

-- partners were found for each guess of each run
abbrev pub AreFound : List (Vec Partners Global) → Type 0
AreFound found = All (λ (row : Vec Partners Global). All IsFound row.items) found

-- the partners for the run with a number, if there are any
abbrev pub IsRowAt : List (Vec Partners Global) → ℕ → List Partners → Type 0
IsRowAt found number row = (there : Vec Partners Global) → slice_get found number ≡ Some there → row ≡ there.items

-- each run of a pool names the partners that were found for it
abbrev pub AreNamed : List (Vec Partners Global) → List Replay → Type 0
AreNamed found pool = (number : ℕ) (mine : Replay) (row : Vec Partners Global) → slice_get pool number ≡ Some mine → slice_get found number ≡ Some row
    → mine.partners.items ≡ row.items

-- the run is one of an evident suspect with these guesses, and lists the parameters
pub record IsEvidentRun (entry : Entry) (guesses : List SuspectedGuess) (run : ProgramRun) : Type 0 where
  pub suspect : Suspect
  pub same : suspect.guesses.items ≡ guesses
  pub evident : IsEvident (typed_program entry.program.now) entry.function (run_budgets entry.budgets) suspect
  pub is : IsRunOf (typed_program entry.program.now) entry.function suspect run
  pub parameters : (path : Path) → IsParameter (typed_program entry.program.now) entry.function path → Contains (keys_of run.inputs) path
