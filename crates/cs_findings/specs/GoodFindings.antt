-- Good findings: the run has the stated outcome, lists what it reads, and each of its guesses is real.
use Rattle.std.specs.Prelude.{◌≡◌, ◌≢◌, ℕ, ◌≤◌, ℤ, List, [], ◌∷◌, map, length, Contains, All, ◌⊎◌, ◌↔◌}
use Rattle.std.specs.Map.{keys_of}
use Rattle.std.specs.List.Sorted.{IsStrictlySortedBy}
use Rattle.std.specs.Ordering.{nat_cmp}
use Rattle.cs_inputs.specs.declared.path.Path.{Path}
use Rattle.cs_inputs.specs.Inputs.{IsInOrder}
use Rattle.cs_ast.specs.TypedProgram.{TypedProgram}
use Rattle.cs_events.specs.declared.guess.Guess.{Guess}
use Rattle.cs_events.specs.declared.outcome.RunBudgets.{RunBudgets}
use Rattle.cs_events.specs.declared.outcome.Outcome.{Outcome}
use Rattle.cs_events.specs.declared.outcome.Outcome.TheVariants.{Done, Fault, Over}
use Rattle.cs_events.specs.Runs.{Log}
use Rattle.cs_meaning.specs.Machine.{routine_of}
use Rattle.cs_meaning.specs.Steps.{parameters_of, parameter_path}
use Rattle.cs_meaning.specs.ProgramRuns.{ProgramRun, RunGives, RunEnds, RunReads}
use Rattle.cs_results.specs.declared.finding.Finding.{Finding}
use Rattle.cs_results.specs.declared.finding.Ground.{Ground}
use Rattle.cs_results.specs.declared.run.Others.{Others}
use Rattle.cs_results.specs.declared.run.Others.TheVariants.{One, Two}
use Rattle.cs_findings.specs.Runs.{run_of, each_other}
use Rattle.cs_findings.specs.RealGuesses.{IsReal}
use Rattle.cs_findings.specs.Neighbours.{neighbours}

-- a fault or a met budget
abbrev pub IsFinding : Outcome → Type 0
IsFinding (Done returned) = ⊥
IsFinding (Fault kind at) = Unit {0}
IsFinding (Over budget at) = Unit {0}

-- the lists have the same length, and items at the same index are related
abbrev pub IsEach : {A B : Type 0} → (A → B → Type 0) → List A → List B → Type 0
IsEach R [] [] = Unit {0}
IsEach R [] (y ∷ ys) = ⊥
IsEach R (x ∷ xs) [] = ⊥
IsEach R (x ∷ xs) (y ∷ ys) = R x y × IsEach R xs ys

-- a property holds of each of one or two others
abbrev pub AllOthers : {A : Type 0} → (A → Type 0) → Others A → Type 0
AllOthers P (One first) = P first
AllOthers P (Two first second) = P first × P second

-- the guesses ascend strictly by event
abbrev pub Ascend : List Guess → Type 0
Ascend guesses = IsStrictlySortedBy nat_cmp (map (λ g. g.event) guesses)

module _ (program : TypedProgram) (entry : ℕ) (budgets : RunBudgets) where
  -- the ground of a guess of a run: the guess is real with the ground's runs, which list numbers for the same paths
  pub record IsGroundOf (run : ProgramRun) (guess : Guess) (given : Ground) : Type 0 where
    pub same : given.guess ≡ guess
    pub real : IsReal program entry budgets run guess given.place (each_other run_of given.others)
    pub paths : AllOthers (λ (other : ProgramRun). keys_of other.inputs ≡ keys_of run.inputs) (each_other run_of given.others)

  -- no run from these inputs without guesses has this outcome
  abbrev pub EndsElsewhere : Outcome → List (Path × ℤ) → Type 0
  EndsElsewhere what inputs = (log : Log) → RunGives program entry (record { inputs = inputs; guesses = [] }) budgets what log → ⊥

  -- what a finding shows of its run: the outcome, that it lists what it reads, and that each guess is real, with its ground
  pub record IsShown (finding : Finding) : Type 0 where
    pub ends : RunEnds program entry (run_of finding.run) budgets finding.events.items finding.what
    pub in_order : IsInOrder finding.run.inputs
    pub paths : (path : Path) → Contains (keys_of finding.run.inputs) path
        ↔ (Contains (map parameter_path (parameters_of (routine_of program entry))) path ⊎ RunReads program entry (run_of finding.run) budgets path)
    pub ascending : Ascend finding.run.guesses.items
    pub passed : All (λ g. g.event ≤ length finding.events.items) finding.run.guesses.items
    pub grounds : IsEach (IsGroundOf (run_of finding.run)) finding.run.guesses.items finding.grounds.items

  -- a good finding is shown. If its run lists no guess, it is confirmed; otherwise no neighbour has the same outcome without guesses
  pub record IsGoodFinding (finding : Finding) : Type 0 where
    pub what : IsFinding finding.what
    pub shown : IsShown finding
    pub tried : finding.run.guesses.items ≢ [] → All (EndsElsewhere finding.what) (neighbours program.constants finding.run.inputs)
