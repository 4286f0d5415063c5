-- What the witness ensures of suspects.
use Rattle.std.specs.Prelude.{◌≡◌, ℕ, ℤ, List, Result, MatchResult, Contains, All}
use Rattle.std.specs.List.{HoldsAt}
use Rattle.std.specs.List.Sorted.{IsPartitionPoint}
use Rattle.std.specs.declared.cmp.Ordering.TheVariants.{Less, Equal, Greater}
use Rattle.cs_inputs.specs.declared.path.Path.{Path}
use Rattle.cs_ast.specs.TypedProgram.{typed_program}
use Rattle.cs_events.specs.declared.outcome.Outcome.{Outcome}
use Rattle.cs_events.specs.declared.outcome.Outcome.TheVariants.{Done, Fault, Over}
use Rattle.cs_results.specs.declared.finding.Finding.{Finding}
use Rattle.cs_witness.specs.declared.entry.Entry.{Entry}
use Rattle.cs_findings.specs.Runs.{run_budgets}
use Rattle.cs_results.specs.declared.result.EntryResult.{EntryResult}
use Rattle.cs_findings.specs.EveryRun.{outcomes_of, HasFinding}
use Rattle.cs_findings.specs.GoodFindings.{IsShown, IsGoodFinding, IsFinding, EndsElsewhere}
use Rattle.cs_suspect_types.specs.declared.suspect.Suspect.{Suspect}
use Rattle.cs_witness.specs.Evidence.{IsEvident}
use Rattle.cs_findings.specs.GoodEntries.{IsFault, IsOver, AreListed, outcome_key, key_order}

-- a finding of the entry that is shown, or that is good
abbrev pub IsShownOf : Entry → Finding → Type 0
IsShownOf entry = IsShown (typed_program entry.program.now) entry.function (run_budgets entry.budgets)

abbrev pub IsGoodOf : Entry → Finding → Type 0
IsGoodOf entry = IsGoodFinding (typed_program entry.program.now) entry.function (run_budgets entry.budgets)

-- no run of the entry from these inputs without guesses has this outcome
abbrev pub IsElsewhereOf : Entry → Outcome → List (Path × ℤ) → Type 0
IsElsewhereOf entry = EndsElsewhere (typed_program entry.program.now) entry.function (run_budgets entry.budgets)

-- an evident suspect of the entry
abbrev pub IsEvidentOf : Entry → Suspect → Type 0
IsEvidentOf entry = IsEvident (typed_program entry.program.now) entry.function (run_budgets entry.budgets)

-- an outcome is that of one of these reports or met budgets
abbrev pub IsIn : Outcome → List Finding → List Finding → Type 0
IsIn (Fault kind at) reports overs = Contains (outcomes_of reports) (Fault kind at)
IsIn (Over budget at) reports overs = Contains (outcomes_of overs) (Over budget at)
IsIn (Done returned) reports overs = Unit {0}

-- the outcome of each evident suspect is listed
abbrev pub ListsEvident : Entry → List Suspect → EntryResult → Type 0
ListsEvident entry suspects result = (suspect : Suspect) → Contains suspects suspect → IsFinding suspect.what → IsEvidentOf entry suspect
    → HasFinding result suspect.what

-- each outcome that was listed still is
abbrev pub KeepsListed : List Finding → List Finding → Type 0
KeepsListed old new = (what : Outcome) → Contains (outcomes_of old) what → Contains (outcomes_of new) what

-- good findings whose outcomes are all faults or all met budgets, in the order of a list
pub record AreGood (entry : Entry) (Is : Outcome → Type 0) (findings : List Finding) : Type 0 where
  pub good : All (IsGoodOf entry) findings
  pub form : All (λ f. Is f.what) findings
  pub listed : AreListed findings

-- good findings of faults, and of met budgets
abbrev pub AreGoodReports : Entry → List Finding → Type 0
AreGoodReports entry = AreGood entry IsFault

abbrev pub AreGoodOvers : Entry → List Finding → Type 0
AreGoodOvers entry = AreGood entry IsOver

-- the findings before a place have lesser outcomes, the others greater ones
abbrev pub BelongsAt : Outcome → List Finding → ℕ → Type 0
BelongsAt what = IsPartitionPoint (λ f. key_order (outcome_key f.what) (outcome_key what) ≡ Less)
    (λ f. key_order (outcome_key f.what) (outcome_key what) ≡ Greater)

-- the index at which an outcome is listed, or at which it has to be inserted
abbrev pub IsPlaceIn : Outcome → List Finding → Result ℕ ℕ → Type 0
IsPlaceIn what findings answer =
    MatchResult answer (HoldsAt (λ f. key_order (outcome_key f.what) (outcome_key what) ≡ Equal) findings) (BelongsAt what findings)
