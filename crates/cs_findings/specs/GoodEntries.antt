-- Good results of entries.
use Rattle.std.specs.Prelude.{◌≡◌, ℕ, List, [], ◌∷◌, map, All}
use Rattle.std.specs.List.Sorted.{IsStrictlySortedBy}
use Rattle.std.specs.Ordering.{nat_cmp, ordering_then}
use Rattle.std.specs.declared.cmp.Ordering.{Ordering}
use Rattle.cs_ast.specs.declared.place.Place.{Place}
use Rattle.cs_ast.specs.TypedProgram.{TypedProgram}
use Rattle.cs_model.specs.Kinds.{kind_number}
use Rattle.cs_events.specs.declared.outcome.Outcome.{Outcome}
use Rattle.cs_events.specs.declared.outcome.Outcome.TheVariants.{Done, Fault, Over}
use Rattle.cs_events.specs.Budgets.{budget_number}
use Rattle.cs_results.specs.declared.budgets.Budgets.{Budgets}
use Rattle.cs_results.specs.declared.finding.Finding.{Finding}
use Rattle.cs_results.specs.declared.result.EntryResult.{EntryResult}
use Rattle.cs_results.specs.declared.result.Cut.{Cut}
use Rattle.cs_results.specs.declared.result.Cut.TheVariants.{Nodes, Splits}
use Rattle.cs_results.specs.declared.result.Verdict as verdicts
use Rattle.cs_results.specs.declared.result.Verdict.TheVariants as verdict
use Rattle.cs_findings.specs.Runs.{run_budgets}
pub use Rattle.cs_results.specs.Selected.{is_kind, is_selected}
use Rattle.cs_findings.specs.GoodFindings.{IsGoodFinding}

-- positions are ordered by file, line and column
abbrev pub place_order : Place → Place → Ordering
place_order one other = ordering_then (nat_cmp one.file other.file) (ordering_then (nat_cmp one.line other.line) (nat_cmp one.column other.column))

-- a fault or a met budget
abbrev pub IsFault : Outcome → Type 0
IsFault (Fault kind at) = Unit {0}
IsFault (Done returned) = ⊥
IsFault (Over budget at) = ⊥

abbrev pub IsOver : Outcome → Type 0
IsOver (Over budget at) = Unit {0}
IsOver (Done returned) = ⊥
IsOver (Fault kind at) = ⊥

-- faults and budgets are listed by position, then by the number of the kind or of the budget
abbrev pub outcome_key : Outcome → Place × ℕ
outcome_key (Fault kind at) = (at, kind_number kind)
outcome_key (Over budget at) = (at, budget_number budget)
outcome_key (Done returned) = (record { file = 0; line = 0; column = 0 }, 0)

abbrev pub key_order : Place × ℕ → Place × ℕ → Ordering
key_order one other = ordering_then (place_order one.0 other.0) (nat_cmp one.1 other.1)

-- findings in the order in which they are listed, no two with the same outcome
abbrev pub AreListed : List Finding → Type 0
AreListed findings = IsStrictlySortedBy key_order (map (λ f. outcome_key f.what) findings)

-- a cut of the nodes comes first, then each access that was cut, by position
abbrev pub cut_key : Cut → ℕ × Place
cut_key (Nodes nodes) = (0, record { file = 0; line = 0; column = 0 })
cut_key (Splits at offsets) = (1, at)

abbrev pub cut_order : ℕ × Place → ℕ × Place → Ordering
cut_order one other = ordering_then (nat_cmp one.0 other.0) (place_order one.1 other.1)

abbrev pub AreCutsListed : List Cut → Type 0
AreCutsListed cuts = IsStrictlySortedBy cut_order (map cut_key cuts)

-- `Cut` if anything was cut, else `Bounded` if a budget was met, else `Complete`
abbrev pub verdict_of : List Cut → List Finding → verdicts.Verdict
verdict_of (cut ∷ cuts) overs = verdict.Cut
verdict_of [] (over ∷ overs) = verdict.Bounded
verdict_of [] [] = verdict.Complete

-- a good result of an entry, as to its findings. `OutOfNodes` and `EveryRun` define why cuts are listed, and that no outcome is missing
pub record IsGoodEntry (program : TypedProgram) (budgets : Budgets) (given : EntryResult) : Type 0 where
  pub reports : All (IsGoodFinding program given.entry (run_budgets budgets)) given.reports.items
  pub overs : All (IsGoodFinding program given.entry (run_budgets budgets)) given.overs.items
  pub faults : All (λ f. IsFault f.what) given.reports.items
  pub met : All (λ f. IsOver f.what) given.overs.items
  pub reports_listed : AreListed given.reports.items
  pub overs_listed : AreListed given.overs.items
  pub cuts_listed : AreCutsListed given.cuts.items
  pub verdict : given.verdict ≡ verdict_of given.cuts.items given.overs.items
