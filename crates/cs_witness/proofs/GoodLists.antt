-- Good findings, and lists of them. For the contracts of `witness`.
use Rattle.std.proofs.Common.{◌≡◌, ℕ, ◌≤◌, List, [], length, sym, subst}
use Rattle.std.specs.Prelude.{All}
use Rattle.std.specs.List.{insert}
use Rattle.std.specs.List.Sorted.{IsStrictlySortedBy, IsPartitionPoint}
use Rattle.std.specs.declared.cmp.Ordering.TheVariants.{Less, Greater}
use Rattle.std.proofs.lemmas.List.Elements.{All-nil}
use Rattle.cs_ast.specs.TypedProgram.{typed_program}
use Rattle.cs_events.specs.declared.outcome.Outcome.{Outcome}
use Rattle.cs_results.specs.declared.finding.Finding.{Finding}
use Rattle.cs_findings.specs.Runs.{run_budgets}
use Rattle.cs_findings.specs.GoodFindings.{IsFinding, EndsElsewhere}
use Rattle.cs_findings.specs.GoodEntries.{outcome_key, key_order}
use Rattle.cs_findings.specs.Neighbours.{neighbours}
use Rattle.cs_witness.specs.declared.entry.Entry.{Entry}
use Rattle.cs_witness.specs.Witnesses.{IsShownOf, IsGoodOf, AreGood}
use Rattle.cs_witness.proofs.Insertions.{all_inserted, inserted_in_order}
use Rattle.cs_witness.proofs.Orders.{key_order-total}

module _ (entry : Entry) where
  -- a shown finding is good if it guesses nothing
  pub good_plain : (finding : Finding) → IsFinding finding.what → IsShownOf entry finding → finding.run.guesses.items ≡ [] → IsGoodOf entry finding
  good_plain finding what shown none = record { what = what; shown = shown; tried = λ some. absurd (some none) }

  -- or if no neighbour ends so
  pub good_tried : (finding : Finding) → IsFinding finding.what → IsShownOf entry finding
      → All (EndsElsewhere (typed_program entry.program.now) entry.function (run_budgets entry.budgets) finding.what)
      (neighbours (typed_program entry.program.now).constants finding.run.inputs)
      → IsGoodOf entry finding
  good_tried finding what shown elsewhere = record { what = what; shown = shown; tried = λ some. elsewhere }

  module _ (Is : Outcome → Type 0) where
    pub none_good : AreGood entry Is []
    unfolding IsStrictlySortedBy
    none_good = record { good = All-nil (IsGoodOf entry); form = All-nil (λ (f : Finding). Is f.what); listed = tt }

    -- one more finding, inserted at the position of its outcome
    pub good_more : (findings : List Finding) (finding : Finding) (what : Outcome) (i : ℕ) → finding.what ≡ what → i ≤ length findings
        → IsPartitionPoint (λ (f : Finding). key_order (outcome_key f.what) (outcome_key what) ≡ Less)
        (λ (f : Finding). key_order (outcome_key f.what) (outcome_key what) ≡ Greater) findings i
        → IsGoodOf entry finding → Is what → AreGood entry Is findings → AreGood entry Is (insert findings i finding)
    good_more findings finding what i same within point good form are = record {
      good = all_inserted (IsGoodOf entry) findings i finding are.good good;
      form = all_inserted (λ (f : Finding). Is f.what) findings i finding are.form (subst Is (sym same) form);
      listed = inserted_in_order key_order-total (λ (f : Finding). outcome_key f.what) findings finding i within
          (subst (λ (w : Outcome). IsPartitionPoint (λ (f : Finding). key_order (outcome_key f.what) (outcome_key w) ≡ Less)
          (λ (f : Finding). key_order (outcome_key f.what) (outcome_key w) ≡ Greater) findings i) (sym same) point) are.listed;
    }
