-- Outcomes that are listed remain listed. For the contracts of `witness`.
use Rattle.std.proofs.Common.{◌≡◌, ℕ, ◌+◌, ◌<◌, ◌⊎◌, inl, inr, List, [], ◌∷◌, ◌++◌, map, length, get_or, Some, slice_get, sym, ap, ◌∙◌, subst, arith}
use Rattle.std.specs.Prelude.{Contains, false}
use Rattle.std.specs.List.{insert, HoldsAt, All}
use Rattle.std.specs.List.Sorted.{IsPermutation}
use Rattle.std.specs.declared.cmp.Ordering.TheVariants.{Equal}
use Rattle.std.proofs.lemmas.List.{map-append}
use Rattle.std.proofs.lemmas.List.Elements.{All-contains, Contains-get_or, Contains-push, Contains-push_cases, Contains-append_left}
use Rattle.std.proofs.lemmas.List.Sorted.{Contains-permutation, IsPermutation-map}
use Rattle.std.proofs.lemmas.Option.{slice_get_within}
use Rattle.cs_events.specs.declared.outcome.Outcome.{Outcome}
use Rattle.cs_events.specs.declared.outcome.Outcome.TheVariants.{Done, Fault, Over}
use Rattle.cs_results.specs.declared.finding.Finding.{Finding}
use Rattle.cs_results.specs.declared.result.EntryResult.{EntryResult}
use Rattle.cs_findings.specs.EveryRun.{outcomes_of, HasFinding}
use Rattle.cs_findings.specs.GoodFindings.{IsFinding}
use Rattle.cs_findings.specs.GoodEntries.{IsFault, IsOver, outcome_key, key_order}
use Rattle.cs_suspect_types.specs.declared.suspect.Suspect.{Suspect}
use Rattle.cs_witness.specs.declared.entry.Entry.{Entry}
use Rattle.cs_witness.specs.declared.witness.Rank.{Rank}
use Rattle.cs_witness.specs.Ranks.{AreRanked}
use Rattle.cs_witness.specs.Witnesses.{IsEvidentOf, IsIn, KeepsListed}
use Rattle.cs_witness.proofs.EvidentPools.{contained_at}
use Rattle.cs_witness.proofs.Insertions.{inserted_there, inserted_keeps, map-insert}
use Rattle.cs_witness.proofs.Namings.{here_or_before, there_is}
use Rattle.cs_witness.proofs.Orders.{one_fault, one_over}
use Rattle.cs_witness.proofs.PathsRead.{mapped, from_mapped}

-- inserting a finding lists it, and keeps what was listed
module _ (findings : List Finding) (place : ℕ) (finding : Finding) where
  abbrev what_of : Finding → Outcome
  what_of f = f.what

  pub insertion_keeps : KeepsListed findings (insert findings place finding)
  insertion_keeps what here =
      subst (λ l. Contains l what) (sym (map-insert findings place finding what_of))
      (All-contains (Contains (insert (outcomes_of findings) place finding.what)) (outcomes_of findings) what
      (inserted_keeps (outcomes_of findings) place finding.what) here)

  pub insertion_lists : Contains (outcomes_of (insert findings place finding)) finding.what
  insertion_lists =
      subst (λ l. Contains l finding.what) (sym (map-insert findings place finding what_of))
      (inserted_there (outcomes_of findings) place finding.what)

-- an outcome that a search found is listed, among faults or among met budgets
module _ (findings : List Finding) (what : Outcome) (i : ℕ) (below : i < length findings)
    (found : HoldsAt (λ (f : Finding). key_order (outcome_key f.what) (outcome_key what) ≡ Equal) findings i) where
  here : (d : Finding) × (slice_get findings i ≡ Some d)
  here = there_is findings i below

  listed_at : (d : Finding) → (get_or findings i d).what ≡ what → Contains (outcomes_of findings) what
  listed_at d same =
      subst (Contains (outcomes_of findings)) same (mapped (λ (f : Finding). f.what) findings (get_or findings i d) (Contains-get_or findings i d below))

  pub listed_fault : IsFault what → All (λ (f : Finding). IsFault f.what) findings → Contains (outcomes_of findings) what
  listed_fault form all = listed_at here.0 (one_fault (get_or findings i here.0).what what (all i here.0 below) form (found here.0))

  pub listed_over : IsOver what → All (λ (f : Finding). IsOver f.what) findings → Contains (outcomes_of findings) what
  listed_over form all = listed_at here.0 (one_over (get_or findings i here.0).what what (all i here.0 below) form (found here.0))

-- what was listed remains listed
pub still_in : (what : Outcome) (reports overs reports' overs' : List Finding) → KeepsListed reports reports' → KeepsListed overs overs'
    → IsIn what reports overs → IsIn what reports' overs'
still_in (Fault kind at) reports overs reports' overs' one other is = one (Fault kind at) is
still_in (Over budget at) reports overs reports' overs' one other is = other (Over budget at) is
still_in (Done returned) reports overs reports' overs' one other is = tt

-- a listed outcome has a finding in the result
pub has_finding : (result : EntryResult) (what : Outcome) (reports overs : List Finding) → result.reports.items ≡ reports → result.overs.items ≡ overs
    → IsIn what reports overs → HasFinding result what
has_finding result (Fault kind at) reports overs one other is = subst (λ l. Contains (outcomes_of l) (Fault kind at)) (sym one) is
has_finding result (Over budget at) reports overs one other is = subst (λ l. Contains (outcomes_of l) (Over budget at)) (sym other) is
has_finding result (Done returned) reports overs one other is = tt

module _ (entry : Entry) (suspects : List Suspect) where
  -- the outcomes of the evident suspects among these ranks are listed
  abbrev pub ListRanked : List Rank → List Finding → List Finding → Type 0
  ListRanked ranks reports overs = (rank : Rank) (suspect : Suspect) → Contains ranks rank → slice_get suspects rank.number ≡ Some suspect
      → IsFinding suspect.what → IsEvidentOf entry suspect → IsIn suspect.what reports overs

  pub none_ranked : (reports overs : List Finding) → ListRanked [] reports overs
  none_ranked reports overs rank suspect among = absurd (let before = among.1 in omega arith)

  -- one more rank
  pub more_ranked : (ranks : List Rank) (one : Rank) (reports overs reports' overs' : List Finding) → KeepsListed reports reports'
      → KeepsListed overs overs' → ListRanked ranks reports overs
      → ((suspect : Suspect) → slice_get suspects one.number ≡ Some suspect → IsFinding suspect.what → IsEvidentOf entry suspect
      → IsIn suspect.what reports' overs') → ListRanked (ranks ++ one ∷ []) reports' overs'
  more_ranked ranks one reports overs reports' overs' keeps keeps' before here rank suspect among there form evident =
      by (Contains-push_cases ranks one rank among)
    where
      by : (Contains ranks rank ⊎ (one ≡ rank)) → IsIn suspect.what reports' overs'
      by (inl earlier) = still_in suspect.what reports overs reports' overs' keeps keeps' (before rank suspect earlier there form evident)
      by (inr same) = here suspect (ap (λ (r : Rank). slice_get suspects r.number) same ∙ there) form evident

  -- all suspects have a rank
  pub all_ranked : (ranks : List Rank) (reports overs : List Finding) → AreRanked (length suspects) ranks → ListRanked ranks reports overs
      → (suspect : Suspect) → Contains suspects suspect → IsFinding suspect.what → IsEvidentOf entry suspect → IsIn suspect.what reports overs
  all_ranked ranks reports overs ranked list suspect among form evident =
      let at = contained_at suspects suspect among in
      let within = slice_get_within suspects at.0 suspect at.1 in
      let d : Rank = record { guesses = false; events = 0; number = 0 } in
      let rank = from_mapped (λ (r : Rank). r.number) ranks d at.0 (ranked at.0 within) in
      list rank.0 suspect rank.1 (ap (slice_get suspects) rank.2 ∙ at.1) form evident

-- one more rank, and their order
pub ranked_more : (count : ℕ) (ranks : List Rank) (rank : Rank) → rank.number ≡ count → AreRanked count ranks → AreRanked (count + 1) (ranks ++ rank ∷ [])
ranked_more count ranks rank is ranked number below = by (here_or_before number count below)
  where
    numbers : map (λ (r : Rank). r.number) (ranks ++ rank ∷ []) ≡ map (λ (r : Rank). r.number) ranks ++ rank.number ∷ []
    numbers = map-append (λ (r : Rank). r.number) ranks (rank ∷ [])

    by : ((number ≡ count) ⊎ (number < count)) → Contains (map (λ (r : Rank). r.number) (ranks ++ rank ∷ [])) number
    by (inl here) =
        subst (λ l. Contains l number) (sym numbers)
        (subst (Contains (map (λ (r : Rank). r.number) ranks ++ rank.number ∷ [])) (is ∙ sym here)
        (Contains-push (map (λ (r : Rank). r.number) ranks) rank.number))
    by (inr less) =
        subst (λ l. Contains l number) (sym numbers)
        (Contains-append_left (map (λ (r : Rank). r.number) ranks) (rank.number ∷ []) number (ranked number less))

pub ranked_sorted : (count : ℕ) (ranks sorted : List Rank) → IsPermutation ranks sorted → AreRanked count ranks → AreRanked count sorted
ranked_sorted count ranks sorted permuted ranked number below =
    Contains-permutation (map (λ (r : Rank). r.number) ranks) (map (λ (r : Rank). r.number) sorted) number
    (IsPermutation-map (λ (r : Rank). r.number) ranks sorted permuted) (ranked number below)

pub ranked_push : (count : ℕ) (ranks new : List Rank) (rank : Rank) → new ≡ ranks ++ rank ∷ [] → rank.number ≡ count → AreRanked count ranks
    → AreRanked (count + 1) new
ranked_push count ranks new rank pushed is ranked = subst (AreRanked (count + 1)) (sym pushed) (ranked_more count ranks rank is ranked)
