-- Ends that are chosen: for the contracts of `chosen` and of the functions that it calls.
use Rattle.std.proofs.Common.{◌≡◌, ◌<◌, ◌≤◌, ◌+◌, ℕ, zero, suc, true, false, true≢false, List, [], ◌∷◌, ◌++◌, length, take, get_or, set}
use Rattle.std.proofs.Common.{refl, sym, ap, ◌∙◌, subst, inl, inr, below_more, arith, IsPermutation}
use Rattle.std.specs.Prelude.{Some, slice_get, Contains}
use Rattle.std.proofs.lemmas.List.{map-append, take_more, length-map, get_or-map}
use Rattle.std.proofs.lemmas.List.Elements.{All-contains, All-contains_itself, Contains-append_left, Contains-push, Contains-push_cases}
use Rattle.std.proofs.lemmas.List.Sorted.{All-permutation, IsPermutation-map, IsPermutation-sym}
use Rattle.std.proofs.lemmas.Option.{same_Some, slice_get_within, slice_get-get_or}
use Rattle.cs_events.specs.declared.outcome.Outcome.{Outcome}
use Rattle.cs_explored.specs.declared.explored.End.{End}
use Rattle.cs_findings.specs.GoodFindings.{IsFinding}
use Rattle.cs_suspects.specs.declared.choosing.Rank.{Rank}
use Rattle.cs_suspects.specs.declared.choosing.Count.{Count}
use Rattle.cs_suspects.specs.Chosen.{numbers_of, AreOfFindings, HaveAllFindings, IsChosen, AreAllChosen, counted, IsWanted}

-- ---- the counts

-- one more end of an outcome
same_outcomes : (counts : List Count) (place chosen : ℕ) (outcome : Outcome) → slice_get (counted counts) place ≡ Some outcome
    → counted (set counts place (record { outcome = outcome; chosen = chosen })) ≡ counted counts
same_outcomes [] place chosen outcome at = refl
same_outcomes (count ∷ counts) zero chosen outcome at =
    ap (λ (first : Outcome). first ∷ counted counts) (sym (same_Some count.outcome outcome at))
same_outcomes (count ∷ counts) (suc place) chosen outcome at =
    ap (λ (rest : List Outcome). count.outcome ∷ rest) (same_outcomes counts place chosen outcome at)

pub wanted_once_more : (counts : List Count) (place chosen : ℕ) (outcome : Outcome) → slice_get (counted counts) place ≡ Some outcome
    → IsWanted outcome (counted counts) true (counted (set counts place (record { outcome = outcome; chosen = chosen })))
wanted_once_more counts place chosen outcome at = record {
  refused = λ no. absurd (true≢false no);
  others = λ other among. inl (subst (λ (outcomes : List Outcome). Contains outcomes other) (same_outcomes counts place chosen outcome at) among);
}

-- ---- the ranks

-- the numbers of the ends before an index
pub record RankedSoFar (ends : List End) (count : ℕ) (numbers : List ℕ) : Type 0 where
  pub each : AreOfFindings ends numbers
  pub all : (number : ℕ) → number < count → (end : End) → slice_get ends number ≡ Some end → IsFinding end.outcome → Contains numbers number

nothing_in : {X : Type 0} (x : X) → Contains [] x → ⊥
nothing_in x (k, within, at) = absurd (omega (arith, within))

pub ranked_none : (ends : List End) → RankedSoFar ends 0 []
ranked_none ends = record {
  each = λ number among. absurd (nothing_in number among);
  all = λ number below end at finding. absurd (omega arith);
}

-- one more rank
pub numbers_push : (ranks after : List Rank) (rank : Rank) → after ≡ ranks ++ rank ∷ [] → numbers_of after ≡ numbers_of ranks ++ rank.number ∷ []
numbers_push ranks after rank more = ap numbers_of more ∙ map-append (λ (it : Rank). it.number) ranks (rank ∷ [])

-- one more end that is a finding, or isn't
pub ranked_more : (ends : List End) (count : ℕ) (numbers : List ℕ) (end : End) → slice_get ends count ≡ Some end → IsFinding end.outcome
    → RankedSoFar ends count numbers → RankedSoFar ends (count + 1) (numbers ++ count ∷ [])
ranked_more ends count numbers end at finding so_far = record {
  each = λ number among. elim (Contains-push_cases numbers count number among) [
    | inl earlier ↦ so_far.each number earlier
    | inr same ↦ subst (λ (n : ℕ). (it : End) × (slice_get ends n ≡ Some it) × IsFinding it.outcome) same (end, at, finding)
  ];
  all = below_more (λ (number : ℕ). (it : End) → slice_get ends number ≡ Some it → IsFinding it.outcome → Contains (numbers ++ count ∷ []) number) count
      (λ number below it there is. Contains-append_left numbers (count ∷ []) number (so_far.all number below it there is))
      (λ it there is. Contains-push numbers count);
}

pub ranked_past : (ends : List End) (count : ℕ) (numbers : List ℕ) (end : End) → slice_get ends count ≡ Some end → (IsFinding end.outcome → ⊥)
    → RankedSoFar ends count numbers → RankedSoFar ends (count + 1) numbers
ranked_past ends count numbers end at other so_far = record {
  each = so_far.each;
  all = below_more (λ (number : ℕ). (it : End) → slice_get ends number ≡ Some it → IsFinding it.outcome → Contains numbers number) count so_far.all
      (λ it there is. absurd (other (subst (λ (e : End). IsFinding e.outcome) (same_Some it end (sym there ∙ at)) is)));
}

pub all_ranked : (ends : List End) (count : ℕ) (numbers : List ℕ) → length ends ≤ count → RankedSoFar ends count numbers
    → HaveAllFindings ends numbers
all_ranked ends count numbers all so_far number end at finding =
    let within = slice_get_within ends number end at in
    so_far.all number (omega (arith, within, all)) end at finding

-- the same numbers in another order
moved : (numbers others : List ℕ) → IsPermutation numbers others → (number : ℕ) → Contains numbers number → Contains others number
moved numbers others same number among =
    All-contains (Contains others) numbers number
    (All-permutation (Contains others) others numbers (IsPermutation-sym numbers others same) (All-contains_itself others)) among

pub each_sorted : (ends : List End) (ranks sorted : List Rank) → IsPermutation ranks sorted → AreOfFindings ends (numbers_of ranks)
    → AreOfFindings ends (numbers_of sorted)
each_sorted ends ranks sorted same each number among =
    each number (moved (numbers_of sorted) (numbers_of ranks)
    (IsPermutation-sym (numbers_of ranks) (numbers_of sorted) (IsPermutation-map (λ (rank : Rank). rank.number) ranks sorted same)) number among)

pub all_sorted : (ends : List End) (ranks sorted : List Rank) → IsPermutation ranks sorted → HaveAllFindings ends (numbers_of ranks)
    → HaveAllFindings ends (numbers_of sorted)
all_sorted ends ranks sorted same all number end at finding =
    moved (numbers_of ranks) (numbers_of sorted) (IsPermutation-map (λ (rank : Rank). rank.number) ranks sorted same) number (all number end at finding)

-- ---- the choice

abbrev pub no_rank : Rank
no_rank = record { guesses = false; events = 0; number = 0 }

-- among the ranks so far: each counted outcome has a chosen end, and so has the outcome of each rank
pub record ChosenSoFar (ends : List End) (ranked : List ℕ) (outcomes : List Outcome) (numbers : List ℕ) : Type 0 where
  pub each : AreOfFindings ends numbers
  pub counted : (outcome : Outcome) → Contains outcomes outcome → IsChosen ends numbers outcome
  pub all : (number : ℕ) (end : End) → Contains ranked number → slice_get ends number ≡ Some end → IsChosen ends numbers end.outcome

pub chosen_none : (ends : List End) → ChosenSoFar ends [] [] []
chosen_none ends = record {
  each = λ number among. absurd (nothing_in number among);
  counted = λ outcome among. absurd (nothing_in outcome among);
  all = λ number end among at. absurd (nothing_in number among);
}

still_chosen : (ends : List End) (numbers : List ℕ) (more : ℕ) (outcome : Outcome) → IsChosen ends numbers outcome
    → IsChosen ends (numbers ++ more ∷ []) outcome
still_chosen ends numbers more outcome chosen =
    (chosen.0, chosen.1, Contains-append_left numbers (more ∷ []) chosen.0 chosen.2, chosen.3, chosen.4)

-- the next rank's end is chosen, or has an outcome that some chosen end has
pub chosen_next : (ends : List End) (ranked : List ℕ) (before after : List Outcome) (numbers : List ℕ) (number : ℕ) (end : End)
    → slice_get ends number ≡ Some end → IsFinding end.outcome → IsWanted end.outcome before true after → ChosenSoFar ends ranked before numbers
    → ChosenSoFar ends (ranked ++ number ∷ []) after (numbers ++ number ∷ [])
chosen_next ends ranked before after numbers number end at finding wanted so_far = record {
  each = λ n among. elim (Contains-push_cases numbers number n among) [
    | inl earlier ↦ so_far.each n earlier
    | inr same ↦ subst (λ (m : ℕ). (it : End) × (slice_get ends m ≡ Some it) × IsFinding it.outcome) same (end, at, finding)
  ];
  counted = λ outcome among. elim (wanted.others outcome among) [
    | inl earlier ↦ still_chosen ends numbers number outcome (so_far.counted outcome earlier)
    | inr it ↦ (number, end, Contains-push numbers number, at, sym it.0)
  ];
  all = λ n it among there. elim (Contains-push_cases ranked number n among) [
    | inl earlier ↦ still_chosen ends numbers number it.outcome (so_far.all n it earlier there)
    | inr same ↦ (n, it, subst (Contains (numbers ++ number ∷ [])) same (Contains-push numbers number), there, refl)
  ];
}

pub refused_next : (ends : List End) (ranked : List ℕ) (before after : List Outcome) (numbers : List ℕ) (number : ℕ) (end : End)
    → slice_get ends number ≡ Some end → IsWanted end.outcome before false after → ChosenSoFar ends ranked before numbers
    → ChosenSoFar ends (ranked ++ number ∷ []) after numbers
refused_next ends ranked before after numbers number end at wanted so_far = record {
  each = so_far.each;
  counted = λ outcome among. elim (wanted.others outcome among) [
    | inl earlier ↦ so_far.counted outcome earlier
    | inr it ↦ absurd (true≢false (sym it.1))
  ];
  all = λ n it among there. elim (Contains-push_cases ranked number n among) [
    | inl earlier ↦ so_far.all n it earlier there
    | inr same ↦
        let one : it ≡ end = same_Some it end (sym there ∙ ap (slice_get ends) (sym same) ∙ at) in
        subst (λ (e : End). IsChosen ends numbers e.outcome) (sym one) (so_far.counted end.outcome (wanted.refused refl))
  ];
}

-- the numbers of one rank more
pub next_number : (ranks : List Rank) (k : ℕ) (default : Rank) → k < length ranks
    → numbers_of (take (k + 1) ranks) ≡ numbers_of (take k ranks) ++ (get_or ranks k default).number ∷ []
next_number ranks k default within =
    ap numbers_of (take_more ranks k default within) ∙ map-append (λ (rank : Rank). rank.number) (take k ranks) (get_or ranks k default ∷ [])

-- a rank is that of an end that is a finding
pub ranked_end : (ends : List End) (ranks : List Rank) (k : ℕ) (default : Rank) → k < length ranks → AreOfFindings ends (numbers_of ranks)
    → (end : End) × (slice_get ends (get_or ranks k default).number ≡ Some end) × IsFinding end.outcome
ranked_end ends ranks k default within each =
    let number = (get_or ranks k default).number in
    let longer = length-map ranks (λ (rank : Rank). rank.number) in
    each number (k, omega (arith, longer, within), get_or-map (λ (rank : Rank). rank.number) ranks k default number within)

pub ranked_finding : (ends : List End) (ranks : List Rank) (k : ℕ) (default : Rank) (end : End) → k < length ranks
    → AreOfFindings ends (numbers_of ranks) → slice_get ends (get_or ranks k default).number ≡ Some end → IsFinding end.outcome
ranked_finding ends ranks k default end within each at =
    let found = ranked_end ends ranks k default within each in
    subst (λ (e : End). IsFinding e.outcome) (same_Some found.0 end (sym found.1 ∙ at)) found.2

pub all_chosen : (ends : List End) (ranked : List ℕ) (outcomes : List Outcome) (numbers : List ℕ) → HaveAllFindings ends ranked
    → ChosenSoFar ends ranked outcomes numbers → AreAllChosen ends numbers
all_chosen ends ranked outcomes numbers have so_far end (k, within, at) finding =
    let there : slice_get ends k ≡ Some end = slice_get-get_or ends k end within ∙ ap Some at in
    so_far.all k end (have k end there finding) there
