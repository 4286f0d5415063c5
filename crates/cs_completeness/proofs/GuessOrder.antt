-- A state's guesses are in the order of their events: for `IsEvident`.
use Rattle.std.proofs.Common.{◌≡◌, ◌<◌, ℕ, [], ◌∷◌, map, Option, None, Some, slice_get, refl, sym, ap, ◌∙◌, subst, arith}
use Rattle.std.specs.Prelude.{IsTrue, is_some, option_map}
use Rattle.std.specs.FinMap as finite
use Rattle.std.specs.List.{AllByRecursion}
use Rattle.std.specs.List.Sorted.{IsStrictlySortedBy}
use Rattle.std.specs.Ordering.{nat_cmp}
use Rattle.std.proofs.lemmas.List.{length-map}
use Rattle.std.proofs.lemmas.Map.Keys.{below_from_sorted}
use Rattle.std.proofs.lemmas.Option.{slice_get-map, slice_get_within, get_or_from_slice_get}
use Rattle.cs_pmap.specs.Keys.{EntryList}
use Rattle.cs_store.proofs.EntryLists.{Keyed, rising_numbers}
use Rattle.cs_store.proofs.Same.{all_found}
use Rattle.cs_store.specs.Contents.{by_number}
use Rattle.cs_state.specs.declared.asked.Asked.{Asked}
use Rattle.cs_state.specs.declared.state.State.{State}
use Rattle.cs_exactness.specs.Noted.{IsInEventOrder}

abbrev pub event_of : Asked → ℕ
event_of asked = asked.event

module _ (state : State) (in_order : IsInEventOrder state) where
  abbrev OfEntry : (ℕ × ℕ) × Asked → Type 0
  OfEntry entry = finite.get state.asked entry.0 ≡ Some entry.1

  keyed : Keyed (finite.entries state.asked)
  keyed key there =
      by (finite.get state.asked key) refl
      (subst (λ (found : Option Asked). IsTrue (is_some found)) (sym (finite.get-entries state.asked key)) there)
    where
      by : (found : Option Asked) → finite.get state.asked key ≡ found → IsTrue (is_some found) → key.1 ≡ 0
      by None is some = cc
      by (Some asked) is some = ap (λ (k : ℕ × ℕ). k.1) (in_order key asked is)

  same_events : (entries : EntryList Asked) → AllByRecursion OfEntry entries
      → map (λ (one : ℕ × Asked). one.0) (by_number entries) ≡ map event_of (map (λ (entry : (ℕ × ℕ) × Asked). entry.1) entries)
  same_events [] found = refl
  same_events (entry ∷ entries) found =
      let key = in_order entry.0 entry.1 found.0 in
      let rest = same_events entries found.1 in
      λ i. (key i).0 ∷ rest i

  pub events_ascend : IsStrictlySortedBy nat_cmp (map event_of (finite.values state.asked))
  events_ascend =
      subst (IsStrictlySortedBy nat_cmp) (same_events (finite.entries state.asked) (all_found state.asked))
      (rising_numbers (finite.entries state.asked) keyed (finite.entries_sorted state.asked))

  -- a guess that is listed later has a later event
  pub comes_later : (number later : ℕ) (one other : Asked) → number < later → slice_get (finite.values state.asked) number ≡ Some one
      → slice_get (finite.values state.asked) later ≡ Some other → one.event < other.event
  comes_later number later one other before here there =
      let event_at = λ (place : ℕ) (asked : Asked) (is : slice_get (finite.values state.asked) place ≡ Some asked).
      get_or_from_slice_get (map event_of (finite.values state.asked)) place asked.event 0
      (slice_get-map event_of (finite.values state.asked) place ∙ ap (λ (found : Option Asked). option_map event_of found) is) in
      let within = slice_get_within (finite.values state.asked) later other there in
      let below = below_from_sorted (map event_of (finite.values state.asked)) number later 0 events_ascend before
      (subst (λ (n : ℕ). later < n) (sym (length-map (finite.values state.asked) event_of)) within) in
      let first = event_at number one here in
      let second = event_at later other there in
      omega (arith, below, first, second)
