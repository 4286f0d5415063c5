-- The guesses of a valuation's run according to a state, after one more guess: for the runs of rows.
use Rattle.std.proofs.Common.{◌≡◌, ◌≢◌, ◌<◌, ◌≤◌, inl, inr, ℕ, ℤ, suc, Bool, true, cond, List, [], ◌∷◌, map, Option, None, Some}
use Rattle.std.proofs.Common.{refl, sym, ap, ◌∙◌, subst}
use Rattle.std.proofs.Common.{All, arith}
use Rattle.std.specs.Prelude.{option_map, if◌then◌else◌, Contains}
use Rattle.std.specs.FinMap as finite
use Rattle.std.specs.FinMap.{find, put, entries-insert}
use Rattle.std.specs.FinMap.Entries.{by_order}
use Rattle.std.specs.Ordering.{eq_by_cmp}
use Rattle.std.specs.declared.cmp.Ordering.{Ordering}
use Rattle.std.specs.declared.cmp.Ordering.TheVariants.{Less, Equal, Greater}
use Rattle.std.proofs.lemmas.Bool.Decides.{eqb_tells}
use Rattle.std.proofs.lemmas.List.Elements.{All-head, All-tail, Contains-get_or}
use Rattle.cs_pmap.specs.Keys.{key_cmp, EntryList}
use Rattle.cs_pmap.proofs.AtBranch.{key_cmp_total}
use Rattle.cs_pmap.proofs.FiniteMap.{key_cmp_exact}
use Rattle.cs_store.proofs.Keys.{key_itself, other_key, get_here, get_elsewhere}
use Rattle.cs_terms.specs.declared.symbol.Sym.{Sym}
use Rattle.cs_terms.specs.Term.{Valuation}
use Rattle.cs_events.specs.Runs.{guess_at}
use Rattle.cs_state.specs.declared.asked.Asked.{Asked}
use Rattle.cs_state.specs.Valuations.{Guessed as Guesses, guess_of, guesses_of}
use Rattle.cs_successors.specs.Coming.{AreGuessesAfter}

-- each guess has the number of its event as its key
abbrev pub AreNumbered : EntryList Asked → Type 0
AreNumbered [] = Unit {0}
AreNumbered (entry ∷ entries) = (entry.0 ≡ (entry.1.event, 0)) × AreNumbered entries

-- the number that is guessed
abbrev pub number_in : Valuation → Option Asked → Option ℤ
number_in v = option_map (λ (asked : Asked). v asked.guess.0)

-- the first guess at an event is the one with its number as key
listed : (v : Valuation) (event : ℕ) (entries : EntryList Asked) → AreNumbered entries
    → guess_at (map (guess_of v) (map (λ e. e.1) entries)) event ≡ number_in v (find key_cmp (event, 0) entries)
listed v event [] are = refl
listed v event (entry ∷ entries) (is, are) = elim (eqb_tells entry.1.event event) [
  | inl same ↦
      let here : eq_by_cmp key_cmp (event, 0) entry.0 ≡ true
      = ap (eq_by_cmp key_cmp (event, 0)) (is ∙ ap (λ (n : ℕ). (n, 0)) same.1) ∙ key_itself (event, 0) in
      ap (λ (b : Bool). if b then Some (v entry.1.guess.0) else guess_at (map (guess_of v) (map (λ e. e.1) entries)) event) same.0
      ∙ sym (ap (λ (b : Bool). number_in v (cond b (Some entry.1) (find key_cmp (event, 0) entries))) here)
  | inr apart ↦
      let elsewhere = ap (eq_by_cmp key_cmp (event, 0)) is ∙ other_key event entry.1.event (λ same. apart.1 (sym same)) in
      ap (λ (b : Bool). if b then Some (v entry.1.guess.0) else guess_at (map (guess_of v) (map (λ e. e.1) entries)) event) apart.0
      ∙ listed v event entries are
      ∙ sym (ap (λ (b : Bool). number_in v (cond b (Some entry.1) (find key_cmp (event, 0) entries))) elsewhere)
]

guessed_at : (v : Valuation) (guesses : Guesses) → AreNumbered (finite.entries guesses) → (event : ℕ)
    → guess_at (guesses_of v guesses) event ≡ number_in v (finite.get guesses (event, 0))
guessed_at v guesses are event = listed v event (finite.entries guesses) are ∙ ap (number_in v) (sym (finite.get-entries guesses (event, 0)))

-- nothing is listed at an event after all that have guesses
pub none_listed : (v : Valuation) (event : ℕ) (asked : List Asked) → All (λ (one : Asked). one.event < event) asked
    → guess_at (map (guess_of v) asked) event ≡ None
none_listed v event [] all = refl
none_listed v event (one ∷ asked) all = elim (eqb_tells one.event event) [
  | inl same ↦ let early = All-head (λ (one : Asked). one.event < event) one asked all in absurd (omega (arith, early, same.1))
  | inr apart ↦
      ap (λ (b : Bool). if b then Some (v one.guess.0) else guess_at (map (guess_of v) asked) event) apart.0
      ∙ none_listed v event asked (All-tail (λ (one : Asked). one.event < event) one asked all)
]

-- one more guess
numbered_put : (one : Asked) (entries : EntryList Asked) → AreNumbered entries → AreNumbered (put key_cmp (one.event, 0) one entries)
numbered_put one [] are = (refl, tt)
numbered_put one (entry ∷ entries) are = by (key_cmp (one.event, 0) entry.0) refl (numbered_put one entries are.1)
  where
    by : (order : Ordering) → key_cmp (one.event, 0) entry.0 ≡ order → AreNumbered (put key_cmp (one.event, 0) one entries)
        → AreNumbered (by_order order (((one.event, 0), one) ∷ entry ∷ entries) ((entry.0, one) ∷ entries)
        (entry ∷ put key_cmp (one.event, 0) one entries))
    by Less is rest = (refl, are)
    by Equal is rest = (sym (key_cmp_exact (one.event, 0) entry.0 is), are.1)
    by Greater is rest = (are.0, rest)

module _ (event : ℕ) where
  pub numbered_after : (guess : Option Sym) (before after : Guesses) → AreGuessesAfter event guess before after → AreNumbered (finite.entries before)
      → AreNumbered (finite.entries after)
  numbered_after None before after same are = subst (λ (m : Guesses). AreNumbered (finite.entries m)) (sym same) are
  numbered_after (Some symbol) before after (one, number, guess, same) are =
      let key : finite.insert before (event, 0) one ≡ finite.insert before (one.event, 0) one
      = ap (λ (n : ℕ). finite.insert before (n, 0) one) (sym number) in
      subst (λ (m : Guesses). AreNumbered (finite.entries m)) (sym (same ∙ key))
      (subst AreNumbered (sym (entries-insert key_cmp_total before (one.event, 0) one)) (numbered_put one (finite.entries before) are))

  module _ (v : Valuation) (events : ℕ) (next : event ≡ suc events) (guess : Option Sym) (before after : Guesses)
      (is : AreGuessesAfter event guess before after) (are : AreNumbered (finite.entries before)) where
    -- earlier guesses are listed as before
    pub listed_before : (earlier : ℕ) → earlier ≤ events → guess_at (guesses_of v after) earlier ≡ guess_at (guesses_of v before) earlier
    listed_before earlier early = by guess refl is
      where
        by : (given : Option Sym) → guess ≡ given → AreGuessesAfter event given before after
            → guess_at (guesses_of v after) earlier ≡ guess_at (guesses_of v before) earlier
        by None none same = ap (λ (m : Guesses). guess_at (guesses_of v m) earlier) same
        by (Some symbol) some (one, number, guessed, same) =
            let apart : earlier ≢ event = λ e. omega (arith, e, early, next) in
            guessed_at v after (numbered_after (Some symbol) before after (one, number, guessed, same) are) earlier
            ∙ ap (λ (m : Guesses). number_in v (finite.get m (earlier, 0))) same
            ∙ ap (number_in v) (get_elsewhere before event earlier one apart) ∙ sym (guessed_at v before are earlier)

    -- and at the event itself the symbol's number is listed
    pub listed_here : ((asked : Asked) → Contains (finite.values before) asked → asked.event ≤ events)
        → guess_at (guesses_of v after) event ≡ option_map (λ (symbol : Sym). v symbol.0) guess
    listed_here all = by guess refl is
      where
        early : All (λ (one : Asked). one.event < event) (finite.values before)
        early = λ k d within. let le = all _ (Contains-get_or (finite.values before) k d within) in omega (arith, le, next)

        by : (given : Option Sym) → guess ≡ given → AreGuessesAfter event given before after
            → guess_at (guesses_of v after) event ≡ option_map (λ (symbol : Sym). v symbol.0) given
        by None none same = ap (λ (m : Guesses). guess_at (guesses_of v m) event) same ∙ none_listed v event (finite.values before) early
        by (Some symbol) some (one, number, guessed, same) =
            guessed_at v after (numbered_after (Some symbol) before after (one, number, guessed, same) are) event
            ∙ ap (λ (m : Guesses). number_in v (finite.get m (event, 0))) same ∙ ap (number_in v) (get_here before event one)
            ∙ ap (λ (s : Sym). Some (v s.0)) guessed
