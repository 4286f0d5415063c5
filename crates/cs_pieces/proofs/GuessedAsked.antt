-- The guesses of a state, which are at its events, and what it notes about the last one: for the contract of `find`.
use Rattle.std.proofs.Common.{◌≡◌, ℕ, ◌+◌, ◌≤◌, [], ◌∷◌, Option, None, Some, All, map, refl, sym, ap, ◌∙◌, subst, arith}
use Rattle.std.specs.Prelude.{option_map, Contains}
use Rattle.std.specs.FinMap as finite
use Rattle.std.specs.FinMap.{put, entries-insert}
use Rattle.std.specs.FinMap.Entries.{by_order}
use Rattle.std.specs.declared.cmp.Ordering.{Ordering}
use Rattle.std.specs.declared.cmp.Ordering.TheVariants.{Less, Equal, Greater}
use Rattle.std.proofs.lemmas.List.Elements.{All-nil, All-cons, All-head, All-tail, All-contains, Contains-get_or}
use Rattle.cs_pmap.specs.Keys.{key_cmp, EntryList}
use Rattle.cs_pmap.proofs.AtBranch.{key_cmp_total}
use Rattle.cs_terms.specs.declared.symbol.Sym.{Sym}
use Rattle.cs_store.proofs.Keys.{get_here}
use Rattle.cs_eval.specs.declared.piece.Guessed.{Guessed}
use Rattle.cs_state.specs.declared.asked.Asked.{Asked}
use Rattle.cs_state.specs.Valuations.{Guessed as Guesses}
use Rattle.cs_pieces.specs.Pieces.{asked_for, AreNotedAfter}
use Rattle.cs_successors.specs.Coming.{AreGuessesAfter}

-- what is noted about a guess is in the table at its event
pub noted_after : (event : ℕ) (guess : Sym) (before : Guesses) {guessed : Option Guessed} {what : Guessed} {after : Guesses} → guessed ≡ Some what
    → after ≡ finite.insert before (event, 0) (asked_for event guess what) → AreNotedAfter event guess guessed before after
noted_after event guess before {after = after} is same =
    subst (λ (given : Option Guessed). AreNotedAfter event guess given before after) (sym is) same

-- what is noted is a guess of this symbol at the event
pub guesses_after : (event : ℕ) (guess : Sym) (guessed : Option Guessed) (before after : Guesses) → AreNotedAfter event guess guessed before after
    → AreGuessesAfter event (option_map (λ what. guess) guessed) before after
guesses_after event guess None before after same = same
guesses_after event guess (Some what) before after same = (asked_for event guess what, refl, refl, same)

-- and is found there
pub noted_there : (event : ℕ) (guess : Sym) (what : Guessed) (before after : Guesses) → AreNotedAfter event guess (Some what) before after
    → finite.get after (event, 0) ≡ Some (asked_for event guess what)
noted_there event guess what before after same =
    ap (λ (guesses : Guesses). finite.get guesses (event, 0)) same ∙ get_here before event (asked_for event guess what)

-- what holds for all values and for a new one holds for all values after its insertion
values_put : {X : Type 0} (P : X → Type 0) (key : ℕ × ℕ) (new : X) (entries : EntryList X) → P new → All P (map (λ e. e.1) entries)
    → All P (map (λ e. e.1) (put key_cmp key new entries))
values_put P key new [] it all = All-cons P new [] it (All-nil P)
values_put P key new (entry ∷ entries) it all = by (key_cmp key entry.0) (values_put P key new entries it (All-tail P entry.1 (map (λ e. e.1) entries) all))
  where
    by : (order : Ordering) → All P (map (λ e. e.1) (put key_cmp key new entries))
        → All P (map (λ e. e.1) (by_order order ((key, new) ∷ entry ∷ entries) ((entry.0, new) ∷ entries) (entry ∷ put key_cmp key new entries)))
    by Less rest = All-cons P new (map (λ e. e.1) (entry ∷ entries)) it all
    by Equal rest = All-cons P new (map (λ e. e.1) entries) it (All-tail P entry.1 (map (λ e. e.1) entries) all)
    by Greater rest = All-cons P entry.1 (map (λ e. e.1) (put key_cmp key new entries)) (All-head P entry.1 (map (λ e. e.1) entries) all) rest

-- guesses stay within the events passed, with another guess at the next event or without one
pub asked_before : (events : ℕ) (given : Option Sym) (before after : Guesses)
    → ((asked : Asked) → Contains (finite.values before) asked → asked.event ≤ events) → AreGuessesAfter (events + 1) given before after
    → (asked : Asked) → Contains (finite.values after) asked → asked.event ≤ events + 1
asked_before events None before after all same asked among =
    let early = all asked (subst (λ (guesses : Guesses). Contains (finite.values guesses) asked) same among) in
    omega (arith, early)
asked_before events (Some symbol) before after all (one, number, guess, same) asked among =
    All-contains (λ (a : Asked). a.event ≤ events + 1) (finite.values after) asked each among
  where
    earlier : All (λ (a : Asked). a.event ≤ events + 1) (finite.values before)
    earlier = λ k d within. let early = all _ (Contains-get_or (finite.values before) k d within) in omega (arith, early)

    put_is : finite.values after ≡ map (λ e. e.1) (put key_cmp (events + 1, 0) one (finite.entries before))
    put_is = ap finite.values same ∙ ap (map (λ e. e.1)) (entries-insert key_cmp_total before (events + 1, 0) one)

    each : All (λ (a : Asked). a.event ≤ events + 1) (finite.values after)
    each = subst (All (λ (a : Asked). a.event ≤ events + 1)) (sym put_is)
        (values_put (λ (a : Asked). a.event ≤ events + 1) (events + 1, 0) one (finite.entries before) (omega (arith, number)) earlier)
