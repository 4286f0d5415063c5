-- Guesses at the events of the first of another list: what is listed at each event.
use Rattle.std.proofs.Common.{◌≡◌, ℕ, zero, suc, ◌==◌, nat_lt, Bool, true, false, ◌&&◌, List, [], ◌∷◌, Option, Some, is_some}
use Rattle.std.proofs.Common.{if◌then◌else◌, refl, sym, ap, ◌∙◌, arith}
use Rattle.std.proofs.lemmas.Bool.Decides.{nat_tests}
use Rattle.cs_events.specs.declared.guess.Guess.{Guess}
use Rattle.cs_events.specs.Runs.{guess_at}
use Rattle.cs_judge.specs.Agreement.{AreBefore, AreAtEvents}

-- whether a guess is listed at an event
abbrev listed : List Guess → ℕ → Bool
listed guesses e = is_some (guess_at guesses e)

-- the rest of a list
rest_before : (guess : Guess) (guesses : List Guess) (place event : ℕ) → AreBefore (suc place) event (guess ∷ guesses) → AreBefore place event guesses
rest_before guess guesses place event are index one there =
    let h = are (suc index) one there in
    grind (arith, nat_tests)

rest_after : (guess : Guess) (guesses : List Guess) (event : ℕ) → AreBefore 0 event (guess ∷ guesses) → AreBefore 0 event guesses
rest_after guess guesses event are index one there =
    let h = are (suc index) one there in
    grind (arith, nat_tests)

-- depending on whether the first guess is at the event
none_if : (guess : Guess) (rest : Option _) (e event : ℕ) (here : Bool) → (guess.event == e) ≡ here → nat_lt guess.event event ≡ false
    → (is_some rest && nat_lt e event) ≡ false → (is_some (if here then Some guess.number else rest) && nat_lt e event) ≡ false
none_if guess rest e event true h later others = grind (arith, nat_tests)
none_if guess rest e event false h later others = others

-- if no guess is before the event, none is listed there
none_before : (guesses : List Guess) (event e : ℕ) → AreBefore 0 event guesses → (listed guesses e && nat_lt e event) ≡ false
none_before [] event e are = refl
none_before (guess ∷ guesses) event e are =
    none_if guess (guess_at guesses e) e event (guess.event == e) refl (are 0 guess refl) (none_before guesses event e (rest_after guess guesses event are))

some_if : (guess its : Guess) (rest other : Option _) (e event : ℕ) (here : Bool) → (guess.event == e) ≡ here → its.event ≡ guess.event
    → nat_lt guess.event event ≡ true → is_some other ≡ (is_some rest && nat_lt e event)
    → is_some (if its.event == e then Some its.number else other) ≡ (is_some (if here then Some guess.number else rest) && nat_lt e event)
some_if guess its rest other e event true h same before others =
    let is : true ≡ nat_lt e event = grind (arith, nat_tests) in
    ap (λ b. is_some (if b then Some its.number else other)) (ap (λ n. n == e) same ∙ h) ∙ is
some_if guess its rest other e event false h same before others =
    ap (λ b. is_some (if b then Some its.number else other)) (ap (λ n. n == e) same ∙ h) ∙ others

-- so the other list has a guess exactly where this one has one before the event
pub listed_alike : (place event : ℕ) (mine other : List Guess) → AreBefore place event mine → AreAtEvents place mine other
    → (e : ℕ) → listed other e ≡ (listed mine e && nat_lt e event)
listed_alike zero event mine [] are same e = sym (none_before mine event e are)
listed_alike zero event mine (its ∷ other) are same e = let n = same.count in absurd (omega arith)
listed_alike (suc place) event mine [] are same e = let n = same.count in absurd (omega arith)
listed_alike (suc place) event [] (its ∷ other) are same e = let n = same.enough in absurd (omega arith)
listed_alike (suc place) event (guess ∷ mine) (its ∷ other) are same e =
    let count = same.count in
    let enough = same.enough in
    let rest : AreAtEvents place mine other =
    record { count = omega arith; enough = omega arith; same = λ index one another there here. same.same (suc index) one another there here } in
    let first : nat_lt guess.event event ≡ true = let h = are 0 guess refl in grind (arith, nat_tests) in
    some_if guess its (guess_at mine e) (guess_at other e) e event (guess.event == e) refl (same.same 0 guess its refl refl) first
    (listed_alike place event mine other (rest_before guess mine place event are) rest e)
