-- Guesses that ascend. For the contract of `are_in_order`.
use Rattle.std.proofs.Common.{◌≡◌, ℕ, ◌+◌, ◌<◌, ◌≤◌, List, [], ◌∷◌, map, drop, length, get_or, refl, sym, subst, arith}
use Rattle.std.specs.Prelude.{All}
use Rattle.std.specs.List.{AllByRecursion}
use Rattle.std.specs.List.Sorted.{IsStrictlySortedBy}
use Rattle.std.specs.Ordering.{nat_cmp, MatchOrdering}
use Rattle.std.specs.declared.cmp.Ordering.{Ordering}
use Rattle.std.specs.declared.cmp.Ordering.TheVariants.{Less, Equal, Greater}
use Rattle.std.specs.Cmp.{ranks}
use Rattle.std.proofs.lemmas.List.{drop_more}
use Rattle.std.proofs.lemmas.List.Elements.{All-nil, All-cons, All-head}
use Rattle.cs_events.specs.declared.guess.Guess.{Guess}
use Rattle.cs_findings.specs.GoodFindings.{Ascend}
use Rattle.cs_witness.proofs.GuessLists.{less_than}

-- each guess is after the one before it, the first after an event
abbrev pub AscendFrom : ℕ → List Guess → Type 0
AscendFrom last [] = Unit {0}
AscendFrom last (guess ∷ guesses) = (last < guess.event) × AscendFrom guess.event guesses

less : (x y : ℕ) → x < y → nat_cmp x y ≡ Less
less x y below = at (nat_cmp x y) refl (ranks x y)
  where
    at : (r : Ordering) → nat_cmp x y ≡ r → MatchOrdering r (x < y) (x ≡ y) (y < x) → nat_cmp x y ≡ Less
    at Less is ranked = is
    at Equal is ranked = absurd (omega arith)
    at Greater is ranked = absurd (omega arith)

all_after : (last : ℕ) (guesses : List Guess) → AscendFrom last guesses → (x : ℕ) → x ≤ last
    → AllByRecursion (λ y. nat_cmp x y ≡ Less) (map (λ g. g.event) guesses)
all_after last [] ascend x before = tt
all_after last (guess ∷ guesses) ascend x before =
    let below = ascend.0 in
    (less x guess.event (omega arith), all_after guess.event guesses ascend.1 x (omega arith))

pub ascending : (last : ℕ) (guesses : List Guess) → AscendFrom last guesses → Ascend guesses
unfolding IsStrictlySortedBy
ascending last [] ascend = tt
ascending last (guess ∷ guesses) ascend = (all_after guess.event guesses ascend.1 guess.event (omega arith), ascending guess.event guesses ascend.1)

module _ (guesses : List Guess) (i : ℕ) (d : Guess) (below : i < length guesses) where
  abbrev guess : Guess
  guess = get_or guesses i d

  pub ascends_from : (last : ℕ) → last < guess.event → AscendFrom guess.event (drop (i + 1) guesses) → AscendFrom last (drop i guesses)
  ascends_from last after more = subst (AscendFrom last) (sym (drop_more guesses i d below)) (after, more)

  -- the guess from which they ascend, and those after it
  pub ascends_there : (last : ℕ) → AscendFrom last (drop i guesses) → (last < guess.event) × AscendFrom guess.event (drop (i + 1) guesses)
  ascends_there last ascend = subst (AscendFrom last) (drop_more guesses i d below) ascend

  pub all_from : (events : ℕ) → guess.event ≤ events → All (λ (g : Guess). g.event ≤ events) (drop (i + 1) guesses)
      → All (λ (g : Guess). g.event ≤ events) (drop i guesses)
  all_from events within more =
      subst (All (λ (g : Guess). g.event ≤ events)) (sym (drop_more guesses i d below))
      (All-cons (λ (g : Guess). g.event ≤ events) guess (drop (i + 1) guesses) within more)

-- an event before all of these guesses
all_less : (x : ℕ) (guesses : List Guess) → AllByRecursion (λ y. nat_cmp x y ≡ Less) (map (λ g. g.event) guesses) → All (λ (g : Guess). x < g.event) guesses
all_less x [] all = All-nil (λ (g : Guess). x < g.event)
all_less x (guess ∷ guesses) all =
    All-cons (λ (g : Guess). x < g.event) guess guesses (less_than x guess.event all.0) (all_less x guesses all.1)

pub ascend_from : (last : ℕ) (guesses : List Guess) → Ascend guesses → All (λ (g : Guess). last < g.event) guesses → AscendFrom last guesses
unfolding IsStrictlySortedBy
ascend_from last [] ascend after = tt
ascend_from last (guess ∷ guesses) ascend after =
    (All-head (λ (g : Guess). last < g.event) guess guesses after, ascend_from guess.event guesses ascend.1 (all_less guess.event guesses ascend.0))
