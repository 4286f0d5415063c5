-- Guesses that ascend: which of them are before an event, and at the same events as others.
use Rattle.std.proofs.Common.{◌≡◌, ℕ, zero, suc, ◌<◌, ◌≤◌, nat_lt, Bool, true, false, List, [], ◌∷◌, map, take, length, get_or, Some, slice_get}
use Rattle.std.proofs.Common.{refl, sym, ap, ◌∙◌, arith, cond}
use Rattle.std.specs.Prelude.{filter, option_map}
use Rattle.std.specs.Ordering.{nat_cmp, MatchOrdering}
use Rattle.std.specs.declared.cmp.Ordering.{Ordering}
use Rattle.std.specs.declared.cmp.Ordering.TheVariants.{Less, Equal, Greater}
use Rattle.std.specs.Cmp.{ranks}
use Rattle.std.proofs.lemmas.Bool.Decides.{nat_tests}
use Rattle.std.proofs.lemmas.List.{length-map, length-take}
use Rattle.std.proofs.lemmas.Option.{slice_get-map, slice_get_within, get_or_from_slice_get}
use Rattle.std.proofs.lemmas.Map.Keys.{Less-from_sorted}
use Rattle.cs_events.specs.declared.event.Event.{Event}
use Rattle.cs_events.specs.declared.guess.Guess.{Guess}
use Rattle.cs_findings.specs.GoodFindings.{Ascend}
use Rattle.cs_judge.specs.Agreement.{AreBefore, AreAtEvents}
use Rattle.cs_compared.specs.Agreement.{AgreeTo}
use Rattle.cs_witness.specs.Evidence.{Changes, changed_guess}

-- an item of the image of a list's first items
pub record IsImageAt {A B : Type 0} (f : A → B) (count : ℕ) (xs : List A) (i : ℕ) (y : B) : Type 0 where
  pub x : A
  pub there : slice_get xs i ≡ Some x
  pub is : f x ≡ y
  pub below : i < count

pub image_at : {A B : Type 0} (f : A → B) (count : ℕ) (xs : List A) (i : ℕ) (y : B) → slice_get (map f (take count xs)) i ≡ Some y
    → IsImageAt f count xs i y
image_at f zero xs i y there = let no : ⊥ = cc in absurd no
image_at f (suc count) [] i y there = let no : ⊥ = cc in absurd no
image_at f (suc count) (x ∷ xs) zero y there = record { x = x; there = refl; is = cc; below = omega arith }
image_at f (suc count) (x ∷ xs) (suc i) y there =
    let it = image_at f count xs i y there in
    record { x = it.x; there = it.there; is = it.is; below = let b = it.below in omega arith }

pub at_image : {A B : Type 0} (f : A → B) (count : ℕ) (xs : List A) (i : ℕ) (x : A) → i < count → slice_get xs i ≡ Some x
    → slice_get (map f (take count xs)) i ≡ Some (f x)
at_image f zero xs i x below there = absurd (omega arith)
at_image f (suc count) [] i x below there = let no : ⊥ = cc in absurd no
at_image f (suc count) (a ∷ xs) zero x below there = let same : a ≡ x = cc in ap (λ z. Some (f z)) same
at_image f (suc count) (a ∷ xs) (suc i) x below there = at_image f count xs i x (omega arith) there

-- taking a list's first items keeps their indices
pub at_taken : {A : Type 0} (count : ℕ) (xs : List A) (i : ℕ) → i < count → slice_get (take count xs) i ≡ slice_get xs i
at_taken zero xs i below = absurd (omega arith)
at_taken (suc count) [] i below = refl
at_taken (suc count) (x ∷ xs) zero below = refl
at_taken (suc count) (x ∷ xs) (suc i) below = at_taken count xs i (omega arith)

-- lists with the same first items agree up to there
pub agree_first : (count : ℕ) (one other : List Event) → take count one ≡ take count other → AgreeTo count one other
agree_first count one other same index below =
    sym (at_taken count one index below) ∙ ap (λ l. slice_get l index) same ∙ at_taken count other index below

pub less_than : (x y : ℕ) → nat_cmp x y ≡ Less → x < y
less_than x y is = at (nat_cmp x y) is (ranks x y)
  where
    at : (r : Ordering) → r ≡ Less → MatchOrdering r (x < y) (x ≡ y) (y < x) → x < y
    at Less e ranked = ranked
    at Equal e ranked = absurd (cc)
    at Greater e ranked = absurd (cc)

module _ (guesses : List Guess) (ascend : Ascend guesses) where
  event_at : (i : ℕ) (g : Guess) → slice_get guesses i ≡ Some g → get_or (map (λ (h : Guess). h.event) guesses) i 0 ≡ g.event
  event_at i g there =
      get_or_from_slice_get (map (λ (h : Guess). h.event) guesses) i g.event 0
      (slice_get-map (λ (h : Guess). h.event) guesses i ∙ ap (option_map (λ (h : Guess). h.event)) there)

  pub later_event : (i j : ℕ) (g h : Guess) → slice_get guesses i ≡ Some g → slice_get guesses j ≡ Some h → i < j → g.event < h.event
  later_event i j g h there there' before =
      let events = map (λ (x : Guess). x.event) guesses in
      let n = length-map guesses (λ (x : Guess). x.event) in
      let within = slice_get_within guesses j h there' in
      let less = Less-from_sorted nat_cmp events i j 0 ascend before (omega arith) in
      less_than g.event h.event ((λ k. nat_cmp (sym (event_at i g there) k) (sym (event_at j h there') k)) ∙ less)

  -- exactly the guesses before an index are before the event of the guess there
  by_place : (i j : ℕ) (g h : Guess) → slice_get guesses i ≡ Some g → slice_get guesses j ≡ Some h → (before : Bool) → nat_lt i j ≡ before
      → nat_lt g.event h.event ≡ before
  by_place i j g h there there' true is =
      let less : i < j = grind (arith, nat_tests) in
      let later = later_event i j g h there there' less in
      grind (arith, nat_tests)
  by_place i j g h there there' false is = from_later (nat_lt j i) refl
    where
      from_later : (after : Bool) → nat_lt j i ≡ after → nat_lt g.event h.event ≡ false
      from_later true is' =
          let less : j < i = grind (arith, nat_tests) in
          let later = later_event j i h g there' there less in
          grind (arith, nat_tests)
      from_later false is' =
          let same : i ≡ j = grind (arith, nat_tests) in
          let one : Some g ≡ Some h = sym there ∙ ap (slice_get guesses) same ∙ there' in
          let both : g ≡ h = cc in
          let events_same : g.event ≡ h.event = ap (λ (x : Guess). x.event) both in
          grind (arith, nat_tests)

  pub are_before : (changes : Changes) (count place : ℕ) (g : Guess) → slice_get guesses place ≡ Some g
      → AreBefore place g.event (map (changed_guess changes) (take count guesses))
  are_before changes count place g there index one listed =
      let it = image_at (changed_guess changes) count guesses index one listed in
      ap (λ (x : Guess). nat_lt x.event g.event) (sym it.is)
      ∙ by_place index place it.x g it.there there (nat_lt index place) refl

  pub before_all : (place : ℕ) (g : Guess) → slice_get guesses place ≡ Some g → AreBefore place g.event guesses
  before_all place g there index one listed = by_place index place one g listed there (nat_lt index place) refl

-- the guesses before an event
pub filter_first : (place event : ℕ) (guesses : List Guess) → AreBefore place event guesses
    → filter (λ (g : Guess). nat_lt g.event event) guesses ≡ take place guesses
filter_first zero event [] are = refl
filter_first (suc place) event [] are = refl
filter_first zero event (guess ∷ guesses) are =
    let here : nat_lt guess.event event ≡ false = are 0 guess refl ∙ (grind (arith, nat_tests)) in
    ap (λ b. cond b (guess ∷ filter (λ (g : Guess). nat_lt g.event event) guesses) (filter (λ (g : Guess). nat_lt g.event event) guesses)) here
    ∙ filter_first zero event guesses (λ index one there. let h = are (suc index) one there in grind (arith, nat_tests))
filter_first (suc place) event (guess ∷ guesses) are =
    let here : nat_lt guess.event event ≡ true = are 0 guess refl ∙ (grind (arith, nat_tests)) in
    ap (λ b. cond b (guess ∷ filter (λ (g : Guess). nat_lt g.event event) guesses) (filter (λ (g : Guess). nat_lt g.event event) guesses)) here
    ∙ ap (λ (l : List Guess). guess ∷ l)
    (filter_first place event guesses (λ index one there. let h = are (suc index) one there in grind (arith, nat_tests)))

-- changes keep the events of guesses
pub at_events : (mine its : Changes) (count place : ℕ) (guesses : List Guess) → place ≤ count → count ≤ length guesses
    → AreAtEvents place (map (changed_guess mine) (take count guesses)) (map (changed_guess its) (take place guesses))
at_events mine its count place guesses few within =
    let a = length-map (take count guesses) (changed_guess mine) in
    let b = length-take count guesses in
    let c = length-map (take place guesses) (changed_guess its) in
    let d = length-take place guesses in
    record {
      count = omega arith;
      enough = omega arith;
      same = λ index guess other there there'.
          let one = image_at (changed_guess mine) count guesses index guess there in
          let two = image_at (changed_guess its) place guesses index other there' in
          let a = one.there in
          let b = two.there in
          let both : two.x ≡ one.x = cc in
          ap (λ (g : Guess). g.event) (sym two.is) ∙ ap (λ (g : Guess). g.event) both ∙ ap (λ (g : Guess). g.event) one.is;
    }
