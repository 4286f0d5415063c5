-- Lists that are stored with their first element last, without some of their first elements: for the contracts of `pop_newest` and
-- `drop_first`.
use Rattle.std.proofs.Common.{◌≡◌, ℕ, zero, suc, ◌-◌, ◌<◌, ◌≤◌, List, [], ◌∷◌, ◌++◌, map, length, take, drop, reverse, refl}
use Rattle.std.proofs.Common.{sym, ap, ◌∙◌, arith}
use Rattle.std.proofs.lemmas.List.{reverse-append, reverse-reverse, length-reverse, take-append-drop, length-drop, length-map, take-map, drop-map}

module _ {X : Type 0} where
  -- the elements after a prefix
  after_are : (front back : List X) (n : ℕ) → length front ≤ n → (length front < n → back ≡ []) → drop n (front ++ back) ≡ back
  after_are [] back zero h none = refl
  after_are [] back (suc n) h none = rw (none (omega arith)) refl
  after_are (x ∷ front) back zero h none = absurd (omega arith)
  after_are (x ∷ front) back (suc n) h none = after_are front back n (omega arith) (λ less. none (omega arith))

  -- the prefix
  front_are : (front back : List X) (n : ℕ) → length front ≤ n → (length front < n → back ≡ []) → take n (front ++ back) ≡ front
  front_are [] back zero h none = refl
  front_are [] back (suc n) h none = rw (none (omega arith)) refl
  front_are (x ∷ front) back zero h none = absurd (omega arith)
  front_are (x ∷ front) back (suc n) h none = ap (λ l. x ∷ l) (front_are front back n (omega arith) (λ less. none (omega arith)))

  -- a list cut in two, reversed
  in_parts : (xs : List X) (k : ℕ) → reverse xs ≡ reverse (drop k xs) ++ reverse (take k xs)
  in_parts xs k = ap reverse (sym (take-append-drop k xs)) ∙ reverse-append (take k xs) (drop k xs)

  within : (xs : List X) (n : ℕ) → length (reverse (drop (length xs - n) xs)) ≤ n
  within xs n = omega (arith, length-reverse (drop (length xs - n) xs), length-drop (length xs - n) xs)

  none_left : (xs : List X) (n : ℕ) → length (reverse (drop (length xs - n) xs)) < n → reverse (take (length xs - n) xs) ≡ []
  none_left xs n less =
      let none : length xs - n ≡ 0 = omega (arith, length-reverse (drop (length xs - n) xs), length-drop (length xs - n) xs) in
      ap (λ k. reverse (take k xs)) none

  -- the list without its first elements
  pub older_are : (xs : List X) (n : ℕ) → drop n (reverse xs) ≡ reverse (take (length xs - n) xs)
  older_are xs n =
      ap (drop n) (in_parts xs (length xs - n))
      ∙ after_are (reverse (drop (length xs - n) xs)) (reverse (take (length xs - n) xs)) n (within xs n) (none_left xs n)

  -- its first elements, from the last of them on
  pub newest_are : (xs : List X) (n : ℕ) → reverse (take n (reverse xs)) ≡ drop (length xs - n) xs
  newest_are xs n =
      ap reverse (ap (take n) (in_parts xs (length xs - n))
      ∙ front_are (reverse (drop (length xs - n) xs)) (reverse (take (length xs - n) xs)) n (within xs n) (none_left xs n))
      ∙ reverse-reverse (drop (length xs - n) xs)

-- the same for a mapped list
pub newest_of : {X Y : Type 0} (f : X → Y) (xs : List X) (n : ℕ) → reverse (take n (reverse (map f xs))) ≡ map f (drop (length xs - n) xs)
newest_of f xs n =
    newest_are (map f xs) n ∙ (ap (λ (k : ℕ). drop (k - n) (map f xs)) (length-map xs f) ∙ drop-map f (length xs - n) xs)

pub older_of : {X Y : Type 0} (f : X → Y) (xs : List X) (n : ℕ) → drop n (reverse (map f xs)) ≡ reverse (map f (take (length xs - n) xs))
older_of f xs n =
    older_are (map f xs) n ∙ ap reverse (ap (λ (k : ℕ). take (k - n) (map f xs)) (length-map xs f) ∙ take-map f (length xs - n) xs)

pub ruleset stacks = (newest_of, older_of)

pub ruleset takes = (take-map)
