-- The inputs that are tried: the first ones of all neighbours. For the contracts of `neighbours`.
use Rattle.std.proofs.Common.{◌≡◌, ℕ, zero, suc, ◌+◌, ◌<◌, ◌≤◌, List, [], ◌∷◌, ◌++◌, map, take, length, get_or, refl, sym, ap}
use Rattle.std.proofs.Common.{◌∙◌, arith}
use Rattle.std.specs.Prelude.{flat_map}
use Rattle.std.proofs.lemmas.List.{take_more, take_all, map_more, append-nil, append_assoc, take-append-le, length_push}
use Rattle.std.proofs.lemmas.Grind.{flat_map-append}

module _ {A : Type 0} where
  -- taking the first items of a list that was cut at the same length
  pub take_again : (n : ℕ) (xs ys : List A) → take n (take n xs ++ ys) ≡ take n (xs ++ ys)
  take_again zero xs ys = refl
  take_again (suc n) [] ys = refl
  take_again (suc n) (x ∷ xs) ys = ap (λ (l : List A). x ∷ l) (take_again n xs ys)

  pub at_most : (n : ℕ) (xs : List A) → length (take n xs) ≤ n
  at_most zero xs = omega arith
  at_most (suc n) [] = omega arith
  at_most (suc n) (x ∷ xs) = let rest = at_most n xs in omega arith

  -- one more item, below the limit and at it
  pub joins : (n : ℕ) (xs : List A) (y : A) → length xs < n → xs ++ y ∷ [] ≡ take n (xs ++ y ∷ [])
  joins n xs y room = let count = length_push xs y in sym (take_all n (xs ++ y ∷ []) (omega arith))

  pub stays_out : (n : ℕ) (xs : List A) (y : A) → n ≤ length xs → length xs ≤ n → xs ≡ take n (xs ++ y ∷ [])
  stays_out n xs y full few = sym (take-append-le n xs (y ∷ []) full ∙ take_all n xs few)

  pub none_joins : (n : ℕ) (xs : List A) → length xs ≤ n → xs ≡ take n (xs ++ [])
  none_joins n xs few = sym (ap (take n) (append-nil xs) ∙ take_all n xs few)

  -- items that are added after others, up to the limit
  pub join_on : (n : ℕ) (old middle new more : List A) (ys : List A) → middle ≡ take n (old ++ more) → new ≡ take n (middle ++ ys)
      → new ≡ take n (old ++ (more ++ ys))
  join_on n old middle new more ys first added =
      added ∙ ap (λ l. take n (l ++ ys)) first ∙ take_again n (old ++ more) ys ∙ ap (take n) (append_assoc old more ys)

module _ {A B : Type 0} where
  -- one more item, if a list's images are added
  pub image_joins : (n : ℕ) (f : A → B) (old middle new : List B) (xs : List A) (i : ℕ) (d : A) → i < length xs
      → middle ≡ take n (old ++ map f (take i xs)) → new ≡ take n (middle ++ f (get_or xs i d) ∷ [])
      → new ≡ take n (old ++ map f (take (i + 1) xs))
  image_joins n f old middle new xs i d below first added =
      join_on n old middle new (map f (take i xs)) (f (get_or xs i d) ∷ []) first added ∙ ap (λ l. take n (old ++ l)) (sym (map_more f xs i d below))

  -- and if lists of images are added
  pub piece_joins : (n : ℕ) (f : A → List B) (old middle new : List B) (xs : List A) (i : ℕ) (x : A) → i < length xs → x ≡ get_or xs i x
      → middle ≡ take n (old ++ flat_map f (take i xs)) → new ≡ take n (middle ++ f x)
      → new ≡ take n (old ++ flat_map f (take (i + 1) xs))
  piece_joins n f old middle new xs i x below is first added =
      let more : flat_map f (take (i + 1) xs) ≡ flat_map f (take i xs) ++ f x =
      ap (flat_map f) (take_more xs i x below) ∙ flat_map-append f (take i xs) (get_or xs i x ∷ [])
      ∙ ap (λ l. flat_map f (take i xs) ++ l) (append-nil (f (get_or xs i x)))
      ∙ ap (λ (y : A). flat_map f (take i xs) ++ f y) (sym is) in
      join_on n old middle new (flat_map f (take i xs)) (f x) first added ∙ ap (λ l. take n (old ++ l)) (sym more)
