-- The next of the remaining answers: for the contract of `answer`.
use Rattle.std.proofs.Common.{◌≡◌, ℕ, ◌+◌, ◌<◌, List, ◌∷◌, length, get_or, map, drop, sym, ap, ◌∙◌}
use Rattle.std.proofs.lemmas.List.{drop_more, drop-map}

pub next_left : {X Y : Type 0} (h : X → Y) (xs : List X) (i : ℕ) (x : X) → i < length xs → ((d : X) → x ≡ get_or xs i d)
    → drop i (map h xs) ≡ h x ∷ drop (i + 1) (map h xs)
next_left h xs i x within is =
    let first = drop_more xs i x within ∙ ap (λ y. y ∷ drop (i + 1) xs) (sym (is x)) in
    drop-map h i xs ∙ ap (map h) first ∙ ap (λ rest. h x ∷ rest) (sym (drop-map h (i + 1) xs))
