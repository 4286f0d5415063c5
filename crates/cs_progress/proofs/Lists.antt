-- Items of lists by their indices.
use Rattle.std.proofs.Common.{◌≡◌, ◌⊎◌, inl, inr, ℕ, zero, suc, List, [], ◌∷◌, ◌++◌, Some, length, slice_get, get_or, take, drop}
use Rattle.std.proofs.Common.{reverse}
use Rattle.std.proofs.Common.{Contains, ◌+◌, ◌<◌, refl, sym, ap, ◌∙◌, arith}
use Rattle.std.proofs.Math.Seq.{drop-append_seam}
use Rattle.std.proofs.lemmas.List.{take-append-drop, take_more, length-drop, length-reverse, reverse-append}
use Rattle.std.proofs.lemmas.Option.{none-some, same_Some, slice_get_within, get_or_from_slice_get}

-- an item of a list with one more is one of the list, or the last one
pub item_of_more : {A : Type 0} (xs : List A) (x y : A) (n : ℕ) → slice_get (xs ++ x ∷ []) n ≡ Some y
    → (slice_get xs n ≡ Some y) ⊎ ((n ≡ length xs) × (y ≡ x))
item_of_more [] x y zero e = inr (refl, sym (same_Some x y e))
item_of_more [] x y (suc n) e = absurd (none-some y e)
item_of_more (z ∷ xs) x y zero e = inl e
item_of_more (z ∷ xs) x y (suc n) e = elim (item_of_more xs x y n e) [ inl h ↦ inl h | inr h ↦ inr (ap suc h.0, h.1) ]

-- an item at an index is one of the list
pub item_is_there : {A : Type 0} (xs : List A) (n : ℕ) (x : A) → slice_get xs n ≡ Some x → Contains xs x
item_is_there xs n x e = (n, slice_get_within xs n x e, get_or_from_slice_get xs n x x e)

pub more_items : {A : Type 0} (xs : List A) (x : A) (n : ℕ) → length xs ≡ n → length (xs ++ x ∷ []) ≡ n + 1
more_items [] x n e = ap suc e ∙ omega arith
more_items (z ∷ xs) x n e = omega (arith, more_items xs x (length xs) refl, e)

-- the first items of a list are the last ones of its reverse
pub first_last : {A : Type 0} (xs : List A) (left count : ℕ) → left + count ≡ length xs → reverse (take left xs) ≡ drop count (reverse xs)
first_last {A} xs left count e =
    let rest : List A = reverse (drop left xs) in
    let as_many : length rest ≡ count = length-reverse (drop left xs) ∙ length-drop left xs ∙ omega (arith, e) in
    let whole : reverse xs ≡ rest ++ reverse (take left xs) =
    ap reverse (sym (take-append-drop left xs)) ∙ reverse-append (take left xs) (drop left xs) in
    sym (ap (drop count) whole ∙ ap (λ (n : ℕ). drop n (rest ++ reverse (take left xs))) (sym as_many)
    ∙ drop-append_seam rest (reverse (take left xs)))

begins_at : {A : Type 0} (ys zs : List A) (n : ℕ) (x : A) → drop n ys ≡ x ∷ zs → slice_get ys n ≡ Some x
begins_at [] zs zero x e = absurd (cc)
begins_at [] zs (suc n) x e = absurd (cc)
begins_at (y ∷ ys) zs zero x e = ap (λ (l : List _). slice_get l 0) e
begins_at (y ∷ ys) zs (suc n) x e = begins_at ys zs n x e

-- an item by its index from the end
pub from_last : {A : Type 0} (xs : List A) (place age : ℕ) (d : A) → place + (age + 1) ≡ length xs
    → slice_get (reverse xs) age ≡ Some (get_or xs place d)
from_last xs place age d e =
    let within : place < length xs = omega (arith, e) in
    let last : take (place + 1) xs ≡ take place xs ++ get_or xs place d ∷ [] = take_more xs place d within in
    let first : reverse (take (place + 1) xs) ≡ get_or xs place d ∷ reverse (take place xs) =
    ap reverse last ∙ reverse-append (take place xs) (get_or xs place d ∷ []) in
    begins_at (reverse xs) (reverse (take place xs)) age (get_or xs place d) (sym (first_last xs (place + 1) age (omega (arith, e))) ∙ first)
