-- The operation at an index of a block: for the contract of `operation_at`.
use Rattle.std.proofs.Common.{◌≡◌, ℕ, zero, suc, ◌+◌, List, [], ◌∷◌, map, drop, Bor, Some, sym, ap, ◌∙◌, arith}
use Rattle.std.specs.Prelude.{slice_get}
use Rattle.std.specs.Slice.{IsItemAt}
use Rattle.std.proofs.lemmas.Option.{slice_get-get_or}

-- the elements from an index on, if there is one at the index
pub after_one : {X Y : Type 0} (seen : X → Y) (xs : List X) (n : ℕ) (x : X) → slice_get xs n ≡ Some x
    → drop n (map seen xs) ≡ seen x ∷ drop (n + 1) (map seen xs)
after_one seen [] n x is = cc
after_one seen (y ∷ ys) zero x is =
    let same : y ≡ x = cc in
    ap (λ (z : _). seen z ∷ map seen ys) same
after_one seen (y ∷ ys) (suc n) x is =
    let next : suc n + 1 ≡ suc (n + 1) = omega arith in
    rw next (after_one seen ys n x is)

-- the element that is borrowed, if there is one
pub lent_is : {X : Type 0} (xs : List X) (i : ℕ) (x : Bor X) → IsItemAt xs i (Some x) → slice_get xs i ≡ Some x.now
lent_is xs i x is =
    let found = is.3 in
    slice_get-get_or xs i x.now found.0 ∙ ap Some (sym (found.1 x.now))
