-- Items of lists by their index.
use Rattle.std.proofs.Common.{◌≡◌, ℕ, zero, suc, ◌<◌, List, [], ◌∷◌, ◌++◌, length, take, Some, slice_get, slice_index_or, ◌⊎◌, inl}
use Rattle.std.proofs.Common.{inr, refl, sym, ap, ◌∙◌, subst, arith}
use Rattle.cs_events.specs.declared.event.Event.{Event}
use Rattle.cs_judge.specs.declared.pool.Replay.{Replay}
use Rattle.cs_compared.specs.Agreement.{AgreeTo}
use Rattle.cs_judge.specs.Agreement.{AreShares}

-- the item at an index
pub place_of : {A : Type 0} (xs : List A) (k : ℕ) (x : A) → k < length xs → slice_index_or xs k x ≡ x → slice_get xs k ≡ Some x
place_of [] k x h e = absurd (omega arith)
place_of (y ∷ ys) zero x h e = ap Some e
place_of (y ∷ ys) (suc k) x h e = place_of ys k x (omega arith) e

-- the item at the end, or one before it
pub end_or_before : {A : Type 0} (xs : List A) (x y : A) (n : ℕ) → slice_get (xs ++ x ∷ []) n ≡ Some y
    → (slice_get xs n ≡ Some y) ⊎ ((n ≡ length xs) × (x ≡ y))
end_or_before [] x y zero e = inr (refl, cc)
end_or_before [] x y (suc n) e = cc
end_or_before (z ∷ zs) x y zero e = inl e
end_or_before (z ∷ zs) x y (suc n) e = elim (end_or_before zs x y n e) [ inl h ↦ inl h | inr h ↦ inr (ap suc h.0, h.1) ]

-- one more share
pub one_more_share : (shown : List Event) (pool : List Replay) (shares : List ℕ) (more : ℕ) (replay : Replay) → AreShares shown pool shares
    → slice_get pool (length shares) ≡ Some replay → AgreeTo more replay.events.items shown → AreShares shown pool (shares ++ more ∷ [])
one_more_share shown pool shares more replay are there alike number other share at_number at_share =
    elim (end_or_before shares more share number at_share) [
      | inl h ↦ are number other share at_number h
      | inr h ↦ let same : other ≡ replay = let e : Some other ≡ Some replay = sym at_number ∙ (ap (slice_get pool) h.0 ∙ there) in cc in
          λ index before. subst (λ (r : Replay). slice_get r.events.items index ≡ slice_get shown index) (sym same)
          (alike index (subst (λ n. index < n) (sym h.1) before))
    ]

-- lists that agree have the same first items
pub same_beginning : (one other : List Event) (count : ℕ) → AgreeTo count one other → take count one ≡ take count other
same_beginning one other zero agree = refl
same_beginning [] [] (suc count) agree = refl
same_beginning [] (y ∷ ys) (suc count) agree = let e = agree 0 (omega arith) in cc
same_beginning (x ∷ xs) [] (suc count) agree = let e = agree 0 (omega arith) in cc
same_beginning (x ∷ xs) (y ∷ ys) (suc count) agree =
    let e = agree 0 (omega arith) in
    let heads : x ≡ y = cc in
    let tails = same_beginning xs ys count (λ i h. agree (suc i) (omega arith)) in
    λ i. heads i ∷ tails i
