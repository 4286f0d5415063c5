-- The positions of the scalars of arrays and of consecutive members: for the contract of `leaf_at`.
use Rattle.std.proofs.Common.{◌≡◌, ℕ, zero, suc, ◌+◌, ◌*◌, ◌/◌, ◌%◌, ◌-◌, ◌<◌, ◌≤◌, ◌⊎◌, inl, inr, Bool, true}
use Rattle.std.proofs.Common.{false, cond, List, [], ◌∷◌, ◌++◌, ◌∙◌, ap, refl, arith}
use Rattle.std.specs.Prelude.{Option, Some, None, ◌==◌}
use Rattle.std.specs.Option.{option_or}
use Rattle.std.proofs.lemmas.Bool.Decides.{nat_tests}
use Rattle.cs_types.specs.Shape.{Shape}
use Rattle.cs_types.specs.Layout.{Layout, Leaf, round_up, moved, row, side_by_side, scalar_at}

pub scalar_at-append : (o : ℕ) (xs ys : List Leaf) → scalar_at o (xs ++ ys) ≡ option_or (scalar_at o xs) (scalar_at o ys)
scalar_at-append o [] ys = refl
scalar_at-append o (x ∷ xs) ys = at_test (x.offset == o) (scalar_at-append o xs ys)
  where
    at_test : (t : Bool) → scalar_at o (xs ++ ys) ≡ option_or (scalar_at o xs) (scalar_at o ys)
        → cond t (Some x.scalar) (scalar_at o (xs ++ ys)) ≡ option_or (cond t (Some x.scalar) (scalar_at o xs)) (scalar_at o ys)
    at_test true h = refl
    at_test false h = h

pub option_or-None : (a : Option Shape) → option_or a None ≡ a
option_or-None None = refl
option_or-None (Some s) = refl

-- the scalars begin at offsets from low to below high
abbrev pub Within : ℕ → ℕ → List Leaf → Type 0
Within low high [] = Unit {0}
Within low high (x ∷ xs) = (low ≤ x.offset) × (x.offset < high) × Within low high xs

pub Within-wider : (low high low' high' : ℕ) (xs : List Leaf) → low' ≤ low → high ≤ high' → Within low high xs → Within low' high' xs
Within-wider low high low' high' [] h g w = tt
Within-wider low high low' high' (x ∷ xs) h g w = (omega arith, omega arith, Within-wider low high low' high' xs h g w.2)

pub Within-append : (low high : ℕ) (xs ys : List Leaf) → Within low high xs → Within low high ys → Within low high (xs ++ ys)
Within-append low high [] ys w v = v
Within-append low high (x ∷ xs) ys w v = (w.0, w.1, Within-append low high xs ys w.2 v)

pub Within-moved : (by low high : ℕ) (xs : List Leaf) → Within low high xs → Within (by + low) (by + high) (moved by xs)
Within-moved by low high [] w = tt
Within-moved by low high (x ∷ xs) w = (omega arith, omega arith, Within-moved by low high xs w.2)

pub outside : (o low high : ℕ) (xs : List Leaf) → Within low high xs → (o < low) ⊎ (high ≤ o) → scalar_at o xs ≡ None
outside o low high [] w h = refl
outside o low high (x ∷ xs) w h =
    let misses : (x.offset == o) ≡ false = elim h [ inl below ↦ grind (arith, nat_tests) | inr above ↦ grind (arith, nat_tests) ] in
    ap (λ t. cond t (Some x.scalar) (scalar_at o xs)) misses ∙ outside o low high xs w.2 h

pub scalar_at-moved : (by o : ℕ) (xs : List Leaf) → by ≤ o → scalar_at o (moved by xs) ≡ scalar_at (o - by) xs
scalar_at-moved by o [] h = refl
scalar_at-moved by o (x ∷ xs) h =
    let same : (by + x.offset == o) ≡ (x.offset == (o - by)) = grind (arith, nat_tests) in
    ap (λ t. cond t (Some x.scalar) (scalar_at o (moved by xs))) same ∙ ap (cond (x.offset == (o - by)) (Some x.scalar)) (scalar_at-moved by o xs h)

-- repeated elements
pub Within-row : (n : ℕ) (e : Layout) → Within 0 e.size e.leaves → Within 0 (n * e.size) (row n e)
Within-row zero e w = tt
Within-row (suc n) e w =
    Within-append 0 (suc n * e.size) e.leaves (moved e.size (row n e))
    (Within-wider 0 e.size 0 (suc n * e.size) e.leaves (omega arith) (omega arith) w)
    (Within-wider (e.size + 0) (e.size + n * e.size) 0 (suc n * e.size) (moved e.size (row n e)) (omega arith) (omega arith)
    (Within-moved e.size 0 (n * e.size) (row n e) (Within-row n e w)))

later-row : (o n : ℕ) (e : Layout) → Within 0 e.size e.leaves → e.size ≤ o → scalar_at o (row (suc n) e) ≡ scalar_at (o - e.size) (row n e)
later-row o n e w h =
    scalar_at-append o e.leaves (moved e.size (row n e))
    ∙ ap (λ a. option_or a (scalar_at o (moved e.size (row n e)))) (outside o 0 e.size e.leaves w (inr h)) ∙ scalar_at-moved e.size o (row n e) h

first-row : (o n : ℕ) (e : Layout) → Within 0 e.size e.leaves → o < e.size → scalar_at o (row (suc n) e) ≡ scalar_at o e.leaves
first-row o n e w h =
    let following : Within (e.size + 0) (e.size + n * e.size) (moved e.size (row n e)) = Within-moved e.size 0 (n * e.size) (row n e) (Within-row n e w) in
    scalar_at-append o e.leaves (moved e.size (row n e))
    ∙ ap (option_or (scalar_at o e.leaves)) (outside o (e.size + 0) (e.size + n * e.size) (moved e.size (row n e)) following (inl (omega arith)))
    ∙ option_or-None (scalar_at o e.leaves)

row-at : (n q o r : ℕ) (e : Layout) → Within 0 e.size e.leaves → r < e.size → q < n → o ≡ q * e.size + r
    → scalar_at o (row n e) ≡ scalar_at r e.leaves
row-at zero q o r e w h g eq = absurd (omega arith)
row-at (suc n) zero o r e w h g eq =
    let same : o ≡ r = omega arith in
    first-row o n e w (omega arith) ∙ ap (λ x. scalar_at x e.leaves) same
row-at (suc n) (suc q) o r e w h g eq =
    later-row o n e w (omega arith) ∙ row-at n q (o - e.size) r e w h (omega arith) (omega arith)

-- the scalar at an offset of repeated elements is that of the element at the remainder
pub scalar_at-row : (n o : ℕ) (e : Layout) → Within 0 e.size e.leaves → 0 < e.size → o / e.size < n
    → scalar_at o (row n e) ≡ scalar_at (o % e.size) e.leaves
scalar_at-row n o e w s h = row-at n (o / e.size) o (o % e.size) e w (omega arith) h (omega arith)

-- no scalar begins past the end of repeated elements
pub scalar_at-row_end : (n o : ℕ) (e : Layout) → Within 0 e.size e.leaves → n * e.size ≤ o → scalar_at o (row n e) ≡ None
scalar_at-row_end n o e w h = outside o 0 (n * e.size) (row n e) (Within-row n e w) (inr h)

-- rounding up doesn't decrease a number
pub round_up-least : (number n : ℕ) → 0 < n → number ≤ round_up number n
round_up-least number n h = omega arith

-- the scalars of a layout lie within its size, and its alignment isn't 0
pub record IsSound (l : Layout) : Type 0 where
  pub aligned : 0 < l.align
  pub within : Within 0 l.size l.leaves

-- each layout of a list is sound
abbrev pub AllSound : List Layout → Type 0
AllSound [] = Unit {0}
AllSound (l ∷ ls) = IsSound l × AllSound ls

pub side_by_side-from : (from : ℕ) (ls : List Layout) → AllSound ls → from ≤ (side_by_side from ls).size
side_by_side-from from [] h = omega arith
side_by_side-from from (l ∷ ls) h =
    omega (arith, round_up-least from l.align h.0.aligned, side_by_side-from (round_up from l.align + l.size) ls h.1)

pub side_by_side-aligned : (from : ℕ) (ls : List Layout) → AllSound ls → 0 < (side_by_side from ls).align
side_by_side-aligned from [] h = omega arith
side_by_side-aligned from (l ∷ ls) h = omega (arith, h.0.aligned)

pub Within-side_by_side : (from : ℕ) (ls : List Layout) → AllSound ls → Within from (side_by_side from ls).size (side_by_side from ls).leaves
Within-side_by_side from [] h = tt
Within-side_by_side from (l ∷ ls) h =
    let at : ℕ = round_up from l.align in
    let least = round_up-least from l.align h.0.aligned in
    let rest = side_by_side-from (at + l.size) ls h.1 in
    Within-append from (side_by_side (at + l.size) ls).size (moved at l.leaves) (side_by_side (at + l.size) ls).leaves
    (Within-wider (at + 0) (at + l.size) from (side_by_side (at + l.size) ls).size (moved at l.leaves) (omega arith) rest
    (Within-moved at 0 l.size l.leaves h.0.within))
    (Within-wider (at + l.size) (side_by_side (at + l.size) ls).size from (side_by_side (at + l.size) ls).size (side_by_side (at + l.size) ls).leaves
    (omega arith) (omega arith) (Within-side_by_side (at + l.size) ls h.1))
