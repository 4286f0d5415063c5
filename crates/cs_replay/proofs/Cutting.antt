-- Temporaries below a number, which are stored with the newest last: for the contract of `cut`.
use Rattle.std.proofs.Common.{◌≡◌, ℕ, ◌-◌, ◌≤◌, nat_le, Bool, true, false, List, map, take, drop, reverse, length, sym, ap, ◌∙◌, refl}
use Rattle.std.proofs.Common.{arith}
use Rattle.std.proofs.lemmas.Bool.Decides.{nat_tests}
use Rattle.std.proofs.lemmas.List.{length-map, length-reverse, take_all}
use Rattle.cs_frames.proofs.Stacks.{older_of}

-- without the elements after the first n, the first n remain
first_are : {X : Type 0} (xs : List X) (n : ℕ) → take (length xs - (length xs - n)) xs ≡ take n xs
first_are xs n = at (nat_le n (length xs)) refl
  where
    at : (b : Bool) → nat_le n (length xs) ≡ b → take (length xs - (length xs - n)) xs ≡ take n xs
    at true e =
        let within : n ≤ length xs = grind (arith, nat_tests) in
        let same : length xs - (length xs - n) ≡ n = omega arith in
        ap (λ (k : ℕ). take k xs) same
    at false e =
        let past : length xs ≤ n = grind (arith, nat_tests) in
        take_all (length xs - (length xs - n)) xs (omega arith) ∙ sym (take_all n xs past)

-- the temporaries below a number, with the newest first
pub below_are : {X Y : Type 0} (seen : X → Y) (xs : List X) (n : ℕ)
    → reverse (map seen (take n xs)) ≡ drop (length (reverse (map seen xs)) - n) (reverse (map seen xs))
below_are seen xs n =
    let long : length (reverse (map seen xs)) ≡ length xs = length-reverse (map seen xs) ∙ length-map xs seen in
    ap (λ (l : List _). reverse (map seen l)) (sym (first_are xs n))
    ∙ (sym (older_of seen xs (length xs - n)) ∙ ap (λ (k : ℕ). drop (k - n) (reverse (map seen xs))) (sym long))
