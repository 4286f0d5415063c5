-- Ranges of numbers from 0, extended by one number: for the loop of `generate_text`.
use Rattle.std.proofs.Common.{◌≡◌, ℕ, zero, suc, ◌+◌, List, [], ◌∷◌, ◌++◌, ap, ◌∙◌, refl, append_assoc, append-nil, arith}
use Rattle.std.specs.List.{flat_map, range_with_len}

-- a range that is one number longer has the next number at its end
range_more : (from length : ℕ) → range_with_len from (suc length) ≡ range_with_len from length ++ (from + length) ∷ []
range_more from zero = ap (λ (n : ℕ). n ∷ []) (omega arith)
range_more from (suc length) =
    let next : (from + 1) + length ≡ from + suc length = omega arith in
    ap (λ (ns : List ℕ). from ∷ ns) (range_more (from + 1) length
    ∙ ap (λ (n : ℕ). range_with_len (from + 1) length ++ n ∷ []) next)

flat_map_last : (f : ℕ → List ℕ) (numbers : List ℕ) (last : ℕ) → flat_map f (numbers ++ last ∷ []) ≡ flat_map f numbers ++ f last
flat_map_last f [] last = append-nil (f last)
flat_map_last f (n ∷ ns) last = ap (λ (t : List ℕ). f n ++ t) (flat_map_last f ns last) ∙ simp append_assoc

pub one_more : (f : ℕ → List ℕ) (length : ℕ) → flat_map f (range_with_len 0 (suc length)) ≡ flat_map f (range_with_len 0 length) ++ f length
one_more f length =
    let last : 0 + length ≡ length = omega arith in
    ap (flat_map f) (range_more 0 length ∙ ap (λ (n : ℕ). range_with_len 0 length ++ n ∷ []) last)
    ∙ flat_map_last f (range_with_len 0 length) length
