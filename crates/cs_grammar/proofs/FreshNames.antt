-- Names that differ from some names: for completions that declare a name.
use Rattle.std.proofs.Common.{◌≡◌, ℕ, zero, suc, inl, inr, ◌+◌, ◌<◌, true, false, List, [], ◌∷◌, length, refl, ap, arith}
use Rattle.std.proofs.lemmas.Bool.{false_from_ne_true, or_cases}
use Rattle.std.specs.Cmp.Lexicographic.{pointwise}
use Rattle.std.specs.Prelude.{nat_eq}
use Rattle.cs_names.proofs.Comparisons.{same_bytes}
use Rattle.cs_grammar.specs.TypeWords.{Names, is_among}

-- so many zeros
abbrev pub zeros : ℕ → List ℕ
zeros zero = []
zeros (suc n) = 0 ∷ zeros n

zeros_length : (n : ℕ) → length (zeros n) ≡ n
zeros_length zero = refl
zeros_length (suc n) = let e = zeros_length n in omega (arith, e)

-- the sum of the lengths of names
abbrev pub all_lengths : Names → ℕ
all_lengths [] = 0
all_lengths (name ∷ names) = length name + all_lengths names

longer_is_new : (names : Names) (name : List ℕ) → all_lengths names < length name → is_among names name ≡ true → ⊥
longer_is_new [] name long among = cc
longer_is_new (n ∷ names) name long among =
    elim (or_cases (pointwise nat_eq name n) (is_among names name) among) [
      | inl e ↦ let k = ap length (same_bytes name n e) in omega (arith, k, long)
      | inr e ↦ longer_is_new names name (omega (arith, long)) e
    ]

-- a name that differs from all of these
abbrev pub fresh : Names → List ℕ
fresh names = zeros (suc (all_lengths names))

pub fresh_free : (names : Names) → is_among names (fresh names) ≡ false
fresh_free names = false_from_ne_true (is_among names (fresh names))
    (λ e. longer_is_new names (fresh names) (let l = zeros_length (suc (all_lengths names)) in omega (arith, l)) e)
