-- The digest of two joined lists: for the contracts of `word`, `long` and `digest_after`.
use Rattle.std.proofs.Common.{◌≡◌, ℕ, ◌+◌, ◌*◌, ◌%◌, ◌^◌, List, [], ◌∷◌, ◌++◌, length, sym, ap, ◌∙◌, arith, length-append}
use Rattle.std.proofs.lemmas.Nat.{pow-add, mul-mod_first, mul-mod}
use Rattle.std.proofs.Math.Nat.{mul_assoc, add-mul, add_assoc, add-mod-mod, mod-add-mod}
use Rattle.cs_word_lists.specs.Bytes.{bytes_of_word, words_in}
use Rattle.cs_word_lists.specs.Digest.{BASE, value_of, digest_of, power_of, IsKept}
use Rattle.cs_word_lists.proofs.Coding.{one_more_read, one_more_whole, joined_read, joined_whole}

abbrev SIZE : ℕ
SIZE = 2 ^ 64

spread : (w p q v u : ℕ) → w * (p * q) + (v * q + u) ≡ (w * p + v) * q + u
spread w p q v u =
    sym (add_assoc (w * (p * q)) (v * q) u)
    ∙ ap (λ sum. sum + u) ((λ i. sym (mul_assoc w p q) i + v * q) ∙ sym (add-mul (w * p) v q))

powers : (xs ys : List ℕ) → BASE ^ length (xs ++ ys) ≡ BASE ^ length xs * BASE ^ length ys
powers xs ys = ap (λ n. BASE ^ n) (length-append xs ys) ∙ pow-add BASE (length xs) (length ys)

value_after : (xs ys : List ℕ) → value_of (xs ++ ys) ≡ value_of xs * BASE ^ length ys + value_of ys
value_after [] ys = omega arith
value_after (x ∷ xs) ys =
    (λ i. (x + 1) * powers xs ys i + value_after xs ys i)
    ∙ spread (x + 1) (BASE ^ length xs) (BASE ^ length ys) (value_of xs) (value_of ys)

pub digest_joined : (xs ys : List ℕ) → (digest_of xs * power_of ys % SIZE + digest_of ys) % SIZE ≡ digest_of (xs ++ ys)
digest_joined xs ys =
    add-mod-mod (digest_of xs * power_of ys % SIZE) (value_of ys) SIZE
    ∙ ap (λ product. (product + value_of ys) % SIZE) (sym (mul-mod (value_of xs) (BASE ^ length ys) SIZE))
    ∙ mod-add-mod (value_of xs * BASE ^ length ys) SIZE (value_of ys)
    ∙ ap (λ value. value % SIZE) (sym (value_after xs ys))

digest_more : (xs : List ℕ) (w : ℕ) → ((digest_of xs * BASE % SIZE + w) % SIZE + 1) % SIZE ≡ digest_of (xs ++ w ∷ [])
digest_more xs w =
    let last : value_of (w ∷ []) ≡ w + 1 = omega arith in
    mod-add-mod (digest_of xs * BASE % SIZE + w) SIZE 1
    ∙ ap (λ sum. sum % SIZE) (add_assoc (digest_of xs * BASE % SIZE) w 1)
    ∙ ap (λ product. (product + (w + 1)) % SIZE) (mul-mod_first (value_of xs) BASE SIZE)
    ∙ mod-add-mod (value_of xs * BASE) SIZE (w + 1)
    ∙ ap (λ value. (value_of xs * BASE + value) % SIZE) (sym last)
    ∙ ap (λ value. value % SIZE) (sym (value_after xs (w ∷ [])))

power_more : (xs : List ℕ) (w : ℕ) → power_of xs * BASE % SIZE ≡ power_of (xs ++ w ∷ [])
power_more xs w = mul-mod_first (BASE ^ length xs) BASE SIZE ∙ ap (λ power. power % SIZE) (sym (powers xs (w ∷ [])))

-- what is kept after one more word
pub kept_more : (bytes : List ℕ) (digest power word : ℕ) → IsKept bytes digest power
    → IsKept (bytes ++ bytes_of_word word) (((digest * BASE % SIZE + word) % SIZE + 1) % SIZE) (power * BASE % SIZE)
kept_more bytes digest power word kept =
    let more = sym (one_more_read bytes kept.whole word) in
    record {
      whole = one_more_whole bytes kept.whole word;
      digest_is =
          ap (λ digest. ((digest * BASE % SIZE + word) % SIZE + 1) % SIZE) kept.digest_is ∙ digest_more (words_in bytes) word ∙ ap digest_of more;
      power_is = ap (λ power. power * BASE % SIZE) kept.power_is ∙ power_more (words_in bytes) word ∙ ap power_of more;
    }

power_joined : (xs ys : List ℕ) → power_of xs * power_of ys % SIZE ≡ power_of (xs ++ ys)
power_joined xs ys =
    sym (mul-mod (BASE ^ length xs) (BASE ^ length ys) SIZE) ∙ ap (λ power. power % SIZE) (sym (powers xs ys))

-- what is kept of words followed by others
pub kept_joined : (bytes more : List ℕ) (digest power after following : ℕ) → IsKept bytes digest power → IsKept more after following
    → (joined : ℕ) → joined ≡ digest_of (words_in bytes ++ words_in more) → IsKept (bytes ++ more) joined (power * following % SIZE)
kept_joined bytes more digest power after following kept others joined joined_is =
    let read = sym (joined_read bytes kept.whole more) in
    record {
      whole = joined_whole bytes kept.whole more others.whole;
      digest_is = joined_is ∙ ap digest_of read;
      power_is = (λ i. kept.power_is i * others.power_is i % SIZE) ∙ power_joined (words_in bytes) (words_in more) ∙ ap power_of read;
    }
