-- Bytes determine the words that they represent, and words their bytes: for one more word, and for equality and hashing of keys.
use Rattle.std.proofs.Common.{◌≡◌, ℕ, zero, suc, ◌+◌, ◌-◌, ◌*◌, ◌/◌, ◌%◌, ◌^◌, ◌<◌, ◌≤◌, List, [], ◌∷◌, ◌++◌, length, refl, sym, ap}
use Rattle.std.proofs.Common.{◌∙◌, arith, Bool, true, false, cond}
use Rattle.std.specs.Prelude.{nat_lt}
use Rattle.std.specs.List.{count_by}
use Rattle.std.proofs.lemmas.Bool.{ltb-false, lt-ltb, le-ltb, cond_both, cond-true, cond-false}
use Rattle.std.proofs.lemmas.List.{append-nil, append_assoc}
use Rattle.std.proofs.lemmas.List.Concat.{flat_map-append}
use Rattle.std.proofs.lemmas.List.Recursion.{is_count_by}
use Rattle.std.proofs.lemmas.Nat.{div_below}
use Rattle.std.proofs.Math.Nat.{pow-suc}
use Rattle.cs_word_lists.specs.Bytes.{digits, bytes_of_word, bytes_of, with_digit, words_in}

-- the digits of a word represent it, whatever follows them
digits_read : (more word : ℕ) (bytes : List ℕ) → word ≤ more → words_in (digits more word ++ bytes) ≡ word ∷ words_in bytes
digits_read zero word bytes few = let small : nat_lt word 128 ≡ true = lt-ltb word 128 (omega arith) in rw small refl
digits_read (suc more) word bytes few =
    cond_both (nat_lt word 128) (word ∷ []) ((word % 128 + 128) ∷ digits more (word / 128))
    (λ written. words_in (written ++ bytes) ≡ word ∷ words_in bytes)
    (λ small. rw small refl)
    (λ great.
    let least : 128 ≤ word = ltb-false word 128 great in
    let marked : nat_lt (word % 128 + 128) 128 ≡ false = le-ltb (word % 128 + 128) 128 (omega arith) in
    let rest = digits_read more (word / 128) bytes (omega arith) in
    let whole : 128 * (word / 128) + (word % 128 + 128 - 128) ≡ word = omega arith in
    rw (marked, rest) (ap (λ first. first ∷ words_in bytes) whole))

words_read : (words bytes : List ℕ) → words_in (bytes_of words ++ bytes) ≡ words ++ words_in bytes
words_read [] bytes = refl
words_read (word ∷ words) bytes =
    ap words_in (append_assoc (bytes_of_word word) (bytes_of words) bytes) ∙ digits_read word word (bytes_of words ++ bytes) (omega arith)
    ∙ ap (λ rest. word ∷ rest) (words_read words bytes)

pub words_back : (words : List ℕ) → words_in (bytes_of words) ≡ words
words_back words = ap words_in (sym (append-nil (bytes_of words))) ∙ words_read words [] ∙ append-nil words

-- whole words: the bytes are those of the words that they represent
module _ (bytes : List ℕ) (whole : bytes ≡ bytes_of (words_in bytes)) where
  pub one_more_read : (word : ℕ) → words_in (bytes ++ bytes_of_word word) ≡ words_in bytes ++ word ∷ []
  one_more_read word =
      ap (λ first. words_in (first ++ bytes_of_word word)) whole ∙ words_read (words_in bytes) (bytes_of_word word)
      ∙ ap (λ last. words_in bytes ++ last)
      (ap words_in (sym (append-nil (bytes_of_word word))) ∙ digits_read word word [] (omega arith))

  pub one_more_whole : (word : ℕ) → bytes ++ bytes_of_word word ≡ bytes_of (words_in (bytes ++ bytes_of_word word))
  one_more_whole word =
      ap (λ first. first ++ bytes_of_word word) whole
      ∙ ap (λ last. bytes_of (words_in bytes) ++ last) (sym (append-nil (bytes_of_word word)))
      ∙ sym (flat_map-append bytes_of_word (words_in bytes) (word ∷ []))
      ∙ ap bytes_of (sym (one_more_read word))

  -- other words after these
  pub joined_read : (more : List ℕ) → words_in (bytes ++ more) ≡ words_in bytes ++ words_in more
  joined_read more = ap (λ first. words_in (first ++ more)) whole ∙ words_read (words_in bytes) more

  pub joined_whole : (more : List ℕ) → more ≡ bytes_of (words_in more) → bytes ++ more ≡ bytes_of (words_in (bytes ++ more))
  joined_whole more whole_more =
      (λ i. whole i ++ whole_more i) ∙ sym (flat_map-append bytes_of_word (words_in bytes) (words_in more)) ∙ ap bytes_of (sym (joined_read more))

-- further steps than the word requires make no difference
enough : (n m word : ℕ) → word ≤ n → word ≤ m → digits n word ≡ digits m word
enough zero zero word few same = refl
enough zero (suc m) word few same = let small : nat_lt word 128 ≡ true = lt-ltb word 128 (omega arith) in rw small refl
enough (suc n) zero word few same = let small : nat_lt word 128 ≡ true = lt-ltb word 128 (omega arith) in rw small refl
enough (suc n) (suc m) word few same =
    cond_both (nat_lt word 128) (word ∷ []) ((word % 128 + 128) ∷ digits n (word / 128)) (λ written. written ≡ digits (suc m) word)
    (λ small. rw small refl)
    (λ great.
    let least : 128 ≤ word = ltb-false word 128 great in
    rw great (ap (λ rest. (word % 128 + 128) ∷ rest) (enough n m (word / 128) (omega arith) (omega arith))))

pub one_byte : (word : ℕ) → word < 128 → bytes_of_word word ≡ word ∷ []
one_byte zero small = refl
one_byte (suc word) small = cond-true (nat_lt (suc word) 128) _ _ (lt-ltb (suc word) 128 small)

pub next_digit : (word : ℕ) → 128 ≤ word → bytes_of_word word ≡ (word % 128 + 128) ∷ bytes_of_word (word / 128)
next_digit zero great = absurd (omega arith)
next_digit (suc word) great =
    cond-false (nat_lt (suc word) 128) _ _ (le-ltb (suc word) 128 great)
    ∙ ap (λ rest. (suc word % 128 + 128) ∷ rest) (enough word (suc word / 128) (suc word / 128) (omega arith) (omega arith))

-- the number of bytes of a word
digits_few : (more k word : ℕ) → word < 128 ^ suc k → length (digits more word) ≤ suc k
digits_few zero k word small = omega arith
digits_few (suc more) zero word small = let one : nat_lt word 128 ≡ true = lt-ltb word 128 small in rw one (omega arith)
digits_few (suc more) (suc k) word small =
    cond_both (nat_lt word 128) (word ∷ []) ((word % 128 + 128) ∷ digits more (word / 128)) (λ written. length written ≤ suc (suc k))
    (λ one. omega arith)
    (λ great. let below : word / 128 < 128 ^ suc k = div_below word 128 (128 ^ suc k) (omega arith) (rw pow-suc at small) in
    omega (arith, digits_few more k (word / 128) below))

pub ten_bytes : (word : ℕ) → word < 2 ^ 64 → length (bytes_of_word word) ≤ 10
ten_bytes word fits = digits_few word 9 word (omega arith)

-- each word has one byte that is its last digit
length-with_digit : (digit : ℕ) (words : List ℕ) → length (with_digit digit words) ≡ length words
length-with_digit digit [] = refl
length-with_digit digit (word ∷ words) = refl

count_step : (byte : ℕ) (bytes : List ℕ)
    → length (words_in (byte ∷ bytes)) ≡ cond (nat_lt byte 128) (1 + length (words_in bytes)) (length (words_in bytes))
count_step byte bytes = by (nat_lt byte 128)
  where
    by : (t : Bool) → length (cond t (byte ∷ words_in bytes) (with_digit (byte - 128) (words_in bytes)))
        ≡ cond t (1 + length (words_in bytes)) (length (words_in bytes))
    by true = omega arith
    by false = length-with_digit (byte - 128) (words_in bytes)

pub words_counted : (bytes : List ℕ) → length (words_in bytes) ≡ count_by (λ byte. nat_lt byte 128) bytes
words_counted bytes = is_count_by (λ bytes. length (words_in bytes)) (λ byte. nat_lt byte 128) refl count_step bytes
