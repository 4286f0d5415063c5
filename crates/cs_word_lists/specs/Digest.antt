-- A number for each list of words: the words, each increased by 1, as the digits of a number to a base, mod 2^64. Equal lists have equal
-- digests, and the digest of two joined lists follows from both digests and the length of the second.
use Rattle.std.specs.Prelude.{◌≡◌, ℕ, ◌+◌, ◌*◌, ◌%◌, ◌^◌, List, [], ◌∷◌, length}
use Rattle.cs_word_lists.specs.Bytes.{bytes_of, words_in}

abbrev pub BASE : ℕ
BASE = 11400714819323198485

-- the words as digits, the first one the highest
abbrev pub value_of : List ℕ → ℕ
value_of [] = 0
value_of (word ∷ words) = (word + 1) * BASE ^ length words + value_of words

abbrev pub digest_of : List ℕ → ℕ
digest_of words = value_of words % 2 ^ 64

-- the factor for the digest of preceding words
abbrev pub power_of : List ℕ → ℕ
power_of words = BASE ^ length words % 2 ^ 64

-- what is kept for words: their bytes, and both numbers
pub record IsKept (bytes : List ℕ) (digest power : ℕ) : Type 0 where
  pub whole : bytes ≡ bytes_of (words_in bytes)
  pub digest_is : digest ≡ digest_of (words_in bytes)
  pub power_is : power ≡ power_of (words_in bytes)
