-- Words as bytes (LEB128): the digits of a word to base 128, the lowest first, with 128 added to each but the last one. So a word less than 128
-- is one byte, and the words can be read from the bytes.
use Rattle.std.specs.Prelude.{ℕ, zero, suc, ◌+◌, ◌-◌, ◌*◌, ◌/◌, ◌%◌, nat_lt, List, [], ◌∷◌, if◌then◌else◌}
use Rattle.std.specs.List.{flat_map}

-- the digits of a word, with at most this many after the first one
abbrev pub digits : ℕ → ℕ → List ℕ
digits zero word = word ∷ []
digits (suc more) word = if nat_lt word 128 then word ∷ [] else (word % 128 + 128) ∷ digits more (word / 128)

-- the number of digits of a word is bounded by the word itself
abbrev pub bytes_of_word : ℕ → List ℕ
bytes_of_word word = digits word word

abbrev pub bytes_of : List ℕ → List ℕ
bytes_of words = flat_map bytes_of_word words

-- words with one more digit, the lowest, in the first one; a digit that no word follows is dropped
abbrev pub with_digit : ℕ → List ℕ → List ℕ
with_digit digit [] = []
with_digit digit (word ∷ words) = (128 * word + digit) ∷ words

-- the words that bytes represent
abbrev pub words_in : List ℕ → List ℕ
words_in [] = []
words_in (byte ∷ bytes) = if nat_lt byte 128 then byte ∷ words_in bytes else with_digit (byte - 128) (words_in bytes)
