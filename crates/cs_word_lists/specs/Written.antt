-- What is appended to a list of words: words, numbers of 128 bits, and lists.
use Rattle.std.specs.Prelude.{ℕ, ◌+◌, ◌-◌, ◌*◌, ◌/◌, ◌%◌, ◌^◌, nat_lt, ℤ, pos, negsuc, List, [], ◌∷◌, ◌++◌, fold, length, if◌then◌else◌}

-- one more word
abbrev pub with_word : List ℕ → ℕ → List ℕ
with_word words word = words ++ word ∷ []

-- the greatest word
abbrev pub LAST : ℕ
LAST = 2 ^ 64 - 1

-- a number in two words, followed by the greatest word
abbrev pub in_three_words : List ℕ → ℕ → List ℕ
in_three_words words number = with_word (with_word (with_word words (number / 2 ^ 64)) (number % 2 ^ 64)) LAST

-- a number in one word if it is less than the greatest one, else in two, followed by the greatest one
abbrev pub with_natural : List ℕ → ℕ → List ℕ
with_natural words number =
    if nat_lt number LAST then with_word words number else in_three_words words number

-- the integers as natural numbers: 0, -1, 1, -2, 2 and so on
abbrev pub zigzag : ℤ → ℕ
zigzag (pos number) = 2 * number
zigzag (negsuc number) = 2 * number + 1

abbrev pub with_integer : List ℕ → ℤ → List ℕ
with_integer words number = with_natural words (zigzag number)

-- a list: its elements, followed by their number
abbrev pub with_list : {Item : Type 0} → (List ℕ → Item → List ℕ) → List ℕ → List Item → List ℕ
with_list with_item words items = with_word (fold with_item words items) (length items)
