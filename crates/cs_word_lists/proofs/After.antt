-- What is written after words doesn't depend on them: it can be written separately and appended.
use Rattle.std.proofs.Common.{◌≡◌, ℕ, Bool, true, false, cond, ℤ, List, [], ◌∷◌, ◌++◌, length, sym, ap, refl, ◌∙◌, append_assoc}
use Rattle.std.specs.Prelude.{fold, nat_lt}
use Rattle.cs_word_lists.specs.Written.{LAST, with_word, with_natural, zigzag, with_integer, with_list}

abbrev pub IsAfter : {Item : Type 0} → (List ℕ → Item → List ℕ) → Type 0
IsAfter {Item} with_item = (front words : List ℕ) (item : Item) → front ++ with_item words item ≡ with_item (front ++ words) item

pub word_after : IsAfter with_word
word_after front words word = sym (append_assoc front words (word ∷ []))

natural_by : (t : Bool) (front words : List ℕ) (m high low : ℕ)
    → front ++ cond t (with_word words m) (with_word (with_word (with_word words high) low) LAST)
    ≡ cond t (with_word (front ++ words) m) (with_word (with_word (with_word (front ++ words) high) low) LAST)
natural_by true front words m high low = word_after front words m
natural_by false front words m high low =
    word_after front (with_word (with_word words high) low) LAST
    ∙ ap (λ words. with_word words LAST)
    (word_after front (with_word words high) low ∙ ap (λ words. with_word words low) (word_after front words high))

pub natural_after : IsAfter with_natural
natural_after front words number = natural_by (nat_lt number LAST) front words number _ _

pub integer_after : IsAfter with_integer
integer_after front words number = natural_after front words (zigzag number)

-- one more word after words that were written separately
pub word_next : (front words next : List ℕ) (word : ℕ) → front ++ words ≡ next → front ++ with_word words word ≡ with_word next word
word_next front words next word same = word_after front words word ∙ ap (λ words. with_word words word) same

module _ {Item : Type 0} (with_item : List ℕ → Item → List ℕ) (item_after : IsAfter with_item) where
  each_after : (front words : List ℕ) (items : List Item) → front ++ fold with_item words items ≡ fold with_item (front ++ words) items
  each_after front words [] = refl
  each_after front words (item ∷ items) =
      each_after front (with_item words item) items ∙ ap (λ words. fold with_item words items) (item_after front words item)

  pub list_after : IsAfter (with_list with_item)
  list_after front words items = word_next front (fold with_item words items) _ (length items) (each_after front words items)
