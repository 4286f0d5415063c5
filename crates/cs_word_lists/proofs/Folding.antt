-- A list is written one element after the other: for the loops over temporaries, values, blocks and the like.
use Rattle.std.proofs.Common.{◌≡◌, ℕ, suc, subst, ◌+◌, ◌<◌, ◌≤◌, List, [], ◌∷◌, ◌++◌, length, map, drop, get_or, sym, ap}
use Rattle.std.proofs.Common.{◌∙◌, arith, add-zero}
use Rattle.std.specs.Prelude.{fold}
use Rattle.std.proofs.lemmas.List.{drop_more, length-map, drop_all}
use Rattle.cs_word_lists.specs.Written.{with_word, with_list}

module _ {Item Part : Type 0} (with_part : List ℕ → Part → List ℕ) (part : Item → Part) where
  -- the elements that remain after one more was written
  pub one_more : (words : List ℕ) (items : List Item) (i : ℕ) (d : Item) → i < length items
      → fold with_part (with_part words (part (get_or items i d))) (map part (drop (i + 1) items))
      ≡ fold with_part words (map part (drop i items))
  one_more words items i d more = ap (λ rest. fold with_part words (map part rest)) (sym (drop_more items i d more))

  -- the whole list, if no element remains
  pub all_written : (words before : List ℕ) (items : List Item) (i : ℕ) → length items ≤ i
      → fold with_part words (map part (drop i items)) ≡ fold with_part before (map part items)
      → with_word words (length items) ≡ with_list with_part before (map part items)
  all_written words before items i done written =
      let none_left = ap (λ rest. fold with_part words (map part rest)) (drop_all i items done) in
      let all = sym none_left ∙ written in
      λ j. with_word (all j) (sym (length-map items part) j)

  -- the same with an iterator over the elements
  pub one_more_item : (words : List ℕ) (items rest : List Item) (item : Item) → items ≡ item ∷ rest
      → fold with_part (with_part words (part item)) (map part rest) ≡ fold with_part words (map part items)
  one_more_item words items rest item is = ap (λ left. fold with_part words (map part left)) (sym is)

  pub one_more_counted : (count more all : ℕ) (items rest : List Item) (item : Item) → items ≡ item ∷ rest → more ≡ count + 1
      → count + length items ≡ all → more + length rest ≡ all
  one_more_counted count more all items rest item is counted total =
      let total_of_rest : count + suc (length rest) ≡ all = subst (λ left. count + length left ≡ all) is total in
      omega arith

  pub all_items_written : (words before : List ℕ) (left items : List Item) (count : ℕ) → left ≡ []
      → fold with_part words (map part left) ≡ fold with_part before (map part items) → count + length left ≡ length items
      → with_word words count ≡ with_list with_part before (map part items)
  all_items_written words before left items count none written counted =
      let all : words ≡ fold with_part before (map part items) = sym (ap (λ rest. fold with_part words (map part rest)) none) ∙ written in
      let number : count ≡ length items = sym (add-zero count) ∙ sym (ap (λ rest. count + length rest) none) ∙ counted in
      λ j. with_word (all j) ((number ∙ sym (length-map items part)) j)
