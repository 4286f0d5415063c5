-- The index of a name among the names of files: for `add` and `number_in`.
use Rattle.std.proofs.Common.{◌≡◌, ℕ, ◌+◌, ◌≤◌, Bool, true, false, cond, List, [], ◌∷◌, ◌++◌, length, length-append, Option, Some}
use Rattle.std.proofs.Common.{None, nat_lt, nat_eq, eqb, refl, sym, ap, ◌∙◌, subst, arith}
use Rattle.std.specs.List.{position, position_or_len}
use Rattle.std.specs.Ordering.{nat_cmp, is_eq}
use Rattle.std.specs.Cmp.Lexicographic.{pointwise, slice_cmp, bytes_decides, texts_ties}
use Rattle.std.specs.BTreeMap.{BTreeMap}
use Rattle.std.proofs.lemmas.Bool.Decides.{nat_tests}
use Rattle.std.proofs.lemmas.List.Folds.{position_or_len_push}
use Rattle.std.proofs.lemmas.List.Sums.{prefix_len-le-length}
use Rattle.cs_lexer.specs.Files.{Numbered, HasEntered, number_at}

abbrev place : ℕ → ℕ → Option ℕ
place at end = cond (nat_lt at end) (Some at) None

within : (p : List ℕ → Bool) (names : List (List ℕ)) → position_or_len p names ≤ length names
within p names = prefix_len-le-length _ names

at_end : (at end : ℕ) → at ≤ end → place at end ≡ None → at ≡ end
at_end at end h none = elim (nat_lt at end) as (λ t. nat_lt at end ≡ t → cond t (Some at) None ≡ None → at ≡ end) [
  | true ↦ λ _ e. absurd cc
  | false ↦ λ e _. grind (arith, nat_tests)
] refl none

-- a name that isn't among them gets the next number
pub next_number : (p : List ℕ → Bool) (names : List (List ℕ)) → position p names ≡ None → position_or_len p names ≡ length names
next_number p names none = at_end (position_or_len p names) (length names) (within p names) none

-- the index of a name after one more was added
pushed : (p : List ℕ → Bool) (names : List (List ℕ)) (name : List ℕ)
    → position p (names ++ name ∷ [])
    ≡ place (cond (eqb (position_or_len p names) (length names)) (length names + cond (p name) 0 1) (position_or_len p names)) (length names + 1)
pushed p names name = rw (position_or_len_push p names name, length-append names (name ∷ [])) refl

found_last : (at end : ℕ) → at ≡ end → place (cond (eqb at end) (end + 0) at) (end + 1) ≡ Some end
found_last at end e = rw e (grind (arith, nat_tests))

found_before : (at end : ℕ) → at ≤ end → place (cond (eqb at end) (end + 1) at) (end + 1) ≡ place at end
found_before at end h = grind (arith, nat_tests)

same_test : (one other : List ℕ) → pointwise nat_eq one other ≡ is_eq (slice_cmp nat_cmp one other)
same_test one other = texts_ties one other

-- the added name is found last
new_place : (names : List (List ℕ)) (name other : List ℕ) → pointwise nat_eq name other ≡ true → position (pointwise nat_eq name) names ≡ None
    → position (pointwise nat_eq other) (names ++ name ∷ []) ≡ Some (length names)
new_place names name other same none =
    let e : name ≡ other = (bytes_decides name other).0 same in
    let itself : pointwise nat_eq name name ≡ true = (bytes_decides name name).1 refl in
    let here : position (pointwise nat_eq name) (names ++ name ∷ []) ≡ Some (length names) =
    pushed (pointwise nat_eq name) names name
    ∙ ap (λ t.
    place (cond (eqb (position_or_len (pointwise nat_eq name) names) (length names)) (length names + cond t 0 1)
    (position_or_len (pointwise nat_eq name) names)) (length names + 1)) itself
    ∙ found_last (position_or_len (pointwise nat_eq name) names) (length names) (next_number (pointwise nat_eq name) names none) in
    subst (λ o. position (pointwise nat_eq o) (names ++ name ∷ []) ≡ Some (length names)) e here

flipped : (one other : List ℕ) → pointwise nat_eq one other ≡ false → pointwise nat_eq other one ≡ false
flipped one other apart = elim (pointwise nat_eq other one) as (λ t. pointwise nat_eq other one ≡ t → t ≡ false) [
  | true ↦ λ e.
      absurd (let same : one ≡ other = sym ((bytes_decides other one).0 e) in
      let h : pointwise nat_eq one other ≡ true = (bytes_decides one other).1 same in cc)
  | false ↦ λ _. refl
] refl

-- and any other name at its old index
old_place : (names : List (List ℕ)) (name other : List ℕ) → pointwise nat_eq name other ≡ false
    → position (pointwise nat_eq other) (names ++ name ∷ []) ≡ position (pointwise nat_eq other) names
old_place names name other apart =
    pushed (pointwise nat_eq other) names name
    ∙ ap (λ t.
    place (cond (eqb (position_or_len (pointwise nat_eq other) names) (length names)) (length names + cond t 0 1)
    (position_or_len (pointwise nat_eq other) names)) (length names + 1)) (flipped name other apart)
    ∙ found_before (position_or_len (pointwise nat_eq other) names) (length names) (within (pointwise nat_eq other) names)

-- a map with the added name's number has the index of each name
pub still_numbered : (old new : BTreeMap (List ℕ) ℕ) (names more : List (List ℕ)) (name : List ℕ) (number : ℕ) → Numbered old names
    → position (pointwise nat_eq name) names ≡ None → number ≡ length names → more ≡ names ++ name ∷ [] → HasEntered old new name number
    → Numbered new more
still_numbered old new names more name number numbered none is added entered = record {
  each = λ other. subst (λ ns. number_at new other ≡ position (pointwise nat_eq other) ns) (sym added)
      (entered other ∙ ap (λ t. cond t (Some number) (number_at old other)) (sym (same_test name other)) ∙
      elim (pointwise nat_eq name other) as (λ t.
      pointwise nat_eq name other ≡ t → cond t (Some number) (number_at old other) ≡ position (pointwise nat_eq other) (names ++ name ∷ [])) [
        | true ↦ λ e. ap Some is ∙ sym (new_place names name other e none)
        | false ↦ λ e. numbered.each other ∙ sym (old_place names name other e)
      ] refl);
}
