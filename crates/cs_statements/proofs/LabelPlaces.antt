-- The number of a name's first label when labels are added, and the table that has it: for the labels of a function.
use Rattle.std.proofs.Common.{◌≡◌, ℕ, ◌+◌, Bool, true, false, cond, List, [], ◌∷◌, ◌++◌, length, Some, None, refl, sym, ap, ◌∙◌}
use Rattle.std.proofs.Common.{arith, zero-add}
use Rattle.std.specs.Prelude.{nat_eq}
use Rattle.std.specs.Option.{option_or}
use Rattle.std.specs.List.{position, position_from}
use Rattle.std.specs.Cmp.Lexicographic.{pointwise}
use Rattle.std.proofs.lemmas.Iterator.Adapters.{position_from-zero}
use Rattle.indexmap.specs.IndexMap.{IndexMap, get}
use Rattle.cs_statements.specs.Statements.{label_number}
use Rattle.cs_statements.specs.LabelNumbers.{Numbered}

first_from-push : {A : Type 0} (p : A → Bool) (i : ℕ) (xs : List A) (y : A)
    → position_from p i (xs ++ y ∷ []) ≡ option_or (position_from p i xs) (cond (p y) (Some (i + length xs)) None)
first_from-push p i [] y = let e : i ≡ i + 0 = omega arith in ap (λ k. cond (p y) (Some k) None) e
first_from-push p i (x ∷ xs) y =
    let e : (i + 1) + length xs ≡ i + length (x ∷ xs) = omega arith in
    let rest : position_from p (i + 1) (xs ++ y ∷ []) ≡ option_or (position_from p (i + 1) xs) (cond (p y) (Some (i + length (x ∷ xs))) None) =
    first_from-push p (i + 1) xs y ∙ ap (λ k. option_or (position_from p (i + 1) xs) (cond (p y) (Some k) None)) e in
    elim (p x) as (λ b.
    cond b (Some i) (position_from p (i + 1) (xs ++ y ∷ []))
    ≡ option_or (cond b (Some i) (position_from p (i + 1) xs)) (cond (p y) (Some (i + length (x ∷ xs))) None)) [ true ↦ refl | false ↦ rest ]

-- the first element that passes remains the first; if none passes, the new last one may
position-push : {A : Type 0} (p : A → Bool) (xs : List A) (y : A)
    → position p (xs ++ y ∷ []) ≡ option_or (position p xs) (cond (p y) (Some (length xs)) None)
position-push p xs y =
    position_from-zero p (xs ++ y ∷ []) ∙ first_from-push p 0 xs y
    ∙ ap (λ k. option_or (position_from p 0 xs) (cond (p y) (Some k) None)) (zero-add (length xs))
    ∙ ap (λ o. option_or o (cond (p y) (Some (length xs)) None)) (sym (position_from-zero p xs))

-- the table with one more label
pub numbered_push : {S : Type 0} (old new : IndexMap (List ℕ) ℕ S) (labels more : List (List ℕ)) (name : List ℕ) (number : ℕ) → Numbered old labels
    → number ≡ length labels → more ≡ labels ++ name ∷ []
    → ((other : List ℕ) → get (pointwise nat_eq) new other
    ≡ option_or (get (pointwise nat_eq) old other) (cond (pointwise nat_eq name other) (Some number) None)) → Numbered new more
numbered_push old new labels more name number before is added entered = record {
  each = λ other.
      entered other
      ∙ ap (λ n. option_or (get (pointwise nat_eq) old other) (cond (pointwise nat_eq name other) (Some n) None)) is
      ∙ ap (λ o. option_or o (cond (pointwise nat_eq name other) (Some (length labels)) None)) (before.each other)
      ∙ sym (position-push (λ label. pointwise nat_eq label other) labels name)
      ∙ ap (label_number other) (sym added);
}
