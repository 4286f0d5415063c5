-- One element of a list is changed, if the list has it: for objects that become const or get initializers, and functions that get bodies.
use Rattle.std.proofs.Common.{◌≡◌, ℕ, zero, suc, ◌<◌, ◌≤◌, List, [], ◌∷◌, length, get_or, set, map, refl, ap, ◌∙◌, arith}
use Rattle.cs_file_scope.specs.Objects.{changed}

module _ {A B : Type 0} (view : A → B) (change : B → B) where
  pub changed_at : (xs : List A) (i : ℕ) (x y : A) → i < length xs → x ≡ get_or xs i x → view y ≡ change (view x)
      → map view (set xs i y) ≡ changed i change (map view xs)
  changed_at [] i x y within is e = absurd (omega (arith, within))
  changed_at (z ∷ zs) zero x y within is e = ap (λ v. v ∷ map view zs) (e ∙ ap (λ w. change (view w)) is)
  changed_at (z ∷ zs) (suc i) x y within is e = ap (λ vs. view z ∷ vs) (changed_at zs i x y (omega (arith, within)) is e)

  pub changed_past : (xs : List A) (i : ℕ) → length xs ≤ i → map view xs ≡ changed i change (map view xs)
  changed_past [] i past = refl
  changed_past (z ∷ zs) zero past = absurd (omega (arith, past))
  changed_past (z ∷ zs) (suc i) past = ap (λ vs. view z ∷ vs) (changed_past zs i (omega (arith, past)))
