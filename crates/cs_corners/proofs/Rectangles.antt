-- The four corners of two operands over different symbols.
use Rattle.std.proofs.Common.{◌≡◌, ◌≢◌, ◌⊎◌, inl, inr, ℕ, ℤ, Some, refl, sym, ap, subst, ◌∙◌}
use Rattle.std.proofs.lemmas.Option.{same_Some}
use Rattle.std.proofs.lemmas.Bool.Decides.{eqb_tells}
use Rattle.cs_terms.specs.declared.symbol.Sym.{Sym}
use Rattle.cs_terms.specs.declared.term.Lin.{Lin}
use Rattle.cs_terms.specs.Term.{Valuation, value_of, value_at}
use Rattle.cs_constraints.specs.Constraints.{Sets}
use Rattle.cs_corners.specs.Corners.{IsEnd, IsCornerOf}
use Rattle.cs_corners.proofs.Moving.{is_over, moved, moved_value, moved_is_corner}

-- the symbols of two operands
abbrev pub AreOf : Lin → Lin → Sym → Type 0
AreOf left right s = (left.sym ≡ Some s) ⊎ (right.sym ≡ Some s)

pub which_of : (left right : Lin) (s : Sym) → AreOf left right s ⊎ (¬ AreOf left right s)
which_of left right s = elim (is_over left.sym s) [
  | inl a ↦ inl (inl a)
  | inr n ↦ elim (is_over right.sym s) [
    | inl b ↦ inl (inr b)
    | inr o ↦ inr (λ h. elim h [ inl a ↦ n a | inr b ↦ o b ])
  ]
]

-- one number for one symbol, and another for all others
module _ (s : ℕ) (p q : ℤ) where
  two_numbers : ℕ → ℤ
  two_numbers n = elim (eqb_tells n s) [ inl same ↦ p | inr differ ↦ q ]

  first_number : (n : ℕ) → n ≡ s → two_numbers n ≡ p
  unfolding two_numbers
  first_number n e = elim (eqb_tells n s) as (λ w. elim w [ inl same ↦ p | inr differ ↦ q ] ≡ p) [
    | inl same ↦ refl
    | inr differ ↦ absurd (differ.1 e)
  ]

  second_number : (n : ℕ) → n ≢ s → two_numbers n ≡ q
  unfolding two_numbers
  second_number n d = elim (eqb_tells n s) as (λ w. elim w [ inl same ↦ p | inr differ ↦ q ] ≡ q) [
    | inl same ↦ absurd (d same.1)
    | inr differ ↦ refl
  ]

module _ (sets : Sets) (left right : Lin) (s t : Sym) (left_over : left.sym ≡ Some s) (right_over : right.sym ≡ Some t) (apart : s.0 ≢ t.0)
    (v : Valuation) (p q : ℤ) where
  pub corner : Valuation
  corner = moved (AreOf left right) (which_of left right) (two_numbers s.0 p q) v

  pub corner_left : value_of corner left ≡ value_at left p
  unfolding corner
  corner_left =
      moved_value (AreOf left right) (which_of left right) (two_numbers s.0 p q) v left s left_over (inl left_over)
      ∙ ap (value_at left) (first_number s.0 p q s.0 refl)

  pub corner_right : value_of corner right ≡ value_at right q
  unfolding corner
  corner_right =
      moved_value (AreOf left right) (which_of left right) (two_numbers s.0 p q) v right t right_over (inr right_over)
      ∙ ap (value_at right) (second_number s.0 p q t.0 (λ e. apart (sym e)))

  pub corner_is : IsEnd sets s p → IsEnd sets t q → IsCornerOf sets (AreOf left right) v corner
  unfolding corner
  corner_is p_end q_end = moved_is_corner (AreOf left right) (which_of left right) (two_numbers s.0 p q) v sets ends
    where
      of_left : (u : Sym) → s ≡ u → IsEnd sets u (two_numbers s.0 p q u.0)
      of_left u e = subst (λ (z : Sym). IsEnd sets z (two_numbers s.0 p q z.0)) e
          (subst (λ (n : ℤ). IsEnd sets s n) (sym (first_number s.0 p q s.0 refl)) p_end)

      of_right : (u : Sym) → t ≡ u → IsEnd sets u (two_numbers s.0 p q u.0)
      of_right u e = subst (λ (z : Sym). IsEnd sets z (two_numbers s.0 p q z.0)) e
          (subst (λ (n : ℤ). IsEnd sets t n) (sym (second_number s.0 p q t.0 (λ z. apart (sym z)))) q_end)

      ends : (u : Sym) → AreOf left right u → IsEnd sets u (two_numbers s.0 p q u.0)
      ends u (inl a) = of_left u (same_Some s u (sym left_over ∙ a))
      ends u (inr b) = of_right u (same_Some t u (sym right_over ∙ b))
