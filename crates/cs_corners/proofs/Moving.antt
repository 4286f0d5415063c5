-- A valuation with other numbers for some of the symbols.
use Rattle.std.proofs.Common.{◌≡◌, ◌≢◌, ◌⊎◌, inl, inr, ℕ, ℤ, true, List, Option, None, Some, refl, sym, ap, subst, ◌∙◌}
use Rattle.std.proofs.lemmas.Option.{same_Some}
use Rattle.std.proofs.lemmas.Bool.Decides.{eqb_tells}
use Rattle.cs_ranges.specs.declared.range_set.Interval.{Interval}
use Rattle.cs_ranges.specs.RangeSet.{contains}
use Rattle.cs_terms.specs.declared.symbol.Sym.{Sym}
use Rattle.cs_terms.specs.declared.term.Lin.{Lin}
use Rattle.cs_terms.specs.Term.{Valuation, value_of, value_at}
use Rattle.cs_constraints.specs.Constraints.{Sets, set_of}
use Rattle.cs_constraints.proofs.Assuming.{value_of-symbol}
use Rattle.cs_corners.specs.Corners.{IsEnd, IsCornerOf}

abbrev named : ℕ → Sym
named n = record { 0 = n }

-- whether a term is over a symbol
pub is_over : (symbol : Option Sym) (s : Sym) → (symbol ≡ Some s) ⊎ (symbol ≢ Some s)
is_over None s = inr (λ e. absurd (cc))
is_over (Some t) s = elim (eqb_tells t.0 s.0) [
  | inl same ↦ inl (ap (λ (n : ℕ). Some (named n)) same.1)
  | inr differ ↦ inr (λ e. differ.1 (ap (λ (z : Sym). z.0) (same_Some t s e)))
]

module _ (IsMoved : Sym → Type 0) (which : (s : Sym) → IsMoved s ⊎ (¬ IsMoved s)) (numbers : ℕ → ℤ) (v : Valuation) where
  -- moved symbols have these numbers, all others their own
  pub moved : Valuation
  moved n = elim (which (named n)) [ inl is ↦ numbers n | inr not ↦ v n ]

  pub moved_here : (s : Sym) → IsMoved s → moved s.0 ≡ numbers s.0
  unfolding moved
  moved_here s m = by (which s)
    where
      by : (w : IsMoved s ⊎ (¬ IsMoved s)) → elim w [ inl is ↦ numbers s.0 | inr not ↦ v s.0 ] ≡ numbers s.0
      by (inl is) = refl
      by (inr not) = absurd (not m)

  pub moved_elsewhere : (s : Sym) → ¬ IsMoved s → moved s.0 ≡ v s.0
  unfolding moved
  moved_elsewhere s n = by (which s)
    where
      by : (w : IsMoved s ⊎ (¬ IsMoved s)) → elim w [ inl is ↦ numbers s.0 | inr not ↦ v s.0 ] ≡ v s.0
      by (inl is) = absurd (n is)
      by (inr not) = refl

  pub moved_value : (term : Lin) (s : Sym) → term.sym ≡ Some s → IsMoved s → value_of moved term ≡ value_at term (numbers s.0)
  moved_value term s over m = value_of-symbol moved term s over ∙ ap (value_at term) (moved_here s m)

  module _ (sets : Sets) (are_ends : (s : Sym) → IsMoved s → IsEnd sets s (numbers s.0)) where
    member : (s : Sym) (set : List Interval) (number : ℤ) → set_of sets s.0 ≡ Some set → IsEnd sets s number → contains set number ≡ true
    member s set number known h =
        let same = same_Some h.set set (sym h.known ∙ known) in
        elim h.at_end [
          | inl a ↦ ap (λ (z : List Interval). contains z number) (sym same) ∙ a.member
          | inr b ↦ ap (λ (z : List Interval). contains z number) (sym same) ∙ b.member
        ]

    pub moved_is_corner : IsCornerOf sets IsMoved v moved
    moved_is_corner = record {
      ends = λ s m. subst (λ (x : ℤ). IsEnd sets s x) (sym (moved_here s m)) (are_ends s m);
      others = λ s n. moved_elsewhere s n;
      fits = λ fits n set known. elim (which (named n)) [
        | inl is ↦ ap (contains set) (moved_here (named n) is) ∙ member (named n) set (numbers n) known (are_ends (named n) is)
        | inr not ↦ ap (contains set) (moved_elsewhere (named n) not) ∙ fits n set known
      ];
    }
