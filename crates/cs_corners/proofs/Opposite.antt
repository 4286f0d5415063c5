-- The corner at which each symbol with two numbers has another number than before.
use Rattle.std.proofs.Common.{◌≡◌, ◌≢◌, ◌⊎◌, ℕ, ℤ, List, Option, None, Some, refl, sym, ◌∙◌}
use Rattle.cs_ranges.specs.declared.range_set.Interval.{Interval}
use Rattle.cs_terms.specs.declared.symbol.Sym.{Sym}
use Rattle.cs_terms.specs.declared.term.Lin.{Lin}
use Rattle.cs_terms.specs.Term.{Valuation, value_of, value_at, IsTerm}
use Rattle.cs_constraints.specs.Constraints.{Sets, set_of}
use Rattle.cs_constraints.proofs.Assuming.{value_of-symbol}
use Rattle.cs_corners.specs.Corners.{IsEnd, IsCornerOf}
use Rattle.cs_corners.proofs.Ends.{AllEnds, low_is_end, high_is_end}
use Rattle.cs_corners.proofs.Moving.{moved, moved_value, moved_is_corner}
use Rattle.cs_corners.proofs.Terms.{IsMovable, values_apart, away, away_apart, away_is_end}

module _ (sets : Sets) (ends : AllEnds sets) (IsMoved : Sym → Type 0) (which : (s : Sym) → IsMoved s ⊎ (¬ IsMoved s))
    (declared : (s : Sym) → IsMoved s → set_of sets s.0 ≢ None) (v : Valuation) where
  at_ends : (number : ℕ → ℤ) → ((s : Sym) (set : List Interval) → set_of sets s.0 ≡ Some set → IsEnd sets s (number s.0))
      → IsCornerOf sets IsMoved v (moved IsMoved which number v)
  at_ends number are = moved_is_corner IsMoved which number v sets (λ s m. by s m (set_of sets s.0) refl)
    where
      by : (s : Sym) → IsMoved s → (known : Option (List Interval)) → set_of sets s.0 ≡ known → IsEnd sets s (number s.0)
      by s m None e = absurd (declared s m e)
      by s m (Some set) e = are s set e

  pub opposite : Valuation
  opposite = moved IsMoved which (λ n. away sets ends n (v n)) v

  pub opposite_is : IsCornerOf sets IsMoved v opposite
  unfolding opposite
  opposite_is = at_ends (λ n. away sets ends n (v n)) (λ s set known. away_is_end sets ends s (v s.0) set known)

  pub opposite_differs : (term : Lin) → IsTerm term → (m : IsMovable sets ends term) → IsMoved m.symbol → value_of opposite term ≢ value_of v term
  unfolding opposite
  opposite_differs term is_term m here e =
      let s = m.symbol in
      values_apart term s is_term m.over (away sets ends s.0 (v s.0)) (v s.0) (away_apart sets ends s.0 (v s.0) m.apart)
      (sym (moved_value IsMoved which (λ n. away sets ends n (v n)) v term s m.over here) ∙ e ∙ value_of-symbol v term s m.over)

  -- the corners at which all symbols have their least numbers, and their greatest ones
  pub lowest : Valuation
  lowest = moved IsMoved which (λ n. (ends n).low) v

  pub highest : Valuation
  highest = moved IsMoved which (λ n. (ends n).high) v

  pub lowest_is : IsCornerOf sets IsMoved v lowest
  unfolding lowest
  lowest_is = at_ends (λ n. (ends n).low) (λ s set known. low_is_end sets ends s set known)

  pub highest_is : IsCornerOf sets IsMoved v highest
  unfolding highest
  highest_is = at_ends (λ n. (ends n).high) (λ s set known. high_is_end sets ends s set known)

  pub lowest_value : (term : Lin) (m : IsMovable sets ends term) → IsMoved m.symbol → value_of lowest term ≡ value_at term (ends m.symbol.0).low
  unfolding lowest
  lowest_value term m here = moved_value IsMoved which (λ n. (ends n).low) v term m.symbol m.over here

  pub highest_value : (term : Lin) (m : IsMovable sets ends term) → IsMoved m.symbol → value_of highest term ≡ value_at term (ends m.symbol.0).high
  unfolding highest
  highest_value term m here = moved_value IsMoved which (λ n. (ends n).high) v term m.symbol m.over here
