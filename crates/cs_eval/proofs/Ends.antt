-- The least and the greatest value of terms: for the contracts of `values_over`, `values_of` and `ends_of_sum`.
use Rattle.std.proofs.Common.{◌≡◌, true, ℕ, ℤ, ◌+ℤ◌, List, Option, Some, None, refl, sym, ap, subst, ◌∙◌, arith}
use Rattle.std.specs.Prelude.{◌≤ℤ◌}
use Rattle.std.proofs.lemmas.Int.{ints}
use Rattle.std.proofs.lemmas.Option.{same_Some}
use Rattle.cs_ranges.specs.declared.range_set.Interval.{Interval}
use Rattle.cs_ranges.specs.Interval.{IsInside}
use Rattle.cs_ranges.specs.RangeSet.{contains, IsLeast, IsGreatest}
use Rattle.cs_ranges.proofs.Lines.{affine-between}
use Rattle.cs_types.specs.IntType.{IsIntegerOfC}
use Rattle.cs_terms.specs.declared.symbol.Sym.{Sym}
use Rattle.cs_terms.specs.declared.term.Lin.{Lin}
use Rattle.cs_terms.specs.declared.term.Lin2.{Lin2}
use Rattle.cs_terms.specs.Term.{Valuation, value_of, value_at, IsTerm, HaveTwoSymbols}
use Rattle.cs_terms.proofs.Cutting.{value_at-affine}
use Rattle.cs_constraints.specs.Constraints.{Sets, set_of, Fits}
use Rattle.cs_constraints.proofs.Assuming.{value_of-symbol}
use Rattle.cs_eval.specs.Operands.{IsBetween, LOWEST, HIGHEST, IsAttainedFrom, HasEnds, HasEndsOver, IsSumAt, IsEndsOfSum}
use Rattle.cs_eval.specs.Parts.{with_number}
use Rattle.cs_eval.proofs.OperandValues.{value_of-none, with_number-same, with_number-other, fits_with}

-- the bounds of order tests are inside those of sets
pub wide : (n : ℤ) → IsBetween LOWEST HIGHEST n → IsInside n
wide n h = (omega (arith, ints, h.0), omega (arith, ints, h.1))

pub wide_integer : (n : ℤ) → IsIntegerOfC n → IsBetween LOWEST HIGHEST n
wide_integer n h = (omega (arith, ints, h.from_least), omega (arith, ints, h.to_greatest))

module _ (term : Lin) (range : List Interval) (least greatest first last : ℤ) (is_term : IsTerm term) (from : IsLeast range least)
    (upto : IsGreatest range greatest) (at_first : first ≡ value_at term least) (at_last : last ≡ value_at term greatest) where
  -- between its values at both ends
  between : (low high x : ℤ) → IsBetween low high first → IsBetween low high last → contains range x ≡ true → IsBetween low high (value_at term x)
  between low high x a b t =
      let there = affine-between low high term.slope term.at term.value least greatest x (from.least x t) (upto.greatest x t)
      (subst (λ (n : ℤ). IsBetween low high n) (at_first ∙ value_at-affine term least is_term) a)
      (subst (λ (n : ℤ). IsBetween low high n) (at_last ∙ value_at-affine term greatest is_term) b) in
      subst (λ (n : ℤ). IsBetween low high n) (sym (value_at-affine term x is_term)) there

  pub rising_ends : first ≤ℤ last → HasEndsOver term range (record { low = first; high = last })
  rising_ends order = record {
    bounds = λ x t. between first last x (omega (arith, ints), order) (order, omega (arith, ints)) t;
    low_at = least;
    low_member = from.member;
    low = sym at_first;
    high_at = greatest;
    high_member = upto.member;
    high = sym at_last;
  }

  pub falling_ends : last ≤ℤ first → HasEndsOver term range (record { low = last; high = first })
  falling_ends order = record {
    bounds = λ x t. between last first x (order, omega (arith, ints)) (omega (arith, ints), order) t;
    low_at = greatest;
    low_member = upto.member;
    low = sym at_last;
    high_at = least;
    high_member = from.member;
    high = sym at_first;
  }

-- a constant
pub constant_ends : (sets : Sets) (term : Lin) → term.sym ≡ None → HasEnds sets term (record { low = term.value; high = term.value })
constant_ends sets term e =
    let itself : IsBetween term.value term.value term.value = (omega (arith, ints), omega (arith, ints)) in
    record {
      bounds = λ v fits. subst (λ (n : ℤ). IsBetween term.value term.value n) (sym (value_of-none v term e)) itself;
      low = λ v fits. record { at = v; fits = fits; value = value_of-none v term e; beside = λ other apart. refl };
      high = λ v fits. record { at = v; fits = fits; value = value_of-none v term e; beside = λ other apart. refl };
    }

module _ (sets : Sets) (term : Lin) (s : Sym) (set : List Interval) (over : term.sym ≡ Some s) (known : set_of sets s.0 ≡ Some set) where
  attained : (x number : ℤ) → contains set x ≡ true → value_at term x ≡ number → (v : Valuation) → Fits v sets
      → IsAttainedFrom sets term number v
  attained x number member value v fits =
      let made : ℕ → Sym = λ k. record { 0 = k } in
      record {
        at = with_number s.0 x v;
        fits = fits_with sets s.0 set x v known member fits;
        value = value_of-symbol (with_number s.0 x v) term s over ∙ ap (value_at term) (with_number-same s.0 x v s.0 refl) ∙ value;
        beside = λ other apart. with_number-other s.0 x v other.0 (λ z. apart (over ∙ ap (λ (k : ℕ). Some (made k)) (sym z)));
      }

  -- a term over a symbol
  pub symbol_ends : (ends : Interval) → HasEndsOver term set ends → HasEnds sets term ends
  symbol_ends ends h = record {
    bounds = λ v fits. subst (λ (n : ℤ). IsBetween ends.low ends.high n) (sym (value_of-symbol v term s over)) (h.bounds (v s.0) (fits s.0 set known));
    low = attained h.low_at ends.low h.low_member h.low;
    high = attained h.high_at ends.high h.high_member h.high;
  }

-- a term's value under valuations that agree on its symbol
value_same : (term : Lin) (v w : Valuation) → ((s : Sym) → term.sym ≡ Some s → w s.0 ≡ v s.0) → value_of w term ≡ value_of v term
value_same term v w h = by term.sym refl
  where
    by : (symbol : Option Sym) → term.sym ≡ symbol → value_of w term ≡ value_of v term
    by None e = value_of-none w term e ∙ sym (value_of-none v term e)
    by (Some s) e = value_of-symbol w term s e ∙ ap (value_at term) (h s e) ∙ sym (value_of-symbol v term s e)

two_apart : (a b : Option Sym) (s : Sym) → HaveTwoSymbols a b → a ≡ Some s → b ≡ Some s → ⊥
two_apart None b s two e f = two
two_apart (Some x) None s two e f = two
two_apart (Some x) (Some y) s two e f = two (same_Some x s e ∙ sym (same_Some y s f))

-- a sum of two terms
pub sum_ends : (sets : Sets) (term : Lin2) (a b : Interval) → HasEnds sets term.first a → HasEnds sets term.second b
    → IsEndsOfSum sets term (record { low = a.low +ℤ b.low; high = a.high +ℤ b.high })
sum_ends sets term a b f g = record {
  bounds = λ v fits. bound (value_of v term.first) (value_of v term.second) (f.bounds v fits) (g.bounds v fits);
  low = λ two v fits. let p = f.low v fits in corner two a.low b.low v p (g.low p.at p.fits);
  high = λ two v fits. let p = f.high v fits in corner two a.high b.high v p (g.high p.at p.fits);
}
  where
    bound : (x y : ℤ) → IsBetween a.low a.high x → IsBetween b.low b.high y → IsBetween (a.low +ℤ b.low) (a.high +ℤ b.high) (x +ℤ y)
    bound x y h k = (omega (arith, ints, h.0, k.0), omega (arith, ints, h.1, k.1))

    added : (x y m n : ℤ) → x ≡ m → y ≡ n → x +ℤ y ≡ m +ℤ n
    added x y m n e h = omega (arith, ints, e, h)

    corner : HaveTwoSymbols term.first.sym term.second.sym → (m n : ℤ) (v : Valuation) (p : IsAttainedFrom sets term.first m v)
        → IsAttainedFrom sets term.second n p.at → IsSumAt sets term (m +ℤ n)
    corner two m n v p q = record {
      at = q.at;
      fits = q.fits;
      value = added (value_of q.at term.first) (value_of q.at term.second) m n
          (value_same term.first p.at q.at (λ s e. q.beside s (λ h. two_apart term.first.sym term.second.sym s two e h)) ∙ p.value) q.value;
    }
