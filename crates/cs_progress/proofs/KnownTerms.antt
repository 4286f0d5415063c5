-- Terms and what is known about their values: for the contracts of `known`, `known_over` and `has_value`.
use Rattle.std.proofs.Common.{◌≡◌, ◌≢◌, ◌+ℤ◌, ℤ, Bool, false, List, Option, None, Some, Result, Ok, Err, IfOk, refl, sym, ap, ◌∙◌}
use Rattle.std.proofs.Common.{arith}
use Rattle.std.specs.Prelude.{IsTrue}
use Rattle.std.specs.Ordering.{int_eq}
use Rattle.std.proofs.lemmas.Int.{ints}
use Rattle.std.proofs.lemmas.Option.{none-some, same_Some}
use Rattle.cs_ranges.specs.declared.range_set.Interval.{Interval}
use Rattle.cs_ranges.specs.Affine.{affine}
use Rattle.cs_ranges.specs.RangeSet.{contains, IsLeast, IsGreatest}
use Rattle.cs_terms.specs.declared.symbol.Sym.{Sym}
use Rattle.cs_terms.specs.declared.term.Lin.{Lin}
use Rattle.cs_terms.specs.Term.{Valuation, value_of, value_at, value_with, HasNoOtherSymbol}
use Rattle.cs_constraints.specs.Constraints.{Sets, set_of}
use Rattle.cs_progress.specs.Known.{HaveOneValue, IsSameOver, IsTruthOfValue, function_at}

pub value_of-none : (v : Valuation) (term : Lin) → term.sym ≡ None → value_of v term ≡ term.value
value_of-none v term e = ap (λ (o : Option Sym). value_with v o term.slope term.at term.value) e

pub value_of-some : (v : Valuation) (term : Lin) (s : Sym) → term.sym ≡ Some s → value_of v term ≡ function_at term (v s.0)
value_of-some v term s e = ap (λ (o : Option Sym). value_with v o term.slope term.at term.value) e

-- the value of a term over at most one symbol, by the symbol's number
value_of-over : (v : Valuation) (term : Lin) (s : Sym) → HasNoOtherSymbol term.sym (Some s) → value_of v term ≡ value_at term (v s.0)
value_of-over v term s only = by term.sym only
  where
    by : (o : Option Sym) → HasNoOtherSymbol o (Some s)
        → value_with v o term.slope term.at term.value ≡ value_with (λ symbol. v s.0) o term.slope term.at term.value
    by None h = refl
    by (Some t) h = ap (λ (k : Sym). affine term.slope term.at term.value (v k.0)) (sym (same_Some s t (h t refl)))

pub same_value : (sets : Sets) (range : List Interval) (term other : Lin) (s : Sym) → term.sym ≡ Some s → set_of sets s.0 ≡ Some range
    → IsSameOver range term other → HaveOneValue sets term other
same_value sets range term other s e there same v fits =
    value_of-over v other s (λ t is. sym e ∙ same.symbol t is) ∙ same.values (v s.0) (fits s.0 range there) ∙ sym (value_of-some v term s e)

-- if the least and the greatest number are equal, the symbol has only this number
pub only_number : (range : List Interval) (least greatest x : ℤ) → IsLeast range least → IsGreatest range greatest → least ≡ greatest
    → IsTrue (contains range x) → x ≡ least
only_number range least greatest x low high same member = omega (arith, ints, low.least x member, high.greatest x member, same)

pub one_value : (range : List Interval) (term other : Lin) (least greatest : ℤ) → IsLeast range least → IsGreatest range greatest → least ≡ greatest
    → other.sym ≡ None → other.value ≡ function_at term least → IsSameOver range term other
one_value range term other least greatest low high same none value = record {
  values = λ x member.
      value_of-none (λ symbol. x) other none ∙ value
      ∙ ap (λ (n : ℤ). function_at term n) (sym (only_number range least greatest x low high same member));
  symbol = λ t is. absurd (none-some t (sym none ∙ is));
}

pub same_function : (range : List Interval) (term other : Lin) → other.sym ≡ term.sym
    → ((number : ℤ) → function_at other number ≡ function_at term number) → (s : Sym) → term.sym ≡ Some s → IsSameOver range term other
same_function range term other symbol same s e = record {
  values = λ x member. value_of-some (λ symbol. x) other s (symbol ∙ e) ∙ same x;
  symbol = λ t is. sym symbol ∙ is;
}

symbol_of : (o : Option Sym) → o ≢ None → (s : Sym) × (o ≡ Some s)
symbol_of None some = absurd (some refl)
symbol_of (Some s) some = (s, refl)

-- the same for the result of a call
pub same_over : {E : Type 0} (range : List Interval) (term : Lin) (result : Result Lin E) → term.sym ≢ None
    → IfOk result (λ made. made.sym ≡ term.sym)
    → IfOk result (λ made. (number : ℤ) → function_at made number ≡ function_at term number) → IfOk result (IsSameOver range term)
same_over range term (Ok made) some symbol same = let s = symbol_of term.sym some in same_function range term made symbol same s.0 s.1
same_over range term (Err error) some symbol same = tt

int_eq-no : (x y : ℤ) → (x ≡ y → ⊥) → int_eq x y ≡ false
int_eq-no x y differ = Prim.grind (arith, ints)

-- if the term has a value for no number of its symbol, it has it under no valuation
pub never : (sets : Sets) (range : List Interval) (term : Lin) (s : Sym) (number : ℤ) → term.sym ≡ Some s → set_of sets s.0 ≡ Some range
    → ((x : ℤ) → IsTrue (contains range x) → function_at term x ≡ number → ⊥) → IsTruthOfValue sets term number (Some false)
never sets range term s number e there none v fits =
    ap (λ (n : ℤ). int_eq n number) (value_of-some v term s e)
    ∙ int_eq-no (function_at term (v s.0)) number (none (v s.0) (fits s.0 range there))

-- the truth of a value of another term with the same values
pub same_truth : (sets : Sets) (term other : Lin) (number : ℤ) (truth : Option Bool) → HaveOneValue sets term other
    → IsTruthOfValue sets other number truth → IsTruthOfValue sets term number truth
same_truth sets term other number None same h = tt
same_truth sets term other number (Some holds) same h = λ v fits. ap (λ (n : ℤ). int_eq n number) (sym (same v fits)) ∙ h v fits

-- a term moved by a number
pub moved_value : (v : Valuation) (term : Lin) (value by : ℤ) → value ≡ term.value +ℤ by
    → value_with v term.sym term.slope term.at value ≡ value_of v term +ℤ by
moved_value v term value by e = over term.sym
  where
    over : (o : Option Sym) → value_with v o term.slope term.at value ≡ value_with v o term.slope term.at term.value +ℤ by
    over None = e
    over (Some s) = omega (arith, ints, e)
