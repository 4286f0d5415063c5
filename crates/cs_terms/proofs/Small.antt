-- Small terms can be added and scaled: for the contract of `Constraints::prepared`, and for callers of `add`, `diff`, `merged` and `scale`.
use Rattle.std.proofs.Common.{◌≡◌, ◌≢◌, ◌≤◌, ◌^◌, ℤ, pos, ◌+ℤ◌, ◌-ℤ◌, ◌*ℤ◌, unsigned_abs, Option, Some, None, refl}
use Rattle.std.proofs.Common.{sym, ap, subst, ◌∙◌, arith}
use Rattle.std.proofs.lemmas.Int.{ints, unsigned_abs-mul}
use Rattle.std.proofs.Math.IntN.{*ℤ-zero}
use Rattle.std.proofs.Math.Nat.{mul-le-mul}
use Rattle.cs_ranges.specs.Interval.{IsInside}
use Rattle.cs_ranges.proofs.AffineLaws.{affine-affine}
use Rattle.cs_types.specs.IntType.{IsIntegerOfC}
use Rattle.cs_terms.specs.declared.symbol.Sym.{Sym}
use Rattle.cs_terms.specs.declared.term.Lin.{Lin}
use Rattle.cs_terms.specs.Conditions.{CanAdd, CanScale, IsSmall, AreSeenTogether}
use Rattle.cs_terms.specs.Term.{value_with, value_at, IsTerm}
use Rattle.cs_terms.proofs.Cutting.{value_at-affine}
use Rattle.cs_terms.proofs.Products.{abs-product}

-- a term's value at its own number
value_with-own : (symbol : Option Sym) (slope at value : ℤ) → value_with (λ s. at) symbol slope at value ≡ value
value_with-own None slope at value = refl
value_with-own (Some s) slope at value =
    let none : at -ℤ at ≡ pos 0 = omega (arith, ints) in
    ap (λ d. value +ℤ slope *ℤ d) none ∙ ap (λ d. value +ℤ d) (*ℤ-zero slope) ∙ omega (arith, ints)

pub value_at-own : (term : Lin) (at : ℤ) → term.at ≡ at → value_at term at ≡ term.value
value_at-own term at e = ap (value_at term) (sym e) ∙ value_with-own term.sym term.slope term.at term.value

-- numbers with a bound by size
inside : (x : ℤ) → unsigned_abs x ≤ 2 ^ 126 → IsInside x
inside x h = (omega (arith, ints), omega (arith, ints))

sum_inside : (x y : ℤ) → unsigned_abs x ≤ 2 ^ 65 → unsigned_abs y ≤ 2 ^ 65 → IsInside (x +ℤ y)
sum_inside x y h k = (omega (arith, ints), omega (arith, ints))

product_inside : (x factor : ℤ) → unsigned_abs x ≤ 2 ^ 65 → unsigned_abs factor ≤ 2 ^ 61 → IsInside (x *ℤ factor)
product_inside x factor h k =
    inside (x *ℤ factor) (omega (arith, unsigned_abs-mul x factor, mul-le-mul h k))

-- two small terms that are given at one number
pub CanAdd-small : (left right : Lin) → IsSmall left → IsSmall right → AreSeenTogether left right → CanAdd left right
CanAdd-small left right l r together =
    let left_inside = inside left.value (omega (arith, l.value)) in
    let right_inside = inside right.value (omega (arith, r.value)) in
    let sum = sum_inside left.value right.value (omega (arith, l.value)) (omega (arith, r.value)) in
    record {
      left_slope = inside left.slope (omega (arith, l.slope));
      right_slope = inside right.slope (omega (arith, r.slope));
      slopes = sum_inside left.slope right.slope l.slope r.slope;
      left_value = left_inside;
      right_value = right_inside;
      over_one = λ one.
          let there = value_at-own left right.at (together one) in
          let here = value_at-own right left.at (sym (together one)) in
          record {
            left_there = subst IsInside (sym there) left_inside;
            right_there = subst IsInside (sym here) right_inside;
            sum_at_left = subst (λ x. IsInside (left.value +ℤ x)) (sym here) sum;
            sum_at_right = subst (λ x. IsInside (x +ℤ right.value)) (sym there) sum;
          };
      over_others = λ apart. sum;
    }

-- a small term times a factor that isn't large
pub CanScale-small : (term : Lin) (factor : ℤ) → IsSmall term → unsigned_abs factor ≤ 2 ^ 61 → CanScale term factor
CanScale-small term factor h k = record {
  slope = inside term.slope (omega (arith, h.slope));
  scaled_slope = product_inside term.slope factor h.slope k;
  value = inside term.value (omega (arith, h.value));
  scaled_value = product_inside term.value factor (omega (arith, h.value)) k;
}

-- integers of C aren't large
pub integer_small : (x : ℤ) → IsIntegerOfC x → unsigned_abs x ≤ 2 ^ 64
integer_small x h = omega (arith, ints, h.from_least, h.to_greatest)

-- between two numbers at which its values are integers of C, a term isn't steep
pub slope_small : (term : Lin) (x y : ℤ) → IsTerm term → x ≢ y → IsIntegerOfC (value_at term x) → IsIntegerOfC (value_at term y)
    → unsigned_abs term.slope ≤ 2 ^ 65
slope_small term x y h differ a b =
    let rise = term.slope *ℤ (x -ℤ y) in
    let moves : value_at term x ≡ value_at term y +ℤ rise =
    value_at-affine term x h ∙ sym (affine-affine term.slope term.at term.value y x) ∙ ap (λ n. n +ℤ rise) (sym (value_at-affine term y h)) in
    let apart : x -ℤ y ≢ pos 0 = λ e. differ (omega (arith, ints, e)) in
    bound (value_at term x) (value_at term y) rise term.slope moves (integer_small _ a) (integer_small _ b) (abs-product term.slope (x -ℤ y) apart)
  where
    bound : (u v rise slope : ℤ) → u ≡ v +ℤ rise → unsigned_abs u ≤ 2 ^ 64 → unsigned_abs v ≤ 2 ^ 64
        → unsigned_abs slope ≤ unsigned_abs rise
        → unsigned_abs slope ≤ 2 ^ 65
    bound u v rise slope e h k l = omega (arith, ints)
