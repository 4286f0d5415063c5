-- Numbers of integer types, and the quotients of their products: for the arithmetic of constants.
use Rattle.std.proofs.Common.{◌≡◌, ◌-◌, ◌^◌, Bool, true, false, cond, ◌&&◌, not, Some, arith, refl, sym, ap}
use Rattle.std.proofs.Common.{◌∙◌}
use Rattle.std.specs.Prelude.{ℤ, pos, negsuc, zero, suc, ◌-ℤ◌, ◌≤ℤ◌, FitsSigned}
use Rattle.std.specs.Int.{w128}
use Rattle.std.proofs.lemmas.Bool.Decides.{Decides-int_eq}
use Rattle.std.specs.Ordering.{int_eq}
use Rattle.std.proofs.lemmas.Int.{ints}
use Rattle.cs_types.specs.declared.data_model.DataModel.{DataModel}
use Rattle.cs_types.specs.declared.data_model.DataModel.TheVariants.{Lp64, Ilp32}
use Rattle.cs_types.specs.declared.int_type.IntType.{IntType}
use Rattle.cs_types.specs.declared.int_type.IntType.TheVariants.{Char, SChar, UChar, Short, UShort, Int, UInt, Long, ULong, LLong, ULLong}
use Rattle.cs_types.specs.IntType.{has_sign, least_of, greatest_of, InRange, IsIntegerOfC}
use Rattle.cs_types.specs.Wrap.{near_quotient, wrap_quotient, wrapped}
use Rattle.cs_folding.specs.Folding.{is_zero, given, without}

-- the range of each type is within the range of C's integers
least-in_c : (model : DataModel) (ty : IntType) → (pos 0 -ℤ pos (2 ^ 63)) ≤ℤ least_of model ty
least-in_c Lp64 Long = omega (arith, ints)
least-in_c Lp64 ULong = omega (arith, ints)
least-in_c Ilp32 Long = omega (arith, ints)
least-in_c Ilp32 ULong = omega (arith, ints)
least-in_c model Char = omega (arith, ints)
least-in_c model SChar = omega (arith, ints)
least-in_c model UChar = omega (arith, ints)
least-in_c model Short = omega (arith, ints)
least-in_c model UShort = omega (arith, ints)
least-in_c model Int = omega (arith, ints)
least-in_c model UInt = omega (arith, ints)
least-in_c model LLong = omega (arith, ints)
least-in_c model ULLong = omega (arith, ints)

greatest-in_c : (model : DataModel) (ty : IntType) → greatest_of model ty ≤ℤ pos (2 ^ 64 - 1)
greatest-in_c Lp64 Long = omega (arith, ints)
greatest-in_c Lp64 ULong = omega (arith, ints)
greatest-in_c Ilp32 Long = omega (arith, ints)
greatest-in_c Ilp32 ULong = omega (arith, ints)
greatest-in_c model Char = omega (arith, ints)
greatest-in_c model SChar = omega (arith, ints)
greatest-in_c model UChar = omega (arith, ints)
greatest-in_c model Short = omega (arith, ints)
greatest-in_c model UShort = omega (arith, ints)
greatest-in_c model Int = omega (arith, ints)
greatest-in_c model UInt = omega (arith, ints)
greatest-in_c model LLong = omega (arith, ints)
greatest-in_c model ULLong = omega (arith, ints)

-- a number of an integer type is one of C's integers
pub in_c : (model : DataModel) (ty : IntType) (n : ℤ) → InRange model ty n → IsIntegerOfC n
in_c model ty n h = between (least_of model ty) (greatest_of model ty) (least-in_c model ty) (greatest-in_c model ty) h.from_least h.to_greatest
  where
    between : (low high : ℤ) → (pos 0 -ℤ pos (2 ^ 63)) ≤ℤ low → high ≤ℤ pos (2 ^ 64 - 1) → low ≤ℤ n → n ≤ℤ high → IsIntegerOfC n
    between low high a b c d = record { from_least = omega (arith, ints); to_greatest = omega (arith, ints) }

-- and fits 128 bits
pub fits_in_c : (n : ℤ) → IsIntegerOfC n → FitsSigned w128 n
fits_in_c n h = omega (arith, ints, h.from_least, h.to_greatest)

not_zero : (z : ℤ) → (z ≡ pos 0 → ⊥) → int_eq z (pos 0) ≡ false
not_zero z h = elim (int_eq z (pos 0)) as (λ t. int_eq z (pos 0) ≡ t → t ≡ false) [
  | true ↦ λ e. absurd (h ((Decides-int_eq z (pos 0)).0 e))
  | false ↦ λ _. refl
] refl

-- a near quotient is 0 exactly if the quotient is
pub near-zero : (q : ℤ) → is_zero (near_quotient q) ≡ int_eq q (pos 0)
near-zero (pos zero) = refl
near-zero (pos (suc zero)) = refl
near-zero (pos (suc (suc n))) = sym (not_zero (pos (suc (suc n))) (λ e. omega (arith, ints)))
near-zero (negsuc zero) = refl
near-zero (negsuc (suc n)) = refl

pub ruleset products = (near-zero)

-- an exact result, wrapped to an unsigned type or in the range of a signed one
pub given_unsigned : (model : DataModel) (needed : Bool) (ty : IntType) (z : ℤ) → has_sign ty ≡ false
    → given model needed ty z ≡ Some (wrapped model ty z)
unfolding given
given_unsigned model needed ty z e = ap (λ t. cond (t && not (int_eq (wrap_quotient model ty z) (pos 0))) (without needed) (Some (wrapped model ty z))) e

pub given_held : (model : DataModel) (needed : Bool) (ty : IntType) (z : ℤ) → int_eq (wrap_quotient model ty z) (pos 0) ≡ true
    → given model needed ty z ≡ Some (wrapped model ty z)
unfolding given
given_held model needed ty z e =
    ap (λ t. cond (has_sign ty && not t) (without needed) (Some (wrapped model ty z))) e
    ∙ elim (has_sign ty) as (λ t.
    cond (t && false) (without needed) (Some (wrapped model ty z)) ≡ Some (wrapped model ty z)) [ true ↦ refl | false ↦ refl ]
