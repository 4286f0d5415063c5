-- The remainders and masks that may be guessed: for the contract of `binary`.
use Rattle.std.proofs.Common.{◌≡◌, inl, ℕ, ◌+◌, ◌*◌, ◌-◌, ◌^◌, ◌<◌, ◌≤◌, Bool, true, false, ℤ, pos}
use Rattle.std.proofs.Common.{negsuc, ◌-ℤ◌}
use Rattle.std.proofs.Common.{◌*ℤ◌, ◌≤ℤ◌, Option, Some, None, refl, sym, ap, subst, ◌∙◌, arith}
use Rattle.std.specs.Prelude.{neg_ℤ, unsigned_abs, if◌then◌else◌, int_div, IsNone}
use Rattle.std.specs.Int.RustNames.{int_rem}
use Rattle.std.proofs.lemmas.Int.{ints, quot-rem, rem_below}
use Rattle.cs_ranges.specs.declared.range_set.Interval.{Interval}
use Rattle.cs_types.specs.declared.data_model.DataModel.{DataModel}
use Rattle.cs_types.specs.declared.data_model.DataModel.TheVariants.{Lp64, Ilp32}
use Rattle.cs_types.specs.declared.int_type.IntType.{IntType}
use Rattle.cs_types.specs.declared.int_type.IntType.TheVariants.{Char, SChar, UChar, Short, UShort, Int, UInt, Long, ULong, LLong, ULLong}
use Rattle.cs_types.specs.IntType.{InRange, bytes_of, has_sign, modulus_of, negatives_of, least_of, greatest_of}
use Rattle.cs_types.specs.Wrap.{wrapped}
use Rattle.cs_types.proofs.Wrapping.{wrapped-InRange}
use Rattle.cs_ast.specs.declared.typed.operator.BinOp.TheVariants.{Rem}
use Rattle.cs_terms.specs.declared.symbol.Sym.{Sym}
use Rattle.cs_terms.specs.declared.term.Lin.{Lin}
use Rattle.cs_terms.specs.Term.{Valuation, value_of}
use Rattle.cs_constraints.specs.Constraints.{Sets, Fits}
use Rattle.cs_events.specs.Operations.{exact}
use Rattle.cs_eval.specs.Followed.{IsRemainder}
use Rattle.cs_eval.specs.Guesses.{AreRemainders, AreOfRemainder}
use Rattle.cs_eval.specs.Operands.{IsBetween, IsTermInType, constant_with}
use Rattle.cs_eval.specs.Ready.{IsBinary}
use Rattle.cs_eval.proofs.OperandValues.{value_of-none, value_between}
use Rattle.cs_eval.proofs.BinaryPieces.{HasGuesses, binary_asking, not_fixed_right}
use Rattle.cs_eval.proofs.Conversions.{between_type, type_between, in_type_wrapped}
use Rattle.cs_eval.proofs.WrapPieces.{AreGuesses}

-- a signed type has as many numbers below 0 as others
signed_half : (model : DataModel) (ty : IntType) → has_sign ty ≡ true → modulus_of model ty ≡ negatives_of model ty + negatives_of model ty
signed_half Lp64 Long e = omega arith
signed_half Ilp32 Long e = omega arith
signed_half Lp64 ULong e = absurd (cc)
signed_half Ilp32 ULong e = absurd (cc)
signed_half model Char e = omega arith
signed_half model SChar e = omega arith
signed_half model UChar e = absurd (cc)
signed_half model Short e = omega arith
signed_half model UShort e = absurd (cc)
signed_half model Int e = omega arith
signed_half model UInt e = absurd (cc)
signed_half model LLong e = omega arith
signed_half model ULLong e = absurd (cc)

unsigned_none : (model : DataModel) (ty : IntType) → has_sign ty ≡ false → negatives_of model ty ≡ 0
unsigned_none model ty e = ap (λ (b : Bool). if b then 2 ^ (8 * bytes_of model ty - 1) else 0) e

-- a number nearer to 0 than one of the type is in the type, if it isn't below 0 or the type is signed
nearer_in_type : (model : DataModel) (ty : IntType) (d n : ℤ) → 0 < unsigned_abs d → InRange model ty d → IsRemainder ty d n → InRange model ty n
nearer_in_type model ty d n some h r = by (has_sign ty) refl
  where
    signed : (m b : ℕ) → m ≡ b + b → (pos 0 -ℤ pos b) ≤ℤ d → d ≤ℤ pos (m - b - 1) → unsigned_abs n ≤ unsigned_abs d - 1
        → 0 < unsigned_abs d
        → ((pos 0 -ℤ pos b) ≤ℤ n) × (n ≤ℤ pos (m - b - 1))
    signed m b e low high near lt = (omega (arith, ints), omega (arith, ints))

    unsigned : (m b : ℕ) → b ≡ 0 → (pos 0 -ℤ pos b) ≤ℤ d → d ≤ℤ pos (m - b - 1) → unsigned_abs n ≤ unsigned_abs d - 1
        → 0 < unsigned_abs d
        → pos 0 ≤ℤ n → ((pos 0 -ℤ pos b) ≤ℤ n) × (n ≤ℤ pos (m - b - 1))
    unsigned m b e low high near lt from = (omega (arith, ints), omega (arith, ints))

    by : (sign : Bool) → has_sign ty ≡ sign → InRange model ty n
    by true e =
        let both = signed (modulus_of model ty) (negatives_of model ty) (signed_half model ty e) h.from_least h.to_greatest r.0 some in
        record { from_least = both.0; to_greatest = both.1 }
    by false e =
        let both = unsigned (modulus_of model ty) (negatives_of model ty) (unsigned_none model ty e) h.from_least h.to_greatest r.0 some (r.1 e) in
        record { from_least = both.0; to_greatest = both.1 }

-- the remainders as an interval
module _ (ty : IntType) (d : ℤ) (numbers : Interval) (are : AreRemainders ty d numbers) (some : numbers.low ≤ℤ numbers.high) where
  low_by : (sign : Bool) → has_sign ty ≡ sign → numbers.low ≡ (if sign then neg_ℤ numbers.high else pos 0)
  low_by sign e = are.low ∙ ap (λ (b : Bool). if b then neg_ℤ numbers.high else pos 0) e

  pub divisor_some : 0 < unsigned_abs d
  divisor_some = by (has_sign ty) refl
    where
      by : (sign : Bool) → has_sign ty ≡ sign → 0 < unsigned_abs d
      by true e = let low = low_by true e in let high = are.high in omega (arith, ints, low, high, some)
      by false e = let low = low_by false e in let high = are.high in omega (arith, ints, low, high, some)

  pub to_remainder : (n : ℤ) → IsBetween numbers.low numbers.high n → IsRemainder ty d n
  to_remainder n b = (near (has_sign ty) refl, λ e. omega (arith, ints, low_by false e, b.0))
    where
      near : (sign : Bool) → has_sign ty ≡ sign → unsigned_abs n ≤ unsigned_abs d - 1
      near true e = omega (arith, ints, low_by true e, are.high, b.0, b.1)
      near false e = omega (arith, ints, low_by false e, are.high, b.0, b.1)

  pub from_remainder : (n : ℤ) → IsRemainder ty d n → IsBetween numbers.low numbers.high n
  from_remainder n r = by (has_sign ty) refl
    where
      by : (sign : Bool) → has_sign ty ≡ sign → IsBetween numbers.low numbers.high n
      by true e = (omega (arith, ints, low_by true e, are.high, r.0, divisor_some), omega (arith, ints, are.high, r.0, divisor_some))
      by false e = (omega (arith, ints, low_by false e, r.1 e), omega (arith, ints, are.high, r.0, divisor_some))

rest_is : (x y : ℤ) → x -ℤ int_div x y *ℤ y ≡ int_rem x y
rest_is x y = omega (arith, ints, quot-rem x y)

rest_from : (a : ℕ) (y : ℤ) → pos 0 ≤ℤ int_rem (pos a) y
rest_from a (pos n) = omega (arith, ints)
rest_from a (negsuc n) = omega (arith, ints)

from_zero : (x y : ℤ) → pos 0 ≤ℤ x → pos 0 ≤ℤ int_rem x y
from_zero (pos a) y h = rest_from a y
from_zero (negsuc a) y h = absurd (omega (arith, ints, h))

-- the remainder of a number of a type
own_remainder : (model : DataModel) (ty : IntType) (x d : ℤ) → 0 < unsigned_abs d → InRange model ty x
    → IsRemainder ty d (x -ℤ int_div x d *ℤ d)
own_remainder model ty x d some h =
    subst (λ (n : ℤ). IsRemainder ty d n) (sym (rest_is x d)) (
      omega (arith, rem_below x d some),
      λ e. from_zero x d (least (negatives_of model ty) (unsigned_none model ty e) h.from_least),
    )
  where
    least : (b : ℕ) → b ≡ 0 → (pos 0 -ℤ pos b) ≤ℤ x → pos 0 ≤ℤ x
    least b e h = omega (arith, ints)

-- an operand's value under a valuation that fits is a number of the type
in_type_value : (model : DataModel) (sets : Sets) (ty : IntType) (term : Lin) (v : Valuation) → IsTermInType model sets ty term → Fits v sets
    → InRange model ty (value_of v term)
in_type_value model sets ty term v h fits =
    let both = value_between sets (least_of model ty) (greatest_of model ty) term v h fits in
    record { from_least = both.0; to_greatest = both.1 }

pub in_type_constant : (model : DataModel) (sets : Sets) (ty : IntType) (term : Lin) → IsTermInType model sets ty term → term.sym ≡ None
    → InRange model ty term.value
in_type_constant model sets ty term h e =
    let both = h.constant (subst (λ (o : Option Sym). IsNone o) (sym e) refl) in record { from_least = both.0; to_greatest = both.1 }

module _ (model : DataModel) (sets : Sets) (guess : ℕ) (ty : IntType) (left right : Lin) (given : IsBinary sets guess left right)
    (l : IsTermInType model sets ty left) (r : IsTermInType model sets ty right) where
  pub rem_guesses : HasGuesses model sets Rem ty left right
  rem_guesses numbers h = by right.sym refl h.are
    where
      by : (symbol : Option Sym) → right.sym ≡ symbol → AreOfRemainder model ty (constant_with symbol right.value) numbers
          → AreGuesses model sets (binary_asking model sets Rem ty left right) numbers
      by (Some s) e are = record {
        to = λ v n fits b. (between_type model ty numbers n are b, λ fixed. absurd (not_fixed_right sets guess left right given s e fixed));
        from = λ v n fits g. type_between model ty numbers n are g.0;
        own = λ v fits unfollowed. type_between model ty numbers _ are (wrapped-InRange model ty (exact model Rem ty (value_of v left) (value_of v right)));
      }
      by None e are =
          let d = right.value in
          let some = divisor_some ty d numbers are h.some in
          let d_in : InRange model ty d = in_type_constant model sets ty right r e in
          record {
            to = λ v n fits b.
                let rest = to_remainder ty d numbers are h.some n b in (
                  nearer_in_type model ty d n some d_in rest,
                  λ fixed. subst (λ (k : ℤ). IsRemainder ty k n) (sym (value_of-none v right e)) rest,
                );
            from = λ v n fits g.
                from_remainder ty d numbers are h.some n (subst (λ (k : ℤ). IsRemainder ty k n) (value_of-none v right e) (g.1 (inl e)));
            own = λ v fits unfollowed.
                let x = value_of v left in
                let rest = own_remainder model ty x d some (in_type_value model sets ty left v l fits) in
                let itself = in_type_wrapped model ty (x -ℤ int_div x d *ℤ d) (nearer_in_type model ty d (x -ℤ int_div x d *ℤ d) some d_in rest) in
                subst (λ (k : ℤ). IsBetween numbers.low numbers.high (wrapped model ty (x -ℤ int_div x k *ℤ k))) (sym (value_of-none v right e))
                (subst (λ (k : ℤ). IsBetween numbers.low numbers.high k) itself
                (from_remainder ty d numbers are h.some (x -ℤ int_div x d *ℤ d) rest));
          }
