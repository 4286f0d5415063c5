-- The numbers that may be guessed for masks: for the contract of `masked`.
use Rattle.std.proofs.Common.{◌≡◌, inl, ℕ, ◌≤◌, ◌%◌, ℤ, pos, negsuc, ◌-ℤ◌, ◌≤ℤ◌, Option, Some, None, refl, sym, ap}
use Rattle.std.proofs.Common.{subst, ◌∙◌, arith}
use Rattle.std.specs.Int.Bits.{bit_and}
use Rattle.std.specs.Option.{option_or}
use Rattle.std.proofs.lemmas.Int.{ints}
use Rattle.std.proofs.Math.Nat.{mod-le}
use Rattle.std.proofs.lemmas.Nat.{and_le_l, and_le_r}
use Rattle.cs_ranges.specs.declared.range_set.Interval.{Interval}
use Rattle.cs_types.specs.declared.data_model.DataModel.{DataModel}
use Rattle.cs_types.specs.declared.int_type.IntType.{IntType}
use Rattle.cs_types.specs.IntType.{InRange, modulus_of, negatives_of}
use Rattle.cs_types.specs.Wrap.{wrapped}
use Rattle.cs_types.proofs.Wrapping.{wrapped-InRange}
use Rattle.cs_ast.specs.declared.typed.operator.BinOp.TheVariants.{And}
use Rattle.cs_terms.specs.declared.symbol.Sym.{Sym}
use Rattle.cs_terms.specs.declared.term.Lin.{Lin}
use Rattle.cs_terms.specs.Term.{Valuation, value_of}
use Rattle.cs_constraints.specs.Constraints.{Sets}
use Rattle.cs_events.specs.Operations.{exact, bits_of}
use Rattle.cs_eval.specs.Guesses.{AreFromTo, AreOfMask}
use Rattle.cs_eval.specs.Operands.{IsBetween, IsTermInType, constant_with}
use Rattle.cs_eval.specs.Ready.{IsBinary}
use Rattle.cs_eval.proofs.OperandValues.{value_of-none}
use Rattle.cs_eval.proofs.BinaryPieces.{HasGuesses, binary_asking, not_fixed_left, not_fixed_right}
use Rattle.cs_eval.proofs.Conversions.{between_type, type_between, in_type_wrapped}
use Rattle.cs_eval.proofs.Remainders.{in_type_constant}
use Rattle.cs_eval.proofs.WrapPieces.{AreGuesses}

from_to : (low high : ℤ) (numbers : Interval) (n : ℤ) → AreFromTo low high numbers → IsBetween numbers.low numbers.high n → IsBetween low high n
from_to low high numbers n h b = (subst (λ (k : ℤ). k ≤ℤ n) h.low_is b.0, subst (λ (k : ℤ). n ≤ℤ k) h.high_is b.1)

to_from : (low high : ℤ) (numbers : Interval) (n : ℤ) → AreFromTo low high numbers → IsBetween low high n → IsBetween numbers.low numbers.high n
to_from low high numbers n h b = (subst (λ (k : ℤ). k ≤ℤ n) (sym h.low_is) b.0, subst (λ (k : ℤ). n ≤ℤ k) (sym h.high_is) b.1)

module _ (model : DataModel) (ty : IntType) (m : ℕ) (inside : InRange model ty (pos m)) where
  -- the numbers from 0 to a mask are in its type
  below_in_type : (n : ℤ) → IsBetween (pos 0) (pos m) n → InRange model ty n
  below_in_type n b = record {
    from_least = least (negatives_of model ty) b.0;
    to_greatest = omega (arith, ints, b.1, inside.to_greatest);
  }
    where
      least : (b : ℕ) → pos 0 ≤ℤ n → (pos 0 -ℤ pos b) ≤ℤ n
      least b h = omega (arith, ints, h)

  upto : (k : ℕ) → k ≤ m → IsBetween (pos 0) (pos m) (pos k)
  upto k h = (omega (arith, ints), omega (arith, ints, h))

  twice_wrapped : (k : ℕ) → k ≤ m → IsBetween (pos 0) (pos m) (wrapped model ty (wrapped model ty (pos k)))
  twice_wrapped k h =
      let itself : pos k ≡ wrapped model ty (pos k) = in_type_wrapped model ty (pos k) (below_in_type (pos k) (upto k h)) in
      subst (λ (n : ℤ). IsBetween (pos 0) (pos m) n) (itself ∙ ap (wrapped model ty) itself) (upto k h)

  rest_small : m % modulus_of model ty ≤ m
  rest_small = mod-le m (modulus_of model ty)

  pub masked_left : (x y : ℤ) → x ≡ pos m → IsBetween (pos 0) (pos m) (wrapped model ty (exact model And ty x y))
  masked_left x y e =
      subst (λ (z : ℤ). IsBetween (pos 0) (pos m) (wrapped model ty (exact model And ty z y))) (sym e)
      (twice_wrapped (bit_and (m % modulus_of model ty) (bits_of model ty y))
      (omega (arith, and_le_l (m % modulus_of model ty) (bits_of model ty y), rest_small)))

  pub masked_right : (x y : ℤ) → y ≡ pos m → IsBetween (pos 0) (pos m) (wrapped model ty (exact model And ty x y))
  masked_right x y e =
      subst (λ (z : ℤ). IsBetween (pos 0) (pos m) (wrapped model ty (exact model And ty x z))) (sym e)
      (twice_wrapped (bit_and (bits_of model ty x) (m % modulus_of model ty))
      (omega (arith, and_le_r (bits_of model ty x) (m % modulus_of model ty), rest_small)))

not_below : (z : ℤ) (m : ℕ) → z ≡ negsuc m → pos 0 ≤ℤ z → ⊥
not_below z m e h = omega (arith, ints, e, h)

not_negative : (z : ℤ) (m : ℕ) → z ≡ pos m → pos 0 ≤ℤ z
not_negative z m e = omega (arith, ints, e)

module _ (model : DataModel) (sets : Sets) (guess : ℕ) (ty : IntType) (left right : Lin) (given : IsBinary sets guess left right)
    (l : IsTermInType model sets ty left) (r : IsTermInType model sets ty right) (numbers : Interval) where
  own_in : (v : Valuation) → InRange model ty (wrapped model ty (exact model And ty (value_of v left) (value_of v right)))
  own_in v = wrapped-InRange model ty (exact model And ty (value_of v left) (value_of v right))

  -- the left operand is the constant mask
  left_mask : (s : Sym) → left.sym ≡ None → right.sym ≡ Some s → (z : ℤ) → left.value ≡ z → AreOfMask model ty (Some z) numbers
      → AreGuesses model sets (binary_asking model sets And ty left right) numbers
  left_mask s e f (pos m) is are =
      let inside : InRange model ty (pos m) = subst (λ (n : ℤ). InRange model ty n) is (in_type_constant model sets ty left l e) in
      let value : (v : Valuation) → value_of v left ≡ pos m = λ v. value_of-none v left e ∙ is in
      record {
        to = λ v n fits b.
            let k = from_to (pos 0) (pos m) numbers n are b in (
              below_in_type model ty m inside n k,
              λ fixed from. subst (λ (z : ℤ). IsBetween (pos 0) z n) (sym (value v)) k,
              λ fixed. absurd (not_fixed_right sets guess left right given s f fixed),
            );
        from = λ v n fits g.
            to_from (pos 0) (pos m) numbers n are
            (subst (λ (z : ℤ). IsBetween (pos 0) z n) (value v) (g.1 (inl e) (not_negative (value_of v left) m (value v))));
        own = λ v fits unfollowed.
            to_from (pos 0) (pos m) numbers _ are (masked_left model ty m inside (value_of v left) (value_of v right) (value v));
      }
  left_mask s e f (negsuc m) is are = record {
    to = λ v n fits b. (
      between_type model ty numbers n are b,
      λ fixed from. absurd (not_below (value_of v left) m (value_of-none v left e ∙ is) from),
      λ fixed. absurd (not_fixed_right sets guess left right given s f fixed),
    );
    from = λ v n fits g. type_between model ty numbers n are g.0;
    own = λ v fits unfollowed. type_between model ty numbers _ are (own_in v);
  }

  -- the right operand is
  right_mask : (s : Sym) → left.sym ≡ Some s → right.sym ≡ None → (z : ℤ) → right.value ≡ z → AreOfMask model ty (Some z) numbers
      → AreGuesses model sets (binary_asking model sets And ty left right) numbers
  right_mask s e f (pos m) is are =
      let inside : InRange model ty (pos m) = subst (λ (n : ℤ). InRange model ty n) is (in_type_constant model sets ty right r f) in
      let value : (v : Valuation) → value_of v right ≡ pos m = λ v. value_of-none v right f ∙ is in
      record {
        to = λ v n fits b.
            let k = from_to (pos 0) (pos m) numbers n are b in (
              below_in_type model ty m inside n k,
              λ fixed. absurd (not_fixed_left sets guess left right given s e fixed),
              λ fixed from. subst (λ (z : ℤ). IsBetween (pos 0) z n) (sym (value v)) k,
            );
        from = λ v n fits g.
            to_from (pos 0) (pos m) numbers n are
            (subst (λ (z : ℤ). IsBetween (pos 0) z n) (value v) (g.2 (inl f) (not_negative (value_of v right) m (value v))));
        own = λ v fits unfollowed.
            to_from (pos 0) (pos m) numbers _ are (masked_right model ty m inside (value_of v left) (value_of v right) (value v));
      }
  right_mask s e f (negsuc m) is are = record {
    to = λ v n fits b. (
      between_type model ty numbers n are b,
      λ fixed. absurd (not_fixed_left sets guess left right given s e fixed),
      λ fixed from. absurd (not_below (value_of v right) m (value_of-none v right f ∙ is) from),
    );
    from = λ v n fits g. type_between model ty numbers n are g.0;
    own = λ v fits unfollowed. type_between model ty numbers _ are (own_in v);
  }

  by_symbols : (a b : Option Sym) → left.sym ≡ a → right.sym ≡ b
      → AreOfMask model ty (option_or (constant_with a left.value) (constant_with b right.value)) numbers
      → AreGuesses model sets (binary_asking model sets And ty left right) numbers
  by_symbols None None e f are = absurd (given.symbol (e, f))
  by_symbols None (Some s) e f are = left_mask s e f left.value refl are
  by_symbols (Some s) None e f are = right_mask s e f right.value refl are
  by_symbols (Some s) (Some t) e f are = record {
    to = λ v n fits b. (
      between_type model ty numbers n are b,
      λ fixed. absurd (not_fixed_left sets guess left right given s e fixed),
      λ fixed. absurd (not_fixed_right sets guess left right given t f fixed),
    );
    from = λ v n fits g. type_between model ty numbers n are g.0;
    own = λ v fits unfollowed. type_between model ty numbers _ are (own_in v);
  }

pub and_guesses : (model : DataModel) (sets : Sets) (guess : ℕ) (ty : IntType) (left right : Lin) → IsBinary sets guess left right
    → IsTermInType model sets ty left → IsTermInType model sets ty right → HasGuesses model sets And ty left right
and_guesses model sets guess ty left right given l r numbers h = by_symbols model sets guess ty left right given l r numbers left.sym right.sym refl refl h.are
