-- Numbers that may be guessed may be used: for the contract of `guesses_are_usable`.
use Rattle.std.proofs.Common.{◌≡◌, ◌≢◌, ◌⊎◌, inl, inr, ℕ, ◌≤◌, ◌-◌, Bool, true, ℤ, pos, negsuc, refl}
use Rattle.std.proofs.Common.{arith}
use Rattle.std.specs.Prelude.{◌≤ℤ◌, int_lt, nat_lt, unsigned_abs}
use Rattle.std.proofs.lemmas.Int.{ints}
use Rattle.cs_types.specs.declared.data_model.DataModel.{DataModel}
use Rattle.cs_types.specs.declared.int_type.IntType.{IntType}
use Rattle.cs_types.specs.IntType.{InRange, least_of, greatest_of}
use Rattle.cs_types.specs.DataModel.{difference_type_of}
use Rattle.cs_ast.specs.declared.typed.operator.BinOp.{BinOp}
use Rattle.cs_ast.specs.declared.typed.operator.BinOp.TheVariants.{Add, Sub, Mul, Div, Rem, Shl, Shr, And, Xor, Or}
use Rattle.cs_terms.specs.declared.term.Lin.{Lin}
use Rattle.cs_terms.specs.Term.{Valuation, value_of}
use Rattle.cs_constraints.specs.Constraints.{Sets, AreInhabited}
use Rattle.cs_events.specs.InputCells.{lies_in}
use Rattle.cs_findings.specs.Narrower.{fits_mask, fits_left_of, fits_right_of}
use Rattle.cs_eval.specs.declared.question.Question.{Question}
use Rattle.cs_eval.specs.declared.question.Question.TheVariants as question
use Rattle.cs_eval.specs.Followed.{IsGuess, IsBinaryGuess}
use Rattle.cs_eval.specs.Operands.{IsFixed, IsBetween}
use Rattle.cs_corners.specs.Corners.{HasOtherLeft, HasOtherRight}
use Rattle.cs_corners.specs.Laws.{IsUsable}
use Rattle.cs_corners.specs.Operands.{IsOperand, HasOperands, HasDivisor, HasDivisorOf}
use Rattle.cs_corners.proofs.Choices.{other, other_is, other_left, other_right}
use Rattle.cs_corners.proofs.Ends.{AllEnds, all_ends}
use Rattle.cs_corners.proofs.Extremes.{is_at_most}
use Rattle.cs_corners.proofs.Spread.{or_second, and_both}
use Rattle.cs_corners.proofs.Terms.{fixed_or_movable}

from_to : (low high number : ℤ) → low ≤ℤ number → number ≤ℤ high → lies_in (low, high) number ≡ true
from_to low high number h k = and_both _ _ (is_at_most low number h) (is_at_most number high k)

in_type : (model : DataModel) (ty : IntType) (number : ℤ) → InRange model ty number → lies_in (least_of model ty, greatest_of model ty) number ≡ true
in_type model ty number h = from_to (least_of model ty) (greatest_of model ty) number h.from_least h.to_greatest

-- a number that is masked with one from 0
masked : (mask number : ℤ) → (pos 0 ≤ℤ mask → IsBetween (pos 0) mask number) → fits_mask mask number ≡ true
masked (negsuc n) number h = refl
masked (pos n) number h =
    let b = h (omega (arith, ints)) in
    or_second (int_lt (pos n) (pos 0)) _ (and_both _ _ (is_at_most (pos 0) number b.0) (is_at_most number (pos n) b.1))

-- a number that is nearer to 0 than a divisor
nearer : (divisor : ℤ) (size : ℕ) → divisor ≢ pos 0 → size ≤ unsigned_abs divisor - 1 → nat_lt size (unsigned_abs divisor) ≡ true
nearer divisor size some h = grind (arith, ints)

in_range : (model : DataModel) (sets : Sets) (op : BinOp) (ty : IntType) (left right : Lin) (v : Valuation) (number : ℤ)
    → IsBinaryGuess model sets op ty left right v number → InRange model ty number
in_range model sets Rem ty left right v number h = h.0
in_range model sets And ty left right v number h = h.0
in_range model sets Add ty left right v number h = h
in_range model sets Sub ty left right v number h = h
in_range model sets Mul ty left right v number h = h
in_range model sets Div ty left right v number h = h
in_range model sets Shl ty left right v number h = h
in_range model sets Shr ty left right v number h = h
in_range model sets Xor ty left right v number h = h
in_range model sets Or ty left right v number h = h

module _ (model : DataModel) (sets : Sets) (v : Valuation) (ends : AllEnds sets) (ty : IntType) (left right : Lin) (l : IsOperand sets left)
    (r : IsOperand sets right) (number : ℤ) where
  -- an operand is constant, or it differs at some corner
  by_left : (op : BinOp) (b : Bool) → (IsFixed sets left → b ≡ true) → (b ≡ true) ⊎ HasOtherLeft sets (question.Binary op ty left right) v
  by_left op b h = elim (fixed_or_movable sets ends left l.declared) [
    | inl f ↦ inl (h f)
    | inr m ↦ inr (record {
      corner = other sets ends left right l r v;
      is_corner = other_is sets ends left right l r v;
      differs = other_left sets ends left right l r v m;
    })
  ]

  by_right : (op : BinOp) (b : Bool) → (IsFixed sets right → b ≡ true) → (b ≡ true) ⊎ HasOtherRight sets (question.Binary op ty left right) v
  by_right op b h = elim (fixed_or_movable sets ends right r.declared) [
    | inl f ↦ inl (h f)
    | inr m ↦ inr (record {
      corner = other sets ends left right l r v;
      is_corner = other_is sets ends left right l r v;
      differs = other_right sets ends left right l r v m;
    })
  ]

  fits_left : (op : BinOp) → IsBinaryGuess model sets op ty left right v number
      → (fits_left_of op (value_of v left) number ≡ true) ⊎ HasOtherLeft sets (question.Binary op ty left right) v
  fits_left And h = by_left And _ (λ f. masked (value_of v left) number (h.1 f))
  fits_left Add h = inl refl
  fits_left Sub h = inl refl
  fits_left Mul h = inl refl
  fits_left Div h = inl refl
  fits_left Rem h = inl refl
  fits_left Shl h = inl refl
  fits_left Shr h = inl refl
  fits_left Xor h = inl refl
  fits_left Or h = inl refl

  fits_right : (op : BinOp) → HasDivisorOf op sets v right → IsBinaryGuess model sets op ty left right v number
      → (fits_right_of op (value_of v right) number ≡ true) ⊎ HasOtherRight sets (question.Binary op ty left right) v
  fits_right And d h = by_right And _ (λ f. masked (value_of v right) number (h.2 f))
  fits_right Rem d h = by_right Rem _ (λ f. nearer (value_of v right) (unsigned_abs number) (d f) (h.1 f).0)
  fits_right Add d h = inl refl
  fits_right Sub d h = inl refl
  fits_right Mul d h = inl refl
  fits_right Div d h = inl refl
  fits_right Shl d h = inl refl
  fits_right Shr d h = inl refl
  fits_right Xor d h = inl refl
  fits_right Or d h = inl refl

  of_binary : (op : BinOp) → HasDivisorOf op sets v right → IsBinaryGuess model sets op ty left right v number
      → IsUsable model sets (question.Binary op ty left right) v number
  of_binary op d h = record {
    used = in_type model ty number (in_range model sets op ty left right v number h);
    left = fits_left op h;
    right = fits_right op d h;
  }

pub usable : (model : DataModel) (sets : Sets) (asked : Question) (v : Valuation) (number : ℤ) → AreInhabited sets → HasOperands sets v asked
    → HasDivisor sets v asked → IsGuess model sets asked v number → IsUsable model sets asked v number
usable model sets (question.Binary op ty left right) v number i h d g = of_binary model sets v (all_ends sets i) ty left right h.0 h.1 number op d g
usable model sets (question.Convert ty term) v number i h d g = record { used = in_type model ty number g; left = inl refl; right = inl refl }
usable model sets (question.Compare op left right) v number i h d g =
    record { used = from_to _ _ number g.0 g.1; left = inl refl; right = inl refl }
usable model sets (question.Order first second) v number i h d g = record { used = from_to _ _ number g.0 g.1; left = inl refl; right = inl refl }
usable model sets (question.Product count size) v number i h d g = record { used = from_to _ _ number g.0 g.1; left = inl refl; right = inl refl }
usable model sets (question.Sum offset amount size) v number i h d g =
    record { used = from_to _ _ number g.0 g.1; left = inl refl; right = inl refl }
usable model sets (question.Difference left right size) v number i h d g =
    record { used = in_type model (difference_type_of model) number g; left = inl refl; right = inl refl }
usable model sets (question.Unary op ty term) v number i h d g = absurd g
usable model sets (question.Test tested term) v number i h d g = absurd g
usable model sets (question.Callee function) v number i h d g = absurd g
