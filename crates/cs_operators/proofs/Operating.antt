-- The checks of an operator with two integer operands: for the contract of `operate`.
use Rattle.std.proofs.Common.{◌≡◌, ◌⊎◌, inl, inr, ℕ, ◌*◌, ℤ, refl, sym, subst}
use Rattle.cs_types.specs.declared.data_model.DataModel.{DataModel}
use Rattle.cs_types.specs.declared.int_type.IntType.{IntType}
use Rattle.cs_types.specs.IntType.{bytes_of}
use Rattle.cs_ast.specs.declared.place.Place.{Place}
use Rattle.cs_ast.specs.declared.typed.operator.BinOp.{BinOp}
use Rattle.cs_ast.specs.declared.typed.operator.BinOp.TheVariants.{Add, Sub, Mul, Div, Rem, Shl, Shr, And, Xor, Or}
use Rattle.cs_terms.specs.declared.term.Lin.{Lin}
use Rattle.cs_terms.specs.Term.{Valuation, value_of}
use Rattle.cs_checker.specs.declared.subject.Subject.TheVariants.{Divisor, Shift}
use Rattle.cs_events.specs.Acts.{Act}
use Rattle.cs_meaning.specs.Operators as operators
use Rattle.cs_cfg.specs.Working.{CodeState}
use Rattle.cs_operators.specs.Asking.{IsCheckOf}
use Rattle.cs_operators.proofs.Checks.{divide_check, shift_check}

module _ (model : DataModel) (at : Place) (operator : BinOp) (ty : IntType) where
  pub division_check : (v : Valuation) (right : Lin) → (operator ≡ Div) ⊎ (operator ≡ Rem)
      → IsCheckOf (Divisor right) at v (operators.checked model at operator ty (value_of v right))
  division_check v right (inl is) =
      subst (λ (op : BinOp). IsCheckOf (Divisor right) at v (operators.checked model at op ty (value_of v right))) (sym is)
      (divide_check at v right)
  division_check v right (inr is) =
      subst (λ (op : BinOp). IsCheckOf (Divisor right) at v (operators.checked model at op ty (value_of v right))) (sym is)
      (divide_check at v right)

  pub width_check : (v : Valuation) (right : Lin) (bytes : ℕ) → bytes ≡ bytes_of model ty → (operator ≡ Shl) ⊎ (operator ≡ Shr)
      → IsCheckOf (Shift right (8 * bytes)) at v (operators.checked model at operator ty (value_of v right))
  width_check v right bytes same is =
      subst (λ (n : ℕ). IsCheckOf (Shift right (8 * n)) at v (operators.checked model at operator ty (value_of v right))) (sym same) (by is)
    where
      by : (operator ≡ Shl) ⊎ (operator ≡ Shr)
          → IsCheckOf (Shift right (8 * bytes_of model ty)) at v (operators.checked model at operator ty (value_of v right))
      by (inl is) =
          subst (λ (op : BinOp). IsCheckOf (Shift right (8 * bytes_of model ty)) at v (operators.checked model at op ty (value_of v right)))
          (sym is) (shift_check at v model ty right)
      by (inr is) =
          subst (λ (op : BinOp). IsCheckOf (Shift right (8 * bytes_of model ty)) at v (operators.checked model at op ty (value_of v right)))
          (sym is) (shift_check at v model ty right)

  -- all other operators have no check
  pub unchecked : (operator ≡ Div → ⊥) → (operator ≡ Rem → ⊥) → (operator ≡ Shl → ⊥) → (operator ≡ Shr → ⊥)
      → (right : ℤ) (act : Act CodeState) → operators.checked model at operator ty right act ≡ act
  unchecked not_div not_rem not_shl not_shr right act = by operator refl
    where
      by : (op : BinOp) → operator ≡ op → operators.checked model at op ty right act ≡ act
      by Add is = refl
      by Sub is = refl
      by Mul is = refl
      by Div is = absurd (not_div is)
      by Rem is = absurd (not_rem is)
      by Shl is = absurd (not_shl is)
      by Shr is = absurd (not_shr is)
      by And is = refl
      by Xor is = refl
      by Or is = refl
