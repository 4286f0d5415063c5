-- Corners are the ground of the guess for each question that isn't followed exactly: for the contract of `corners_have_ground`.
use Rattle.std.proofs.Common.{◌≡◌, ◌≢◌, ◌⊎◌, inl, inr, zero, suc, true, false, ℤ, pos, negsuc, Some, refl, sym, ◌∙◌}
use Rattle.cs_types.specs.declared.data_model.DataModel.{DataModel}
use Rattle.cs_types.specs.declared.int_type.IntType.{IntType}
use Rattle.cs_types.specs.Wrap.{wrap_quotient}
use Rattle.cs_terms.specs.declared.symbol.Sym.{Sym}
use Rattle.cs_terms.specs.declared.term.Lin.{Lin}
use Rattle.cs_terms.specs.Pieces.{IsFar}
use Rattle.cs_terms.specs.Term.{Valuation, value_of}
use Rattle.cs_constraints.specs.Constraints.{Sets, AreInhabited}
use Rattle.cs_events.specs.Operations.{exact}
use Rattle.cs_results.specs.declared.run.Others.TheVariants.{One, Two}
use Rattle.cs_findings.specs.Operands.{with_operands}
use Rattle.cs_findings.specs.Grounds.{is_far, left_differs}
use Rattle.cs_eval.specs.declared.question.Question.{Question}
use Rattle.cs_eval.specs.declared.question.Question.TheVariants as question
use Rattle.cs_eval.specs.Followed.{IsFollowed}
use Rattle.cs_eval.specs.Operands.{IsFixed}
use Rattle.cs_eval.specs.Questions.{operation_of}
use Rattle.cs_corners.specs.Corners.{IsCornerOf, HasGroundAtCorners, operands_under}
use Rattle.cs_corners.specs.Operands.{IsOperand, HasOperands}
use Rattle.cs_corners.proofs.Binaries.{binary, some_differs, over_two, spread_corners}
use Rattle.cs_corners.proofs.Comparisons.{compared, ordered}
use Rattle.cs_corners.proofs.Ends.{AllEnds, all_ends}
use Rattle.cs_corners.proofs.Moving.{is_over}
use Rattle.cs_corners.proofs.Opposite.{opposite, opposite_is, opposite_differs}
use Rattle.cs_corners.proofs.Products.{counted}
use Rattle.cs_corners.proofs.Spread.{not_equal, and_both}
use Rattle.cs_corners.proofs.Terms.{IsMovable, fixed_or_movable}

-- whether a quotient is far
far_or_near : (q : ℤ) → (is_far q ≡ true) ⊎ ((is_far q ≡ false) × (¬ IsFar q))
far_or_near (pos zero) = inr (refl, λ h. h.1 refl)
far_or_near (pos (suc zero)) = inr (refl, λ h. h.2 refl)
far_or_near (pos (suc (suc n))) = inl refl
far_or_near (negsuc zero) = inr (refl, λ h. h.0 refl)
far_or_near (negsuc (suc n)) = inl refl

not_far : (q : ℤ) → is_far q ≡ false → ¬ IsFar q
not_far q e = elim (far_or_near q) [
  | inl far ↦ let clash : true ≡ false = sym far ∙ e in absurd (cc)
  | inr near ↦ near.1
]

module _ (model : DataModel) (sets : Sets) (v : Valuation) (ends : AllEnds sets) where
  -- a conversion has one operand
  module _ (ty : IntType) (term : Lin) (h : IsOperand sets term) where
    abbrev IsMoved : Sym → Type 0
    IsMoved s = term.sym ≡ Some s

    corner : Valuation
    corner = opposite sets ends IsMoved (is_over term.sym) h.declared v

    corner_is : IsCornerOf sets IsMoved v corner
    unfolding corner
    corner_is = opposite_is sets ends IsMoved (is_over term.sym) h.declared v

    differs : (m : IsMovable sets ends term) → value_of corner term ≢ value_of v term
    unfolding corner
    differs m = opposite_differs sets ends IsMoved (is_over term.sym) h.declared v term h.is_term m m.over

    converted : ¬ IsFollowed model sets (question.Convert ty term) v → HasGroundAtCorners model sets (question.Convert ty term) v
    converted n = by (fixed_or_movable sets ends term h.declared) (far_or_near (wrap_quotient model ty (value_of v term)))
      where
        by : IsFixed sets term ⊎ IsMovable sets ends term
            → (is_far (wrap_quotient model ty (value_of v term)) ≡ true)
            ⊎ ((is_far (wrap_quotient model ty (value_of v term)) ≡ false) × (¬ IsFar (wrap_quotient model ty (value_of v term))))
            → HasGroundAtCorners model sets (question.Convert ty term) v
        by (inl f) w = absurd (n (inl f))
        by (inr m) (inr near) = absurd (n (inr near.1))
        by (inr m) (inl far) = record {
          others = One corner;
          corners = corner_is;
          has_reason = and_both (left_differs (value_of v term, pos 0) (One (value_of corner term, pos 0))) _ (not_equal _ _ (differs m)) far;
        }

  pub has_ground_at_corners : (asked : Question) → HasOperands sets v asked → ¬ IsFollowed model sets asked v → HasGroundAtCorners model sets asked v
  has_ground_at_corners (question.Binary op ty left right) h n =
      let far = is_far (wrap_quotient model ty (exact model op ty (value_of v left) (value_of v right))) in
      let it = binary sets ends left right h.0 h.1 v op far (λ f. n (inl f)) (λ both. n (inr (both.0, not_far _ both.1))) in
      record { others = it.others; corners = it.corners; has_reason = it.passed }
  has_ground_at_corners (question.Unary op ty term) h n = absurd (n tt)
  has_ground_at_corners (question.Convert ty term) h n = converted ty term h n
  has_ground_at_corners (question.Compare op left right) h n =
      let it = compared sets ends left right h.0 h.1 (over_two sets ends left right h.0 h.1 (λ one. n (inl one))) v op (λ d. n (inr d)) in
      record { others = it.others; corners = it.corners; has_reason = it.passed }
  has_ground_at_corners (question.Order first second) h n =
      let it = ordered sets ends first second h.0 h.1 (over_two sets ends first second h.0 h.1 (λ one. n (inl one))) v (λ d. n (inr d)) in
      record { others = it.others; corners = it.corners; has_reason = it.passed }
  has_ground_at_corners (question.Product count size) h n =
      let it = counted model sets ends count size v h.0 h.1 (λ f. n (inl f)) (λ f. n (inr (inl f))) (λ d. n (inr (inr d))) in
      record { others = it.others; corners = it.corners; has_reason = it.passed }
  has_ground_at_corners (question.Sum offset amount size) h n =
      let it = spread_corners sets ends offset amount h.0 h.1 v (over_two sets ends offset amount h.0 h.1 (λ one. n (inl one))) in
      record { others = Two it.first it.second; corners = (it.first_is, it.second_is); has_reason = it.passed }
  has_ground_at_corners (question.Difference left right size) h n =
      let it = some_differs sets ends left right h.0 h.1 v (λ f. n (inl f)) in
      record { others = it.others; corners = it.corners; has_reason = it.passed }
  has_ground_at_corners (question.Test tested term) h n = absurd (n tt)
  has_ground_at_corners (question.Callee function) h n = absurd (n tt)

pub corners_have : (model : DataModel) (sets : Sets) (asked : Question) (v : Valuation) → AreInhabited sets → HasOperands sets v asked
    → ¬ IsFollowed model sets asked v → HasGroundAtCorners model sets asked v
corners_have model sets asked v inhabited h n = has_ground_at_corners model sets v (all_ends sets inhabited) asked h n

-- the operation under another valuation is the same one with the operands there: for those who run it
pub same_operation : (model : DataModel) (sets : Sets) (asked : Question) (v w : Valuation) → ¬ IsFollowed model sets asked v
    → with_operands (operation_of v asked) (operands_under asked w) ≡ operation_of w asked
same_operation model sets (question.Binary op ty left right) v w n = refl
same_operation model sets (question.Unary op ty term) v w n = refl
same_operation model sets (question.Convert ty term) v w n = refl
same_operation model sets (question.Compare op left right) v w n = refl
same_operation model sets (question.Order first second) v w n = refl
same_operation model sets (question.Product count size) v w n = refl
same_operation model sets (question.Sum offset amount size) v w n = refl
same_operation model sets (question.Difference left right size) v w n = refl
same_operation model sets (question.Test tested term) v w n = absurd (n tt)
same_operation model sets (question.Callee function) v w n = absurd (n tt)
