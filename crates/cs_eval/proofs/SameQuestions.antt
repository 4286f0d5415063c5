-- A question and its prepared form are the same under each valuation that fits: for the contract of `answers`.
use Rattle.std.proofs.Common.{◌≡◌, ◌⊎◌, inl, inr, ℕ, ℤ, pos, ◌+ℤ◌, ◌-ℤ◌, ◌*ℤ◌, List, Some, refl, sym, ap, subst, ◌∙◌}
use Rattle.std.specs.Prelude.{◌≤ℤ◌, int_le}
use Rattle.cs_types.specs.declared.data_model.DataModel.{DataModel}
use Rattle.cs_types.specs.declared.int_type.IntType.{IntType}
use Rattle.cs_types.specs.DataModel.{product_bound_of}
use Rattle.cs_ast.specs.declared.typed.operator.BinOp.{BinOp}
use Rattle.cs_ast.specs.declared.typed.operator.BinOp.TheVariants.{Add, Sub, Mul, Div, Rem, Shl, Shr, And, Xor, Or}
use Rattle.cs_ast.specs.declared.typed.operator.CmpOp.{CmpOp}
use Rattle.cs_ast.specs.declared.typed.operator.CmpOp.TheVariants.{AtLeast}
use Rattle.cs_ast.specs.declared.typed.operator.UnOp.{UnOp}
use Rattle.cs_terms.specs.declared.symbol.Sym.{Sym}
use Rattle.cs_terms.specs.declared.term.Lin.{Lin}
use Rattle.cs_terms.specs.Pieces.{IsFar}
use Rattle.cs_terms.specs.Term.{Valuation, value_of}
use Rattle.cs_constraints.specs.Constraints.{Sets, Fits}
use Rattle.cs_events.specs.declared.operation.Operation.{Operation}
use Rattle.cs_events.specs.declared.operation.Operation.TheVariants as operation
use Rattle.cs_events.specs.Operations.{own_quotient}
use Rattle.cs_eval.specs.declared.piece.Piece.{Piece}
use Rattle.cs_eval.specs.declared.question.Question.{Question}
use Rattle.cs_eval.specs.declared.question.Question.TheVariants as question
use Rattle.cs_eval.specs.declared.question.Tested.{Tested}
use Rattle.cs_eval.specs.Followed.{FitsFixed, IsFollowed, IsFollowedNear, IsRemainder, IsBinaryGuess}
use Rattle.cs_eval.specs.Followed.{asking_of, AreAnswers}
use Rattle.cs_eval.specs.Forms.{IsFormOfQuestion, IsFormOfOne, IsFormOfTwo}
use Rattle.cs_eval.specs.Operands.{IsFixed, AreOverOne, IsBetween, IsReadyOperand}
use Rattle.cs_eval.specs.Questions.{holds_for, label_of}
use Rattle.cs_eval.specs.Ready.{HasReadyOperands, IsReadyPart}
use Rattle.cs_eval.proofs.OperandForms.{IsReadyForm, ready_form, over_one_given, over_one_made, fits_fixed}
use Rattle.cs_eval.proofs.SameAsking.{IsSameAsking, split_same}
use Rattle.cs_eval.proofs.Signs.{same_decision}

-- operands with one value that are both fixed, or both not
pub record IsAlike (sets : Sets) (a b : Lin) : Type 0 where
  pub fixed : IsFixed sets a → IsFixed sets b
  pub back : IsFixed sets b → IsFixed sets a
  pub value : (v : Valuation) → FitsFixed v sets → value_of v a ≡ value_of v b

pub record AreAlike (sets : Sets) (a b c d : Lin) : Type 0 where
  pub first : IsAlike sets a b
  pub second : IsAlike sets c d
  pub over_one : AreOverOne sets a c → AreOverOne sets b d

two_values : {T : Type 0} (f : ℤ → ℤ → T) (a b c d : ℤ) → a ≡ b → c ≡ d → f a c ≡ f b d
two_values f a b c d e h = ap (λ (x : ℤ). f x c) e ∙ ap (f b) h

module _ (model : DataModel) (sets : Sets) (a b c d : Lin) (h : AreAlike sets a b c d) where
  same_values : {T : Type 0} (f : ℤ → ℤ → T) (v : Valuation) → FitsFixed v sets
      → f (value_of v a) (value_of v c) ≡ f (value_of v b) (value_of v d)
  same_values f v fits =
      two_values f (value_of v a) (value_of v b) (value_of v c) (value_of v d) (h.first.value v fits) (h.second.value v fits)

  near_alike : (op : BinOp) → IsFollowedNear sets op a c → IsFollowedNear sets op b d
  near_alike Add n = h.over_one n
  near_alike Sub n = h.over_one n
  near_alike Mul n = elim n [ inl x ↦ inl (h.first.fixed x) | inr y ↦ inr (h.second.fixed y) ]
  near_alike Shl n = h.second.fixed n
  near_alike Div n = (h.first.fixed n.0, h.second.fixed n.1)
  near_alike Rem n = (h.first.fixed n.0, h.second.fixed n.1)
  near_alike Shr n = (h.first.fixed n.0, h.second.fixed n.1)
  near_alike And n = (h.first.fixed n.0, h.second.fixed n.1)
  near_alike Xor n = (h.first.fixed n.0, h.second.fixed n.1)
  near_alike Or n = (h.first.fixed n.0, h.second.fixed n.1)

  binary_followed : (op : BinOp) (ty : IntType) (v : Valuation) → FitsFixed v sets
      → IsFollowed model sets (question.Binary op ty a c) v → IsFollowed model sets (question.Binary op ty b d) v
  binary_followed op ty v fits (inl both) = inl (h.first.fixed both.0, h.second.fixed both.1)
  binary_followed op ty v fits (inr near) =
      inr (
        near_alike op near.0,
        subst (λ (o : Operation). ¬ IsFar (own_quotient model o)) (same_values (λ (x y : ℤ). operation.Binary op ty x y) v fits) near.1,
      )

  binary_guess : (op : BinOp) (ty : IntType) (v : Valuation) (number : ℤ) → FitsFixed v sets
      → IsBinaryGuess model sets op ty a c v number → IsBinaryGuess model sets op ty b d v number
  binary_guess Add ty v number fits g = g
  binary_guess Sub ty v number fits g = g
  binary_guess Mul ty v number fits g = g
  binary_guess Div ty v number fits g = g
  binary_guess Shl ty v number fits g = g
  binary_guess Shr ty v number fits g = g
  binary_guess Xor ty v number fits g = g
  binary_guess Or ty v number fits g = g
  binary_guess Rem ty v number fits g = (
    g.0,
    λ fixed. subst (λ (n : ℤ). IsRemainder ty n number) (h.second.value v fits) (g.1 (h.second.back fixed)),
  )
  binary_guess And ty v number fits g = (
    g.0,
    λ fixed low.
        let e = h.first.value v fits in
        subst (λ (n : ℤ). IsBetween (pos 0) n number) e (g.1 (h.first.back fixed) (subst (λ (n : ℤ). pos 0 ≤ℤ n) (sym e) low)),
    λ fixed low.
        let e = h.second.value v fits in
        subst (λ (n : ℤ). IsBetween (pos 0) n number) e (g.2 (h.second.back fixed) (subst (λ (n : ℤ). pos 0 ≤ℤ n) (sym e) low)),
  )

  compare_followed : (op : CmpOp) (v : Valuation) → IsFollowed model sets (question.Compare op a c) v
      → IsFollowed model sets (question.Compare op b d) v
  compare_followed op v (inl over) = inl (h.over_one over)
  compare_followed op v (inr decided) =
      inr (same_decision sets op (λ w. value_of w a -ℤ value_of w c) (λ w. value_of w b -ℤ value_of w d)
      (λ w fits. same_values (λ (x y : ℤ). x -ℤ y) w (fits_fixed w sets fits)) decided)

  order_followed : (v : Valuation) → IsFollowed model sets (question.Order a c) v → IsFollowed model sets (question.Order b d) v
  order_followed v (inl over) = inl (h.over_one over)
  order_followed v (inr decided) =
      inr (same_decision sets AtLeast (λ w. value_of w a +ℤ value_of w c) (λ w. value_of w b +ℤ value_of w d)
      (λ w fits. same_values (λ (x y : ℤ). x +ℤ y) w (fits_fixed w sets fits)) decided)

  product_followed : (v : Valuation) → IsFollowed model sets (question.Product a c) v → IsFollowed model sets (question.Product b d) v
  product_followed v (inl fixed) = inl (h.first.fixed fixed)
  product_followed v (inr (inl fixed)) = inr (inl (h.second.fixed fixed))
  product_followed v (inr (inr decided)) =
      inr (inr (
        decided.0,
        λ w x fits there.
            sym (two_values (λ (m n : ℤ). int_le (m *ℤ n) (pos (product_bound_of model))) (value_of w a) (value_of w b) (value_of x c) (value_of x d)
            (h.first.value w (fits_fixed w sets fits)) (h.second.value x (fits_fixed x sets there)))
            ∙ decided.1 w x fits there,
      ))

  sum_followed : (size : ℕ) (v : Valuation) → IsFollowed model sets (question.Sum a c size) v → IsFollowed model sets (question.Sum b d size) v
  sum_followed size v (inl over) = inl (h.over_one over)
  sum_followed size v (inr none) = inr none

  difference_followed : (size : ℕ) (v : Valuation) → IsFollowed model sets (question.Difference a c size) v
      → IsFollowed model sets (question.Difference b d size) v
  difference_followed size v (inl both) = inl (h.first.fixed both.0, h.second.fixed both.1)
  difference_followed size v (inr (inl over)) =
      inr (inl (
        h.over_one over.0,
        λ w fits. let n = over.1 w fits in (n.0, sym (same_values (λ (x y : ℤ). x -ℤ y) w fits) ∙ n.1),
      ))
  difference_followed size v (inr (inr none)) = inr (inr none)

module _ (sets : Sets) (given made : Lin) (f : IsReadyForm sets given made) where
  to_given : IsAlike sets made given
  to_given = record { fixed = f.to_given; back = f.to_made; value = f.value }

  to_made : IsAlike sets given made
  to_made = record { fixed = f.to_made; back = f.to_given; value = λ v fits. sym (f.value v fits) }

module _ (model : DataModel) (sets : Sets) (left right l r : Lin) (f : IsReadyForm sets left l) (g : IsReadyForm sets right r) where
  alike_given : AreAlike sets l left r right
  alike_given = record { first = to_given sets left l f; second = to_given sets right r g; over_one = over_one_given sets left right l r f g }

  alike_made : AreAlike sets left l right r
  alike_made = record { first = to_made sets left l f; second = to_made sets right r g; over_one = over_one_made sets left right l r f g }

  either : (s : Sym) → (l.sym ≡ Some s) ⊎ (r.sym ≡ Some s) → (left.sym ≡ Some s) ⊎ (right.sym ≡ Some s)
  either s (inl e) = inl (f.symbol s e)
  either s (inr e) = inr (g.symbol s e)

  both_values : {T : Type 0} (k : ℤ → ℤ → T) (v : Valuation) → Fits v sets
      → k (value_of v l) (value_of v r) ≡ k (value_of v left) (value_of v right)
  both_values k v fits = same_values model sets l left r right alike_given k v (fits_fixed v sets fits)

  binary_same : (op : BinOp) (ty : IntType)
      → IsSameAsking sets (asking_of model sets (question.Binary op ty l r)) (asking_of model sets (question.Binary op ty left right))
  binary_same op ty = record {
    operation = both_values (λ (x y : ℤ). operation.Binary op ty x y);
    to_given = λ v fits. binary_followed model sets l left r right alike_given op ty v (fits_fixed v sets fits);
    to_made = λ v fits. binary_followed model sets left l right r alike_made op ty v (fits_fixed v sets fits);
    guess_given = λ v number fits. binary_guess model sets l left r right alike_given op ty v number (fits_fixed v sets fits);
    guess_made = λ v number fits. binary_guess model sets left l right r alike_made op ty v number (fits_fixed v sets fits);
    mentions = either;
  }

  compare_same : (op : CmpOp)
      → IsSameAsking sets (asking_of model sets (question.Compare op l r)) (asking_of model sets (question.Compare op left right))
  compare_same op = record {
    operation = both_values (λ (x y : ℤ). operation.Compare op x y);
    to_given = λ v fits. compare_followed model sets l left r right alike_given op v;
    to_made = λ v fits. compare_followed model sets left l right r alike_made op v;
    guess_given = λ v number fits may. may;
    guess_made = λ v number fits may. may;
    mentions = either;
  }

  order_same : IsSameAsking sets (asking_of model sets (question.Order l r)) (asking_of model sets (question.Order left right))
  order_same = record {
    operation = both_values (λ (x y : ℤ). operation.Order x y);
    to_given = λ v fits. order_followed model sets l left r right alike_given v;
    to_made = λ v fits. order_followed model sets left l right r alike_made v;
    guess_given = λ v number fits may. may;
    guess_made = λ v number fits may. may;
    mentions = either;
  }

  product_same : IsSameAsking sets (asking_of model sets (question.Product l r)) (asking_of model sets (question.Product left right))
  product_same = record {
    operation = both_values (λ (x y : ℤ). operation.Product x y);
    to_given = λ v fits. product_followed model sets l left r right alike_given v;
    to_made = λ v fits. product_followed model sets left l right r alike_made v;
    guess_given = λ v number fits may. may;
    guess_made = λ v number fits may. may;
    mentions = either;
  }

  sum_same : (size : ℕ) → IsSameAsking sets (asking_of model sets (question.Sum l r size)) (asking_of model sets (question.Sum left right size))
  sum_same size = record {
    operation = both_values (λ (x y : ℤ). operation.Sum x y size);
    to_given = λ v fits. sum_followed model sets l left r right alike_given size v;
    to_made = λ v fits. sum_followed model sets left l right r alike_made size v;
    guess_given = λ v number fits may. may;
    guess_made = λ v number fits may. may;
    mentions = either;
  }

  difference_same : (size : ℕ)
      → IsSameAsking sets (asking_of model sets (question.Difference l r size)) (asking_of model sets (question.Difference left right size))
  difference_same size = record {
    operation = both_values (λ (x y : ℤ). operation.Difference x y size);
    to_given = λ v fits. difference_followed model sets l left r right alike_given size v;
    to_made = λ v fits. difference_followed model sets left l right r alike_made size v;
    guess_given = λ v number fits may. may;
    guess_made = λ v number fits may. may;
    mentions = either;
  }

module _ (model : DataModel) (sets : Sets) (given made : Lin) (f : IsReadyForm sets given made) where
  unary_same : (op : UnOp) (ty : IntType)
      → IsSameAsking sets (asking_of model sets (question.Unary op ty made)) (asking_of model sets (question.Unary op ty given))
  unary_same op ty = record {
    operation = λ v fits. ap (λ (x : ℤ). operation.Unary op ty x) (f.value v (fits_fixed v sets fits));
    to_given = λ v fits followed. tt;
    to_made = λ v fits followed. tt;
    guess_given = λ v number fits may. may;
    guess_made = λ v number fits may. may;
    mentions = f.symbol;
  }

  test_same : (tested : Tested)
      → IsSameAsking sets (asking_of model sets (question.Test tested made)) (asking_of model sets (question.Test tested given))
  test_same tested = record {
    operation = λ v fits. ap (λ (x : ℤ). operation.Show (label_of tested (holds_for tested x))) (f.value v (fits_fixed v sets fits));
    to_given = λ v fits followed. tt;
    to_made = λ v fits followed. tt;
    guess_given = λ v number fits may. may;
    guess_made = λ v number fits may. may;
    mentions = f.symbol;
  }

  convert_same : (ty : IntType)
      → IsSameAsking sets (asking_of model sets (question.Convert ty made)) (asking_of model sets (question.Convert ty given))
  convert_same ty =
      let converts : (v : Valuation) → Fits v sets → operation.Convert ty (value_of v made) ≡ operation.Convert ty (value_of v given) =
      λ v fits. ap (λ (x : ℤ). operation.Convert ty x) (f.value v (fits_fixed v sets fits)) in
      record {
        operation = converts;
        to_given = λ v fits followed. elim followed [
          | inl fixed ↦ inl (f.to_given fixed)
          | inr near ↦ inr (subst (λ (o : Operation). ¬ IsFar (own_quotient model o)) (converts v fits) near)
        ];
        to_made = λ v fits followed. elim followed [
          | inl fixed ↦ inl (f.to_made fixed)
          | inr near ↦ inr (subst (λ (o : Operation). ¬ IsFar (own_quotient model o)) (sym (converts v fits)) near)
        ];
        guess_given = λ v number fits may. may;
        guess_made = λ v number fits may. may;
        mentions = f.symbol;
      }

callee_same : (model : DataModel) (sets : Sets) (function : ℕ)
    → IsSameAsking sets (asking_of model sets (question.Callee function)) (asking_of model sets (question.Callee function))
callee_same model sets function = record {
  operation = λ v fits. refl;
  to_given = λ v fits followed. followed;
  to_made = λ v fits followed. followed;
  guess_given = λ v number fits may. may;
  guess_made = λ v number fits may. may;
  mentions = λ s mentioned. mentioned;
}

module _ (model : DataModel) (sets : Sets) (given made : Question) (ready : HasReadyOperands sets made) (w : Valuation) (fits : Fits w sets) where
  -- two operands that are ready
  of_two : (left right : Lin) (build : Lin → Lin → Question) → IsFormOfTwo sets left right build made
      → ((l r : Lin) → HasReadyOperands sets (build l r) → IsReadyOperand sets l × IsReadyOperand sets r)
      → ((l r : Lin) → IsReadyForm sets left l → IsReadyForm sets right r
      → IsSameAsking sets (asking_of model sets (build l r)) (asking_of model sets given))
      → IsSameAsking sets (asking_of model sets made) (asking_of model sets given)
  of_two left right build h are same =
      let both = are h.first h.second (subst (λ (q : Question). HasReadyOperands sets q) h.is ready) in
      subst (λ (q : Question). IsSameAsking sets (asking_of model sets q) (asking_of model sets given)) (sym h.is)
      (same h.first h.second (ready_form sets left h.first h.first_form both.0.several w fits)
      (ready_form sets right h.second h.second_form both.1.several w fits))

  of_parts : (left right : Lin) (build : Lin → Lin → Question) → IsFormOfTwo sets left right build made
      → ((l r : Lin) → HasReadyOperands sets (build l r) → IsReadyPart sets l × IsReadyPart sets r)
      → ((l r : Lin) → IsReadyForm sets left l → IsReadyForm sets right r
      → IsSameAsking sets (asking_of model sets (build l r)) (asking_of model sets given))
      → IsSameAsking sets (asking_of model sets made) (asking_of model sets given)
  of_parts left right build h are same =
      let both = are h.first h.second (subst (λ (q : Question). HasReadyOperands sets q) h.is ready) in
      subst (λ (q : Question). IsSameAsking sets (asking_of model sets q) (asking_of model sets given)) (sym h.is)
      (same h.first h.second (ready_form sets left h.first h.first_form both.0.1 w fits)
      (ready_form sets right h.second h.second_form both.1.1 w fits))

  of_one : (term : Lin) (build : Lin → Question) → IsFormOfOne sets term build made
      → ((t : Lin) → HasReadyOperands sets (build t) → IsReadyOperand sets t)
      → ((t : Lin) → IsReadyForm sets term t → IsSameAsking sets (asking_of model sets (build t)) (asking_of model sets given))
      → IsSameAsking sets (asking_of model sets made) (asking_of model sets given)
  of_one term build h is same =
      let one = is h.operand (subst (λ (q : Question). HasReadyOperands sets q) h.is ready) in
      subst (λ (q : Question). IsSameAsking sets (asking_of model sets q) (asking_of model sets given)) (sym h.is)
      (same h.operand (ready_form sets term h.operand h.form one.several w fits))

pub question_same : (model : DataModel) (sets : Sets) (given made : Question) → IsFormOfQuestion sets given made → HasReadyOperands sets made
    → (w : Valuation) → Fits w sets → IsSameAsking sets (asking_of model sets made) (asking_of model sets given)
question_same model sets (question.Binary op ty left right) made h ready w fits =
    of_two model sets (question.Binary op ty left right) made ready w fits left right (λ l r. question.Binary op ty l r) h (λ l r both. both)
    (λ l r f g. binary_same model sets left right l r f g op ty)
question_same model sets (question.Unary op ty term) made h ready w fits =
    of_one model sets (question.Unary op ty term) made ready w fits term (λ t. question.Unary op ty t) h (λ t one. one)
    (λ t f. unary_same model sets term t f op ty)
question_same model sets (question.Convert ty term) made h ready w fits =
    of_one model sets (question.Convert ty term) made ready w fits term (λ t. question.Convert ty t) h (λ t one. one)
    (λ t f. convert_same model sets term t f ty)
question_same model sets (question.Compare op left right) made h ready w fits =
    of_two model sets (question.Compare op left right) made ready w fits left right (λ l r. question.Compare op l r) h (λ l r both. both)
    (λ l r f g. compare_same model sets left right l r f g op)
question_same model sets (question.Order first second) made h ready w fits =
    of_parts model sets (question.Order first second) made ready w fits first second (λ l r. question.Order l r) h (λ l r both. both)
    (λ l r f g. order_same model sets first second l r f g)
question_same model sets (question.Product count size) made h ready w fits =
    of_two model sets (question.Product count size) made ready w fits count size (λ l r. question.Product l r) h (λ l r both. both)
    (λ l r f g. product_same model sets count size l r f g)
question_same model sets (question.Sum offset amount size) made h ready w fits =
    of_two model sets (question.Sum offset amount size) made ready w fits offset amount (λ l r. question.Sum l r size) h (λ l r both. both)
    (λ l r f g. sum_same model sets offset amount l r f g size)
question_same model sets (question.Difference left right size) made h ready w fits =
    of_two model sets (question.Difference left right size) made ready w fits left right (λ l r. question.Difference l r size) h (λ l r both. both)
    (λ l r f g. difference_same model sets left right l r f g size)
question_same model sets (question.Test tested term) made h ready w fits =
    of_one model sets (question.Test tested term) made ready w fits term (λ t. question.Test tested t) h (λ t one. one)
    (λ t f. test_same model sets term t f tested)
question_same model sets (question.Callee function) made h ready w fits =
    subst (λ (q : Question). IsSameAsking sets (asking_of model sets q) (asking_of model sets (question.Callee function))) (sym h)
    (callee_same model sets function)

-- the pieces of a question's form are those of the question
pub asked_split : (model : DataModel) (sets : Sets) (guess : ℕ) (given made : Question) (pieces : List Piece)
    → IsFormOfQuestion sets given made → HasReadyOperands sets made → AreAnswers model sets guess made pieces
    → AreAnswers model sets guess given pieces
asked_split model sets guess given made pieces h ready split =
    split_same model sets guess (asking_of model sets made) (asking_of model sets given)
    (question_same model sets given made h ready) pieces split
