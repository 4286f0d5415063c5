-- The pieces of comparisons: for the contract of `comparison`.
use Rattle.std.proofs.Common.{◌≡◌, ◌⊎◌, inl, inr, ℕ, Bool, ℤ, pos, ◌+ℤ◌, ◌-ℤ◌, List, Option, Some, None, refl, sym, ap}
use Rattle.std.proofs.Common.{subst, ◌∙◌}
use Rattle.std.specs.Prelude.{int_le}
use Rattle.std.proofs.lemmas.Option.{none-some, same_Some}
use Rattle.cs_types.specs.declared.data_model.DataModel.{DataModel}
use Rattle.cs_ast.specs.declared.typed.operator.CmpOp.{CmpOp}
use Rattle.cs_ast.specs.declared.typed.operator.CmpOp.TheVariants.{AtLeast}
use Rattle.cs_terms.specs.declared.symbol.Sym.{Sym}
use Rattle.cs_terms.specs.declared.term.Lin.{Lin}
use Rattle.cs_terms.specs.declared.term.Lin2.{Lin2}
use Rattle.cs_terms.specs.Term.{Valuation, value_of, value_of_sum, HaveTwoSymbols}
use Rattle.cs_constraints.specs.Constraints.{Sets, set_of}
use Rattle.cs_events.specs.declared.event.Label.TheVariants as label
use Rattle.cs_events.specs.Operations.{compares}
use Rattle.cs_eval.specs.declared.piece.Piece.{Piece}
use Rattle.cs_eval.specs.declared.question.Question.TheVariants as question
use Rattle.cs_eval.specs.declared.truths.Followed.{Followed}
use Rattle.cs_eval.specs.declared.truths.Followed.TheVariants.{Where, Always as AlwaysIs, No}
use Rattle.cs_eval.specs.Followed.{asking_of, AreAnswers, IsDecided}
use Rattle.cs_eval.specs.Operands.{AreOverOne, IsSeveral, IsReadyOperand}
use Rattle.cs_eval.specs.Parts.{Truths}
use Rattle.cs_eval.specs.Splits.{Asking, IsSplit}
use Rattle.cs_eval.specs.Truths.{IsReady, ArePiecesOf, IsFollowedBySign}
use Rattle.cs_eval.proofs.OperandValues.{decide}
use Rattle.cs_eval.proofs.Signs.{compares-diff, same_decision}
use Rattle.cs_eval.proofs.TruthPieces.{IsTruth, is_true-number, where_split, all_split, guess_split}

-- the term that decides a truth is ready
pub followed_ready : (sets : Sets) (op : CmpOp) (term : Lin2) (followed : Followed) → IsFollowedBySign sets op term followed → IsReady sets followed
followed_ready sets op term (Where by sum) h = h.inside
followed_ready sets op term (AlwaysIs holds) h = tt
followed_ready sets op term No h = tt

-- when an operation that compares a sum with 0 is followed
pub record IsFollowedSum (before : Sets) (asking : Asking) (op : CmpOp) (term : Lin2) : Type 0 where
  pub over : ¬ HaveTwoSymbols term.first.sym term.second.sym → (v : Valuation) → asking.IsFollowed v
  pub decided : IsDecided before op (λ v. value_of_sum v term) → (v : Valuation) → asking.IsFollowed v
  pub not_else : HaveTwoSymbols term.first.sym term.second.sym → ¬ IsDecided before op (λ v. value_of_sum v term) → (v : Valuation)
      → ¬ asking.IsFollowed v
  pub mentioned : (s : Sym) → (term.first.sym ≡ Some s) ⊎ (term.second.sym ≡ Some s) → asking.Mentions s

pub sign_split : (model : DataModel) (before : Sets) (guess : ℕ) (asking : Asking) (truth : Truths) (op : CmpOp) (term : Lin2) (followed : Followed)
    (pieces : List Piece) → IsTruth model asking truth → ((v : Valuation) → truth v ≡ compares op (value_of_sum v term) (pos 0))
    → IsFollowedSum before asking op term → set_of before guess ≡ None → IsFollowedBySign before op term followed
    → ArePiecesOf before guess followed pieces → IsSplit model before guess asking pieces
sign_split model before guess asking truth op term (Where by sum) pieces is same sums fresh h made =
    where_split model before guess asking truth is by sum pieces made
    (λ v fits. same v ∙ ap (λ (n : ℤ). compares op n (pos 0)) (sym (h.value v))
    ∙ ap (λ (o : CmpOp). compares o (value_of v sum) (pos 0)) (sym h.comparison))
    (λ v fits. sums.over h.one_symbol v) (λ s e. sums.mentioned s (h.symbol s e))
sign_split model before guess asking truth op term (AlwaysIs holds) pieces is same sums fresh h made =
    all_split model before guess asking truth is holds pieces made (λ v fits. same v ∙ h.0 v fits) (λ v fits. sums.decided h.1 v)
sign_split model before guess asking truth op term No pieces is same sums fresh h made =
    guess_split model before guess asking truth is fresh (λ v fits. sums.not_else h.0 h.1 v) pieces made

-- a comparison shows its truth
compare_shows : (model : DataModel) (sets : Sets) (op : CmpOp) (left right : Lin)
    → IsTruth model (asking_of model sets (question.Compare op left right)) (λ v. compares op (value_of v left) (value_of v right))
compare_shows model sets op left right = record {
  shown = λ v. ap (λ (b : Bool). label.Truth b) (is_true-number (compares op (value_of v left) (value_of v right)));
  own = λ v. refl;
  shown_guess = λ v number. refl;
  to_guess = λ v number h. h;
  from_guess = λ v number h. h;
}

pub over_one : (sets : Sets) (left right : Lin) (other : Option Sym) → other ≡ right.sym → ¬ HaveTwoSymbols left.sym other → AreOverOne sets left right
over_one sets left right other same h = by left.sym other refl refl h
  where
    by : (a b : Option Sym) → left.sym ≡ a → other ≡ b → ¬ HaveTwoSymbols a b → AreOverOne sets left right
    by None b e f n = inl (inl e)
    by (Some s) None e f n = inr (inl (inl (sym same ∙ f)))
    by (Some s) (Some t) e f n = elim (decide s.0 t.0) [
      | inl one ↦
          let made : ℕ → Sym = λ k. record { 0 = k } in
          inr (inr (e ∙ ap (λ (k : ℕ). Some (made k)) one ∙ sym f ∙ same))
      | inr differ ↦ absurd (n (λ (z : s ≡ t). differ (ap (λ (y : Sym). y.0) z)))
    ]

pub not_over_one : (sets : Sets) (left right : Lin) (other : Option Sym) → other ≡ right.sym → IsSeveral sets left → IsSeveral sets right
    → HaveTwoSymbols left.sym other → ¬ AreOverOne sets left right
not_over_one sets left right other same l r two over = by left.sym other refl refl two over
  where
    by : (a b : Option Sym) → left.sym ≡ a → other ≡ b → HaveTwoSymbols a b → ¬ AreOverOne sets left right
    by None b e f h o = h
    by (Some s) None e f h o = h
    by (Some s) (Some t) e f h (inl (inl none)) = none-some s (sym none ∙ e)
    by (Some s) (Some t) e f h (inl (inr one)) = l one.0 one.1
    by (Some s) (Some t) e f h (inr (inl (inl none))) = none-some t (sym none ∙ sym same ∙ f)
    by (Some s) (Some t) e f h (inr (inl (inr one))) = r one.0 one.1
    by (Some s) (Some t) e f h (inr (inr eq)) = h (same_Some s t (sym e ∙ eq ∙ sym same ∙ f))

pub compare_split : (model : DataModel) (sets : Sets) (guess : ℕ) (op : CmpOp) (left right : Lin) (term : Lin2) (followed : Followed)
    (pieces : List Piece) → IsReadyOperand sets left → IsReadyOperand sets right → term.first ≡ left → term.second.sym ≡ right.sym
    → ((v : Valuation) → value_of_sum v term ≡ value_of v left -ℤ value_of v right) → set_of sets guess ≡ None
    → IsFollowedBySign sets op term followed → ArePiecesOf sets guess followed pieces
    → AreAnswers model sets guess (question.Compare op left right) pieces
compare_split model sets guess op left right term followed pieces l r first second value fresh h made =
    sign_split model sets guess (asking_of model sets (question.Compare op left right)) (λ v. compares op (value_of v left) (value_of v right)) op term
    followed pieces (compare_shows model sets op left right)
    (λ v. compares-diff op (value_of v left) (value_of v right) ∙ ap (λ (n : ℤ). compares op n (pos 0)) (sym (value v)))
    (record {
      over = λ n v. inl (over_one sets left right term.second.sym second
          (subst (λ (t : Lin). ¬ HaveTwoSymbols t.sym term.second.sym) first n));
      decided = λ d v. inr (same_decision sets op (λ w. value_of_sum w term) (λ w. value_of w left -ℤ value_of w right) (λ w fits. value w) d);
      not_else = λ two n v both. elim both [
        | inl over ↦
            not_over_one sets left right term.second.sym second l.several r.several
            (subst (λ (t : Lin). HaveTwoSymbols t.sym term.second.sym) first two) over
        | inr d ↦ n (same_decision sets op (λ w. value_of w left -ℤ value_of w right) (λ w. value_of_sum w term) (λ w fits. sym (value w)) d)
      ];
      mentioned = λ s e. elim e [
        | inl a ↦ inl (subst (λ (t : Lin). t.sym ≡ Some s) first a)
        | inr b ↦ inr (sym second ∙ b)
      ];
    })
    fresh h made

-- an order test shows its truth
order_shows : (model : DataModel) (sets : Sets) (first second : Lin)
    → IsTruth model (asking_of model sets (question.Order first second)) (λ v. int_le (pos 0) (value_of v first +ℤ value_of v second))
order_shows model sets first second = record {
  shown = λ v. ap (λ (b : Bool). label.Truth b) (is_true-number (int_le (pos 0) (value_of v first +ℤ value_of v second)));
  own = λ v. refl;
  shown_guess = λ v number. refl;
  to_guess = λ v number h. h;
  from_guess = λ v number h. h;
}

pub order_split : (model : DataModel) (sets : Sets) (guess : ℕ) (first second : Lin) (followed : Followed) (pieces : List Piece)
    → IsSeveral sets first → IsSeveral sets second → set_of sets guess ≡ None
    → IsFollowedBySign sets AtLeast (record { first = first; second = second }) followed → ArePiecesOf sets guess followed pieces
    → AreAnswers model sets guess (question.Order first second) pieces
order_split model sets guess first second followed pieces f s fresh h made =
    sign_split model sets guess (asking_of model sets (question.Order first second))
    (λ v. int_le (pos 0) (value_of v first +ℤ value_of v second)) AtLeast (record { first = first; second = second })
    followed pieces (order_shows model sets first second) (λ v. refl)
    (record {
      over = λ n v. inl (over_one sets first second second.sym refl n);
      decided = λ d v. inr d;
      not_else = λ two n v both. elim both [
        | inl over ↦ not_over_one sets first second second.sym refl f s two over
        | inr d ↦ n d
      ];
      mentioned = λ z e. e;
    })
    fresh h made
