-- The operands of a question under valuations that agree on their symbols, and that equal operands are no ground to guess. For `IsEvidentGuess`.
use Rattle.std.proofs.Common.{◌≡◌, ℤ, pos, Bool, true, false, Option, None, Some, refl, sym, ap, ◌∙◌, subst}
use Rattle.std.specs.Prelude.{IsTrue, not, ◌||◌}
use Rattle.std.specs.Ordering.{int_eq}
use Rattle.std.proofs.lemmas.Bool.Decides.{Decides-int_eq}
use Rattle.cs_types.specs.declared.data_model.DataModel.{DataModel}
use Rattle.cs_ast.specs.declared.typed.operator.BinOp.{BinOp}
use Rattle.cs_ast.specs.declared.typed.operator.BinOp.TheVariants.{Add, Sub, Mul, Div, Rem, Shl, Shr, And, Xor, Or}
use Rattle.cs_ast.specs.declared.typed.operator.CmpOp.{CmpOp}
use Rattle.cs_ast.specs.declared.typed.operator.CmpOp.TheVariants.{Less, AtMost, More, AtLeast, Equal, Differs}
use Rattle.cs_events.specs.declared.operation.Operation.{Operation}
use Rattle.cs_events.specs.declared.operation.Operation.TheVariants.{Binary, Unary, Convert, Compare, Order, Product, Sum, Difference, Show}
use Rattle.cs_terms.specs.declared.symbol.Sym.{Sym}
use Rattle.cs_terms.specs.declared.term.Lin.{Lin}
use Rattle.cs_terms.specs.Term.{Valuation, value_of, value_with}
use Rattle.cs_state.specs.declared.asked.Asks.{Asks}
use Rattle.cs_state.specs.declared.asked.Asks.TheVariants as asks
use Rattle.cs_eval.specs.declared.question.Question.{Question}
use Rattle.cs_eval.specs.Noted.{IsQuestionOf}
use Rattle.cs_results.specs.declared.run.Others.{Others}
use Rattle.cs_results.specs.declared.run.Others.TheVariants.{One, Two}
use Rattle.cs_findings.specs.GoodFindings.{AllOthers}
use Rattle.cs_findings.specs.Grounds.{Pair, has_ground, binary_ground, comparison_ground, left_differs, right_differs}
use Rattle.cs_findings.specs.Operands.{operands}
use Rattle.cs_corners.specs.Corners.{operands_under}
use Rattle.cs_completeness.proofs.CornerMoves.{AgreeAt}

module _ (v w : Valuation) where
  value_alike_with : (symbol : Option Sym) (slope at value : ℤ) → AgreeAt symbol v w
      → value_with v symbol slope at value ≡ value_with w symbol slope at value
  value_alike_with None slope at value agree = refl
  value_alike_with (Some own) slope at value agree = ap (λ (n : ℤ). value_with (λ symbol. n) (Some own) slope at value) (agree own refl)

  value_alike : (term : Lin) → AgreeAt term.sym v w → value_of v term ≡ value_of w term
  value_alike term agree = value_alike_with term.sym term.slope term.at term.value agree

  both_alike : (left right : Lin) → AgreeAt left.sym v w → AgreeAt right.sym v w
      → ◌≡◌ {A = Pair} (value_of v left, value_of v right) (value_of w left, value_of w right)
  both_alike left right one other = λ i. (value_alike left one i, value_alike right other i)

  abbrev HasSame : Question → Type 0
  HasSame meant = operands_under meant v ≡ operands_under meant w

  pub operands_alike : (what : Asks) (left right : Lin) (meant : Question) → IsQuestionOf what left right meant → AgreeAt left.sym v w
      → AgreeAt right.sym v w → HasSame meant
  operands_alike (asks.Binary op ty) left right meant is one other = subst HasSame (sym is) (both_alike left right one other)
  operands_alike (asks.Convert ty) left right meant is one other = subst HasSame (sym is) (λ i. (value_alike left one i, pos 0))
  operands_alike (asks.Compare op) left right meant is one other = subst HasSame (sym is) (both_alike left right one other)
  operands_alike asks.Order left right meant is one other = subst HasSame (sym is) (both_alike left right one other)
  operands_alike asks.Product left right meant is one other = subst HasSame (sym is) (both_alike left right one other)
  operands_alike asks.Sum left right meant is one other = subst HasSame (sym is.1) (both_alike left right one other)
  operands_alike asks.Difference left right meant is one other = subst HasSame (sym is.1) (both_alike left right one other)

-- equal operands are no ground
itself : (n : ℤ) → int_eq n n ≡ true
itself n = (Decides-int_eq n n).1 refl

module _ (others : Others Pair) (left right : ℤ) (one : left_differs (left, right) others ≡ false) (other : right_differs (left, right) others ≡ false)
  where
    no_binary : (op : BinOp) (far : Bool) → binary_ground op far (left, right) others ≡ false
    no_binary Add far = simp (one, other)
    no_binary Sub far = simp (one, other)
    no_binary Mul far = simp (one, other)
    no_binary Shl far = simp (one, other)
    no_binary Div far = simp (one, other)
    no_binary Rem far = simp (one, other)
    no_binary Shr far = simp (one, other)
    no_binary And far = simp (one, other)
    no_binary Xor far = simp (one, other)
    no_binary Or far = simp (one, other)

    no_comparison : (op : CmpOp) → comparison_ground op (left, right) others ≡ false
    no_comparison Equal = simp (one, other)
    no_comparison Differs = simp (one, other)
    no_comparison Less = simp (one, other)
    no_comparison AtMost = simp (one, other)
    no_comparison More = simp (one, other)
    no_comparison AtLeast = simp (one, other)

module _ (model : DataModel) (others : Others Pair) where
  none_without : (operation : Operation) → left_differs (operands operation) others ≡ false → right_differs (operands operation) others ≡ false
      → has_ground model operation others ≡ false
  none_without (Binary op ty left right) one other = no_binary others left right one other op _
  none_without (Unary op ty operand) one other = refl
  none_without (Convert ty number) one other = simp one
  none_without (Compare op left right) one other = no_comparison others left right one other op
  none_without (Order first second) one other = simp (one, other)
  none_without (Product count size) one other = simp (one, other)
  none_without (Sum offset amount size) one other = simp (one, other)
  none_without (Difference left right size) one other = simp (one, other)
  none_without (Show what) one other = refl

same_left : (mine : Pair) (others : Others Pair) → AllOthers (λ (pair : Pair). pair ≡ mine) others → left_differs mine others ≡ false
same_left mine (One first) same = ap (λ (pair : Pair). not (int_eq pair.0 mine.0)) same ∙ ap not (itself mine.0)
same_left mine (Two first second) (same, also) =
    (λ i. not (int_eq (same i).0 mine.0) || not (int_eq (also i).0 mine.0)) ∙ ap (λ (b : Bool). not b || not b) (itself mine.0)

same_right : (mine : Pair) (others : Others Pair) → AllOthers (λ (pair : Pair). pair ≡ mine) others → right_differs mine others ≡ false
same_right mine (One first) same = ap (λ (pair : Pair). not (int_eq pair.1 mine.1)) same ∙ ap not (itself mine.1)
same_right mine (Two first second) (same, also) =
    (λ i. not (int_eq (same i).1 mine.1) || not (int_eq (also i).1 mine.1)) ∙ ap (λ (b : Bool). not b || not b) (itself mine.1)

-- if all operands are those of the operation, there is no ground
pub no_ground : (model : DataModel) (operation : Operation) (others : Others Pair) → AllOthers (λ (pair : Pair). pair ≡ operands operation) others
    → IsTrue (has_ground model operation others) → ⊥
no_ground model operation others same there =
    let no = none_without model others operation (same_left (operands operation) others same) (same_right (operands operation) others same) in
    absurd (cc (there, no))
