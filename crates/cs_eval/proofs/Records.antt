-- What the pieces with a guess record, depending on their shape: for the contracts of the functions that make them.
use Rattle.std.proofs.Common.{◌≡◌, inl, inr, ℕ, ℤ, pos, ◌-ℤ◌, List, [], ◌∷◌, ◌++◌, Option, Some, None, refl, sym, ap, subst}
use Rattle.std.proofs.Common.{◌∙◌}
use Rattle.std.specs.Prelude.{IfSome}
use Rattle.std.proofs.lemmas.Option.{none-some, same_Some}
use Rattle.cs_ranges.specs.declared.range_set.Interval.{Interval}
use Rattle.cs_ranges.specs.RangeSet.{IsLeast, IsGreatest}
use Rattle.cs_types.specs.declared.data_model.DataModel.{DataModel}
use Rattle.cs_types.specs.declared.int_type.IntType.{IntType}
use Rattle.cs_ast.specs.declared.typed.operator.BinOp.{BinOp}
use Rattle.cs_ast.specs.declared.typed.operator.CmpOp.{CmpOp}
use Rattle.cs_ast.specs.declared.typed.operator.CmpOp.TheVariants.{AtLeast}
use Rattle.cs_events.specs.declared.event.Label.{Label}
use Rattle.cs_events.specs.declared.event.Wrap.{Wrap}
use Rattle.cs_terms.specs.declared.product.Piece.{Piece as Part}
use Rattle.cs_terms.specs.declared.product.ProductPieces.{ProductPieces as Parts}
use Rattle.cs_terms.specs.declared.symbol.Sym.{Sym}
use Rattle.cs_terms.specs.declared.term.Lin.{Lin}
use Rattle.cs_terms.specs.declared.term.Lin2.{Lin2}
use Rattle.cs_terms.specs.Term.{Valuation, value_of, value_of_sum}
use Rattle.cs_constraints.specs.Constraints.{Sets, set_of, Fits}
use Rattle.cs_events.specs.Operations.{compares, truth_number}
use Rattle.cs_state.specs.declared.asked.Asks.{Asks}
use Rattle.cs_state.specs.declared.asked.Asks.TheVariants as asks
use Rattle.cs_state.specs.declared.asked.Fact.{Fact}
use Rattle.cs_eval.specs.declared.guesses.Inexact.{Inexact}
use Rattle.cs_eval.specs.declared.piece.Guessed.{Guessed}
use Rattle.cs_eval.specs.declared.piece.Piece.{Piece}
use Rattle.cs_eval.specs.declared.question.Question.{Question}
use Rattle.cs_eval.specs.declared.question.Question.TheVariants as question
use Rattle.cs_eval.specs.Followed.{IsFollowed, asking_of, AreAnswers}
use Rattle.cs_eval.specs.Parts.{unguessed, unguessed_if}
use Rattle.cs_eval.specs.Recorded.{AreEndsOf, IsRecordOf, RecordsInexact, IsInexactOf, IsRecordOfQuestion, RecordsQuestion}
use Rattle.cs_eval.specs.Recorded.{AreRecordedAnswers}
use Rattle.cs_eval.specs.Splits.{Asking, IsPieceWith, IsPieceOf, Each}
use Rattle.cs_eval.specs.Wraps.{IsOfPart, IsWholeGuess, IsOfFar, AreOfParts, AreOfProduct, AreConverted}
use Rattle.cs_eval.proofs.PieceLists.{each_append}
use Rattle.cs_eval.proofs.Signs.{compares-diff}

-- what a piece records about its guess, if it has one
abbrev pub Records : (Guessed → Type 0) → Piece → Type 0
Records Is piece = IfSome piece.guessed Is

module _ (Is : Guessed → Type 0) where
  pub known_records : (piece : Piece) (noted : Guessed) → piece.guessed ≡ Some noted → Is noted → Records Is piece
  known_records piece noted e h = subst (λ (o : Option Guessed). IfSome o Is) (sym e) h

  pub unguessed_records : (what : Label) (answer : Lin) (sets : Sets) (pieces : List Piece) → pieces ≡ unguessed what answer sets ∷ []
      → Each (Records Is) pieces
  unguessed_records what answer sets pieces made = subst (λ (ps : List Piece). Each (Records Is) ps) (sym made) (tt, tt)

  half_records : (what : Label) (answer : Lin) (half : Option Sets) → Each (Records Is) (unguessed_if what answer half)
  half_records what answer None = tt
  half_records what answer (Some sets) = (tt, tt)

  pub halves_records : (held failed : Label) (a b : Lin) (holds fails : Option Sets) (pieces : List Piece)
      → pieces ≡ unguessed_if held a holds ++ unguessed_if failed b fails → Each (Records Is) pieces
  halves_records held failed a b holds fails pieces made =
      subst (λ (ps : List Piece). Each (Records Is) ps) (sym made)
      (each_append (Records Is) (unguessed_if held a holds) (unguessed_if failed b fails) (half_records held a holds) (half_records failed b fails))

  -- nothing is guessed if the operation is followed under each valuation
  module _ (model : DataModel) (sets : Sets) (guess : ℕ) (asking : Asking) (followed : (v : Valuation) → asking.IsFollowed v) where
    with_records : (piece : Piece) (noted : Option Guessed) → IsPieceWith model sets guess asking noted piece → (v : Valuation)
        → Fits v piece.constraints → IfSome noted Is
    with_records piece None h v fits = tt
    with_records piece (Some noted) h v fits = absurd ((h.from v fits).1 (followed v))

    pub followed_records : (pieces : List Piece) → Each (IsPieceOf model sets guess asking) pieces → Each (Records Is) pieces
    followed_records [] h = tt
    followed_records (piece ∷ pieces) h = (
      with_records piece piece.guessed h.0.meaning h.0.some.0 h.0.some.1,
      followed_records pieces h.1,
    )

pub exact_recorded : (model : DataModel) (sets : Sets) (guess : ℕ) (asked : Question) → ((v : Valuation) → IsFollowed model sets asked v)
    → (pieces : List Piece) → AreAnswers model sets guess asked pieces → AreRecordedAnswers model sets guess asked pieces
exact_recorded model sets guess asked followed pieces split = record {
  answers = split;
  records = followed_records (IsRecordOfQuestion model sets asked) model sets guess (asking_of model sets asked) followed pieces split.each;
}

-- the ends of a declared symbol's range
pub range_ends : (sets : Sets) (symbol : Option Sym) (s : Sym) (ends : Interval) (set : List Interval) → symbol ≡ Some s
    → set_of sets s.0 ≡ Some set → IsLeast set ends.low → IsGreatest set ends.high → AreEndsOf sets symbol ends
range_ends sets symbol s ends set is known least greatest = record {
  range = λ declared t e. (set, subst (λ (x : Sym). set_of sets x.0 ≡ Some set) (same_Some s t (sym is ∙ e)) known, least, greatest);
  none = λ e. absurd (none-some s (sym e ∙ is));
}

-- the pieces of a guessed operation
module _ (model : DataModel) (sets : Sets) (guess : ℕ) (inexact : Inexact) where
  none_records : (pieces : List Piece) → pieces ≡ [] → Each (RecordsInexact sets inexact) pieces
  none_records pieces made = subst (λ (ps : List Piece). Each (RecordsInexact sets inexact) ps) (sym made) tt

  one_records : (piece : Piece) (pieces : List Piece) → pieces ≡ piece ∷ [] → RecordsInexact sets inexact piece
      → Each (RecordsInexact sets inexact) pieces
  one_records piece pieces made h = subst (λ (ps : List Piece). Each (RecordsInexact sets inexact) ps) (sym made) (h, tt)

  pub whole_records : (pieces : List Piece) → IsWholeGuess model sets guess inexact pieces → Each (RecordsInexact sets inexact) pieces
  whole_records pieces h = one_records h.piece pieces h.made h.records

  part_records : (s : Sym) (wrap : Wrap) (part : Option Part) (pieces : List Piece) → IsOfPart sets s wrap part pieces
      → Each (RecordsInexact sets inexact) pieces
  part_records s wrap None pieces made = none_records pieces made
  part_records s wrap (Some part) pieces (inl none) = none_records pieces none.1
  part_records s wrap (Some part) pieces (inr one) =
      one_records one.0 pieces one.1 (subst (λ (o : Option Guessed). IfSome o (IsRecordOf sets inexact)) (sym one.2.unguessed) tt)

  far_records : (s : Sym) (far : List Interval) (pieces : List Piece) → IsOfFar model sets guess s far (Some inexact) pieces
      → Each (RecordsInexact sets inexact) pieces
  far_records s far pieces (inl none) = none_records pieces none.1
  far_records s far pieces (inr one) = one_records one.0 pieces one.1 one.2.records

  parts_records : (s : Sym) (parts : Parts) (pieces : List Piece) → AreOfParts model sets guess s parts (Some inexact) pieces
      → Each (RecordsInexact sets inexact) pieces
  parts_records s parts pieces h =
      let Is = RecordsInexact sets inexact in
      subst (λ (ps : List Piece). Each Is ps) (sym h.made)
      (each_append Is ((h.under ++ h.same) ++ h.past) h.far
      (each_append Is (h.under ++ h.same) h.past
      (each_append Is h.under h.same (part_records s _ parts.under h.under h.under_is) (part_records s _ parts.same h.same h.same_is))
      (part_records s _ parts.past h.past h.past_is))
      (far_records s parts.far h.far h.far_is))

  pub product_records : (ty : IntType) (term : Lin) (factor : ℤ) (pieces : List Piece)
      → AreOfProduct model sets guess ty term factor (Some inexact) pieces → Each (RecordsInexact sets inexact) pieces
  product_records ty term factor pieces h = parts_records h.sym h.parts pieces h.made

  pub converted_records : (ty : IntType) (exact : Lin) (pieces : List Piece) → AreConverted model sets guess ty exact (Some inexact) pieces
      → Each (RecordsInexact sets inexact) pieces
  converted_records ty exact pieces (inl (none, inl h)) = unguessed_records (IsRecordOf sets inexact) _ _ sets pieces h.made
  converted_records ty exact pieces (inl (none, inr h)) =
      whole_records pieces (subst (λ (i : Inexact). IsWholeGuess model sets guess i pieces) (same_Some h.inexact inexact (sym h.asked_for)) h.whole)
  converted_records ty exact pieces (inr (inl h)) = unguessed_records (IsRecordOf sets inexact) _ _ sets pieces h.made
  converted_records ty exact pieces (inr (inr h)) = product_records ty exact (pos 1) pieces h

-- a record of an operation is one of the question for that operation
module _ (model : DataModel) (sets : Sets) (asked : Question) (inexact : Inexact) (what : Asks) (left right : Lin) (fact : Option Fact)
    (same : inexact ≡ record { asks = what; left = left; right = right; fact = fact })
    (is : IsInexactOf model sets asked what left right fact) where
  of_question : (noted : Guessed) → IsRecordOf sets inexact noted → IsRecordOfQuestion model sets asked noted
  of_question noted h = record {
    meant = rw (h.operation, h.left, h.right, h.fact, same) is;
    left_ends = h.left_ends;
    right_ends = h.right_ends;
  }

  with_question : (noted : Option Guessed) → IfSome noted (IsRecordOf sets inexact) → IfSome noted (IsRecordOfQuestion model sets asked)
  with_question None h = tt
  with_question (Some noted) h = of_question noted h

  question_records : (pieces : List Piece) → Each (RecordsInexact sets inexact) pieces → Each (RecordsQuestion model sets asked) pieces
  question_records [] h = tt
  question_records (piece ∷ pieces) h = (with_question piece.guessed h.0, question_records pieces h.1)

  pub recorded : (guess : ℕ) (pieces : List Piece) → AreAnswers model sets guess asked pieces → Each (RecordsInexact sets inexact) pieces
      → AreRecordedAnswers model sets guess asked pieces
  recorded guess pieces split records = record { answers = split; records = question_records pieces records }

-- the operations that may be guessed
module _ (model : DataModel) (sets : Sets) (left right : Lin) where
  pub binary_is : (op : BinOp) (ty : IntType) → IsInexactOf model sets (question.Binary op ty left right) (asks.Binary op ty) left right None
  binary_is op ty = record { asked = refl; other = tt; has_fact = refl; determines = λ v fits. tt }

  pub conversion_is : (ty : IntType) → right.sym ≡ None → IsInexactOf model sets (question.Convert ty left) (asks.Convert ty) left right None
  conversion_is ty none = record { asked = refl; other = none; has_fact = refl; determines = λ v fits. tt }

  pub comparison_is : (op : CmpOp) (term : Lin2) → ((v : Valuation) → value_of_sum v term ≡ value_of v left -ℤ value_of v right)
      → IsInexactOf model sets (question.Compare op left right) (asks.Compare op) left right (Some (record { op = op; term = term }))
  comparison_is op term value = record {
    asked = refl;
    other = tt;
    has_fact = refl;
    determines = λ v fits.
        ap truth_number (compares-diff op (value_of v left) (value_of v right) ∙ ap (λ (n : ℤ). compares op n (pos 0)) (sym (value v)));
  }

  pub order_is : IsInexactOf model sets (question.Order left right) asks.Order left right
      (Some (record { op = AtLeast; term = record { first = left; second = right } }))
  order_is = record {
    asked = refl;
    other = tt;
    has_fact = (record { op = AtLeast; term = record { first = left; second = right } }, refl, refl);
    determines = λ v fits. refl;
  }

  pub product_is : IsInexactOf model sets (question.Product left right) asks.Product left right None
  product_is = record { asked = refl; other = tt; has_fact = refl; determines = λ v fits. tt }

  pub sum_is : (bytes : ℕ) → IsInexactOf model sets (question.Sum left right bytes) asks.Sum left right None
  sum_is bytes = record { asked = (bytes, refl); other = tt; has_fact = refl; determines = λ v fits. tt }

  pub difference_is : (bytes : ℕ) → IsInexactOf model sets (question.Difference left right bytes) asks.Difference left right None
  difference_is bytes = record { asked = (bytes, refl); other = tt; has_fact = refl; determines = λ v fits. tt }
