-- A question whose operands are all constants: for the contract of `answers`.
use Rattle.std.proofs.Common.{◌≡◌, inl, ℕ, pos, List, [], ◌∷◌, None, refl, sym, ap}
use Rattle.cs_types.specs.declared.data_model.DataModel.{DataModel}
use Rattle.cs_terms.specs.declared.term.Lin.{Lin}
use Rattle.cs_terms.specs.Term.{Valuation, value_of}
use Rattle.cs_constraints.specs.Constraints.{Sets, AreInhabited}
use Rattle.cs_events.specs.declared.event.Label.TheVariants as label
use Rattle.cs_events.specs.declared.operation.Operation.{Operation}
use Rattle.cs_events.specs.Operations.{own_result, shows}
use Rattle.cs_eval.specs.declared.piece.Piece.{Piece}
use Rattle.cs_eval.specs.declared.question.Question.{Question}
use Rattle.cs_eval.specs.declared.question.Question.TheVariants as question
use Rattle.cs_eval.specs.Followed.{IsFollowed, asking_of, AreAnswers}
use Rattle.cs_eval.specs.Forms.{AreConstants}
use Rattle.cs_eval.specs.Parts.{number_term, unguessed}
use Rattle.cs_eval.specs.Questions.{operation_of}
use Rattle.cs_eval.proofs.OnePiece.{one_exact_split}

-- constants are followed
constants_followed : (model : DataModel) (sets : Sets) (asked : Question) (v : Valuation) → AreConstants asked → IsFollowed model sets asked v
constants_followed model sets (question.Binary op ty left right) v h = inl (inl h.0, inl h.1)
constants_followed model sets (question.Unary op ty term) v h = tt
constants_followed model sets (question.Convert ty term) v h = inl (inl h)
constants_followed model sets (question.Compare op left right) v h = inl (inl (inl h.0))
constants_followed model sets (question.Order first second) v h = inl (inl (inl h.0))
constants_followed model sets (question.Product count size) v h = inl (inl h.0)
constants_followed model sets (question.Sum offset amount size) v h = inl (inl (inl h.0))
constants_followed model sets (question.Difference left right size) v h = inl (inl h.0, inl h.1)
constants_followed model sets (question.Test tested term) v h = tt
constants_followed model sets (question.Callee function) v h = tt

pub constant_split : (model : DataModel) (sets : Sets) (guess : ℕ) (asked : Question) (of : Operation) (pieces : List Piece)
    → AreConstants asked → ((v : Valuation) → operation_of v asked ≡ of) → AreInhabited sets
    → pieces ≡ unguessed (shows model of None) (number_term (own_result model of)) sets ∷ [] → AreAnswers model sets guess asked pieces
constant_split model sets guess asked of pieces constants same inhabited made =
    one_exact_split model sets guess (asking_of model sets asked) (shows model of None) (number_term (own_result model of)) pieces
    (record {
      inhabited = inhabited;
      followed = λ v fits. constants_followed model sets asked v constants;
      shown = λ v fits. ap (λ (o : Operation). shows model o None) (same v);
      own = λ v fits. ap (own_result model) (sym (same v));
    })
    made

-- the answers for a called function
pub callee_split : (model : DataModel) (sets : Sets) (guess function : ℕ) (answer : Lin) (pieces : List Piece)
    → AreInhabited sets → answer ≡ number_term (pos 0) → pieces ≡ unguessed (label.Callee function) answer sets ∷ []
    → AreAnswers model sets guess (question.Callee function) pieces
callee_split model sets guess function answer pieces inhabited answer_is made =
    one_exact_split model sets guess (asking_of model sets (question.Callee function)) (label.Callee function) answer pieces
    (record {
      inhabited = inhabited;
      followed = λ v fits. tt;
      shown = λ v fits. refl;
      own = λ v fits. ap (value_of v) answer_is;
    })
    made
