-- The pieces of a test: for the contract of `test`.
use Rattle.std.proofs.Common.{◌≡◌, ◌≢◌, ℕ, Bool, true, false, ℤ, pos, List, ◌++◌, refl, sym, ap, subst, ◌∙◌}
use Rattle.cs_types.specs.declared.data_model.DataModel.{DataModel}
use Rattle.cs_ast.specs.declared.typed.operator.CmpOp.{CmpOp}
use Rattle.cs_terms.specs.declared.term.Lin.{Lin}
use Rattle.cs_terms.specs.Term.{value_of}
use Rattle.cs_constraints.specs.Constraints.{Sets}
use Rattle.cs_events.specs.declared.event.Label.{Label}
use Rattle.cs_events.specs.declared.event.Label.TheVariants as label
use Rattle.cs_events.specs.Operations.{compares}
use Rattle.cs_eval.specs.declared.halves.Halves.{Halves}
use Rattle.cs_eval.specs.declared.piece.Piece.{Piece}
use Rattle.cs_eval.specs.declared.pieces.Shown.{Shown}
use Rattle.cs_eval.specs.declared.question.Question.TheVariants as question
use Rattle.cs_eval.specs.declared.question.Tested.{Tested}
use Rattle.cs_eval.specs.declared.question.Tested.TheVariants.{Look, Branch, Truth, Not, Alloc}
use Rattle.cs_eval.specs.Followed.{asking_of, AreAnswers}
use Rattle.cs_eval.specs.Parts.{Truths, AreHalves, number_term, unguessed_if}
use Rattle.cs_eval.specs.Questions.{label_of, holds_for}
use Rattle.cs_eval.proofs.TwoWays.{IsShownBy, halves_split, same_pieces}

-- the truth that a label shows
abbrev shown_truth : Label → Bool
shown_truth (label.Truth holds) = holds
shown_truth (label.Branch holds) = holds
shown_truth (label.Case number) = true
shown_truth (label.Wrap wrap) = true
shown_truth (label.Look holds) = holds
shown_truth (label.Offset offset) = true
shown_truth (label.Callee function) = true
shown_truth (label.Alloc holds) = holds

shown_truth-label : (tested : Tested) (holds : Bool) → shown_truth (label_of tested holds) ≡ holds
shown_truth-label Look holds = refl
shown_truth-label Branch holds = refl
shown_truth-label Truth holds = refl
shown_truth-label Not holds = refl
shown_truth-label Alloc holds = refl

labels_apart : (tested : Tested) → label_of tested false ≢ label_of tested true
labels_apart tested e =
    let same : false ≡ true = sym (shown_truth-label tested false) ∙ ap shown_truth e ∙ shown_truth-label tested true in
    absurd (cc)

pub test_split : (model : DataModel) (sets : Sets) (guess : ℕ) (tested : Tested) (term : Lin) (op : CmpOp) (halves : Halves) (held failed : Shown)
    (pieces : List Piece)
    → ((x : ℤ) → compares op x (pos 0) ≡ holds_for tested x)
    → AreHalves sets term.sym (λ v. compares op (value_of v term) (pos 0)) halves
    → held.label ≡ label_of tested true → held.answer ≡ number_term (pos 0)
    → failed.label ≡ label_of tested false → failed.answer ≡ number_term (pos 0)
    → pieces ≡ unguessed_if held.label held.answer halves.holds ++ unguessed_if failed.label failed.answer halves.fails
    → AreAnswers model sets guess (question.Test tested term) pieces
test_split model sets guess tested term op halves held failed pieces same h held_label held_answer failed_label failed_answer made =
    let truth : Truths = λ v. compares op (value_of v term) (pos 0) in
    let number : Bool → Lin = λ b. number_term (pos 0) in
    let given : IsShownBy model sets (asking_of model sets (question.Test tested term)) truth (label_of tested) number = record {
      followed = λ v fits. tt;
      shown = λ v fits. ap (label_of tested) (sym (same (value_of v term)));
      own = λ v fits. refl;
      apart = labels_apart tested;
    } in
    let split = halves_split model sets guess (asking_of model sets (question.Test tested term)) term.sym truth (label_of tested) number given
    (λ s e. e) halves h in
    let shape : pieces
    ≡ unguessed_if (label_of tested true) (number true) halves.holds ++ unguessed_if (label_of tested false) (number false) halves.fails =
    same_pieces held failed (label_of tested true) (label_of tested false) (number true) (number false) halves pieces held_label held_answer failed_label
    failed_answer made in
    subst (λ (ps : List Piece). AreAnswers model sets guess (question.Test tested term) ps) (sym shape) split
