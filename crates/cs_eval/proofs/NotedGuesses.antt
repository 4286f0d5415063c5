-- What the pieces record about a prepared question is noted about the original one: for the contract of `answers`.
use Rattle.std.proofs.Common.{◌≡◌, List, [], ◌∷◌, Option, subst, sym, ◌∙◌}
use Rattle.std.specs.Prelude.{IfSome}
use Rattle.std.proofs.lemmas.Option.{none-some}
use Rattle.cs_types.specs.declared.data_model.DataModel.{DataModel}
use Rattle.cs_terms.specs.declared.symbol.Sym.{Sym}
use Rattle.cs_terms.specs.declared.term.Lin.{Lin}
use Rattle.cs_terms.specs.Term.{Valuation}
use Rattle.cs_constraints.specs.Constraints.{Sets, Fits, IsDeclared}
use Rattle.cs_state.specs.declared.asked.Asks.{Asks}
use Rattle.cs_state.specs.declared.asked.Asks.TheVariants as asks
use Rattle.cs_eval.specs.declared.piece.Guessed.{Guessed}
use Rattle.cs_eval.specs.declared.piece.Piece.{Piece}
use Rattle.cs_eval.specs.declared.question.Question.{Question}
use Rattle.cs_eval.specs.Followed.{asking_of}
use Rattle.cs_eval.specs.Forms.{IsFormOfQuestion}
use Rattle.cs_eval.specs.Noted.{IsQuestionOf, IsNoted, NotesGuess}
use Rattle.cs_eval.specs.Ready.{HasReadyOperands}
use Rattle.cs_eval.specs.Recorded.{HasNoOther, IsRecordOfQuestion, RecordsQuestion}
use Rattle.cs_eval.specs.Splits.{Each}
use Rattle.cs_eval.proofs.SameAsking.{IsSameAsking}
use Rattle.cs_eval.proofs.SameQuestions.{question_same}

abbrev AreDeclared : Sets → Lin → Lin → Type 0
AreDeclared sets left right = IsDeclared sets left.sym × IsDeclared sets right.sym

module _ (model : DataModel) (sets : Sets) (given made : Question) (form : IsFormOfQuestion sets given made) (ready : HasReadyOperands sets made) where
  ready_as : (q : Question) → made ≡ q → HasReadyOperands sets q
  ready_as q e = subst (λ (x : Question). HasReadyOperands sets x) e ready

  -- the operands of a prepared question are over declared symbols
  are_declared : (what : Asks) (left right : Lin) → IsQuestionOf what left right made → HasNoOther what right → AreDeclared sets left right
  are_declared (asks.Binary op ty) left right e other = let r = ready_as _ e in (r.0.prepared.declared, r.1.prepared.declared)
  are_declared (asks.Convert ty) left right e other =
      let r = ready_as _ e in (r.prepared.declared, λ (s : Sym) some. absurd (none-some s (sym other ∙ some)))
  are_declared (asks.Compare op) left right e other = let r = ready_as _ e in (r.0.prepared.declared, r.1.prepared.declared)
  are_declared asks.Order left right e other = let r = ready_as _ e in (r.0.0.declared, r.1.0.declared)
  are_declared asks.Product left right e other = let r = ready_as _ e in (r.0.prepared.declared, r.1.prepared.declared)
  are_declared asks.Sum left right e other = let r = ready_as _ e.1 in (r.0.prepared.declared, r.1.prepared.declared)
  are_declared asks.Difference left right e other = let r = ready_as _ e.1 in (r.0.prepared.declared, r.1.prepared.declared)

  same_asking : (v : Valuation) → Fits v sets → IsSameAsking sets (asking_of model sets made) (asking_of model sets given)
  same_asking = question_same model sets given made form ready

  is_noted : (noted : Guessed) → IsRecordOfQuestion model sets made noted
      → IsNoted model sets given noted.asks noted.left noted.right noted.ends noted.fact
  is_noted noted h =
      let declared = are_declared noted.asks noted.left noted.right h.meant.asked h.meant.other in
      record {
        meant = made;
        asked = h.meant.asked;
        operands = ready;
        same = λ v fits. (same_asking v fits).operation v fits;
        followed = λ v fits. (same_asking v fits).to_given v fits;
        guesses = λ v number fits. (same_asking v fits).guess_made v number fits;
        has_fact = h.meant.has_fact;
        determines = h.meant.determines;
        left_range = h.left_ends.range declared.0;
        right_range = h.right_ends.range declared.1;
        left_ends = h.left_ends.none;
        right_ends = h.right_ends.none;
      }

  pub noted_guesses : (pieces : List Piece) → Each (RecordsQuestion model sets made) pieces → Each (NotesGuess model sets given) pieces
  noted_guesses [] h = tt
  noted_guesses (piece ∷ pieces) h = (
    λ noted e. is_noted noted (subst (λ (o : Option Guessed). IfSome o (IsRecordOfQuestion model sets made)) e h.0),
    noted_guesses pieces h.1,
  )
