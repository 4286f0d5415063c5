-- The pieces of a truth, depending on how it is followed: for the contract of `truth_split`.
use Rattle.std.proofs.Common.{◌≡◌, ℕ, Bool, true, false, pos, List, [], ◌∷◌, ◌++◌, sym, ap, subst, ◌∙◌}
use Rattle.cs_ast.specs.declared.typed.operator.CmpOp.{CmpOp}
use Rattle.cs_terms.specs.declared.term.Lin.{Lin}
use Rattle.cs_terms.specs.Term.{value_of}
use Rattle.cs_constraints.specs.Constraints.{Sets, AreInhabited}
use Rattle.cs_events.specs.declared.event.Label.{Label}
use Rattle.cs_events.specs.declared.event.Label.TheVariants as label
use Rattle.cs_events.specs.Operations.{compares, truth_number}
use Rattle.cs_eval.specs.declared.halves.Halves.{Halves}
use Rattle.cs_eval.specs.declared.piece.Piece.{Piece}
use Rattle.cs_eval.specs.declared.pieces.Shown.{Shown}
use Rattle.cs_eval.specs.Parts.{AreHalves, number_term, unguessed, unguessed_if}
use Rattle.cs_eval.specs.declared.truths.Followed.{Followed}
use Rattle.cs_eval.specs.declared.truths.Followed.TheVariants.{Where, Always as AlwaysIs}
use Rattle.cs_eval.specs.Truths.{AreOfHalves, IsOfAll, ArePiecesOf}
use Rattle.cs_eval.proofs.TwoWays.{same_pieces}

pub of_halves : (sets : Sets) (guess : ℕ) (followed : Followed) (op : CmpOp) (term : Lin) (halves : Halves) (held failed : Shown)
    (pieces : List Piece) → followed ≡ Where op term
    → AreHalves sets term.sym (λ v. compares op (value_of v term) (pos 0)) halves
    → held.label ≡ label.Truth true → held.answer ≡ number_term (truth_number true)
    → failed.label ≡ label.Truth false → failed.answer ≡ number_term (truth_number false)
    → pieces ≡ unguessed_if held.label held.answer halves.holds ++ unguessed_if failed.label failed.answer halves.fails
    → ArePiecesOf sets guess followed pieces
of_halves sets guess followed op term halves held failed pieces is h a b d e made =
    let made_of : AreOfHalves sets op term pieces = record {
      halves = halves;
      are = h;
      made = same_pieces held failed (label.Truth true) (label.Truth false) (number_term (truth_number true)) (number_term (truth_number false))
          halves pieces a b d e made;
    } in
    subst (λ (f : Followed). ArePiecesOf sets guess f pieces) (sym is) made_of

pub of_all : (sets : Sets) (guess : ℕ) (followed : Followed) (holds : Bool) (shown : Shown) (pieces : List Piece) → followed ≡ AlwaysIs holds
    → shown.label ≡ label.Truth holds
    → shown.answer ≡ number_term (truth_number holds) → pieces ≡ unguessed shown.label shown.answer sets ∷ [] → AreInhabited sets
    → ArePiecesOf sets guess followed pieces
of_all sets guess followed holds shown pieces is a b made inhabited =
    let made_of : IsOfAll sets holds pieces = record {
      made = made ∙ ap (λ (l : Label). unguessed l shown.answer sets ∷ []) a
          ∙ ap (λ (n : Lin). unguessed (label.Truth holds) n sets ∷ []) b;
      inhabited = inhabited;
    } in
    subst (λ (f : Followed). ArePiecesOf sets guess f pieces) (sym is) made_of
