-- The parts of a range by wrap quotients, and their pieces: for the contracts of `converted_parts`, `push_part` and `push_far`.
use Rattle.std.proofs.Common.{◌≡◌, inr, ℤ, pos, ◌+ℤ◌, ◌-ℤ◌, ◌*ℤ◌, List, [], ◌∷◌, ◌++◌, Option, Some, None, refl, sym}
use Rattle.std.proofs.Common.{ap, subst, ◌∙◌, arith}
use Rattle.std.specs.Prelude.{ℕ, MatchOption, neg_ℤ}
use Rattle.std.proofs.lemmas.Bool.{false≢true}
use Rattle.std.proofs.lemmas.Int.{ints}
use Rattle.cs_ranges.specs.declared.range_set.Interval.{Interval}
use Rattle.cs_ranges.specs.RangeSet.{contains, IsEmpty, IsInhabited}
use Rattle.cs_types.specs.declared.data_model.DataModel.{DataModel}
use Rattle.cs_types.specs.declared.int_type.IntType.{IntType}
use Rattle.cs_types.specs.IntType.{modulus_of}
use Rattle.cs_types.specs.Wrap.{wrap_quotient, wrapped}
use Rattle.cs_terms.specs.declared.symbol.Sym.{Sym}
use Rattle.cs_terms.specs.declared.term.Lin.{Lin}
use Rattle.cs_terms.specs.declared.product.Piece.{Piece as Part}
use Rattle.cs_terms.specs.Pieces.{IsFar, IsPiece, IsFarPiece, IsProductPiece, quotient_of, product_quotient_of}
use Rattle.cs_terms.specs.Term.{Valuation, value_with, value_of, value_at, IsTerm, IsTermWith}
use Rattle.cs_terms.proofs.Values.{value_with-add}
use Rattle.cs_constraints.specs.Constraints.{Sets}
use Rattle.cs_events.specs.declared.event.Wrap.{Wrap}
use Rattle.cs_eval.specs.declared.guesses.Inexact.{Inexact}
use Rattle.cs_eval.specs.declared.piece.Piece.{Piece}
use Rattle.cs_eval.specs.Operands.{IsRaised}
use Rattle.cs_eval.specs.Wraps.{IsExtended, IsPartPiece, IsOfPart, IsFarGuess, IsOfFar}

pub times_one : (n : ℤ) → n *ℤ pos 1 ≡ n
times_one n = omega (arith, ints)

plus_none : (n : ℤ) → n ≡ n +ℤ pos 0
plus_none n = omega (arith, ints)

-- a part's piece is added
pub part_added : (sets : Sets) (s : Sym) (wrap : Wrap) (part : Option Part) (one : Part) (before after : List Piece) (piece : Piece) → part ≡ Some one
    → after ≡ before ++ piece ∷ [] → IsPartPiece sets s wrap one piece → IsExtended before (IsOfPart sets s wrap part) after
part_added sets s wrap part one before after piece is made h = record {
  added = piece ∷ [];
  made = made;
  are = subst (λ (o : Option Part). IsOfPart sets s wrap o (piece ∷ [])) (sym is) (inr (piece, refl, h));
}

-- the piece of the far numbers is added
pub far_added : (model : DataModel) (sets : Sets) (guess : ℕ) (s : Sym) (far : List Interval) (asked : Option Inexact) (inexact : Inexact)
    (before after : List Piece) (piece : Piece) → asked ≡ Some inexact → after ≡ before ++ piece ∷ []
    → IsFarGuess model sets guess s far inexact piece
    → IsExtended before (IsOfFar model sets guess s far asked) after
far_added model sets guess s far asked inexact before after piece is made h = record {
  added = piece ∷ [];
  made = made;
  are = subst (λ (o : Option Inexact). IsOfFar model sets guess s far o (piece ∷ [])) (sym is) (inr (piece, refl, h));
}

pub same_raised : (term : Lin) → IsRaised term (pos 0) term
same_raised term = record { symbol = refl; slope = refl; place = refl; value = plus_none term.value }

-- the values of a raised term
pub raised_value : (v : Valuation) (given : Lin) (by : ℤ) (made : Lin) → IsRaised given by made → value_of v made ≡ value_of v given +ℤ by
raised_value v given by made h =
    ap (λ (o : Option Sym). value_with v o made.slope made.at made.value) h.symbol
    ∙ ap (λ (n : ℤ). value_with v given.sym n made.at made.value) h.slope
    ∙ ap (λ (n : ℤ). value_with v given.sym given.slope n made.value) h.place
    ∙ ap (λ (n : ℤ). value_with v given.sym given.slope given.at n) h.value
    ∙ value_with-add v given.sym given.slope given.at given.value by

pub raised_term : (given : Lin) (by : ℤ) (made : Lin) → IsRaised given by made → IsTerm given → IsTerm made
raised_term given by made h t =
    subst (λ (o : Option Sym). IsTermWith o made.slope) (sym h.symbol) (subst (λ (n : ℤ). IsTermWith given.sym n) (sym h.slope) t)

-- a number minus its wrap quotient times the modulus is the wrapped number
wrapped_by : (model : DataModel) (ty : IntType) (n q by : ℤ) → wrap_quotient model ty n ≡ q → by ≡ neg_ℤ (q *ℤ pos (modulus_of model ty))
    → n +ℤ by ≡ wrapped model ty n
wrapped_by model ty n q by e f =
    less n (q *ℤ pos (modulus_of model ty)) by f ∙ ap (λ (k : ℤ). n -ℤ k *ℤ pos (modulus_of model ty)) (sym e)
  where
    less : (n k by : ℤ) → by ≡ neg_ℤ k → n +ℤ by ≡ n -ℤ k
    less n k by f = omega (arith, ints)

module _ (model : DataModel) (ty : IntType) (exact : Lin) (range : List Interval) (is_term : IsTerm exact) where
  same_quotient : (x : ℤ) → product_quotient_of model ty exact (pos 1) x ≡ quotient_of model ty exact x
  same_quotient x = ap (wrap_quotient model ty) (times_one (value_at exact x))

  -- the part of the range with this quotient, and the wrapped result there
  pub converted_part : (q by : ℤ) (numbers : List Interval) (product : Lin) (made : Option Part) → IsPiece (quotient_of model ty exact) range q numbers
      → IsRaised exact by product → by ≡ neg_ℤ (q *ℤ pos (modulus_of model ty))
      → MatchOption made (IsEmpty numbers) (λ part. (part.range ≡ numbers) × (part.product ≡ product) × IsInhabited numbers)
      → IsProductPiece model ty exact (pos 1) range q made
  converted_part q by numbers product None cut raised turns empty =
      λ x member e. false≢true (sym (empty x) ∙ (cut x).1 (member, sym (same_quotient x) ∙ e))
  converted_part q by numbers product (Some part) cut raised turns h =
      let of_part : (x : ℤ) → contains part.range x ≡ contains numbers x = λ x. ap (λ (z : List Interval). contains z x) h.0 in (
        λ x. (
          λ t. let both = (cut x).0 (sym (of_part x) ∙ t) in (both.0, same_quotient x ∙ both.1),
          λ both. of_part x ∙ (cut x).1 (both.0, sym (same_quotient x) ∙ both.1),
        ),
        record {
          inhabited = subst (λ (z : List Interval). IsInhabited z) (sym h.0) h.2;
          value = λ x t.
              let both = (cut x).0 (sym (of_part x) ∙ t) in
              ap (λ (p : Lin). value_at p x) h.1 ∙ raised_value (λ symbol. x) exact by product raised
              ∙ wrapped_by model ty (value_at exact x) q by both.1 turns ∙ ap (wrapped model ty) (sym (times_one (value_at exact x)));
          is_term = subst (λ (p : Lin). IsTerm p) (sym h.1) (raised_term exact by product raised is_term);
          symbol = λ s e. sym raised.symbol ∙ ap (λ (p : Lin). p.sym) (sym h.1) ∙ e;
        },
      )

  pub converted_far : (far : List Interval) → IsFarPiece (quotient_of model ty exact) range far
      → IsFarPiece (product_quotient_of model ty exact (pos 1)) range far
  converted_far far cut = λ x. (
    λ t. let both = (cut x).0 t in (both.0, subst (λ (n : ℤ). IsFar n) (sym (same_quotient x)) both.1),
    λ both. (cut x).1 (both.0, subst (λ (n : ℤ). IsFar n) (same_quotient x) both.1),
  )
