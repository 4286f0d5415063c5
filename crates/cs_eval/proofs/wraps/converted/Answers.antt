use Rattle.std.proofs.Common.{inr, sym, Vec, Global}
use Rattle.std.proofs.lemmas.Result.{IfOk-weaker}
use Rattle.cs_eval.specs.declared.piece.Piece.{Piece}
use Rattle.cs_eval.proofs.Ends.{wide}
use Rattle.cs_eval.proofs.wraps.converted.Goals as goal

pub stays_within-requires-clause-values : goal.stays_within-requires-clause-values
stays_within-requires-clause-values c = λ x member.
    wide _
    (c.in_ok-check_wide.ensures.values c.in-Some.sym c.in-Some-range_of.range.now c.in-Some.is (sym c.in-Some-range_of.ensures.set) x member)

pub converted_parts-requires-clause-values : goal.converted_parts-requires-clause-values
converted_parts-requires-clause-values c = λ x member.
    wide _
    (c.in_ok-check_wide.ensures.values c.in-Some.sym c.in-Some-range_of.range.now c.in-Some.is (sym c.in-Some-range_of.ensures.set) x member)

pub returns : goal.returns
returns c =
    IfOk-weaker {X = Vec Piece Global} _ _ _
    (λ (pieces : Vec Piece Global). λ made.
    inr (inr (record {
      sym = c.in-Some.sym;
      range = c.in-Some-range_of.range.now;
      over = c.in-Some.is;
      known = sym c.in-Some-range_of.ensures.set;
      parts = c.in_ok-parts.parts;
      cut = c.in_ok-parts.ensures;
      made = made;
    })))
    c.wrap_split.ensures
