use Rattle.std.proofs.Common.{refl}
use Rattle.cs_terms.specs.declared.product.Piece.{Piece as Part}
use Rattle.cs_events.specs.declared.event.Label.TheVariants as label
use Rattle.cs_eval.specs.declared.piece.Piece.{Piece}
use Rattle.cs_eval.specs.Parts.{unguessed}
use Rattle.cs_eval.proofs.CheckedTerms.{wide_values}
use Rattle.cs_eval.proofs.PartPieces.{part_added}
use Rattle.cs_eval.proofs.wraps.push_part.Goals as goal

pub prepared-answer-requires-clause-values : goal.prepared-answer-requires-clause-values
prepared-answer-requires-clause-values c = wide_values _ _ c.in_ok-check_wide.ensures

pub returns : goal.returns
returns c =
    let one : Part = c.in-Some.field-0 in
    let piece : Piece = unguessed (label.Wrap c.args.shown) c.prepared-answer.result c.in_ok-constraints.constraints in
    part_added c.args.setting.now.constraints.now c.args.sym c.args.shown c.args.part one c.args.pieces.now.items c.push.new.self.items piece c.in-Some.is
    (rw c.exact_piece.ensures at c.in_ok-push.ensures.items) (record {
      shown = refl;
      unguessed = refl;
      narrowed = c.in_ok-constraints.ensures.narrowed;
      inhabited = c.in_ok-constraints.ensures.inhabited;
      answer = c.prepared-answer.ensures.value;
    })
