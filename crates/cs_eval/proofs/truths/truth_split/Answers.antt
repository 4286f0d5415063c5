use Rattle.std.proofs.Common.{Vec, Global}
use Rattle.std.proofs.lemmas.Result.{IfOk-weaker}
use Rattle.cs_eval.specs.declared.piece.Piece.{Piece}
use Rattle.cs_eval.specs.Recorded.{IsRecordOf}
use Rattle.cs_eval.proofs.Records.{halves_records, unguessed_records}
use Rattle.cs_eval.proofs.TwoWays.{if_ok_both}
use Rattle.cs_eval.proofs.TruthShapes.{of_halves, of_all}
use Rattle.cs_eval.proofs.truths.truth_split.Goals as goal

pub returns-in_ok-halves-in-Where-clause-pieces : goal.returns-in_ok-halves-in-Where-clause-pieces
returns-in_ok-halves-in-Where-clause-pieces c =
    IfOk-weaker {X = Vec Piece Global} _ _ _
    (λ (pieces : Vec Piece Global). λ made.
    of_halves c.args.setting.now.constraints.now c.args.setting.now.guess.0 c.args.followed c.in-Where.op c.in-Where.term c.in_ok-halves-in-Where.halves
    c.truth-yes.result c.truth-no.result pieces.items c.in-Where.is c.in_ok-halves-in-Where.ensures c.truth-yes.ensures.label c.truth-yes.ensures.answer
    c.truth-no.ensures.label c.truth-no.ensures.answer made)
    c.halves_pieces.ensures

pub returns-in-Always-clause-pieces : goal.returns-in-Always-clause-pieces
returns-in-Always-clause-pieces c =
    if_ok_both {X = Vec Piece Global} _ _ _ _
    (λ (pieces : Vec Piece Global). λ made. λ inhabited.
    of_all c.args.setting.now.constraints.now c.args.setting.now.guess.0 c.args.followed c.in-Always.holds c.truth.result pieces.items c.in-Always.is
    c.truth.ensures.label c.truth.ensures.answer made inhabited)
    c.one_piece.ensures.piece c.one_piece.ensures.inhabited

pub returns-in_ok-halves-in-Where-clause-records : goal.returns-in_ok-halves-in-Where-clause-records
returns-in_ok-halves-in-Where-clause-records c =
    IfOk-weaker {X = Vec Piece Global} _ _ _
    (λ (pieces : Vec Piece Global). λ made.
    halves_records (IsRecordOf c.args.setting.now.constraints.now c.args.inexact.now) c.truth-yes.result.label c.truth-no.result.label
    c.truth-yes.result.answer c.truth-no.result.answer c.in_ok-halves-in-Where.halves.holds c.in_ok-halves-in-Where.halves.fails pieces.items made)
    c.halves_pieces.ensures

pub returns-in-Always-clause-records : goal.returns-in-Always-clause-records
returns-in-Always-clause-records c =
    IfOk-weaker {X = Vec Piece Global} _ _ _
    (λ (pieces : Vec Piece Global). λ made.
    unguessed_records (IsRecordOf c.args.setting.now.constraints.now c.args.inexact.now) c.truth.result.label c.truth.result.answer
    c.args.setting.now.constraints.now pieces.items made)
    c.one_piece.ensures.piece
