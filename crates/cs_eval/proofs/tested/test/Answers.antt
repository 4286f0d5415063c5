use Rattle.std.proofs.Common.{Vec, Global}
use Rattle.std.proofs.lemmas.Result.{IfOk-weaker}
use Rattle.cs_eval.specs.declared.piece.Piece.{Piece}
use Rattle.cs_eval.proofs.TestPieces.{test_split}
use Rattle.cs_eval.proofs.tested.test.Goals as goal

pub returns : goal.returns
returns c =
    IfOk-weaker {X = Vec Piece Global} _ _ _
    (λ (pieces : Vec Piece Global). λ made.
    test_split c.args.setting.now.model c.args.setting.now.constraints.now c.args.setting.now.guess.0 c.args.tested c.args.term
    c.test_of.result c.in_ok-halves.halves c.shown-yes.result c.shown-no.result pieces.items c.test_of.ensures c.in_ok-halves.ensures
    c.shown-yes.ensures.label c.shown-yes.ensures.answer c.shown-no.ensures.label c.shown-no.ensures.answer made)
    c.halves_pieces.ensures
