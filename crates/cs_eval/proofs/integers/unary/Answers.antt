use Rattle.std.proofs.Common.{Vec, Global}
use Rattle.std.proofs.lemmas.Result.{IfOk-weaker}
use Rattle.cs_eval.specs.declared.piece.Piece.{Piece}
use Rattle.cs_eval.proofs.Conversions.{unary_split}
use Rattle.cs_eval.proofs.integers.unary.Goals as goal

pub returns : goal.returns
returns c =
    IfOk-weaker {X = Vec Piece Global} _ _ _
    (λ (pieces : Vec Piece Global). λ made.
    unary_split c.args.setting.now.model c.args.setting.now.constraints.now c.args.setting.now.guess.0 c.args.op c.args.ty c.args.term
    c.in_ok-exact.exact pieces.items c.requires.fresh c.in_ok-exact.ensures made)
    c.converted.ensures
