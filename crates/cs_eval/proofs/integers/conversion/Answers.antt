use Rattle.std.proofs.Common.{Some, ap, subst, Vec, Global}
use Rattle.std.proofs.lemmas.Result.{IfOk-weaker}
use Rattle.cs_terms.specs.declared.term.Lin.{Lin}
use Rattle.cs_eval.specs.declared.guesses.Inexact.{Inexact}
use Rattle.cs_eval.specs.declared.piece.Piece.{Piece}
use Rattle.cs_eval.specs.Wraps.{AreConverted}
use Rattle.cs_eval.proofs.Conversions.{conversion_split}
use Rattle.cs_eval.proofs.integers.conversion.Goals as goal

pub returns : goal.returns
returns c =
    let model = c.args.setting.now.model in
    let sets = c.args.setting.now.constraints.now in
    let guess = c.args.setting.now.guess.0 in
    IfOk-weaker {X = Vec Piece Global} _ _ _
    (λ (pieces : Vec Piece Global). λ made.
    conversion_split model sets guess c.args.ty c.args.term c.constant.result pieces.items c.requires.ready c.requires.symbol
    (ap (λ (t : Lin). t.sym) c.constant.ensures) c.requires.fresh
    (subst (λ (inexact : Inexact). AreConverted model sets guess c.args.ty c.args.term (Some inexact) pieces.items) c.new-inexact.ensures made))
    c.converted.ensures
