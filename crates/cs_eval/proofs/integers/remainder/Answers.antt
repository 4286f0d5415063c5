use Rattle.std.proofs.Common.{Vec, Global}
use Rattle.std.proofs.lemmas.Result.{IfOk-weaker}
use Rattle.cs_ast.specs.declared.typed.operator.BinOp.TheVariants.{Rem}
use Rattle.cs_eval.specs.declared.piece.Piece.{Piece}
use Rattle.cs_eval.proofs.BinaryPieces.{guessed_split, not_both}
use Rattle.cs_eval.proofs.Remainders.{rem_guesses}
use Rattle.cs_eval.proofs.integers.remainder.Goals as goal

pub returns : goal.returns
returns c =
    let model = c.args.setting.now.model in
    let sets = c.args.setting.now.constraints.now in
    let guess = c.args.setting.now.guess.0 in
    let left = c.args.left in
    let right = c.args.right in
    let given = c.requires in
    IfOk-weaker {X = Vec Piece Global} _ _ _
    (λ (pieces : Vec Piece Global). λ made.
    guessed_split model sets guess Rem c.args.ty left right given
    (rem_guesses model sets guess c.args.ty left right given c.in_ok-check_in_type.ensures c.in_ok-check_in_type-2.ensures)
    (not_both sets guess left right given) pieces.items made)
    c.guessed.ensures
