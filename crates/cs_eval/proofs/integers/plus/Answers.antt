use Rattle.std.proofs.Common.{◌+ℤ◌, refl, subst, Vec, Global}
use Rattle.std.proofs.lemmas.Result.{IfOk-weaker}
use Rattle.cs_ast.specs.declared.typed.operator.BinOp.TheVariants.{Add}
use Rattle.cs_terms.specs.Term.{Valuation, value_of}
use Rattle.cs_eval.specs.declared.guesses.Inexact.{Inexact}
use Rattle.cs_eval.specs.declared.piece.Piece.{Piece}
use Rattle.cs_eval.specs.Wraps.{AreSummed}
use Rattle.cs_eval.proofs.BinaryPieces.{summed_split, add_guesses}
use Rattle.cs_eval.proofs.integers.plus.Goals as goal

pub returns : goal.returns
returns c =
    let model = c.args.setting.now.model in
    let sets = c.args.setting.now.constraints.now in
    let guess = c.args.setting.now.guess.0 in
    let left = c.args.left in
    let right = c.args.right in
    let exact = c.in_ok-exact.exact in
    IfOk-weaker {X = Vec Piece Global} _ _ _
    (λ (pieces : Vec Piece Global). λ made.
    summed_split model sets guess Add c.args.ty left right c.requires (add_guesses model sets c.args.ty left right)
    (λ (v : Valuation). value_of v left +ℤ value_of v right) (λ v. refl) (λ over. over) (λ over. over) exact pieces.items c.in_ok-exact.ensures
    (subst (λ (inexact : Inexact). AreSummed model sets guess c.args.ty exact inexact pieces.items) c.new-inexact.ensures made))
    c.sum.ensures
