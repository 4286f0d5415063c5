use Rattle.std.proofs.Common.{rules, ◌≡◌, Some, sym, subst, ◌∙◌, to_z, of_z, Vec, Global}
use Rattle.std.specs.Int.{w128}
use Rattle.std.proofs.lemmas.Result.{IfOk-weaker}
use Rattle.cs_eval.specs.declared.guesses.Inexact.{Inexact}
use Rattle.cs_eval.specs.declared.piece.Piece.{Piece}
use Rattle.cs_eval.specs.Wraps.{AreOfProduct, IsWholeGuess}
use Rattle.cs_eval.proofs.BinaryPieces.{shifted_by, shifted_by_symbol}
use Rattle.cs_eval.proofs.integers.shifted.Goals as goal

pub returns-in_default : goal.returns-in_default
returns-in_default c =
    let model = c.args.setting.now.model in
    let sets = c.args.setting.now.constraints.now in
    let guess = c.args.setting.now.guess.0 in
    let left = c.args.left in
    let right = c.args.right in
    IfOk-weaker {X = Vec Piece Global} _ _ _
    (λ (pieces : Vec Piece Global). λ made.
    shifted_by_symbol model sets guess c.args.ty left right c.requires (sym c.number.ensures ∙ c.in_default.is) pieces.items
    (subst (λ (inexact : Inexact). IsWholeGuess model sets guess inexact pieces.items) c.new-inexact.ensures made))
    c.wrap_guess.ensures

pub returns : goal.returns
returns c =
    let model = c.args.setting.now.model in
    let sets = c.args.setting.now.constraints.now in
    let guess = c.args.setting.now.guess.0 in
    let left = c.args.left in
    let right = c.args.right in
    let count : to_z w128 (of_z w128 c.in-Some.count) ≡ c.in-Some.count = search rules in
    let factor : to_z w128 (of_z w128 c.in_ok-factor.factor) ≡ c.in_ok-factor.factor = search rules in
    IfOk-weaker {X = Vec Piece Global} _ _ _
    (λ (pieces : Vec Piece Global). λ made.
    shifted_by model sets guess c.args.ty left right c.requires c.in-Some.count c.in_ok-factor.factor (sym c.number.ensures ∙ c.in-Some.is)
    (rw count at c.in_ok-factor.ensures) pieces.items
    (subst (λ (inexact : Inexact). AreOfProduct model sets guess c.args.ty left c.in_ok-factor.factor (Some inexact) pieces.items) c.new-inexact.ensures made))
    (rw factor at c.product.ensures)
