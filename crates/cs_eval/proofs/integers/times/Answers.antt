use Rattle.std.proofs.Common.{rules, ◌≡◌, Some, sym, subst, ◌∙◌, to_z, of_z, Vec, Global}
use Rattle.std.specs.Int.{w128}
use Rattle.std.proofs.lemmas.Result.{IfOk-weaker}
use Rattle.cs_eval.specs.declared.guesses.Inexact.{Inexact}
use Rattle.cs_eval.specs.declared.piece.Piece.{Piece}
use Rattle.cs_eval.specs.Wraps.{AreOfProduct, IsWholeGuess}
use Rattle.cs_eval.proofs.BinaryPieces.{times_right, times_left, times_neither}
use Rattle.cs_eval.proofs.integers.times.Goals as goal

pub returns-in-Some : goal.returns-in-Some
returns-in-Some c =
    let model = c.args.setting.now.model in
    let sets = c.args.setting.now.constraints.now in
    let guess = c.args.setting.now.guess.0 in
    let left = c.args.left in
    let right = c.args.right in
    let same : to_z w128 (of_z w128 c.in-Some.factor) ≡ c.in-Some.factor = search rules in
    IfOk-weaker {X = Vec Piece Global} _ _ _
    (λ (pieces : Vec Piece Global). λ made.
    times_right model sets guess c.args.ty left right c.requires c.in-Some.factor (sym c.number.ensures ∙ c.in-Some.is) pieces.items
    (subst (λ (inexact : Inexact). AreOfProduct model sets guess c.args.ty left c.in-Some.factor (Some inexact) pieces.items) c.new-inexact.ensures made))
    (rw same at c.product.ensures)

pub returns-in-Some-number : goal.returns-in-Some-number
returns-in-Some-number c =
    let model = c.args.setting.now.model in
    let sets = c.args.setting.now.constraints.now in
    let guess = c.args.setting.now.guess.0 in
    let left = c.args.left in
    let right = c.args.right in
    let same : to_z w128 (of_z w128 c.in-Some-number.factor) ≡ c.in-Some-number.factor = search rules in
    IfOk-weaker {X = Vec Piece Global} _ _ _
    (λ (pieces : Vec Piece Global). λ made.
    times_left model sets guess c.args.ty left right c.requires c.in-Some-number.factor (sym c.number-2.ensures ∙ c.in-Some-number.is) pieces.items
    (subst (λ (inexact : Inexact). AreOfProduct model sets guess c.args.ty right c.in-Some-number.factor (Some inexact) pieces.items) c.new-inexact.ensures
    made))
    (rw same at c.product-in-Some-number.ensures)

pub returns : goal.returns
returns c =
    let model = c.args.setting.now.model in
    let sets = c.args.setting.now.constraints.now in
    let guess = c.args.setting.now.guess.0 in
    let left = c.args.left in
    let right = c.args.right in
    IfOk-weaker {X = Vec Piece Global} _ _ _
    (λ (pieces : Vec Piece Global). λ made.
    times_neither model sets guess c.args.ty left right c.requires (sym c.number-2.ensures ∙ c.in_default-number.is) (sym c.number.ensures
    ∙ c.in_default.is) pieces.items
    (subst (λ (inexact : Inexact). IsWholeGuess model sets guess inexact pieces.items) c.new-inexact.ensures made))
    c.wrap_guess.ensures
