use Rattle.std.proofs.Common.{Vec, Global, sym, subst}
use Rattle.std.specs.Prelude.{IfOk}
use Rattle.std.proofs.lemmas.Result.{IfOk-weaker}
use Rattle.cs_eval.specs.declared.piece.Piece.{Piece}
use Rattle.cs_eval.specs.declared.question.Question.{Question}
use Rattle.cs_eval.specs.declared.question.Question.TheVariants as question
use Rattle.cs_eval.specs.Forms.{AreConstants}
use Rattle.cs_eval.specs.Ready.{HasReadyOperands}
use Rattle.cs_eval.specs.Recorded.{AreRecordedAnswers}
use Rattle.cs_eval.proofs.CheckedTerms.{ready_inside}
use Rattle.cs_eval.proofs.ConstantOperations.{callee_split}
use Rattle.cs_eval.proofs.Records.{exact_recorded}
use Rattle.cs_eval.proofs.TwoWays.{if_ok_both}
use Rattle.cs_eval.proofs.operations.followed.Goals as goal

pub test-requires : goal.test-requires
test-requires c =
    ready_inside c.args.setting.now.constraints.now c.in-Test.term
    (subst (λ (q : Question). HasReadyOperands c.args.setting.now.constraints.now q) c.in-Test.is c.requires.ready)

pub binary-requires-clause-symbol : goal.binary-requires-clause-symbol
binary-requires-clause-symbol c = subst (λ (q : Question). ¬ AreConstants q) c.in-Binary.is c.requires.mixed

pub conversion-requires-clause-symbol : goal.conversion-requires-clause-symbol
conversion-requires-clause-symbol c = subst (λ (q : Question). ¬ AreConstants q) c.in-Convert.is c.requires.mixed

pub pointer_difference-requires-clause-symbol : goal.pointer_difference-requires-clause-symbol
pointer_difference-requires-clause-symbol c = subst (λ (q : Question). ¬ AreConstants q) c.in-Difference.is c.requires.mixed

pub returns-in-Callee : goal.returns-in-Callee
returns-in-Callee c =
    subst (λ (q : Question). IfOk c.one_piece.result (λ (pieces : Vec Piece Global).
    AreRecordedAnswers c.args.setting.now.model c.args.setting.now.constraints.now c.args.setting.now.guess.0 q pieces.items)) (sym c.in-Callee.is)
    (if_ok_both {X = Vec Piece Global} _ _ _ _
    (λ (pieces : Vec Piece Global). λ made. λ inhabited.
    exact_recorded c.args.setting.now.model c.args.setting.now.constraints.now c.args.setting.now.guess.0 (question.Callee c.in-Callee.function) (λ v. tt)
    pieces.items
    (callee_split c.args.setting.now.model c.args.setting.now.constraints.now c.args.setting.now.guess.0 c.in-Callee.function c.constant.result pieces.items
    inhabited c.constant.ensures made))
    c.one_piece.ensures.piece c.one_piece.ensures.inhabited)

pub returns-in-Binary : goal.returns-in-Binary
returns-in-Binary c =
    subst (λ (q : Question). IfOk c.binary.result (λ (pieces : Vec Piece Global).
    AreRecordedAnswers c.args.setting.now.model c.args.setting.now.constraints.now c.args.setting.now.guess.0 q pieces.items)) (sym c.in-Binary.is)
    c.binary.ensures

pub returns-in-Unary : goal.returns-in-Unary
returns-in-Unary c =
    subst (λ (q : Question). IfOk c.unary.result (λ (pieces : Vec Piece Global).
    AreRecordedAnswers c.args.setting.now.model c.args.setting.now.constraints.now c.args.setting.now.guess.0 q pieces.items)) (sym c.in-Unary.is)
    (IfOk-weaker {X = Vec Piece Global} _ _ _
    (λ (pieces : Vec Piece Global). λ split.
    exact_recorded c.args.setting.now.model c.args.setting.now.constraints.now c.args.setting.now.guess.0
    (question.Unary c.in-Unary.op c.in-Unary.ty c.in-Unary.term) (λ v. tt) pieces.items split)
    c.unary.ensures)

pub returns-in-Convert : goal.returns-in-Convert
returns-in-Convert c =
    subst (λ (q : Question). IfOk c.conversion.result (λ (pieces : Vec Piece Global).
    AreRecordedAnswers c.args.setting.now.model c.args.setting.now.constraints.now c.args.setting.now.guess.0 q pieces.items)) (sym c.in-Convert.is)
    c.conversion.ensures

pub returns-in_ok-_inhabited-in-Compare : goal.returns-in_ok-_inhabited-in-Compare
returns-in_ok-_inhabited-in-Compare c =
    subst (λ (q : Question). IfOk c.comparison.result (λ (pieces : Vec Piece Global).
    AreRecordedAnswers c.args.setting.now.model c.args.setting.now.constraints.now c.args.setting.now.guess.0 q pieces.items)) (sym c.in-Compare.is)
    c.comparison.ensures

pub returns-in_ok-check_adds-in-Order : goal.returns-in_ok-check_adds-in-Order
returns-in_ok-check_adds-in-Order c =
    subst (λ (q : Question). IfOk c.order_test.result (λ (pieces : Vec Piece Global).
    AreRecordedAnswers c.args.setting.now.model c.args.setting.now.constraints.now c.args.setting.now.guess.0 q pieces.items)) (sym c.in-Order.is)
    c.order_test.ensures

pub returns-in-Product : goal.returns-in-Product
returns-in-Product c =
    subst (λ (q : Question). IfOk c.product_test.result (λ (pieces : Vec Piece Global).
    AreRecordedAnswers c.args.setting.now.model c.args.setting.now.constraints.now c.args.setting.now.guess.0 q pieces.items)) (sym c.in-Product.is)
    c.product_test.ensures

pub returns-in-Sum : goal.returns-in-Sum
returns-in-Sum c =
    subst (λ (q : Question). IfOk c.pointer_sum.result (λ (pieces : Vec Piece Global).
    AreRecordedAnswers c.args.setting.now.model c.args.setting.now.constraints.now c.args.setting.now.guess.0 q pieces.items)) (sym c.in-Sum.is)
    c.pointer_sum.ensures

pub returns-in-Difference : goal.returns-in-Difference
returns-in-Difference c =
    subst (λ (q : Question). IfOk c.pointer_difference.result (λ (pieces : Vec Piece Global).
    AreRecordedAnswers c.args.setting.now.model c.args.setting.now.constraints.now c.args.setting.now.guess.0 q pieces.items)) (sym c.in-Difference.is)
    c.pointer_difference.ensures

pub returns-in-Test : goal.returns-in-Test
returns-in-Test c =
    subst (λ (q : Question). IfOk c.test.result (λ (pieces : Vec Piece Global).
    AreRecordedAnswers c.args.setting.now.model c.args.setting.now.constraints.now c.args.setting.now.guess.0 q pieces.items)) (sym c.in-Test.is)
    (IfOk-weaker {X = Vec Piece Global} _ _ _
    (λ (pieces : Vec Piece Global). λ split.
    exact_recorded c.args.setting.now.model c.args.setting.now.constraints.now c.args.setting.now.guess.0
    (question.Test c.in-Test.tested c.in-Test.term) (λ v. tt) pieces.items split)
    c.test.ensures)
