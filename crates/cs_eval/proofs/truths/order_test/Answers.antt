use Rattle.std.proofs.Common.{Option, Some, refl, Vec, Global}
use Rattle.cs_ast.specs.declared.typed.operator.CmpOp.TheVariants.{AtLeast}
use Rattle.cs_state.specs.declared.asked.Asks.TheVariants as asks
use Rattle.cs_state.specs.declared.asked.Fact.{Fact}
use Rattle.cs_eval.specs.declared.piece.Piece.{Piece}
use Rattle.cs_eval.specs.declared.question.Question.TheVariants as question
use Rattle.cs_eval.proofs.Comparisons.{followed_ready, order_split}
use Rattle.cs_eval.proofs.Records.{order_is, recorded}
use Rattle.cs_eval.proofs.TwoWays.{if_ok_both}
use Rattle.cs_eval.proofs.truths.order_test.Goals as goal

pub truth_split-requires : goal.truth_split-requires
truth_split-requires c =
    followed_ready c.args.setting.now.constraints.now AtLeast (record { first = c.args.first; second = c.args.second })
    c.followed_by_sign-followed.result c.followed_by_sign-followed.ensures

pub returns : goal.returns
returns c =
    let model = c.args.setting.now.model in
    let sets = c.args.setting.now.constraints.now in
    let guess = c.args.setting.now.guess.0 in
    let first = c.args.first in
    let second = c.args.second in
    let fact : Option Fact = Some (record { op = AtLeast; term = record { first = first; second = second } }) in
    if_ok_both {X = Vec Piece Global} _ _ _ _
    (λ (pieces : Vec Piece Global). λ made. λ records.
    recorded model sets (question.Order first second) (record { asks = asks.Order; left = first; right = second; fact = fact }) asks.Order first second
    fact refl (order_is model sets first second) guess pieces.items
    (order_split model sets guess first second c.followed_by_sign-followed.result pieces.items c.requires.several.0 c.requires.several.1
    c.requires.fresh c.followed_by_sign-followed.ensures made)
    records)
    c.truth_split.ensures.pieces c.truth_split.ensures.records
