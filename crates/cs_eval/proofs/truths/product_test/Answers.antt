use Rattle.std.proofs.Common.{None, Vec, Global}
use Rattle.cs_state.specs.declared.asked.Asks.TheVariants as asks
use Rattle.cs_eval.specs.declared.piece.Piece.{Piece}
use Rattle.cs_eval.specs.declared.question.Question.TheVariants as question
use Rattle.cs_eval.proofs.ProductTests.{product_ready, product_split}
use Rattle.cs_eval.proofs.Records.{product_is, recorded}
use Rattle.cs_eval.proofs.TwoWays.{if_ok_both}
use Rattle.cs_eval.proofs.truths.product_test.Goals as goal

pub truth_split-requires : goal.truth_split-requires
truth_split-requires c =
    product_ready c.args.setting.now.model c.args.setting.now.constraints.now c.args.count c.args.size c.in_ok-followed.followed c.in_ok-followed.ensures

pub returns : goal.returns
returns c =
    let model = c.args.setting.now.model in
    let sets = c.args.setting.now.constraints.now in
    let guess = c.args.setting.now.guess.0 in
    let count = c.args.count in
    let size = c.args.size in
    if_ok_both {X = Vec Piece Global} _ _ _ _
    (λ (pieces : Vec Piece Global). λ made. λ records.
    recorded model sets (question.Product count size) c.new-inexact.result asks.Product count size None c.new-inexact.ensures
    (product_is model sets count size) guess pieces.items
    (product_split model sets guess count size c.in_ok-followed.followed pieces.items c.requires.fresh c.in_ok-followed.ensures made)
    records)
    c.truth_split.ensures.pieces c.truth_split.ensures.records
