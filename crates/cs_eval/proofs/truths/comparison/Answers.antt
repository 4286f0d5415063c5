use Rattle.std.proofs.Common.{Option, Some, refl, Vec, Global}
use Rattle.cs_state.specs.declared.asked.Asks.TheVariants as asks
use Rattle.cs_state.specs.declared.asked.Fact.{Fact}
use Rattle.cs_eval.specs.declared.piece.Piece.{Piece}
use Rattle.cs_eval.specs.declared.question.Question.TheVariants as question
use Rattle.cs_eval.proofs.Comparisons.{followed_ready, compare_split}
use Rattle.cs_eval.proofs.Negated.{first_between, second_between, parts_add}
use Rattle.cs_eval.proofs.Records.{comparison_is, recorded}
use Rattle.cs_eval.proofs.TwoWays.{if_ok_both}
use Rattle.cs_eval.proofs.truths.comparison.Goals as goal

pub truth_split-requires : goal.truth_split-requires
truth_split-requires c =
    followed_ready c.args.setting.now.constraints.now c.args.op c.diff-term.result c.followed_by_sign-followed.result c.followed_by_sign-followed.ensures

pub returns : goal.returns
returns c =
    let model = c.args.setting.now.model in
    let sets = c.args.setting.now.constraints.now in
    let guess = c.args.setting.now.guess.0 in
    let op = c.args.op in
    let left = c.args.left in
    let right = c.args.right in
    let term = c.diff-term.result in
    let fact : Option Fact = Some (record { op = op; term = term }) in
    if_ok_both {X = Vec Piece Global} _ _ _ _
    (λ (pieces : Vec Piece Global). λ made. λ records.
    recorded model sets (question.Compare op left right) (record { asks = asks.Compare op; left = left; right = right; fact = fact }) (asks.Compare op)
    left right fact refl (comparison_is model sets left right op term c.diff-term.ensures.value) guess pieces.items
    (compare_split model sets guess op left right term c.followed_by_sign-followed.result pieces.items c.requires.left c.requires.right
    c.diff-term.ensures.first c.diff-term.ensures.symbol c.diff-term.ensures.value c.requires.fresh c.followed_by_sign-followed.ensures made)
    records)
    c.truth_split.ensures.pieces c.truth_split.ensures.records

pub followed_by_sign-followed-requires-clause-first : goal.followed_by_sign-followed-requires-clause-first
followed_by_sign-followed-requires-clause-first c =
    let d = c.diff-term.ensures in
    first_between c.args.setting.now.constraints.now c.args.left c.args.right c.diff-term.result c.requires.left c.requires.right d.value d.first
    d.second d.symbol d.slope d.place d.value_there

pub followed_by_sign-followed-requires-clause-second : goal.followed_by_sign-followed-requires-clause-second
followed_by_sign-followed-requires-clause-second c =
    let d = c.diff-term.ensures in
    second_between c.args.setting.now.constraints.now c.args.left c.args.right c.diff-term.result c.requires.left c.requires.right d.value d.first
    d.second d.symbol d.slope d.place d.value_there

pub followed_by_sign-followed-requires-clause-adds : goal.followed_by_sign-followed-requires-clause-adds
followed_by_sign-followed-requires-clause-adds c =
    let d = c.diff-term.ensures in
    parts_add c.args.setting.now.constraints.now c.args.left c.args.right c.diff-term.result c.requires.left c.requires.right d.value d.first
    d.second d.symbol d.slope d.place d.value_there
