use Rattle.std.proofs.Common.{None, Vec, Global}
use Rattle.std.proofs.lemmas.Result.{IfOk-weaker}
use Rattle.cs_events.specs.Operations.{own_result, shows}
use Rattle.cs_eval.specs.declared.piece.Piece.{Piece}
use Rattle.cs_eval.specs.Parts.{number_term}
use Rattle.cs_eval.specs.Recorded.{IsRecordOfQuestion}
use Rattle.cs_eval.proofs.ConstantOperations.{constant_split}
use Rattle.cs_eval.proofs.NotedGuesses.{noted_guesses}
use Rattle.cs_eval.proofs.Records.{unguessed_records}
use Rattle.cs_eval.proofs.SameQuestions.{asked_split}
use Rattle.cs_eval.proofs.TwoWays.{if_ok_both}
use Rattle.cs_eval.proofs.operations.answers.Goals as goal

pub returns-in-Some-clause-answers : goal.returns-in-Some-clause-answers
returns-in-Some-clause-answers c =
    if_ok_both {X = Vec Piece Global} _ _ _ _
    (λ (pieces : Vec Piece Global). λ made. λ inhabited.
    asked_split c.args.model c.args.constraints.now c.args.guess.0 c.args.question.now c.in_ok-question.question pieces.items
    c.in_ok-question.ensures.form c.in_ok-question.ensures.ready
    (constant_split c.args.model c.args.constraints.now c.args.guess.0 c.in_ok-question.question c.in-Some.operation pieces.items
    c.in-Some.ensures.constants c.in-Some.ensures.same inhabited made))
    c.computed.ensures.piece c.computed.ensures.inhabited

pub returns-in-None-clause-answers : goal.returns-in-None-clause-answers
returns-in-None-clause-answers c =
    IfOk-weaker {X = Vec Piece Global} _ _ _
    (λ (pieces : Vec Piece Global). λ recorded.
    asked_split c.args.model c.args.constraints.now c.args.guess.0 c.args.question.now c.in_ok-question.question pieces.items
    c.in_ok-question.ensures.form c.in_ok-question.ensures.ready recorded.answers)
    c.followed.ensures

pub returns-in-Some-clause-notes : goal.returns-in-Some-clause-notes
returns-in-Some-clause-notes c =
    let model = c.args.model in
    let sets = c.args.constraints.now in
    let asked = c.in_ok-question.question in
    let of = c.in-Some.operation in
    IfOk-weaker {X = Vec Piece Global} _ _ _
    (λ (pieces : Vec Piece Global). λ made.
    noted_guesses model sets c.args.question.now asked c.in_ok-question.ensures.form c.in_ok-question.ensures.ready pieces.items
    (unguessed_records (IsRecordOfQuestion model sets asked) (shows model of None) (number_term (own_result model of)) sets pieces.items made))
    c.computed.ensures.piece

pub returns-in-None-clause-notes : goal.returns-in-None-clause-notes
returns-in-None-clause-notes c =
    IfOk-weaker {X = Vec Piece Global} _ _ _
    (λ (pieces : Vec Piece Global). λ recorded.
    noted_guesses c.args.model c.args.constraints.now c.args.question.now c.in_ok-question.question c.in_ok-question.ensures.form
    c.in_ok-question.ensures.ready pieces.items recorded.records)
    c.followed.ensures
