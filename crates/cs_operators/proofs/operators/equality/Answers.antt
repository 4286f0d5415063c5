use Rattle.std.proofs.Common.{ℤ, Option, ap}
use Rattle.cs_terms.specs.Term.{value_of}
use Rattle.cs_events.specs.Operations.{truth_number}
use Rattle.cs_meaning.specs.Operators as operators
use Rattle.cs_eval.specs.declared.question.Question.TheVariants as question
use Rattle.cs_eval.specs.declared.question.Tested.TheVariants.{Truth}
use Rattle.cs_progress.proofs.KnownSymbols.{constant_known}
use Rattle.cs_operators.specs.Pointing.{equality}
use Rattle.cs_operators.proofs.Asked.{asked, shown, not_shown}
use Rattle.cs_operators.proofs.Relations.{equality_apart}
use Rattle.cs_operators.proofs.operators.equality.Goals as goal

pub returns-in-Some-clause-act : goal.returns-in-Some-clause-act
returns-in-Some-clause-act c = λ bases one other once left right.
    asked c.args.state.now c.args.at (question.Compare c.args.operator c.in-Some.one c.in-Some.other) bases c.args.progress.now c.ask.new.self
    c.ask.result (λ v. equality c.args.at c.args.operator (one v) (other v))
    (λ v fits onward.
    ap (λ (found : Option (ℤ × ℤ)).
    operators.equality c.args.at c.args.operator (operators.both_null (one v) (other v)) found onward)
    (c.in-Some.ensures bases v (one v) (other v) once left.named right.named (left.seen_is v fits) (right.seen_is v fits)))
    c.ask.ensures.answered c.ask.ensures.none c.ask.ensures.first

pub returns-in_err-ask-clause-act : goal.returns-in_err-ask-clause-act
returns-in_err-ask-clause-act c = λ bases one other once left right.
    let holds = c.compares_apart-holds.result in
    not_shown c.args.state.now c.args.at (question.Test Truth c.number_of.result) bases c.args.progress.now c.ask-2.new.self
    c.from_residual.result c.in_err-ask.field-0.0 (λ v. equality c.args.at c.args.operator (one v) (other v)) (λ made v. value_of v made)
    (λ v. truth_number holds)
    (λ v fits onward. rw c.number_of.ensures
    (equality_apart c.args.at c.args.operator v (one v) (other v) holds onward
    (c.in_default.ensures bases v (one v) (other v) once left.named right.named (left.seen_is v fits) (right.seen_is v fits))
    (c.compares_apart-holds.ensures bases v (one v) (other v) left.named right.named (left.seen_is v fits) (right.seen_is v fits))))
    c.from_residual.ensures c.in_err-ask.ensures.none c.in_err-ask.ensures.first

pub returns-clause-act : goal.returns-clause-act
returns-clause-act c = λ bases one other once left right.
    let holds = c.compares_apart-holds.result in
    shown c.args.state.now c.args.at (question.Test Truth c.number_of.result) bases c.args.progress.now c.ask-2.new.self
    c.in_ok-ask.field-0 c.number_of-2.result (λ v. equality c.args.at c.args.operator (one v) (other v)) (λ made v. value_of v made)
    (λ v fits onward. rw (c.number_of.ensures, c.number_of-2.ensures)
    (equality_apart c.args.at c.args.operator v (one v) (other v) holds onward
    (c.in_default.ensures bases v (one v) (other v) once left.named right.named (left.seen_is v fits) (right.seen_is v fits))
    (c.compares_apart-holds.ensures bases v (one v) (other v) left.named right.named (left.seen_is v fits) (right.seen_is v fits))))
    c.in_ok-ask.ensures.answered

pub returns-clause-over : goal.returns-clause-over
returns-clause-over c = constant_known c.args.state.now c.number_of-2.result _ c.number_of-2.ensures
