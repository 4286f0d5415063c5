use Rattle.std.proofs.Common.{refl}
use Rattle.cs_events.specs.declared.operation.Operation.TheVariants.{Difference}
use Rattle.cs_meaning.specs.Operators as operators
use Rattle.cs_eval.specs.declared.question.Question.TheVariants as question
use Rattle.cs_operators.specs.Pointing.{cell_in}
use Rattle.cs_operators.proofs.Looking.{relation_waits, relation_asked}
use Rattle.cs_operators.proofs.operators.difference.Goals as goal

pub returns-in_err-one-clause-act : goal.returns-in_err-one-clause-act
returns-in_err-one-clause-act g c = λ every bases once left_named right_named.
    let state = c.args.state.now in
    let left = c.args.pointers.0 in
    let right = c.args.pointers.1 in
    relation_waits state bases c.args.at left right (λ one other. Difference one other c.args.size)
    (λ v. operators.difference c.args.at (cell_in bases state left v) (cell_in bases state right v) c.args.size) (λ v onward. refl)
    c.args.attempt.now.progress c.look.new.progress c.look-2.new.progress c.related.new.attempt.progress
    (c.in_ok-left.ensures.through bases left_named) (c.in_ok-right.ensures.through bases right_named)
    c.from_residual-in_err-one.result c.in_err-one.field-0.0 c.from_residual-in_err-one.ensures
    (c.in_err-one.ensures.act every bases (cell_in bases state left) (cell_in bases state right) once
    (record { named = c.in_ok-left.ensures.named bases left_named; seen_is = c.in_ok-left.ensures.seen bases })
    (record { named = c.in_ok-right.ensures.named bases right_named; seen_is = c.in_ok-right.ensures.seen bases }))

pub returns-clause-act : goal.returns-clause-act
returns-clause-act g c = λ every bases once left_named right_named.
    let state = c.args.state.now in
    let left = c.args.pointers.0 in
    let right = c.args.pointers.1 in
    relation_asked state bases c.args.at left right (λ one other. Difference one other c.args.size)
    (λ v. operators.difference c.args.at (cell_in bases state left v) (cell_in bases state right v) c.args.size) (λ v onward. refl)
    c.args.attempt.now.progress c.look.new.progress c.look-2.new.progress c.ask.new.self
    (c.in_ok-left.ensures.through bases left_named) (c.in_ok-right.ensures.through bases right_named)
    c.related.new.attempt.progress c.in_ok-one.one c.in_ok-one.other
    (question.Difference c.in_ok-one.one c.in_ok-one.other c.args.size) c.ask.result (λ v. refl)
    (c.in_ok-one.ensures.act every bases (cell_in bases state left) (cell_in bases state right) once
    (record { named = c.in_ok-left.ensures.named bases left_named; seen_is = c.in_ok-left.ensures.seen bases })
    (record { named = c.in_ok-right.ensures.named bases right_named; seen_is = c.in_ok-right.ensures.seen bases }))
    c.ask.ensures.answered c.ask.ensures.none c.ask.ensures.first
