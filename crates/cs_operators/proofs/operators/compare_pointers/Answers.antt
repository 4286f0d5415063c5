use Rattle.std.proofs.Common.{refl}
use Rattle.cs_terms.specs.Term.{value_of}
use Rattle.cs_events.specs.declared.operation.Operation.TheVariants.{Compare}
use Rattle.cs_meaning.specs.Operators as operators
use Rattle.cs_eval.specs.declared.question.Question.TheVariants as question
use Rattle.cs_progress.proofs.Carrying.{carries_on}
use Rattle.cs_operators.specs.Pointing.{cell_in}
use Rattle.cs_operators.proofs.Comparing.{equal, equal_pointers, ordered_pointers}
use Rattle.cs_operators.proofs.Looking.{both_looked, relation_waits, relation_asked}
use Rattle.cs_operators.proofs.operators.compare_pointers.Goals as goal

pub returns-in_err-one-in-Less-clause-act : goal.returns-in_err-one-in-Less-clause-act
returns-in_err-one-in-Less-clause-act g c = λ every bases once left_named right_named.
    let state = c.args.state.now in
    let left = c.args.left in
    let right = c.args.right in
    relation_waits state bases c.args.at left right (Compare c.args.operator)
    (λ v. operators.compare_pointers c.args.at c.args.operator (cell_in bases state left v) (cell_in bases state right v))
    (λ v onward. ordered_pointers c.args.at c.args.operator (cell_in bases state left v) (cell_in bases state right v) onward c.in-Less.is)
    c.args.attempt.now.progress c.look.new.progress c.look-2.new.progress c.related.new.attempt.progress
    (c.in_ok-left.ensures.through bases left_named) (c.in_ok-right.ensures.through bases right_named)
    c.from_residual-in_err-one-in-Less.result c.in_err-one-in-Less.field-0.0 c.from_residual-in_err-one-in-Less.ensures
    (c.in_err-one-in-Less.ensures.act every bases (cell_in bases state left) (cell_in bases state right) once
    (record { named = c.in_ok-left.ensures.named bases left_named; seen_is = c.in_ok-left.ensures.seen bases })
    (record { named = c.in_ok-right.ensures.named bases right_named; seen_is = c.in_ok-right.ensures.seen bases }))

pub returns-in-Equal-clause-act : goal.returns-in-Equal-clause-act
returns-in-Equal-clause-act g c = λ every bases once left_named right_named.
    let state = c.args.state.now in
    let left = c.args.left in
    let right = c.args.right in
    carries_on state bases c.args.attempt.now.progress c.equality.new.progress c.equality.result c.look-2.new.progress
    (λ v. operators.compare_pointers c.args.at c.args.operator (cell_in bases state left v) (cell_in bases state right v))
    (λ v. equal c.args.at c.args.operator (cell_in bases state left v) (cell_in bases state right v)) (λ made v. value_of v made)
    (both_looked state bases c.args.at left right c.args.attempt.now.progress.used c.look.new.progress.used c.look-2.new.progress.used
    (λ v. operators.compare_pointers c.args.at c.args.operator (cell_in bases state left v) (cell_in bases state right v))
    (λ v. equal c.args.at c.args.operator (cell_in bases state left v) (cell_in bases state right v))
    (λ v onward. equal_pointers c.args.at c.args.operator (cell_in bases state left v) (cell_in bases state right v) onward c.in-Equal.is)
    (c.in_ok-left.ensures.through bases left_named) (c.in_ok-right.ensures.through bases right_named))
    (c.equality.ensures.act bases (cell_in bases state left) (cell_in bases state right) once
    (record { named = c.in_ok-left.ensures.named bases left_named; seen_is = c.in_ok-left.ensures.seen bases })
    (record { named = c.in_ok-right.ensures.named bases right_named; seen_is = c.in_ok-right.ensures.seen bases }))

pub returns-in_ok-one-in-Less-clause-act : goal.returns-in_ok-one-in-Less-clause-act
returns-in_ok-one-in-Less-clause-act g c = λ every bases once left_named right_named.
    let state = c.args.state.now in
    let left = c.args.left in
    let right = c.args.right in
    relation_asked state bases c.args.at left right (Compare c.args.operator)
    (λ v. operators.compare_pointers c.args.at c.args.operator (cell_in bases state left v) (cell_in bases state right v))
    (λ v onward. ordered_pointers c.args.at c.args.operator (cell_in bases state left v) (cell_in bases state right v) onward c.in-Less.is)
    c.args.attempt.now.progress c.look.new.progress c.look-2.new.progress c.ask.new.self
    (c.in_ok-left.ensures.through bases left_named) (c.in_ok-right.ensures.through bases right_named)
    c.related.new.attempt.progress c.in_ok-one-in-Less.one c.in_ok-one-in-Less.other
    (question.Compare c.args.operator c.in_ok-one-in-Less.one c.in_ok-one-in-Less.other) c.ask.result (λ v. refl)
    (c.in_ok-one-in-Less.ensures.act every bases (cell_in bases state left) (cell_in bases state right) once
    (record { named = c.in_ok-left.ensures.named bases left_named; seen_is = c.in_ok-left.ensures.seen bases })
    (record { named = c.in_ok-right.ensures.named bases right_named; seen_is = c.in_ok-right.ensures.seen bases }))
    c.ask.ensures.answered c.ask.ensures.none c.ask.ensures.first
