use Rattle.std.specs.Prelude.{unwrap_or}
use Rattle.cs_meaning.specs.Operators as operators
use Rattle.cs_progress.proofs.Carrying.{handed}
use Rattle.cs_operators.specs.Pointing.{both_values, related}
use Rattle.cs_operators.proofs.Relations.{relation_check, offsets_given}
use Rattle.cs_operators.proofs.operators.related.Goals as goal

pub returns-in_err-check-clause-act : goal.returns-in_err-check-clause-act
returns-in_err-check-clause-act g c = λ every bases one other once left right.
    let passes = c.in_err-check.ensures.act every bases (λ v. operators.one_object c.args.at (operators.related (one v) (other v)))
    (relation_check c.args.at c.args.state.now one other c.in_relation-found.result
    (λ v fits. c.in_relation-found.ensures bases v (one v) (other v) once left.named right.named (left.seen_is v fits) (right.seen_is v fits))
    c.is_some-same.result c.is_some-same.ensures) in
    handed c.args.state.now bases c.args.attempt.now.progress c.check.new.self.progress c.from_residual.result
    (λ v. related c.args.at (one v) (other v)) both_values c.in_err-check.field-0.0 c.from_residual.ensures
    (λ waits onward cells v. passes.waits waits (onward (unwrap_or (operators.related (one v) (other v)) operators.NO_OFFSETS)) cells v)

pub returns-clause-act : goal.returns-clause-act
returns-clause-act g c = λ every bases one other once left right.
    let passes = c.in_ok-check.ensures.act every bases (λ v. operators.one_object c.args.at (operators.related (one v) (other v)))
    (relation_check c.args.at c.args.state.now one other c.in_relation-found.result
    (λ v fits. c.in_relation-found.ensures bases v (one v) (other v) once left.named right.named (left.seen_is v fits) (right.seen_is v fits))
    c.is_some-same.result c.is_some-same.ensures) in
    rw c.ok_or.ensures.value
    (offsets_given c.args.at c.args.state.now one other c.in_relation-found.result
    (λ v fits. c.in_relation-found.ensures bases v (one v) (other v) once left.named right.named (left.seen_is v fits) (right.seen_is v fits))
    bases c.args.attempt.now.progress c.check.new.self.progress passes.through)
