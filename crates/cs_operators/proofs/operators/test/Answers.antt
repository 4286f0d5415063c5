use Rattle.std.proofs.Common.{◌≡◌, not, refl, sym, ap, ◌∙◌}
use Rattle.cs_terms.specs.Term.{value_of}
use Rattle.cs_events.specs.Operations.{is_true}
use Rattle.cs_eval.specs.declared.question.Question.TheVariants as question
use Rattle.cs_meaning.specs.Access.{shows_then}
use Rattle.cs_progress.proofs.Carrying.{handed, carries_on}
use Rattle.cs_operators.specs.Pointing.{cell_in, shows_of, test}
use Rattle.cs_operators.proofs.Asked.{shown, not_shown}
use Rattle.cs_operators.proofs.Tests.{number_test, truth_test, is_at, at_else, look_waits, look_leads}
use Rattle.cs_operators.proofs.operators.test.Goals as goal
use Rattle.cs_operators.proofs.operators.test.Goals.{in-At, in_default-matches}

pub returns-in_err-ask : goal.returns-in_err-ask
returns-in_err-ask c = record {
  act = λ bases named.
      not_shown c.args.state.now c.args.at (question.Test c.args.tested c.in_ok-term.term) bases c.args.progress.now c.ask.new.self
      c.from_residual-in_err-ask.result c.in_err-ask.field-0.0
      (λ v. test c.args.at c.args.tested (cell_in bases c.args.state.now c.args.value v)) (λ holds v. holds)
      (λ v. is_true (value_of v c.in_ok-term.term))
      (λ v fits onward. rw c.in-Number.is
      (number_test c.args.at c.args.tested _ (value_of v c.in_ok-term.term) _ onward (c.in_ok-term.ensures.value v fits) refl))
      c.from_residual-in_err-ask.ensures c.in_err-ask.ensures.none c.in_err-ask.ensures.first;
}

pub returns-in-Some : goal.returns-in-Some
returns-in-Some c = record {
  act = λ bases named.
      let truth = rw c.in-Some.is at c.in_ok-zero.ensures.truth in
      shown c.args.state.now c.args.at (question.Test c.args.tested c.in_ok-term.term) bases c.args.progress.now c.ask.new.self
      c.in_ok-ask.field-0 (not c.in-Some.zero)
      (λ v. test c.args.at c.args.tested (cell_in bases c.args.state.now c.args.value v)) (λ holds v. holds)
      (λ v fits onward. rw c.in-Number.is
      (number_test c.args.at c.args.tested _ (value_of v c.in_ok-term.term) _ onward (c.in_ok-term.ensures.value v fits) (ap not (truth v fits))))
      c.in_ok-ask.ensures.answered;
}

pub returns-in_err-look : goal.returns-in_err-look
returns-in_err-look c = record {
  act = λ bases named.
      handed c.args.state.now bases c.args.progress.now c.look.new.progress c.from_residual-in_err-look.result
      (λ v. test c.args.at c.args.tested (cell_in bases c.args.state.now c.args.value v)) (λ holds v. holds) c.in_err-look.field-0.0
      c.from_residual-in_err-look.ensures
      (λ waits. look_waits c.args.at c.args.tested c.args.state.now bases c.args.value c.in_default.not-Number
      c.args.progress.now.used c.look.new.progress.first
      (c.in_err-look.ensures.waits waits bases named));
}

pub returns-in_err-ask-2 : goal.returns-in_err-ask-2
returns-in_err-ask-2 c =
    let holds = c.match-matches.matches in
    let seen : is_at c.in_ok-look.field-0 ≡ c.match-matches.matches =
    elim c.match-matches.branch [
      | in-At w ↦ ap is_at w.in-At.is ∙ sym w.matches-is
      | in_default-matches w ↦ at_else c.in_ok-look.field-0 w.in_default-matches.not-At ∙ sym w.matches-is
    ] in
    record {
      act = λ bases named.
          carries_on c.args.state.now bases c.args.progress.now c.ask-2.new.self c.from_residual-in_err-ask-2.result c.look.new.progress
          (λ v. test c.args.at c.args.tested (cell_in bases c.args.state.now c.args.value v))
          (λ v onward. shows_then c.args.at (shows_of c.args.tested holds) (onward holds)) (λ holds v. holds)
          (look_leads c.args.at c.args.tested c.args.state.now bases c.args.value c.in_default.not-Number c.in_ok-look.field-0 holds
          c.args.progress.now.used c.look.new.progress.used
          (c.in_ok-look.ensures.named bases named) c.in_ok-look.ensures.seen seen (c.in_ok-look.ensures.through bases named))
          (not_shown c.args.state.now c.args.at (question.Test c.args.tested c.number_of.result) bases c.look.new.progress c.ask-2.new.self
          c.from_residual-in_err-ask-2.result c.in_err-ask-2.field-0.0
          (λ v onward. shows_then c.args.at (shows_of c.args.tested holds) (onward holds)) (λ holds v. holds) (λ v. holds)
          (λ v fits onward. rw c.number_of.ensures (truth_test c.args.at c.args.tested v holds (onward holds)))
          c.from_residual-in_err-ask-2.ensures c.in_err-ask-2.ensures.none c.in_err-ask-2.ensures.first);
    }

pub returns : goal.returns
returns c =
    let holds = c.match-matches.matches in
    let seen : is_at c.in_ok-look.field-0 ≡ c.match-matches.matches =
    elim c.match-matches.branch [
      | in-At w ↦ ap is_at w.in-At.is ∙ sym w.matches-is
      | in_default-matches w ↦ at_else c.in_ok-look.field-0 w.in_default-matches.not-At ∙ sym w.matches-is
    ] in
    record {
      act = λ bases named.
          carries_on c.args.state.now bases c.args.progress.now c.ask-2.new.self _ c.look.new.progress
          (λ v. test c.args.at c.args.tested (cell_in bases c.args.state.now c.args.value v))
          (λ v onward. shows_then c.args.at (shows_of c.args.tested holds) (onward holds)) (λ holds v. holds)
          (look_leads c.args.at c.args.tested c.args.state.now bases c.args.value c.in_default.not-Number c.in_ok-look.field-0 holds
          c.args.progress.now.used c.look.new.progress.used
          (c.in_ok-look.ensures.named bases named) c.in_ok-look.ensures.seen seen (c.in_ok-look.ensures.through bases named))
          (shown c.args.state.now c.args.at (question.Test c.args.tested c.number_of.result) bases c.look.new.progress c.ask-2.new.self
          c.in_ok-ask-2.field-0 holds
          (λ v onward. shows_then c.args.at (shows_of c.args.tested holds) (onward holds)) (λ holds v. holds)
          (λ v fits onward. rw c.number_of.ensures (truth_test c.args.at c.args.tested v holds (onward holds)))
          c.in_ok-ask-2.ensures.answered);
    }
