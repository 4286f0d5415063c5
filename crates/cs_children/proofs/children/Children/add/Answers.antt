use Rattle.std.proofs.Common.{◌≡◌, ℕ, ◌+◌, Some, rules, sym, ap, ◌∙◌}
use Rattle.std.specs.Prelude.{option_map}
use Rattle.std.proofs.lemmas.Result.{on_ok_weaker}
use Rattle.std.specs.FinMap as finite
use Rattle.cs_state.specs.declared.asked.Asked.{Asked}
use Rattle.cs_state.specs.declared.state.State.{State}
use Rattle.cs_pieces.specs.Pieces.{asked_for}
use Rattle.cs_pieces.proofs.GuessedAsked.{noted_after}
use Rattle.cs_children.proofs.SettledAnswers.{settled_as}
use Rattle.cs_children.proofs.children.Children.add.Goals as goal

pub returns-in-Some : goal.returns-in-Some
returns-in-Some c =
    let before = c.args.state.value in
    let event : c.asked.result.event ≡ before.counters.events + 1 = ap (λ (one : Asked). one.event) c.asked.ensures ∙ search rules in
    let noted : c.asked.result ≡ asked_for (before.counters.events + 1) c.args.guess c.in-Some.guessed =
    c.asked.ensures ∙ ap (λ (n : ℕ). asked_for n c.args.guess c.in-Some.guessed) (sym (ap (λ (one : Asked). one.event) c.asked.ensures) ∙ event) in
    let guesses : c.deref_mut-in-Some.result.now.asked ≡ before.asked = search rules in
    let constraints : c.deref.result.now.constraints ≡ before.constraints = ap (λ (s : State). s.constraints) c.deref.ensures in
    let guess_is : c.guess_of.result ≡ Some c.args.guess = c.guess_of.ensures ∙ ap (option_map (λ what. c.args.guess)) c.in-Some.is in
    on_ok_weaker c.add_child.result (λ adds. (
      _,
      adds,
      (
        record {
          event = search rules;
          guessed = search rules;
          answer = c.in_ok-answer.answer;
          settled = settled_as constraints guess_is c.leads_on-given.ensures c.in_ok-answer.ensures;
          declared = search rules;
          phase = search rules;
          asked = noted_after (before.counters.events + 1) c.args.guess before.asked c.in-Some.is
              (ap (λ (s : State). s.asked) c.in_ok-guess.ensures.ok ∙ (λ i. finite.insert (guesses i) (event i, 0) (noted i)));
          state = search rules;
        },
        tt,
      ),
    )) c.add_child.ensures
