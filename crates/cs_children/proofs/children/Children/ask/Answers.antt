use Rattle.std.proofs.Common.{◌≡◌, ℕ, ◌+◌, ◌≤◌, ◌<◌, Some, rules, ap, ◌∙◌, subst}
use Rattle.cs_terms.specs.declared.symbol.SymName.TheVariants.{Guess as GuessAt}
use Rattle.cs_constraints.specs.Constraints.{set_of}
use Rattle.cs_eval.specs.Followed.{AreAnswers}
use Rattle.cs_eval.specs.Noted.{NotesGuess}
use Rattle.cs_eval.specs.Splits.{Each}
use Rattle.cs_state.specs.declared.state.State.{State}
use Rattle.cs_state.specs.Naming.{naming}
use Rattle.cs_pieces.specs.Pieces.{AreOfQuestion}
use Rattle.cs_successors.specs.Explorations.{model_of}
use Rattle.cs_children.proofs.AddedPieces.{over_added, pieces_added, not_found}
use Rattle.cs_children.proofs.children.Children.ask.Goals as goal

pub returns-in_default-clause-adds : goal.returns-in_default-clause-adds
returns-in_default-clause-adds c =
    let state = c.args.state.value in
    let limit = c.args.exploration.now.budgets.events in
    let same : c.deref.result.now ≡ state = search rules in
    over_added c.end.result limit c.args.exploration.now.rules.now c.args.state c.args.at
    (AreOfQuestion (model_of c.args.exploration.now) (naming c.args.tables.now) state c.args.question.now) c.args.self.now c.end.new.self c.over.result
    c.over.ensures (subst (λ (s : State). limit ≤ s.counters.events) same c.in_default.ensures) c.end.ensures.adds

pub returns-clause-adds : goal.returns-clause-adds
returns-clause-adds c =
    let state = c.args.state.value in
    let guess = c.in_ok-guess.guess in
    let limit = c.args.exploration.now.budgets.events in
    let same : c.deref.result.now ≡ state = search rules in
    let too : c.deref-2.result.now ≡ state = search rules in
    let yet : c.deref-3.result.now ≡ state = search rules in
    let next = c.in-Some.ensures in
    pieces_added c.add_all.result limit c.args.exploration.now.rules.now c.args.state c.args.at
    (AreOfQuestion (model_of c.args.exploration.now) (naming c.sym.new.self) state c.args.question.now) c.args.self.now c.add_all.new.self guess
    c.in_ok-pieces.pieces.items (subst (λ (s : State). s.counters.events < limit) same next.0) (record {
      named = c.in_ok-guess.ensures.named ∙ ap (λ (n : ℕ). Some (GuessAt n)) (next.1 ∙ ap (λ (s : State). s.counters.events + 1) same);
      fresh = not_found c.range_of.result (λ x. x.now) (set_of state.constraints guess.0) c.is_some.result
          (c.range_of.ensures.set ∙ ap (λ (s : State). set_of s.constraints guess.0) too) c.is_some.ensures c.if-is_some.false;
      answers = subst (λ (s : State). AreAnswers (model_of c.args.exploration.now) s.constraints guess.0 c.args.question.now c.in_ok-pieces.pieces.items) yet
          c.in_ok-pieces.ensures.answers;
      notes = subst (λ (s : State). Each (NotesGuess (model_of c.args.exploration.now) s.constraints c.args.question.now) c.in_ok-pieces.pieces.items) yet
          c.in_ok-pieces.ensures.notes;
    }) c.add_all.ensures
