use Rattle.std.proofs.Common.{ap, refl, subst}
use Rattle.cs_constraints.specs.Constraints.{AreInhabited}
use Rattle.cs_state.specs.declared.state.State.{State}
use Rattle.cs_state.specs.Naming.{naming}
use Rattle.cs_suspects.specs.Solved.{AreInputsOf, AreGuessesOf}
use Rattle.cs_suspects.proofs.Solutions.{has_solution}
use Rattle.cs_suspects.proofs.suspected.suspect.Goals as goal

pub returns : goal.returns
returns c =
    let names = naming c.args.tables.now in
    let state = c.args.end.now.state.value in
    let inhabited : AreInhabited state.constraints =
    subst (λ (s : State). AreInhabited s.constraints) c.deref.ensures c.in_ok-have_numbers.ensures in
    let inputs : AreInputsOf state.constraints names.syms c.in_ok-inputs.inputs =
    subst (λ (s : State). AreInputsOf s.constraints names.syms c.in_ok-inputs.inputs) c.deref-2.ensures c.in_ok-inputs.ensures in
    let guesses : AreGuessesOf names state.constraints state.asked c.in_ok-guesses.guesses.items =
    subst (λ (s : State). AreGuessesOf names s.constraints s.asked c.in_ok-guesses.guesses.items) c.deref-3.ensures c.in_ok-guesses.ensures in
    let found = has_solution state.constraints inhabited in
    record {
      of_end = record {
        v = found.0;
        solution = found.1;
        what = refl;
        events = ap (λ (s : State). s.counters.events) c.deref-4.ensures;
        inputs = inputs found.0 found.1;
        guesses = guesses found.0 found.1;
      };
    }
