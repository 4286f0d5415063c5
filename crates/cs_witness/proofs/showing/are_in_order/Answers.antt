use Rattle.std.proofs.Common.{◌≡◌, ◌<◌, ◌≤◌, IsTrue, false, length, sym, ◌∙◌, subst, arith, rules}
use Rattle.std.specs.Prelude.{All, pos}
use Rattle.std.proofs.lemmas.List.{drop_all}
use Rattle.cs_events.specs.declared.guess.Guess.{Guess}
use Rattle.cs_witness.proofs.Ascending.{AscendFrom, ascending, ascend_from, ascends_from, ascends_there, all_from}
use Rattle.cs_witness.proofs.showing.are_in_order.Goals as goal

pub loop-guess-init : goal.loop-guess-init
loop-guess-init c = ((λ all. all), (λ all. all), (λ all. all))

pub loop-guess-preserved : goal.loop-guess-preserved
loop-guess-preserved c =
    let guesses = c.args.guesses.now in
    let i = c.loop-guess.guess-index in
    let d : Guess = record { event = 0; number = pos 0 } in
    let below : i < length guesses = omega arith in
    let passes : IsTrue c.stands_after.result = search rules in (
      λ more. c.loop-guess.invariant.0 (ascends_from guesses i d below c.loop-guess.last (c.stands_after.ensures.after passes) more),
      λ all. (ascends_there guesses i d below c.loop-guess.last (c.loop-guess.invariant.1 all)).1,
      λ more. c.loop-guess.invariant.2 (all_from guesses i d below c.args.events (c.stands_after.ensures.within passes) more),
    )

pub returns-clause-ascending : goal.returns-clause-ascending
returns-clause-ascending c passes =
    let guesses = c.args.guesses.now in
    let none : length guesses ≤ c.loop-guess.guess-index = omega arith in
    ascending 0 guesses (c.loop-guess.invariant.0 (subst (AscendFrom c.loop-guess.last) (sym (drop_all c.loop-guess.guess-index guesses none)) tt))

pub returns-clause-passed : goal.returns-clause-passed
returns-clause-passed c passes =
    let guesses = c.args.guesses.now in
    let none : length guesses ≤ c.loop-guess.guess-index = omega arith in
    c.loop-guess.invariant.2 (subst (All (λ (g : Guess). g.event ≤ c.args.events)) (sym (drop_all c.loop-guess.guess-index guesses none))
    (λ k d there. absurd (omega arith)))

pub returns-then-not-stands_after-clause-yes : goal.returns-then-not-stands_after-clause-yes
returns-then-not-stands_after-clause-yes c ascend after within =
    let guesses = c.args.guesses.now in
    let i = c.loop-guess.guess-index in
    let d : Guess = record { event = 0; number = pos 0 } in
    let below : i < length guesses = omega arith in
    let there = ascends_there guesses i d below c.loop-guess.last (c.loop-guess.invariant.1 (ascend_from 0 guesses ascend after)) in
    let yes : IsTrue c.stands_after.result = c.stands_after.ensures.yes there.0 (within i d below) in
    let no : c.stands_after.result ≡ false = search rules in
    sym no ∙ yes
