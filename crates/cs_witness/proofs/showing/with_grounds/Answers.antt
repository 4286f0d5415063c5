use Rattle.std.proofs.Common.{◌≡◌, ℕ, ◌≤◌, false, length, refl, sym, ◌∙◌, subst, rules, IsTrue}
use Rattle.std.specs.Prelude.{All}
use Rattle.cs_events.specs.declared.guess.Guess.{Guess}
use Rattle.cs_findings.specs.GoodFindings.{Ascend}
use Rattle.cs_findings.specs.Runs.{run_of}
use Rattle.cs_witness.proofs.EvidentRuns.{all_after_none}
use Rattle.cs_witness.proofs.Showings.{shows}
use Rattle.cs_witness.proofs.showing.with_grounds.Goals as goal

pub returns-in-Some-clause-shown : goal.returns-in-Some-clause-shown
returns-in-Some-clause-shown c =
    let entry = c.args.entry.now in
    let right : IsTrue c.are_in_order.result = search rules in
    let count : c.len.result ≡ length c.args.listed.replayed.log.events.items = search rules in
    let passed = rw c.as_slice.ensures.value at (c.are_in_order.ensures.passed right) in
    shows entry c.args.listed
    (record { what = c.args.listed.replayed.outcome; run = c.args.listed.run; grounds = c.in-Some.grounds; events = c.args.listed.replayed.log.events })
    c.requires.listed refl refl refl (rw c.as_slice.ensures.value at (c.are_in_order.ensures.ascending right))
    (subst (λ (n : ℕ). All (λ (g : Guess). g.event ≤ n) c.args.listed.run.guesses.items) count passed) (rw c.in-Some.is at c.in_ok-grounds.ensures.grounds)

pub returns-in-None-clause-found : goal.returns-in-None-clause-found
returns-in-None-clause-found c passed evident = (rw c.in-None.is at c.in_ok-grounds.ensures.found) evident

pub returns-then-not-are_in_order-clause-found : goal.returns-then-not-are_in_order-clause-found
returns-then-not-are_in_order-clause-found c passed evident =
    let run = run_of c.args.listed.run in
    let count : c.len.result ≡ length c.args.listed.replayed.log.events.items = search rules in
    let ascend : Ascend run.guesses = subst Ascend (sym evident.is.guesses) evident.evident.ascending in
    let after = all_after_none c.args.entry.now c.args.guesses.now run evident in
    let within = subst (λ (n : ℕ). All (λ (g : Guess). g.event ≤ n) run.guesses) (sym count) passed in
    let orders = rw c.as_slice.ensures.value at c.are_in_order.ensures.yes in
    let yes : IsTrue c.are_in_order.result = orders ascend after within in
    let no : c.are_in_order.result ≡ false = search rules in
    sym no ∙ yes
