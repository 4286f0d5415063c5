use Rattle.std.proofs.Common.{◌≡◌, [], true, false, IsTrue, sym, subst, ◌∙◌, rules}
use Rattle.std.specs.Prelude.{List}
use Rattle.cs_events.specs.declared.guess.Guess.{Guess}
use Rattle.cs_findings.specs.GoodFindings.{IsFinding}
use Rattle.cs_witness.specs.Entries.{Gives}
use Rattle.cs_witness.proofs.Showings.{shows_plain, ends_elsewhere}
use Rattle.cs_witness.proofs.showing.plain.Goals as goal

pub returns-then-not-is_outcome-clause-elsewhere : goal.returns-then-not-is_outcome-clause-elsewhere
returns-then-not-is_outcome-clause-elsewhere c =
    let entry = c.args.entry.now in
    let replayed = c.in_ok-listed.listed.replayed in
    let no : c.is_outcome.result ≡ false = search rules in
    let gives : Gives entry (record { inputs = c.args.inputs.now; guesses = [] }) replayed =
    subst (λ (gs : List Guess). Gives entry (record { inputs = c.args.inputs.now; guesses = gs }) replayed) c.new-guesses.ensures.items
    c.in_ok-listed.ensures.same in
    ends_elsewhere entry c.args.inputs.now replayed c.args.what gives
    (λ same.
    let yes : c.is_outcome.result ≡ true = c.is_outcome.ensures.1 (same, subst IsFinding (sym same) c.requires.finding) in
    cc)

pub returns-clause-shown : goal.returns-clause-shown
returns-clause-shown c =
    let listed = c.in_ok-listed.listed in
    let none : listed.run.guesses.items ≡ [] = c.in_ok-listed.ensures.guesses ∙ c.new-guesses.ensures.items in
    let yes : IsTrue c.is_outcome.result = search rules in
    let same : listed.replayed.outcome ≡ c.args.what = (c.is_outcome.ensures.0 yes).0 in
    shows_plain c.args.entry.now listed c.args.what c.new-grounds.result c.in_ok-listed.ensures.listed none same c.new-grounds.ensures.items
