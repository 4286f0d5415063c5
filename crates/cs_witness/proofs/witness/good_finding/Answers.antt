use Rattle.std.proofs.Common.{◌≡◌, IsTrue, sym, subst, rules}
use Rattle.cs_findings.specs.GoodFindings.{IsFinding}
use Rattle.cs_witness.proofs.GoodLists.{good_plain, good_tried}
use Rattle.cs_witness.proofs.witness.good_finding.Goals as goal

pub returns-then-guesses_nothing-clause-good : goal.returns-then-guesses_nothing-clause-good
returns-then-guesses_nothing-clause-good c =
    let yes : IsTrue c.guesses_nothing.result = search rules in
    good_plain c.args.entry.now c.args.finding c.requires.form c.requires.shown (c.guesses_nothing.ensures yes)

pub returns-in-Some-clause-good : goal.returns-in-Some-clause-good
returns-in-Some-clause-good c =
    let so : c.in-Some.found.what ≡ c.args.finding.what = rw c.in-Some.is at c.in_ok-found.ensures.so in
    good_plain c.args.entry.now c.in-Some.found (subst IsFinding (sym so) c.requires.form) (rw c.in-Some.is at c.in_ok-found.ensures.shown)
    (rw c.in-Some.is at c.in_ok-found.ensures.plain)

pub returns-in-None-clause-good : goal.returns-in-None-clause-good
returns-in-None-clause-good c = good_tried c.args.entry.now c.args.finding c.requires.form c.requires.shown (rw c.in-None.is at c.in_ok-found.ensures.elsewhere)
