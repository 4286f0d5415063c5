use Rattle.std.proofs.Common.{◌≡◌, sym, subst, rules}
use Rattle.std.specs.Prelude.{Contains}
use Rattle.std.specs.List.{insert}
use Rattle.cs_findings.specs.GoodEntries.{IsFault, IsOver}
use Rattle.cs_findings.specs.EveryRun.{outcomes_of}
use Rattle.cs_witness.specs.Witnesses.{IsGoodOf, AreGood, KeepsListed}
use Rattle.cs_witness.proofs.ListedOutcomes.{insertion_keeps, insertion_lists}
use Rattle.cs_witness.proofs.GoodLists.{good_more}
use Rattle.cs_witness.proofs.witness.list_at.Goals as goal

pub returns-in_ok-insert-in-Some-clause-reports : goal.returns-in_ok-insert-in-Some-clause-reports
returns-in_ok-insert-in-Some-clause-reports c form are =
    let entry = c.args.entry.now in
    let findings = c.args.findings.now.items in
    let so : c.in-Some.finding.what ≡ c.args.suspect.now.what = rw c.in-Some.is at c.in_ok-finding.ensures.so in
    let good : IsGoodOf entry c.in-Some.finding = rw c.in-Some.is at c.in_ok-finding.ensures.good in
    let put : c.insert.new.self.items ≡ insert findings c.args.place c.in-Some.finding = search rules in
    subst (AreGood entry IsFault) (sym put)
    (good_more entry IsFault findings c.in-Some.finding c.args.suspect.now.what c.args.place so c.requires.within c.requires.place good form are)

pub returns-in_ok-insert-in-Some-clause-overs : goal.returns-in_ok-insert-in-Some-clause-overs
returns-in_ok-insert-in-Some-clause-overs c form are =
    let entry = c.args.entry.now in
    let findings = c.args.findings.now.items in
    let so : c.in-Some.finding.what ≡ c.args.suspect.now.what = rw c.in-Some.is at c.in_ok-finding.ensures.so in
    let good : IsGoodOf entry c.in-Some.finding = rw c.in-Some.is at c.in_ok-finding.ensures.good in
    let put : c.insert.new.self.items ≡ insert findings c.args.place c.in-Some.finding = search rules in
    subst (AreGood entry IsOver) (sym put)
    (good_more entry IsOver findings c.in-Some.finding c.args.suspect.now.what c.args.place so c.requires.within c.requires.place good form are)

pub returns-in_ok-insert-in-Some-clause-kept : goal.returns-in_ok-insert-in-Some-clause-kept
returns-in_ok-insert-in-Some-clause-kept c =
    let findings = c.args.findings.now.items in
    let put : c.insert.new.self.items ≡ insert findings c.args.place c.in-Some.finding = search rules in
    subst (KeepsListed findings) (sym put) (insertion_keeps findings c.args.place c.in-Some.finding)

pub returns-in_ok-insert-in-Some-clause-found : goal.returns-in_ok-insert-in-Some-clause-found
returns-in_ok-insert-in-Some-clause-found c evident =
    let findings = c.args.findings.now.items in
    let so : c.in-Some.finding.what ≡ c.args.suspect.now.what = rw c.in-Some.is at c.in_ok-finding.ensures.so in
    let put : c.insert.new.self.items ≡ insert findings c.args.place c.in-Some.finding = search rules in
    subst (λ l. Contains (outcomes_of l) c.args.suspect.now.what) (sym put)
    (subst (Contains (outcomes_of (insert findings c.args.place c.in-Some.finding))) so (insertion_lists findings c.args.place c.in-Some.finding))
