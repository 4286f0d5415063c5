use Rattle.std.proofs.Common.{◌<◌, ◌≤◌, false, length, take, get_or, sym, subst, arith}
use Rattle.std.proofs.lemmas.List.{take_more, take_all}
use Rattle.cs_findings.specs.GoodEntries.{IsFault, IsOver}
use Rattle.cs_witness.specs.Witnesses.{AreGoodReports, AreGoodOvers}
use Rattle.cs_witness.proofs.GoodLists.{none_good}
use Rattle.cs_witness.specs.declared.witness.Rank.{Rank}
use Rattle.cs_witness.specs.Ranks.{AreRanked}
use Rattle.cs_witness.proofs.ListedOutcomes.{ListRanked, none_ranked, more_ranked, all_ranked, has_finding}
use Rattle.cs_witness.proofs.witness.result.Goals as goal

pub loop-rank-init : goal.loop-rank-init
loop-rank-init c =
    let entry = c.args.entry.now in
    record {
      reports = subst (AreGoodReports entry) (sym c.new-findings.ensures.reports) (none_good entry IsFault);
      overs = subst (AreGoodOvers entry) (sym c.new-findings.ensures.overs) (none_good entry IsOver);
      listed = none_ranked entry c.args.suspects.now c.new-findings.result.reports.items c.new-findings.result.overs.items;
    }

pub loop-rank-preserved : goal.loop-rank-preserved
loop-rank-preserved c =
    let entry = c.args.entry.now in
    let suspects = c.args.suspects.now in
    let ranks = c.deref-rank-items.result.now in
    let i = c.loop-rank.rank-index in
    let old = c.loop-rank.findings in
    let new = c.take_numbered.new.self in
    let below : i < length ranks = omega arith in
    let d : Rank = record { guesses = false; events = 0; number = 0 } in
    record {
      reports = c.in_ok-take_numbered.ensures.reports;
      overs = c.in_ok-take_numbered.ensures.overs;
      listed = subst (λ l. ListRanked entry suspects l new.reports.items new.overs.items) (sym (take_more ranks i d below))
          (more_ranked entry suspects (take i ranks) (get_or ranks i d) old.reports.items old.overs.items new.reports.items new.overs.items
          c.in_ok-take_numbered.ensures.reports_kept c.in_ok-take_numbered.ensures.overs_kept c.loop-rank.invariant.listed
          c.in_ok-take_numbered.ensures.found);
    }

pub returns-clause-found : goal.returns-clause-found
returns-clause-found c suspect among form evident =
    let entry = c.args.entry.now in
    let suspects = c.args.suspects.now in
    let ranks = c.deref-rank-items.result.now in
    let i = c.loop-rank.rank-index in
    let findings = c.loop-rank.findings in
    let result = c.into_result.result.result in
    let none : length ranks ≤ i = omega arith in
    let ranked : AreRanked (length suspects) ranks = subst (AreRanked (length suspects)) (sym c.deref-rank-items.ensures.value) c.in_ok-ranks.ensures in
    let listed : ListRanked entry suspects ranks findings.reports.items findings.overs.items =
    subst (λ l. ListRanked entry suspects l findings.reports.items findings.overs.items) (take_all i ranks none) c.loop-rank.invariant.listed in
    has_finding result suspect.what findings.reports.items findings.overs.items c.into_result.ensures.reports c.into_result.ensures.overs
    (all_ranked entry suspects ranks findings.reports.items findings.overs.items ranked listed suspect among form evident)
