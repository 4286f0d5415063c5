use Rattle.std.proofs.Common.{rules, tests, ◌∙◌}
use Rattle.std.proofs.lemmas.Iterator.{YieldsList-from_slice}
use Rattle.std.proofs.lemmas.Iterator.Consumers.{YieldsList-from_filter, count_from_yields_List}
use Rattle.std.proofs.lemmas.List.Sums.{length-filter}
use Rattle.cs_results.specs.Selected.{is_kind}
use Rattle.cs_results.specs.declared.finding.Finding.{Finding}
use Rattle.cs_report.proofs.counts.count_of.Goals as goal

pub returns : goal.returns
returns c =
    count_from_yields_List c.filter.result _ c.count.ensures.ran
    (YieldsList-from_filter _ (λ (f : Finding). is_kind c.args.kind f.what) (YieldsList-from_slice c.args.findings.now (cc)) c.filter.ensures.closure
    (λ x b q k. search (rules, tests))) ∙ length-filter (λ (f : Finding). is_kind c.args.kind f.what) c.args.findings.now
