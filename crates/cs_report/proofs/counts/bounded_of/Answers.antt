use Rattle.std.proofs.Common.{rules, tests, ◌∙◌}
use Rattle.std.proofs.lemmas.Iterator.{YieldsList-from_slice}
use Rattle.std.proofs.lemmas.Iterator.Consumers.{YieldsList-from_filter, count_from_yields_List}
use Rattle.std.proofs.lemmas.List.Sums.{length-filter}
use Rattle.cs_results.specs.declared.result.EntryResult.{EntryResult}
use Rattle.cs_results.specs.Verdicts.{is_bounded}
use Rattle.cs_report.proofs.counts.bounded_of.Goals as goal

pub returns : goal.returns
returns c =
    count_from_yields_List c.filter.result _ c.count.ensures.ran
    (YieldsList-from_filter _ (λ (r : EntryResult). is_bounded r.verdict) (YieldsList-from_slice c.args.results.now (cc)) c.filter.ensures.closure
    (λ x b q k. search (rules, tests))) ∙ length-filter (λ (r : EntryResult). is_bounded r.verdict) c.args.results.now
