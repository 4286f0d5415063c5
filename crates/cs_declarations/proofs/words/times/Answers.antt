use Rattle.std.proofs.Common.{rules, tests, ◌∙◌}
use Rattle.std.proofs.lemmas.Iterator.{YieldsList-from_slice}
use Rattle.std.proofs.lemmas.Iterator.Consumers.{YieldsList-from_filter, count_from_yields_List}
use Rattle.std.proofs.lemmas.List.Sums.{length-filter}
use Rattle.cs_declarations.specs.Bodies.{is_kind}
use Rattle.cs_declarations.proofs.PlainWords.{times_plain}
use Rattle.cs_declarations.proofs.words.times.Goals as goal

pub returns : goal.returns
returns c =
    let kind = c.args.kind in
    let words = c.args.words.now in
    count_from_yields_List c.filter.result _ c.count.ensures.ran
    (YieldsList-from_filter _ (is_kind kind) (YieldsList-from_slice words (cc)) c.filter.ensures.closure (λ x b q k. search (rules, tests)))
    ∙ length-filter (is_kind kind) words ∙ times_plain kind words
