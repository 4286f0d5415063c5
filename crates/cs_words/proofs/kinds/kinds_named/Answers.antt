use Rattle.std.proofs.Common.{rules, tests}
use Rattle.std.specs.Prelude.{ℕ, ◌==◌}
use Rattle.std.proofs.lemmas.Iterator.{items_from_collect}
use Rattle.std.proofs.lemmas.Iterator.Consumers.{YieldsList-from_filter_map, YieldsList-at}
use Rattle.std.proofs.lemmas.Iterator.Splits.{YieldsList-from_slice_split}
use Rattle.cs_words.specs.Scan.{kind_of}
use Rattle.cs_words.proofs.kinds.kinds_named.Goals as goal

pub returns : goal.returns
returns c =
    items_from_collect _ c.collect.ensures.ran (YieldsList-from_filter_map _ kind_of
    (YieldsList-at c.filter_map.ensures.source (YieldsList-from_slice_split _ (λ (b : ℕ). b == 44) c.args.text.now c.split.ensures.rest
    c.split.ensures.done c.split.ensures.closure (λ x r q k. search (rules, tests)))) c.filter_map.ensures.closure (λ x r q k. search (rules, tests)))
