use Rattle.std.proofs.Common.{rules, tests}
use Rattle.std.specs.Prelude.{ℕ, List, ◌==◌, is_some}
use Rattle.std.proofs.lemmas.Iterator.Search.{all_from_yields_List}
use Rattle.std.proofs.lemmas.Iterator.Splits.{YieldsList-from_slice_split}
use Rattle.cs_words.specs.Scan.{kind_of}
use Rattle.cs_words.proofs.kinds.are_kinds.Goals as goal

pub returns : goal.returns
returns c =
    all_from_yields_List (λ (name : List ℕ). is_some (kind_of name)) _ _ _ c.all.ensures.ran
    (YieldsList-from_slice_split _ (λ (b : ℕ). b == 44) c.args.text.now c.split.ensures.rest c.split.ensures.done c.split.ensures.closure
    (λ x r q k. search (rules, tests))) (λ x r q k. search (rules, tests))
