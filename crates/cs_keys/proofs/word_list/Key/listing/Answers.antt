use Rattle.std.proofs.Common.{◌++◌, ◌∙◌, ap, map}
use Rattle.std.proofs.lemmas.Result.{on_ok_weaker}
use Rattle.cs_constraints.specs.Constraints.{set_of}
use Rattle.cs_word_lists.specs.Written.{with_list}
use Rattle.cs_keys.specs.Words.{with_set}
use Rattle.cs_keys.proofs.Sharing.{listed_words, listed_numbers}
use Rattle.cs_keys.proofs.word_list.Key.listing.Goals as goal

pub returns : goal.returns
returns c =
    let sets = c.args.constraints.now in
    let before = c.args.self.now in
    on_ok_weaker c.all_numbers.result
    (λ e bindings is.
    let words = c.in_ok-part.ensures ∙ ap (λ words. before ++ words) (c.words.ensures ∙ ap (λ listing. listing.words) is)
    ∙ listed_words sets before bindings in
    let numbers = ap (λ symbols. map (λ symbol. set_of sets symbol.0) symbols) (c.symbols.ensures ∙ ap (λ listing. listing.symbols) is)
    ∙ listed_numbers sets bindings in
    e ∙ (λ i. with_list with_set (words i) (numbers i)))
    c.all_numbers.ensures
