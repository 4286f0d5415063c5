use Rattle.std.proofs.Common.{◌≡◌, ◌<◌, length, arith}
use Rattle.std.proofs.lemmas.Bool.Decides.{nat_tests}
use Rattle.cs_words.specs.declared.verb.Verb.TheVariants as verbs
use Rattle.cs_words.specs.Meaning.{words_text}
use Rattle.cs_words.proofs.WholeWords.{IsReadBudgets, analyze_right, nothing_analyzed}
use Rattle.cs_words.proofs.WordLists.{extra_word, no_text}
use Rattle.cs_words.proofs.words.analyze_words.Goals as goal

pub returns-then-not-is_empty : goal.returns-then-not-is_empty
returns-then-not-is_empty c =
    let some : 0 < length c.in_ok-found.found.rest.now = grind (arith, nat_tests) in
    extra_word verbs.Analyze nothing_analyzed c.args.words.now c.in_ok-found.found.rest.now c.in_ok-found.found.settings c.refused.result c.in_ok-found.ensures
    some c.refused.ensures

pub returns : goal.returns
returns c =
    let none : length c.in_ok-found.found.rest.now ≡ 0 = grind (arith, nat_tests) in
    let read : IsReadBudgets c.in_ok-found.found.settings c.budgets.result = record {
      visits = c.budgets.ensures.visits;
      depth = c.budgets.ensures.depth;
      events = c.budgets.ensures.events;
      nodes = c.budgets.ensures.nodes;
      splits = c.budgets.ensures.splits;
    } in
    analyze_right (words_text c.args.words.now) c.in_ok-found.found.settings (words_text c.in_ok-found.found.rest.now) (record {
      budgets = c.budgets.result;
      kinds = c.in_ok-kinds.kinds;
      entry = c.in_ok-entry.entry;
      json = c.json.result;
      model = c.data_model.result;
    }) c.in_ok-found.ensures (no_text c.in_ok-found.found.rest.now none) read c.in_ok-kinds.ensures c.in_ok-entry.ensures c.json.ensures c.data_model.ensures
