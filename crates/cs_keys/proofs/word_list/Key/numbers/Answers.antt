use Rattle.std.proofs.lemmas.Result.{on_ok_weaker}
use Rattle.std.proofs.Common.{◌∙◌}
use Rattle.cs_keys.proofs.Sharing.{symbol_numbers}
use Rattle.cs_keys.proofs.word_list.Key.numbers.Goals as goal

pub returns-in-Some : goal.returns-in-Some
returns-in-Some c =
    on_ok_weaker c.append.result (λ e. e ∙ symbol_numbers c.args.self.now c.in-Some.words.now _ c.in-Some.ensures) c.append.ensures
