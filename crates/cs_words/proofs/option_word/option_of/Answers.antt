use Rattle.std.proofs.Common.{◌≡◌, [], ◌∷◌}
use Rattle.std.proofs.lemmas.Bool.Decides.{Decides-eqb}
use Rattle.std.proofs.lemmas.Slice.Eq.{strip_prefix_is}
use Rattle.cs_words.proofs.OptionTexts.{unknown}
use Rattle.cs_words.proofs.option_word.option_of.Goals as goal

pub returns-in_err-setting : goal.returns-in_err-setting
returns-in_err-setting c =
    let is : c.args.word.now ≡ 45 ∷ 45 ∷ c.in_ok-strip_prefix.field-0.now =
    rw c.in_ok-strip_prefix.was at (strip_prefix_is Decides-eqb c.args.word.now (45 ∷ 45 ∷ []) c.strip_prefix.result c.strip_prefix.ensures.cases) in
    rw c.from_residual-in_err-setting.ensures (unknown c.args.word.now c.in_ok-strip_prefix.field-0.now c.split_before.result.0.now c.split_before.result.1.now
    is c.split_before.ensures c.in_err-setting.ensures)
