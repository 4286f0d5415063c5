use Rattle.std.proofs.Common.{◌<◌, ◌^◌, ◌∙◌, ap, arith}
use Rattle.std.specs.Result.{result_ok}
use Rattle.std.specs.Str.Parse.{digits_value}
use Rattle.std.proofs.lemmas.Str.Parse.{parse_gives, digits_value_short}
use Rattle.cs_inputs.proofs.DecimalTexts.{own, digits_are_text}
use Rattle.cs_words.proofs.value.value_of.Goals as goal

pub returns-in-Ok : goal.returns-in-Ok
returns-in-Ok c =
    let digits = c.args.digits.now in
    let low : digits_value 10 digits < 2 ^ 32 = omega (arith, digits_value_short own digits 9 c.requires.all c.requires.few) in
    c.ok.ensures.value
    ∙ ap result_ok (parse_gives own 32 digits c.parse.result (rw c.in-Ok.ensures.cases.0 at c.parse.ensures.value.0) c.requires.all c.requires.some low)

pub returns-in-Err : goal.returns-in-Err
returns-in-Err c = absurd (c.in-Err.ensures.cases.0 (digits_are_text c.args.digits.now c.requires.all))
