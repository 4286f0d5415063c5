use Rattle.std.proofs.Common.{sym}
use Rattle.cs_lexer.proofs.DigitRuns.{digits_are_text, too_large}
use Rattle.cs_lexer.proofs.digits.value.Goals as goal

pub returns-in-Err-from_str_radix : goal.returns-in-Err-from_str_radix
returns-in-Err-from_str_radix c =
    sym (too_large c.args.base c.args.digits.now c.from_str_radix.result _ c.requires.some c.requires.digits
    (rw (c.in-Ok.ensures.cases.0, c.radix.ensures) at c.from_str_radix.ensures.value) c.in-Err-from_str_radix.is)

pub returns-in-Err : goal.returns-in-Err
returns-in-Err c = absurd (c.in-Err.ensures.cases.0 (digits_are_text c.args.base c.args.digits.now c.requires.digits))
