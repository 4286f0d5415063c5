use Rattle.cs_lexer.specs.Digits.{is_digit_of}
use Rattle.cs_lexer.proofs.Runs.{run_passes, run_taken}
use Rattle.cs_lexer.proofs.digits.leading_value.Goals as goal

pub value-requires-clause-digits : goal.value-requires-clause-digits
value-requires-clause-digits c =
    rw (c.digit_count-count.ensures, run_taken (is_digit_of c.args.base) c.args.bytes.now) (run_passes (is_digit_of c.args.base) c.args.bytes.now)
