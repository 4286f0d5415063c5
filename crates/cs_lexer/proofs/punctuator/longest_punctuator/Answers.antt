use Rattle.std.proofs.Common.{◌∙◌}
use Rattle.cs_lexer.proofs.LongestPunctuator.{longest_from, above_three}
use Rattle.cs_lexer.proofs.punctuator.longest_punctuator.Goals as goal

pub returns-in-Some : goal.returns-in-Some
returns-in-Some c =
    longest_from c.args.bytes.now c.in-Some.punctuator 3 (rw c.in-Some.is at c.punctuator_spelled.ensures ∙ c.front.ensures) (above_three c.args.bytes.now)
