use Rattle.std.proofs.Common.{take, ap, ◌∙◌}
use Rattle.cs_lexer.specs.Classes.{is_name_byte}
use Rattle.cs_lexer.proofs.Runs.{run_taken}
use Rattle.cs_lexer.proofs.piece.leading_word.Goals as goal

pub returns : goal.returns
returns c = c.front.ensures ∙ ap (λ n. take n c.args.bytes.now) c.word_length.ensures ∙ run_taken is_name_byte c.args.bytes.now
