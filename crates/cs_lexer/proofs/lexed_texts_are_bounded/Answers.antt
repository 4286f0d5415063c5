use Rattle.cs_lexer.proofs.TokensInFiles.{lexed_tokens_have_files, lexed_files_are_few}
use Rattle.cs_lexer.proofs.ShortTokens.{lexed_tokens_are_short}
use Rattle.cs_lexer.proofs.lexed_texts_are_bounded.Goals as goal

pub returns : goal.returns
returns c = record { placed = lexed_tokens_have_files; few = lexed_files_are_few; short = lexed_tokens_are_short }
