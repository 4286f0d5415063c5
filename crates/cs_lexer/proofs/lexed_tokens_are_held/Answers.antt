use Rattle.cs_lexer.proofs.HeldTokens.{lexed_tokens_are_held}
use Rattle.cs_lexer.proofs.lexed_tokens_are_held.Goals as goal

pub returns : goal.returns
returns c = lexed_tokens_are_held
