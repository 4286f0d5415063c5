use Rattle.std.proofs.Common.{reverse}
use Rattle.cs_lexer.proofs.JoinedTexts.{text_kind}
use Rattle.cs_lexer.proofs.texts.whole_kind.Goals as goal

pub returns-in_ok-bytes-in-Text-clause-whole : goal.returns-in_ok-bytes-in-Text-clause-whole
returns-in_ok-bytes-in-Text-clause-whole c =
    text_kind c.args.kind c.in-Text.first (reverse c.args.left.now.items) c.in_ok-bytes-in-Text.bytes (reverse c.whole_text.new.left.items) c.in-Text.is
    c.in_ok-bytes-in-Text.ensures.whole
