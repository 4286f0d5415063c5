use Rattle.std.proofs.Common.{sym}
use Rattle.cs_expr_parser.specs.Positions.{kind_or_end}
use Rattle.cs_expr_parser.proofs.Standing.{keyword_is}
use Rattle.cs_declarator_parser.proofs.StuckWords.{keyword_type_word}
use Rattle.cs_declarator_parser.proofs.words.type_word_at.Goals as goal

pub returns-in-Some-keyword_at-clause-word : goal.returns-in-Some-keyword_at-clause-word
returns-in-Some-keyword_at-clause-word c =
    keyword_type_word c.args.source.now.names.now (kind_or_end c.args.source.now.tokens.now c.args.at) c.in-Some-keyword_at.keyword c.type_word.result
    (keyword_is (kind_or_end c.args.source.now.tokens.now c.args.at) c.in-Some-keyword_at.keyword (sym c.in-Some-keyword_at.ensures.keyword))
    c.type_word.ensures
