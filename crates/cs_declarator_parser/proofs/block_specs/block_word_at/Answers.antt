use Rattle.std.proofs.Common.{◌≡◌, Err, sym, ◌∙◌, subst, rules}
use Rattle.cs_expr_parser.specs.Positions.{kind_or_end}
use Rattle.cs_declarator_parser.specs.SpecWords.{BlockWordAnswer}
use Rattle.cs_declarator_parser.proofs.StuckWords.{tag_unfit, block_word, block_error, block_plain}
use Rattle.cs_declarator_parser.proofs.block_specs.block_word_at.Goals as goal

pub returns-then-not-begins_tagged-clause-word : goal.returns-then-not-begins_tagged-clause-word
returns-then-not-begins_tagged-clause-word c =
    block_plain c.args.source.now.names.now c.args.source.now.tokens.now c.args.at c.args.so_far c.plain_word.result
    (c.begins_tagged.ensures.none c.if-not-begins_tagged.true) c.plain_word.ensures.word

pub returns-then-names_type-clause-word : goal.returns-then-names_type-clause-word
returns-then-names_type-clause-word c =
    let k = c.begins_tagged.ensures.tag c.if-not-begins_tagged.false in
    tag_unfit c.args.source.now.names.now c.args.so_far (kind_or_end c.args.source.now.tokens.now c.args.at) k.0 k.1 (sym c.names_type.ensures
    ∙ c.if-names_type.true)

pub returns-in_err-found-clause-word : goal.returns-in_err-found-clause-word
returns-in_err-found-clause-word c =
    let e : c.from_residual.result ≡ Err c.in_err-found.field-0.0 = search rules in
    subst (BlockWordAnswer c.args.source.now.names.now c.args.source.now.tokens.now c.args.at c.args.so_far) (sym e)
    (block_error c.args.source.now.names.now c.args.source.now.tokens.now c.args.at c.args.so_far c.in_err-found.field-0.0 (sym c.names_type.ensures
    ∙ c.if-names_type.false) c.in_err-found.ensures.tag)

pub returns-clause-word : goal.returns-clause-word
returns-clause-word c =
    block_word c.args.source.now.names.now c.args.source.now.tokens.now c.args.at c.args.so_far c.in_ok-found.found (sym c.names_type.ensures
    ∙ c.if-names_type.false) c.in_ok-found.ensures.tag

pub returns-clause-placed : goal.returns-clause-placed
returns-clause-placed c = (c.in_ok-found.ensures.placed, λ settled. sym c.names_type.ensures ∙ c.if-names_type.false)
