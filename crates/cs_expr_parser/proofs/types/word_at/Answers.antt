use Rattle.std.proofs.Common.{◌≡◌, Bool, true, false, Some, sym, ap, ◌∙◌, refl}
use Rattle.cs_ast.specs.declared.token.Keyword.{Keyword}
use Rattle.cs_ast.specs.declared.token.Keyword.TheVariants as keyword
use Rattle.cs_ast.specs.declared.raw.written_type.TypeWord.TheVariants as word
use Rattle.cs_grammar.specs.TypeWords.{is_among}
use Rattle.cs_expr_parser.specs.Positions.{kind_or_end, keyword_of, name_of}
use Rattle.cs_expr_parser.proofs.Standing.{keyword_is, name_is}
use Rattle.cs_expr_parser.proofs.SitesOfWords.{typedef_word, plain_word, tag_answer, integer_answer}
use Rattle.cs_expr_parser.proofs.TagPlaces.{tag_next, untagged_given, integer_given}
use Rattle.cs_expr_parser.proofs.types.word_at.Goals as goal

pub returns-in-Some-clause-word : goal.returns-in-Some-clause-word
returns-in-Some-clause-word c =
    typedef_word c.args.names.now c.args.tokens.now c.args.at c.args.so_far c.in-Some.name.now c.untagged.result
    (name_is (kind_or_end c.args.tokens.now c.args.at) c.in-Some.name.now (sym c.in-Some.ensures.name))
    (sym c.contains.ensures ∙ c.if-not-contains.false)
    (c.untagged.ensures.word ∙ ap word.Typedef c.in_ok-copy.ensures) c.untagged.ensures.next

pub returns-in-Struct-clause-word : goal.returns-in-Struct-clause-word
returns-in-Struct-clause-word c =
    let stands = sym c.in-Some-keyword_at.ensures.keyword ∙ ap Some c.in-Struct.is in
    tag_answer c.args.names.now c.args.tokens.now c.args.at c.args.so_far true c.tagged.result
    (keyword_is (kind_or_end c.args.tokens.now c.args.at) keyword.Struct stands) c.tagged.ensures.tagged

pub returns-in-Enum-clause-word : goal.returns-in-Enum-clause-word
returns-in-Enum-clause-word c =
    let stands = sym c.in-Some-keyword_at.ensures.keyword ∙ ap Some c.in-Enum.is in
    tag_answer c.args.names.now c.args.tokens.now c.args.at c.args.so_far false c.tagged-in-Enum.result
    (keyword_is (kind_or_end c.args.tokens.now c.args.at) keyword.Enum stands) c.tagged-in-Enum.ensures.tagged

pub returns-in-Const-clause-word : goal.returns-in-Const-clause-word
returns-in-Const-clause-word c =
    let stands = sym c.in-Some-keyword_at.ensures.keyword ∙ ap Some c.in-Const.is in
    plain_word c.args.names.now c.args.tokens.now c.args.at c.args.so_far keyword.Const word.Const c.untagged-in-Const.result
    (keyword_is (kind_or_end c.args.tokens.now c.args.at) keyword.Const stands) (λ rest. refl) refl (λ name e. cc) c.untagged-in-Const.ensures.word
    c.untagged-in-Const.ensures.next

pub returns-in-Void-clause-word : goal.returns-in-Void-clause-word
returns-in-Void-clause-word c =
    let stands = sym c.in-Some-keyword_at.ensures.keyword ∙ ap Some c.in-Void.is in
    plain_word c.args.names.now c.args.tokens.now c.args.at c.args.so_far keyword.Void word.Void c.untagged-in-Void.result
    (keyword_is (kind_or_end c.args.tokens.now c.args.at) keyword.Void stands) (λ rest. refl) refl (λ name e. cc) c.untagged-in-Void.ensures.word
    c.untagged-in-Void.ensures.next

pub returns-in_default-keyword-clause-word : goal.returns-in_default-keyword-clause-word
returns-in_default-keyword-clause-word c =
    let stands = sym c.in-Some-keyword_at.ensures.keyword in
    let other = c.in_default-keyword in
    integer_answer c.args.names.now c.args.tokens.now c.args.at c.args.so_far c.in-Some-keyword_at.keyword c.integer_at.result
    (keyword_is (kind_or_end c.args.tokens.now c.args.at) c.in-Some-keyword_at.keyword stands)
    (record { no_struct = other.not-Struct; no_enum = other.not-Enum; no_const = other.not-Const; no_void = other.not-Void }) c.integer_at.ensures

pub returns-in-Struct-clause-placed : goal.returns-in-Struct-clause-placed
returns-in-Struct-clause-placed c = tag_next true c.args.tokens.now c.args.at c.args.so_far c.tagged.result c.tagged.ensures.tagged c.tagged.ensures.placed

pub returns-in-Enum-clause-placed : goal.returns-in-Enum-clause-placed
returns-in-Enum-clause-placed c =
    tag_next false c.args.tokens.now c.args.at c.args.so_far c.tagged-in-Enum.result c.tagged-in-Enum.ensures.tagged c.tagged-in-Enum.ensures.placed

pub returns-in-Some-clause-placed : goal.returns-in-Some-clause-placed
returns-in-Some-clause-placed c =
    untagged_given c.args.tokens.now c.args.at c.untagged.result (word.Typedef c.in_ok-copy.field-0) c.untagged.ensures.word refl c.untagged.ensures.tag
    c.untagged.ensures.next

pub returns-in-Const-clause-placed : goal.returns-in-Const-clause-placed
returns-in-Const-clause-placed c =
    untagged_given c.args.tokens.now c.args.at c.untagged-in-Const.result word.Const c.untagged-in-Const.ensures.word refl c.untagged-in-Const.ensures.tag
    c.untagged-in-Const.ensures.next

pub returns-in-Void-clause-placed : goal.returns-in-Void-clause-placed
returns-in-Void-clause-placed c =
    untagged_given c.args.tokens.now c.args.at c.untagged-in-Void.result word.Void c.untagged-in-Void.ensures.word refl c.untagged-in-Void.ensures.tag
    c.untagged-in-Void.ensures.next

pub returns-in_default-keyword-clause-placed : goal.returns-in_default-keyword-clause-placed
returns-in_default-keyword-clause-placed c = integer_given c.args.tokens.now c.args.at c.in-Some-keyword_at.keyword c.integer_at.result c.integer_at.ensures
