use Rattle.std.proofs.Common.{◌+◌, drop, Option, refl, sym, ◌∙◌, subst}
use Rattle.std.proofs.lemmas.Bool.{false≢true}
use Rattle.cs_ast.specs.declared.raw.name.RawName.{RawName}
use Rattle.cs_grammar.specs.declared.refusal.Reason.TheVariants.{Unsupported}
use Rattle.cs_expr_parser.specs.Positions.{kind_or_end}
use Rattle.cs_expr_parser.specs.Words.{word_of_tag}
use Rattle.cs_declarator_parser.specs.DeclarationAnswers.{IsNameAt}
use Rattle.cs_declarator_parser.proofs.StuckWords.{tag_taken, tag_unnamed, tag_braced}
use Rattle.cs_declarator_parser.specs.DeclarationPlaces.{IsNamePlaced}
use Rattle.cs_declarator_parser.proofs.PlacingSpecs.{tagged_placed}
use Rattle.cs_declarator_parser.specs.declared.source.Scope.TheVariants as scope
use Rattle.cs_declarator_parser.proofs.AptReasons.{brace_apt}
use Rattle.cs_declarator_parser.proofs.block_specs.tag_at.Goals as goal

pub returns-in_default-clause-tag : goal.returns-in_default-clause-tag
returns-in_default-clause-tag c =
    tag_unnamed c.args.source.now.names.now c.args.source.now.tokens.now c.args.at c.requires.stands
    (subst (λ (x : Option RawName). IsNameAt (λ name. Unit {0}) (kind_or_end c.args.source.now.tokens.now (c.args.at + 1)) x) c.in_default.is
    c.in_ok-tag.ensures.name) c.refuse_body.result c.refuse_body.ensures.plain

pub returns-then-is_punctuator-clause-tag : goal.returns-then-is_punctuator-clause-tag
returns-then-is_punctuator-clause-tag c =
    let n = subst (λ (x : Option RawName). IsNameAt (λ name. Unit {0}) (kind_or_end c.args.source.now.tokens.now (c.args.at + 1)) x) c.in-Some.is
    c.in_ok-tag.ensures.name in
    tag_braced c.args.source.now.tokens.now c.args.at c.requires.stands c.in-Some.tag.name n.0 (c.is_punctuator.ensures.punctuator.0 c.if-is_punctuator.true)
    Unsupported refl

pub returns-clause-tag : goal.returns-clause-tag
returns-clause-tag c =
    let k = c.requires.stands in
    let n = subst (λ (x : Option RawName). IsNameAt (λ name. Unit {0}) (kind_or_end c.args.source.now.tokens.now (c.args.at + 1)) x) c.in-Some.is
    c.in_ok-tag.ensures.name in (
      word_of_tag k.0 c.in-Some.tag.name,
      tag_taken c.args.source.now.names.now c.args.source.now.tokens.now c.args.at k.0 c.in-Some.tag.name c.without_body.result k.1 n.0
          (λ b. false≢true (sym c.if-is_punctuator.false ∙ c.is_punctuator.ensures.punctuator.1 b)) c.without_body.ensures.word
          c.without_body.ensures.bounds.1 c.without_body.ensures.bounds.0,
    )

pub returns-clause-placed : goal.returns-clause-placed
returns-clause-placed c =
    let k = c.requires.stands in
    tagged_placed c.args.source.now.tokens.now c.args.at k.0 c.in-Some.tag.name c.in-Some.tag.place c.without_body.result
    (c.without_body.ensures.word.one k.0 k.1) c.without_body.ensures.tag
    (subst (λ (x : Option RawName). IsNamePlaced x (drop (c.args.at + 1) c.args.source.now.tokens.now)) c.in-Some.is c.in_ok-tag.ensures.placed)

pub returns-then-is_punctuator-clause-apt : goal.returns-then-is_punctuator-clause-apt
returns-then-is_punctuator-clause-apt c =
    brace_apt scope.Block (kind_or_end c.args.source.now.tokens.now (c.args.at + 2)) Unsupported (c.is_punctuator.ensures.punctuator.0 c.if-is_punctuator.true)
