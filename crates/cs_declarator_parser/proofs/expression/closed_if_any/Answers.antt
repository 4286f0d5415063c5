use Rattle.std.proofs.Common.{◌≡◌, Err, refl, sym, ◌∙◌, subst, rules}
use Rattle.std.proofs.lemmas.Bool.{false≢true}
use Rattle.cs_ast.specs.declared.token.TokenKind.TheVariants as token
use Rattle.cs_expr_parser.specs.Expression.{level_asked}
use Rattle.cs_declarator_parser.specs.DeclarationAnswers.{ClosedIfAnyAnswer}
use Rattle.cs_declarator_parser.proofs.ExpressionSites.{none_taken, some_stops, some_taken}
use Rattle.cs_declarator_parser.proofs.expression.closed_if_any.Goals as goal

pub returns-then-is_punctuator-clause-parsed : goal.returns-then-is_punctuator-clause-parsed
returns-then-is_punctuator-clause-parsed c =
    none_taken c.args.source.now.names.now (level_asked c.args.level) c.args.limit c.args.closing c.requires.closing c.args.source.now.tokens.now c.args.from _
    (c.is_punctuator.ensures.punctuator.0 c.if-is_punctuator.true) refl refl refl

pub returns-in_err-inner-clause-parsed : goal.returns-in_err-inner-clause-parsed
returns-in_err-inner-clause-parsed c =
    let e : c.from_residual.result ≡ Err c.in_err-inner.field-0.0 = search rules in
    subst (ClosedIfAnyAnswer c.args.source.now.names.now c.args.level c.args.closing c.args.limit c.args.source.now.tokens.now c.args.from) (sym e)
    (some_stops c.args.source.now.names.now (level_asked c.args.level) (Unit {0}) (token.Punctuator c.args.closing) c.args.limit c.args.source.now.tokens.now
    c.args.from
    (λ k. false≢true (sym c.if-is_punctuator.false ∙ c.is_punctuator.ensures.punctuator.1 k)) c.in_err-inner.field-0.0 c.in_err-inner.ensures.parsed)

pub returns-clause-parsed : goal.returns-clause-parsed
returns-clause-parsed c =
    some_taken c.args.source.now.names.now (level_asked c.args.level) (Unit {0}) c.args.limit c.args.closing c.requires.closing c.args.source.now.tokens.now
    c.args.from c.in_ok-inner.inner _ c.in_ok-inner.ensures.parsed refl refl refl
