use Rattle.std.proofs.Common.{◌≡◌, Err, refl, sym, ◌∙◌, subst, rules}
use Rattle.std.proofs.lemmas.Bool.{false≢true}
use Rattle.cs_expr_parser.specs.Expression.{level_asked}
use Rattle.cs_declarator_parser.specs.DeclarationAnswers.{ClosedAnswer}
use Rattle.cs_declarator_parser.proofs.ExpressionSites.{closed_stops, closed_missing, closed_taken}
use Rattle.cs_declarator_parser.proofs.expression.closed.Goals as goal

pub returns-in_err-inner-clause-parsed : goal.returns-in_err-inner-clause-parsed
returns-in_err-inner-clause-parsed c =
    let e : c.from_residual.result ≡ Err c.in_err-inner.field-0.0 = search rules in
    subst (ClosedAnswer c.args.source.now.names.now c.args.level c.args.closing c.args.limit c.args.source.now.tokens.now c.args.from) (sym e)
    (closed_stops c.args.source.now.names.now (level_asked c.args.level) c.args.limit c.args.closing c.requires.closing c.args.source.now.tokens.now c.args.from
    c.in_err-inner.field-0.0 c.in_err-inner.ensures.parsed)

pub returns-then-not-is_punctuator-clause-parsed : goal.returns-then-not-is_punctuator-clause-parsed
returns-then-not-is_punctuator-clause-parsed c =
    closed_missing c.args.source.now.names.now (level_asked c.args.level) c.args.limit c.args.closing c.requires.closing c.args.source.now.tokens.now
    c.args.from c.in_ok-inner.inner c.in_ok-inner.ensures.parsed
    (λ k. false≢true (sym c.if-not-is_punctuator.true ∙ c.is_punctuator.ensures.punctuator.1 k))

pub returns-clause-parsed : goal.returns-clause-parsed
returns-clause-parsed c =
    closed_taken c.args.source.now.names.now (level_asked c.args.level) c.args.limit c.args.closing c.requires.closing c.args.source.now.tokens.now c.args.from
    c.in_ok-inner.inner _ c.in_ok-inner.ensures.parsed
    (c.is_punctuator.ensures.punctuator.0 c.if-not-is_punctuator.false) refl refl refl
