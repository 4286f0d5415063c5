use Rattle.std.proofs.Common.{◌≡◌, Err, [], sym, ◌∙◌, subst, rules}
use Rattle.std.proofs.lemmas.Bool.{false≢true}
use Rattle.cs_ast.specs.RawView.{written}
use Rattle.cs_grammar.specs.FileClasses.{Tests}
use Rattle.cs_expr_parser.specs.Positions.{kind_or_end}
use Rattle.cs_declarator_parser.specs.declared.source.Scope.TheVariants.{Block}
use Rattle.cs_declarator_parser.specs.Answers.{ExactAnswers}
use Rattle.cs_expr_parser.proofs.Standing.{spells_none}
use Rattle.cs_declarator_parser.proofs.PartStops.{stops_plain}
use Rattle.cs_declarator_parser.proofs.ExpressionSites.{test_missing, test_stops, test_taken}
use Rattle.cs_declarator_parser.proofs.expression.parenthesised.Goals as goal

pub returns-then-not-is_punctuator-clause-parsed : goal.returns-then-not-is_punctuator-clause-parsed
returns-then-not-is_punctuator-clause-parsed c =
    stops_plain (Tests c.args.source.now.names.now) c.args.limit c.args.source.now.tokens.now c.args.from c.args.from Block [] c.refuse.result
    (spells_none c.args.source.now.tokens.now c.args.from c.requires.within) c.refuse.ensures.is
    (test_missing c.args.source.now.names.now c.args.limit (kind_or_end c.args.source.now.tokens.now c.args.from)
    (λ k. false≢true (sym c.if-not-is_punctuator.true ∙ c.is_punctuator.ensures.punctuator.1 k)))

pub returns-in_err-inner-clause-parsed : goal.returns-in_err-inner-clause-parsed
returns-in_err-inner-clause-parsed c =
    let e : c.from_residual.result ≡ Err c.in_err-inner.field-0.0 = search rules in
    subst (ExactAnswers (Tests c.args.source.now.names.now) written c.args.limit c.args.source.now.tokens.now c.args.from) (sym e)
    (test_stops c.args.source.now.names.now c.args.limit c.requires.some c.args.source.now.tokens.now c.args.from
    (c.is_punctuator.ensures.punctuator.0 c.if-not-is_punctuator.false) c.in_err-inner.field-0.0 c.in_err-inner.ensures.parsed)

pub returns-clause-parsed : goal.returns-clause-parsed
returns-clause-parsed c =
    test_taken c.args.source.now.names.now c.args.limit c.args.source.now.tokens.now c.args.from
    (c.is_punctuator.ensures.punctuator.0 c.if-not-is_punctuator.false) c.in_ok-inner.inner c.in_ok-inner.ensures.parsed
