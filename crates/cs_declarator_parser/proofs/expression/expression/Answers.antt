-- An expression has at least one token, lies within the tokens and the limit, and is the one that the parser of expressions returns.
use Rattle.std.proofs.Common.{◌≡◌, Err, drop, sym, subst, arith, rules}
use Rattle.cs_ast.specs.declared.raw.expression.RawExpr.{RawExpr}
use Rattle.cs_ast.specs.RawView.{written}
use Rattle.cs_grammar.specs.Places.{HasPlaces}
use Rattle.cs_grammar.proofs.StatementParts.{expression_height}
use Rattle.cs_grammar.specs.Parsing.{Expressions}
use Rattle.cs_expr_parser.specs.Expression.{level_asked}
use Rattle.cs_declarator_parser.specs.declared.source.Scope.TheVariants as scope
use Rattle.cs_declarator_parser.specs.Answers.{UnclosedAnswers}
use Rattle.cs_declarator_parser.specs.Bounds.{IsUnclosedBounded}
use Rattle.cs_declarator_parser.specs.Aptness.{IsUnclosedApt}
use Rattle.cs_declarator_parser.proofs.ExpressionSites.{phrase_taken, phrase_apt, phrase_stops, phrase_inside, stopped_apt}
use Rattle.cs_declarator_parser.proofs.expression.expression.Goals as goal

pub returns-clause-bounds : goal.returns-clause-bounds
returns-clause-bounds c =
    let t = c.in_ok-phrase.ensures.taken in
    let u = c.unclosed.ensures in
    let some = t.some in
    let within = t.spelled.within in
    let low = t.low in
    let tall = t.height_is in
    let height = u.1 in
    let next = u.2 in
    (omega arith, omega arith, omega arith)

pub returns-clause-some : goal.returns-clause-some
returns-clause-some c =
    let t = c.in_ok-phrase.ensures.taken in
    let u = c.unclosed.ensures in
    let some = expression_height (written c.in_ok-phrase.phrase.tree) in
    let tall = t.height_is in
    let height = u.1 in
    omega arith

pub returns-clause-parsed : goal.returns-clause-parsed
returns-clause-parsed c =
    phrase_taken c.args.source.now.names.now (level_asked c.args.level) c.args.limit c.args.source.now.tokens.now c.args.from c.in_ok-phrase.phrase
    c.unclosed.result c.unclosed.ensures c.in_ok-phrase.ensures.taken

pub returns-in_err-phrase-clause-parsed : goal.returns-in_err-phrase-clause-parsed
returns-in_err-phrase-clause-parsed c =
    let e : c.from_residual.result ≡ Err c.in_err-phrase.field-0.0 = search rules in
    subst (UnclosedAnswers (Expressions c.args.source.now.names.now (level_asked c.args.level)) written c.args.limit c.args.source.now.tokens.now c.args.from)
    (sym e)
    (phrase_stops c.args.source.now.names.now (level_asked c.args.level) c.args.limit c.args.source.now.tokens.now c.args.from c.in_err-phrase.field-0.0
    c.in_err-phrase.ensures.stopped)

pub returns-in_err-phrase-clause-bounds : goal.returns-in_err-phrase-clause-bounds
returns-in_err-phrase-clause-bounds c =
    let e : c.from_residual.result ≡ Err c.in_err-phrase.field-0.0 = search rules in
    subst (IsUnclosedBounded c.args.limit c.args.source.now.tokens.now c.args.from) (sym e)
    (phrase_inside c.args.source.now.names.now (level_asked c.args.level) c.args.limit c.args.source.now.tokens.now c.args.from c.in_err-phrase.field-0.0
    c.in_err-phrase.ensures.stopped)

pub returns-in_err-phrase-clause-apt : goal.returns-in_err-phrase-clause-apt
returns-in_err-phrase-clause-apt c =
    let e : c.from_residual.result ≡ Err c.in_err-phrase.field-0.0 = search rules in
    subst (IsUnclosedApt scope.Block c.args.source.now.tokens.now) (sym e)
    (stopped_apt c.args.source.now.names.now (level_asked c.args.level) c.args.limit c.args.source.now.tokens.now c.args.from c.in_err-phrase.field-0.0
    c.in_err-phrase.ensures.stopped)

pub returns-clause-placed : goal.returns-clause-placed
returns-clause-placed c =
    let u = c.unclosed.ensures in
    subst (λ (e : RawExpr). HasPlaces e (drop c.args.from c.args.source.now.tokens.now)) (sym u.0) c.in_ok-phrase.ensures.taken.placed

pub returns-clause-apt : goal.returns-clause-apt
returns-clause-apt c =
    phrase_apt c.args.source.now.names.now (level_asked c.args.level) c.args.limit c.args.source.now.tokens.now c.args.from c.in_ok-phrase.phrase
    c.unclosed.result c.unclosed.ensures c.in_ok-phrase.ensures.taken
