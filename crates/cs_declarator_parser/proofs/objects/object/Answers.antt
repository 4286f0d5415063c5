use Rattle.std.proofs.Common.{◌≡◌, Err, sym, subst, rules}
use Rattle.cs_ast.specs.RawDeclarationView.{declared}
use Rattle.cs_grammar.specs.DeclarationClasses.{Objects}
use Rattle.cs_declarator_parser.specs.Answers.{UnclosedAnswers}
use Rattle.cs_declarator_parser.proofs.ObjectSites.{object_stops}
use Rattle.cs_declarator_parser.proofs.objects.object.Goals as goal

pub returns-in_err-declarator-clause-parsed : goal.returns-in_err-declarator-clause-parsed
returns-in_err-declarator-clause-parsed c =
    let e : c.from_residual.result ≡ Err c.in_err-declarator.field-0.0 = search rules in
    subst (UnclosedAnswers (Objects c.args.source.now.names.now) declared c.args.limit c.args.source.now.tokens.now c.args.from) (sym e)
    (object_stops c.args.source.now.names.now c.args.limit c.args.source.now.tokens.now c.args.from c.in_err-declarator.field-0.0
    c.in_err-declarator.ensures.parsed)

pub returns-in_err-object-clause-parsed : goal.returns-in_err-object-clause-parsed
returns-in_err-object-clause-parsed c =
    let e : c.from_residual-in_err-object.result ≡ Err c.in_err-object.field-0.0 = search rules in
    subst (UnclosedAnswers (Objects c.args.source.now.names.now) declared c.args.limit c.args.source.now.tokens.now c.args.from) (sym e)
    (c.in_err-object.ensures.parsed c.args.from c.in_ok-declarator.ensures.parsed)

pub returns-clause-parsed : goal.returns-clause-parsed
returns-clause-parsed c = c.in_ok-object.ensures.parsed c.args.from c.in_ok-declarator.ensures.parsed

pub returns-clause-placed : goal.returns-clause-placed
returns-clause-placed c = c.in_ok-object.ensures.placed c.args.from c.in_ok-declarator.ensures.parsed c.in_ok-declarator.ensures.placed
