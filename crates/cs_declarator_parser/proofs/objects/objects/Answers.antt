use Rattle.std.proofs.Common.{◌≡◌, map, Err, sym, subst, rules}
use Rattle.cs_ast.specs.declared.token.TokenKind.TheVariants as token
use Rattle.cs_ast.specs.declared.token.Punctuator.TheVariants as punctuator
use Rattle.cs_ast.specs.RawDeclarationView.{declared}
use Rattle.cs_grammar.specs.Composed.{Separated}
use Rattle.cs_grammar.specs.DeclarationClasses.{Objects}
use Rattle.cs_grammar.proofs.DeclaredObjects.{object_row}
use Rattle.cs_declarator_parser.specs.Answers.{ExactAnswers}
use Rattle.cs_declarator_parser.proofs.RowSites.{row_first_stops}
use Rattle.cs_declarator_parser.proofs.objects.objects.Goals as goal

pub returns-in_err-first-clause-parsed : goal.returns-in_err-first-clause-parsed
returns-in_err-first-clause-parsed c =
    let e : c.from_residual.result ≡ Err c.in_err-first.field-0.0 = search rules in
    subst (ExactAnswers (Separated (Objects c.args.source.now.names.now) (token.Punctuator punctuator.Semicolon)) (λ list. map declared list.items)
    c.args.limit c.args.source.now.tokens.now c.args.from) (sym e)
    (row_first_stops (Objects c.args.source.now.names.now) (token.Punctuator punctuator.Semicolon) c.args.limit (object_row c.args.source.now.names.now)
    c.requires.some c.args.source.now.tokens.now c.args.from c.in_err-first.field-0.0 c.in_err-first.ensures.parsed)

pub returns-in_err-all-clause-parsed : goal.returns-in_err-all-clause-parsed
returns-in_err-all-clause-parsed c =
    let e : c.from_residual-in_err-all.result ≡ Err c.in_err-all.field-0.0 = search rules in
    subst (ExactAnswers (Separated (Objects c.args.source.now.names.now) (token.Punctuator punctuator.Semicolon)) (λ list. map declared list.items)
    c.args.limit c.args.source.now.tokens.now c.args.from) (sym e) (c.in_err-all.ensures.parsed c.args.from c.in_ok-first.ensures.parsed)

pub returns-clause-parsed : goal.returns-clause-parsed
returns-clause-parsed c = c.in_ok-all.ensures.parsed c.args.from c.in_ok-first.ensures.parsed

pub returns-clause-placed : goal.returns-clause-placed
returns-clause-placed c = c.in_ok-all.ensures.placed c.args.from c.in_ok-first.ensures.parsed c.in_ok-first.ensures.placed
