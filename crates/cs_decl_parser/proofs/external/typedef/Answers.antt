-- Each return is the refusal of the specifiers or of the names, or both were taken.
use Rattle.std.proofs.Common.{◌≡◌, Err, refl, sym, subst, arith, rules}
use Rattle.cs_ast.specs.RawStatementView.{external_of}
use Rattle.cs_grammar.specs.DeclarationClasses.{Externals}
use Rattle.cs_declarator_parser.specs.Answers.{ExactAnswers}
use Rattle.cs_decl_parser.proofs.ExternalSites.{typedef_type_stops, typedef_names_stop, typedef_taken}
use Rattle.cs_decl_parser.proofs.PlacingFiles.{typedef_placed}
use Rattle.cs_decl_parser.specs.FileAnswers.{IsBodyApt}
use Rattle.cs_decl_parser.proofs.InBodies.{typedef_body}
use Rattle.cs_decl_parser.proofs.external.typedef.Goals as goal

pub returns-in_err-specs-clause-parsed : goal.returns-in_err-specs-clause-parsed
returns-in_err-specs-clause-parsed c =
    let e : c.from_residual.result ≡ Err c.in_err-specs.field-0.0 = search rules in
    subst (ExactAnswers (Externals c.args.source.now.names.now) external_of 200 c.args.source.now.tokens.now c.args.from) (sym e)
    (typedef_type_stops c.args.source.now.names.now c.args.source.now.tokens.now c.args.from c.requires.stands c.in_err-specs.field-0.0
    c.in_err-specs.ensures.parsed)

pub returns-in_err-names-clause-parsed : goal.returns-in_err-names-clause-parsed
returns-in_err-names-clause-parsed c =
    let e : c.from_residual-in_err-names.result ≡ Err c.in_err-names.field-0.0 = search rules in
    subst (ExactAnswers (Externals c.args.source.now.names.now) external_of 200 c.args.source.now.tokens.now c.args.from) (sym e)
    (typedef_names_stop c.args.source.now.names.now c.args.source.now.tokens.now c.args.from c.in_ok-specs.specs c.requires.stands c.in_ok-specs.ensures.parsed
    c.in_err-names.field-0.0 c.in_err-names.ensures.parsed)

pub returns-clause-parsed : goal.returns-clause-parsed
returns-clause-parsed c =
    let h = c.max.ensures in
    typedef_taken c.args.source.now.names.now c.args.source.now.tokens.now c.args.from c.in_ok-specs.specs c.in_ok-names.names _ c.requires.stands
    c.in_ok-specs.ensures.parsed c.in_ok-names.ensures.parsed refl (omega arith) refl

pub returns-clause-placed : goal.returns-clause-placed
returns-clause-placed c =
    typedef_placed c.args.source.now.tokens.now c.args.from c.in_ok-specs.specs.next c.in_ok-specs.specs.tree c.in_ok-names.names.tree.items
    c.in_ok-specs.ensures.parsed.spelled c.in_ok-specs.ensures.placed c.in_ok-names.ensures.placed

pub returns-in_err-specs-clause-inside : goal.returns-in_err-specs-clause-inside
returns-in_err-specs-clause-inside c =
    let e : c.from_residual.result ≡ Err c.in_err-specs.field-0.0 = search rules in
    subst (IsBodyApt c.args.source.now.names.now c.args.source.now.tokens.now c.args.from) (sym e)
    (typedef_body c.args.source.now.names.now c.args.source.now.tokens.now c.args.from c.in_err-specs.field-0.0 c.requires.stands)

pub returns-in_err-names-clause-inside : goal.returns-in_err-names-clause-inside
returns-in_err-names-clause-inside c =
    let e : c.from_residual-in_err-names.result ≡ Err c.in_err-names.field-0.0 = search rules in
    subst (IsBodyApt c.args.source.now.names.now c.args.source.now.tokens.now c.args.from) (sym e)
    (typedef_body c.args.source.now.names.now c.args.source.now.tokens.now c.args.from c.in_err-names.field-0.0 c.requires.stands)
