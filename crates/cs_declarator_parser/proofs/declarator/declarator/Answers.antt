use Rattle.std.proofs.Common.{◌≡◌, Err, sym, subst, rules}
use Rattle.cs_declarator_parser.specs.DeclarationAnswers.{DeclaratorAnswers}
use Rattle.cs_declarator_parser.proofs.DeclaratorSites.{pointed_stops}
use Rattle.cs_declarator_parser.specs.Aptness.{IsAnswerApt}
use Rattle.cs_declarator_parser.proofs.AptReasons.{stop_apt}
use Rattle.cs_declarator_parser.proofs.declarator.declarator.Goals as goal

pub returns-in_err-pointed-clause-parsed : goal.returns-in_err-pointed-clause-parsed
returns-in_err-pointed-clause-parsed c =
    let e : c.from_residual.result ≡ Err c.in_err-pointed.field-0.0 = search rules in
    subst (DeclaratorAnswers c.args.declares c.args.source.now.names.now c.args.limit c.args.source.now.tokens.now c.args.from) (sym e)
    (pointed_stops c.args.declares c.args.source.now.names.now c.args.limit c.requires.some c.args.source.now.tokens.now c.args.from c.in_err-pointed.field-0.0
    c.in_err-pointed.ensures.parsed)

pub returns-in_err-taken-clause-parsed : goal.returns-in_err-taken-clause-parsed
returns-in_err-taken-clause-parsed c =
    let e : c.from_residual-in_err-taken.result ≡ Err c.in_err-taken.field-0.0 = search rules in
    subst (DeclaratorAnswers c.args.declares c.args.source.now.names.now c.args.limit c.args.source.now.tokens.now c.args.from) (sym e)
    (c.in_err-taken.ensures.parsed c.args.from c.in_ok-pointed.ensures.parsed)

pub returns-clause-parsed : goal.returns-clause-parsed
returns-clause-parsed c = c.in_ok-taken.ensures.parsed c.args.from c.in_ok-pointed.ensures.parsed

pub returns-clause-placed : goal.returns-clause-placed
returns-clause-placed c = c.in_ok-taken.ensures.placed c.args.from c.in_ok-pointed.ensures.parsed c.in_ok-pointed.ensures.placed

pub returns-in_err-taken-clause-apt : goal.returns-in_err-taken-clause-apt
returns-in_err-taken-clause-apt c =
    let e : c.from_residual-in_err-taken.result ≡ Err c.in_err-taken.field-0.0 = search rules in
    subst (IsAnswerApt c.args.scope c.args.source.now.tokens.now) (sym e)
    (stop_apt c.args.scope c.args.source.now.tokens.now c.in_err-taken.field-0.0 c.in_err-taken.ensures.apt)
