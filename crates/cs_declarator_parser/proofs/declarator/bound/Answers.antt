use Rattle.std.proofs.Common.{◌≡◌, ◌+◌, Err, sym, subst, rules}
use Rattle.cs_declarator_parser.specs.DeclarationAnswers.{BoundAnswer}
use Rattle.cs_declarator_parser.proofs.ExpressionSites.{bound_stops}
use Rattle.cs_declarator_parser.proofs.declarator.bound.Goals as goal

pub returns-in_err-taken-in-Members-clause-parsed : goal.returns-in_err-taken-in-Members-clause-parsed
returns-in_err-taken-in-Members-clause-parsed c =
    let e : c.from_residual-in_err-taken-in-Members.result ≡ Err c.in_err-taken-in-Members.field-0.0 = search rules in
    subst (BoundAnswer c.args.declares c.args.source.now.names.now c.args.limit c.args.source.now.tokens.now (c.args.at + 1)) (sym e)
    (bound_stops c.args.declares c.args.source.now.names.now c.args.limit c.args.source.now.tokens.now (c.args.at + 1) c.in_err-taken-in-Members.field-0.0
    c.in-Members.is c.in_err-taken-in-Members.ensures.parsed)
