-- Each return is the refusal of the value, or it was taken.
use Rattle.std.proofs.Common.{◌≡◌, Err, sym, subst, rules}
use Rattle.cs_ast.specs.RawStatementView.{statement_of}
use Rattle.cs_grammar.specs.FileClasses.{Sentences}
use Rattle.cs_declarator_parser.specs.Answers.{Answers}
use Rattle.cs_decl_parser.proofs.StatementSites.{return_stops, return_taken}
use Rattle.cs_decl_parser.proofs.PlacingStatements.{return_placed}
use Rattle.cs_decl_parser.proofs.statement.return_statement.Goals as goal

pub returns-in_err-value-clause-parsed : goal.returns-in_err-value-clause-parsed
returns-in_err-value-clause-parsed c =
    let e : c.from_residual.result ≡ Err c.in_err-value.field-0.0 = search rules in
    subst (Answers (Sentences c.args.source.now.names.now) statement_of c.args.limit c.args.source.now.tokens.now c.args.from) (sym e)
    (return_stops c.args.source.now.names.now c.args.limit c.args.source.now.tokens.now c.args.from c.requires.some c.requires.stands c.in_err-value.field-0.0
    c.in_err-value.ensures.parsed)

pub returns-clause-parsed : goal.returns-clause-parsed
returns-clause-parsed c =
    return_taken c.args.source.now.names.now c.args.limit c.args.source.now.tokens.now c.args.from c.in_ok-value.value c.in_ok-node.field-0 c.requires.some
    c.requires.stands c.in_ok-value.ensures.parsed c.in_ok-node.ensures.node

pub returns-clause-placed : goal.returns-clause-placed
returns-clause-placed c =
    return_placed c.args.source.now.tokens.now c.args.from c.place_at.result c.in_ok-value.value.tree c.in_ok-node.field-0.tree c.in_ok-node.ensures.placed
    c.place_at.ensures c.in_ok-value.ensures.placed
