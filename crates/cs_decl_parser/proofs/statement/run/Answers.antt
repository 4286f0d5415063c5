-- Each return is the refusal of the expression, or it was taken.
use Rattle.std.proofs.Common.{◌≡◌, Err, sym, subst, arith, rules}
use Rattle.cs_ast.specs.RawStatementView.{statement_of}
use Rattle.cs_grammar.specs.FileClasses.{Sentences}
use Rattle.cs_declarator_parser.specs.Answers.{Answers}
use Rattle.cs_decl_parser.proofs.RunSites.{run_stops, run_taken}
use Rattle.std.specs.Prelude.{drop}
use Rattle.cs_decl_parser.proofs.statement.run.Goals as goal

pub returns-in_err-value-clause-parsed : goal.returns-in_err-value-clause-parsed
returns-in_err-value-clause-parsed c =
    let e : c.from_residual.result ≡ Err c.in_err-value.field-0.0 = search rules in
    subst (Answers (Sentences c.args.source.now.names.now) statement_of c.args.limit c.args.source.now.tokens.now c.args.from) (sym e)
    (run_stops c.args.source.now.names.now c.args.limit c.saturating_sub.result c.args.source.now.tokens.now c.args.from (let h = c.saturating_sub.ensures in
    omega arith) c.requires.stands c.in_err-value.field-0.0 c.in_err-value.ensures.parsed)

pub returns-clause-parsed : goal.returns-clause-parsed
returns-clause-parsed c =
    run_taken c.args.source.now.names.now c.args.limit c.saturating_sub.result c.args.source.now.tokens.now c.args.from c.in_ok-value.value c.in_ok-node.field-0
    (let h = c.saturating_sub.ensures in omega arith) c.requires.within c.in_ok-value.ensures.parsed c.in_ok-node.ensures.node

pub returns-clause-placed : goal.returns-clause-placed
returns-clause-placed c = c.in_ok-node.ensures.placed (drop c.args.from c.args.source.now.tokens.now) c.place_at.ensures c.in_ok-value.ensures.placed
