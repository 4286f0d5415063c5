-- Each return is the refusal of the semicolon, or it was taken.
use Rattle.std.proofs.Common.{sym, ◌∙◌}
use Rattle.std.proofs.lemmas.Bool.{false≢true}
use Rattle.cs_ast.specs.RawStatementView.{sentence}
use Rattle.cs_decl_parser.proofs.RunSites.{jump_stops, jump_taken}
use Rattle.std.specs.Prelude.{drop}
use Rattle.cs_expr_parser.specs.Positions.{kind_or_end}
use Rattle.cs_decl_parser.proofs.PlacingStatements.{jump_made}
use Rattle.cs_decl_parser.proofs.statement.jump.Goals as goal

pub returns-then-not-is_punctuator-clause-parsed : goal.returns-then-not-is_punctuator-clause-parsed
returns-then-not-is_punctuator-clause-parsed c =
    λ limit some.
    jump_stops c.args.source.now.names.now limit c.args.source.now.tokens.now c.args.from (sentence c.args.kind) c.refuse.result some c.requires.stands
    (λ k. false≢true (sym c.if-not-is_punctuator.true ∙ c.is_punctuator.ensures.punctuator.1 k)) c.refuse.ensures.is

pub returns-clause-parsed : goal.returns-clause-parsed
returns-clause-parsed c =
    λ limit some.
    jump_taken c.args.source.now.names.now limit c.args.source.now.tokens.now c.args.from (sentence c.args.kind) c.in_ok-leaf.field-0 some c.requires.stands
    (c.is_punctuator.ensures.punctuator.0 c.if-not-is_punctuator.false) c.in_ok-leaf.ensures.node

pub returns-clause-placed : goal.returns-clause-placed
returns-clause-placed c =
    c.in_ok-leaf.ensures.placed (jump_made (kind_or_end c.args.source.now.tokens.now c.args.from) c.args.kind (drop c.args.from c.args.source.now.tokens.now)
    c.requires.stands)
