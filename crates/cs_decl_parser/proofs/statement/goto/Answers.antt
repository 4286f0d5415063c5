-- Each return is the refusal of the name or of the semicolon, or both were taken.
use Rattle.std.proofs.Common.{◌+◌, sym, ◌∙◌, subst}
use Rattle.std.proofs.lemmas.Bool.{false≢true}
use Rattle.cs_expr_parser.specs.Positions.{kind_or_end}
use Rattle.cs_declarator_parser.specs.DeclarationAnswers.{IsNameAt}
use Rattle.cs_decl_parser.proofs.StatementSites.{goto_name_missing, goto_semicolon_missing, goto_taken}
use Rattle.cs_decl_parser.proofs.statement.goto.Goals as goal

pub returns-in_default-clause-parsed : goal.returns-in_default-clause-parsed
returns-in_default-clause-parsed c =
    λ limit some.
    let none = subst (IsNameAt (λ name. Unit {0}) (kind_or_end c.args.source.now.tokens.now (c.args.from + 1))) c.in_default.is c.in_ok-name.ensures.name in
    goto_name_missing c.args.source.now.names.now limit c.args.source.now.tokens.now c.args.from c.refuse.result some c.requires.stands (λ n k. none n k tt)
    c.refuse.ensures.is

pub returns-then-not-is_punctuator-clause-parsed : goal.returns-then-not-is_punctuator-clause-parsed
returns-then-not-is_punctuator-clause-parsed c =
    λ limit some.
    let name = subst (IsNameAt (λ name. Unit {0}) (kind_or_end c.args.source.now.tokens.now (c.args.from + 1))) c.in-Some.is c.in_ok-name.ensures.name in
    goto_semicolon_missing c.args.source.now.names.now limit c.args.source.now.tokens.now c.args.from c.in-Some.name.name c.refuse-then-not-is_punctuator.result
    some c.requires.stands name.0 (λ k. false≢true (sym c.if-not-is_punctuator.true ∙ c.is_punctuator.ensures.punctuator.1 k))
    c.refuse-then-not-is_punctuator.ensures.is

pub returns-clause-parsed : goal.returns-clause-parsed
returns-clause-parsed c =
    λ limit some.
    let name = subst (IsNameAt (λ name. Unit {0}) (kind_or_end c.args.source.now.tokens.now (c.args.from + 1))) c.in-Some.is c.in_ok-name.ensures.name in
    goto_taken c.args.source.now.names.now limit c.args.source.now.tokens.now c.args.from c.in-Some.name.name c.in_ok-leaf.field-0 some c.requires.stands name.0
    (c.is_punctuator.ensures.punctuator.0 c.if-not-is_punctuator.false) c.in_ok-leaf.ensures.node

pub returns-clause-placed : goal.returns-clause-placed
returns-clause-placed c = c.in_ok-leaf.ensures.placed tt
