-- Each return is the refusal of a declaration or of an expression, or it was taken.
use Rattle.std.proofs.Common.{◌≡◌, Err, refl, sym, ◌∙◌, subst, rules}
use Rattle.cs_ast.specs.RawStatementView.{first_of}
use Rattle.cs_grammar.specs.FileClasses.{Firsts}
use Rattle.cs_declarator_parser.specs.Answers.{ExactAnswers}
use Rattle.cs_decl_parser.proofs.ForSites.{first_declares_stops, first_declares_taken, first_runs_stops, first_runs_taken}
use Rattle.std.specs.Prelude.{drop}
use Rattle.cs_decl_parser.proofs.loops.first_part.Goals as goal

pub returns-in_err-declared-clause-parsed : goal.returns-in_err-declared-clause-parsed
returns-in_err-declared-clause-parsed c =
    let e : c.from_residual.result ≡ Err c.in_err-declared.field-0.0 = search rules in
    subst (ExactAnswers (Firsts c.args.source.now.names.now) first_of c.args.limit c.args.source.now.tokens.now c.args.from) (sym e)
    (first_declares_stops c.args.source.now.names.now c.args.limit c.args.source.now.tokens.now c.args.from (sym c.begins_type.ensures
    ∙ c.if-begins_type.true) c.in_err-declared.field-0.0 c.in_err-declared.ensures.parsed)

pub returns-then-begins_type-clause-parsed : goal.returns-then-begins_type-clause-parsed
returns-then-begins_type-clause-parsed c =
    first_declares_taken c.args.source.now.names.now c.args.limit c.args.source.now.tokens.now c.args.from c.in_ok-declared.declared _
    c.in_ok-declared.ensures.parsed refl refl refl

pub returns-in_err-value-clause-parsed : goal.returns-in_err-value-clause-parsed
returns-in_err-value-clause-parsed c =
    let e : c.from_residual-in_err-value.result ≡ Err c.in_err-value.field-0.0 = search rules in
    subst (ExactAnswers (Firsts c.args.source.now.names.now) first_of c.args.limit c.args.source.now.tokens.now c.args.from) (sym e)
    (first_runs_stops c.args.source.now.names.now c.args.limit c.args.source.now.tokens.now c.args.from (sym c.begins_type.ensures ∙ c.if-begins_type.false)
    c.in_err-value.field-0.0 c.in_err-value.ensures.parsed)

pub returns-clause-parsed : goal.returns-clause-parsed
returns-clause-parsed c =
    first_runs_taken c.args.source.now.names.now c.args.limit c.args.source.now.tokens.now c.args.from c.in_ok-value.value _ c.in_ok-value.ensures.parsed
    c.run_if_any.ensures.tree refl refl

pub returns-clause-placed : goal.returns-clause-placed
returns-clause-placed c = c.run_if_any.ensures.placed (drop c.args.from c.args.source.now.tokens.now) c.in_ok-value.ensures.placed
