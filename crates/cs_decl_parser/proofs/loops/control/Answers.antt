-- Each return is the refusal of the parenthesis or of a part, or all were taken.
use Rattle.std.proofs.Common.{◌≡◌, ◌+◌, Err, refl, sym, ◌∙◌, subst, arith, rules}
use Rattle.std.proofs.lemmas.Bool.{false≢true}
use Rattle.cs_declarator_parser.specs.Answers.{ExactAnswers}
use Rattle.cs_decl_parser.specs.Blocks.{Controls, control_of}
use Rattle.cs_decl_parser.proofs.ForSites.{control_missing, control_first_stops, control_test_stops, control_last_stops, control_taken}
use Rattle.cs_decl_parser.proofs.PlacingStatements.{control_placed}
use Rattle.cs_decl_parser.proofs.loops.control.Goals as goal

pub returns-then-not-is_punctuator-clause-parsed : goal.returns-then-not-is_punctuator-clause-parsed
returns-then-not-is_punctuator-clause-parsed c =
    control_missing c.args.source.now.names.now c.args.limit c.args.source.now.tokens.now c.args.from c.refuse.result c.requires.within
    (λ k. false≢true (sym c.if-not-is_punctuator.true ∙ c.is_punctuator.ensures.punctuator.1 k)) c.refuse.ensures.is

pub returns-in_err-first-clause-parsed : goal.returns-in_err-first-clause-parsed
returns-in_err-first-clause-parsed c =
    let e : c.from_residual.result ≡ Err c.in_err-first.field-0.0 = search rules in
    subst (ExactAnswers (Controls c.args.source.now.names.now) control_of c.args.limit c.args.source.now.tokens.now c.args.from) (sym e)
    (control_first_stops c.args.source.now.names.now c.args.limit c.args.source.now.tokens.now c.args.from
    (c.is_punctuator.ensures.punctuator.0 c.if-not-is_punctuator.false) c.in_err-first.field-0.0 c.in_err-first.ensures.parsed)

pub returns-in_err-test-clause-parsed : goal.returns-in_err-test-clause-parsed
returns-in_err-test-clause-parsed c =
    let e : c.from_residual-in_err-test.result ≡ Err c.in_err-test.field-0.0 = search rules in
    subst (ExactAnswers (Controls c.args.source.now.names.now) control_of c.args.limit c.args.source.now.tokens.now c.args.from) (sym e)
    (control_test_stops c.args.source.now.names.now c.args.limit c.args.source.now.tokens.now c.args.from c.in_ok-first.first
    (c.is_punctuator.ensures.punctuator.0 c.if-not-is_punctuator.false) c.in_ok-first.ensures.parsed c.in_err-test.field-0.0 c.in_err-test.ensures.parsed)

pub returns-in_err-last-clause-parsed : goal.returns-in_err-last-clause-parsed
returns-in_err-last-clause-parsed c =
    let e : c.from_residual-in_err-last.result ≡ Err c.in_err-last.field-0.0 = search rules in
    subst (ExactAnswers (Controls c.args.source.now.names.now) control_of c.args.limit c.args.source.now.tokens.now c.args.from) (sym e)
    (control_last_stops c.args.source.now.names.now c.args.limit c.args.source.now.tokens.now c.args.from c.in_ok-first.first c.in_ok-test.test
    (c.is_punctuator.ensures.punctuator.0 c.if-not-is_punctuator.false) c.in_ok-first.ensures.parsed c.in_ok-test.ensures.parsed c.in_err-last.field-0.0
    c.in_err-last.ensures.parsed)

pub returns-clause-parsed : goal.returns-clause-parsed
returns-clause-parsed c =
    let h = c.max.ensures in
    let k = c.max-2.ensures in
    control_taken c.args.source.now.names.now c.args.limit c.args.source.now.tokens.now c.args.from c.in_ok-first.first c.in_ok-test.test c.in_ok-last.last _
    (c.is_punctuator.ensures.punctuator.0 c.if-not-is_punctuator.false) c.in_ok-first.ensures.parsed c.in_ok-test.ensures.parsed c.in_ok-last.ensures.parsed
    refl (omega arith) refl

pub returns-clause-placed : goal.returns-clause-placed
returns-clause-placed c =
    control_placed c.args.source.now.tokens.now (c.args.from + 1) c.in_ok-first.first.next c.in_ok-test.test.next _ c.in_ok-first.ensures.parsed.spelled
    c.in_ok-test.ensures.parsed.spelled c.in_ok-first.ensures.placed c.in_ok-test.ensures.placed c.in_ok-last.ensures.placed
