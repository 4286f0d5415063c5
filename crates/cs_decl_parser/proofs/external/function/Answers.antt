-- Each return is the refusal of a part, or all were taken.
use Rattle.std.proofs.Common.{◌≡◌, Err, refl, sym, ◌∙◌, subst, arith, rules}
use Rattle.std.proofs.lemmas.Bool.{false≢true}
use Rattle.cs_ast.specs.RawStatementView.{external_of}
use Rattle.cs_grammar.specs.DeclarationClasses.{Externals}
use Rattle.cs_declarator_parser.specs.Answers.{ExactAnswers}
use Rattle.cs_decl_parser.proofs.ExternalSites.{external_parameters_stop, head_made, external_end_missing, external_function_taken, external_body_stops}
use Rattle.cs_decl_parser.proofs.ExternalSites.{external_definition_taken}
use Rattle.cs_decl_parser.proofs.PlacingFiles.{head_placed, function_placed, body_placed, definition_placed}
use Rattle.cs_decl_parser.specs.FileAnswers.{IsBodyApt}
use Rattle.cs_decl_parser.proofs.InBodies.{parameters_body, end_body, inside_body}
use Rattle.cs_decl_parser.proofs.external.function.Goals as goal

pub returns-in_err-parameters-clause-parsed : goal.returns-in_err-parameters-clause-parsed
returns-in_err-parameters-clause-parsed c =
    λ from t p.
    let e : c.from_residual.result ≡ Err c.in_err-parameters.field-0.0 = search rules in
    subst (ExactAnswers (Externals c.args.source.now.names.now) external_of 200 c.args.source.now.tokens.now from) (sym e)
    (external_parameters_stop c.args.source.now.names.now c.args.source.now.tokens.now from c.args.specs c.args.pointed t p c.requires.stands
    c.in_err-parameters.field-0.0 c.in_err-parameters.ensures.parsed)

pub returns-then-is_punctuator-clause-parsed : goal.returns-then-is_punctuator-clause-parsed
returns-then-is_punctuator-clause-parsed c =
    λ from t p.
    let h = c.max-height.ensures in
    external_function_taken c.args.source.now.names.now c.args.source.now.tokens.now from c.args.specs c.head-head.result _ t
    (head_made c.args.source.now.names.now c.args.source.now.tokens.now c.args.specs.next c.args.pointed c.in_ok-parameters.parameters c.head-head.result p
    c.requires.stands c.in_ok-parameters.ensures.parsed c.head-head.ensures.size.0 c.head-head.ensures.size.1 c.head-head.ensures.tree)
    (c.is_punctuator.ensures.punctuator.0 c.if-is_punctuator.true) refl (omega arith) refl

pub returns-then-not-is_punctuator-clause-parsed : goal.returns-then-not-is_punctuator-clause-parsed
returns-then-not-is_punctuator-clause-parsed c =
    λ from t p.
    external_end_missing c.args.source.now.names.now c.args.source.now.tokens.now from c.args.specs c.head-head.result c.refuse.result t
    (head_made c.args.source.now.names.now c.args.source.now.tokens.now c.args.specs.next c.args.pointed c.in_ok-parameters.parameters c.head-head.result p
    c.requires.stands c.in_ok-parameters.ensures.parsed c.head-head.ensures.size.0 c.head-head.ensures.size.1 c.head-head.ensures.tree)
    (λ k. false≢true (sym c.if-is_punctuator.false ∙ c.is_punctuator.ensures.punctuator.1 k))
    (λ k named. false≢true (sym c.if-not-is_punctuator.true ∙ c.is_punctuator-2.ensures.punctuator.1 k)) c.refuse.ensures.is

pub returns-then-not-are_named-clause-parsed : goal.returns-then-not-are_named-clause-parsed
returns-then-not-are_named-clause-parsed c =
    λ from t p.
    external_end_missing c.args.source.now.names.now c.args.source.now.tokens.now from c.args.specs c.head-head.result c.refuse-then-not-are_named.result t
    (head_made c.args.source.now.names.now c.args.source.now.tokens.now c.args.specs.next c.args.pointed c.in_ok-parameters.parameters c.head-head.result p
    c.requires.stands c.in_ok-parameters.ensures.parsed c.head-head.ensures.size.0 c.head-head.ensures.size.1 c.head-head.ensures.tree)
    (λ k. false≢true (sym c.if-is_punctuator.false ∙ c.is_punctuator.ensures.punctuator.1 k))
    (λ k named. false≢true (sym c.if-not-are_named.true ∙ c.are_named.ensures.1 named)) c.refuse-then-not-are_named.ensures.is

pub returns-clause-parsed : goal.returns-clause-parsed
returns-clause-parsed c =
    λ from t p.
    let h = c.max-height.ensures in
    let k = c.max.ensures in
    external_definition_taken c.args.source.now.names.now c.args.source.now.tokens.now from c.args.specs c.head-head.result c.in_ok-body.body _ t
    (head_made c.args.source.now.names.now c.args.source.now.tokens.now c.args.specs.next c.args.pointed c.in_ok-parameters.parameters c.head-head.result p
    c.requires.stands c.in_ok-parameters.ensures.parsed c.head-head.ensures.size.0 c.head-head.ensures.size.1 c.head-head.ensures.tree)
    (c.are_named.ensures.0 c.if-not-are_named.false) (c.is_punctuator-2.ensures.punctuator.0 c.if-not-is_punctuator.false) c.in_ok-body.ensures.parsed refl
    (omega arith) refl

pub returns-in_err-body-clause-parsed : goal.returns-in_err-body-clause-parsed
returns-in_err-body-clause-parsed c =
    λ from t p.
    let e : c.from_residual-in_err-body.result ≡ Err c.in_err-body.field-0.0 = search rules in
    subst (ExactAnswers (Externals c.args.source.now.names.now) external_of 200 c.args.source.now.tokens.now from) (sym e)
    (external_body_stops c.args.source.now.names.now c.args.source.now.tokens.now from c.args.specs c.head-head.result t
    (head_made c.args.source.now.names.now c.args.source.now.tokens.now c.args.specs.next c.args.pointed c.in_ok-parameters.parameters c.head-head.result p
    c.requires.stands c.in_ok-parameters.ensures.parsed c.head-head.ensures.size.0 c.head-head.ensures.size.1 c.head-head.ensures.tree)
    (c.are_named.ensures.0 c.if-not-are_named.false) (c.is_punctuator-2.ensures.punctuator.0 c.if-not-is_punctuator.false) c.in_err-body.field-0.0
    c.in_err-body.ensures.parsed)

pub returns-then-is_punctuator-clause-placed : goal.returns-then-is_punctuator-clause-placed
returns-then-is_punctuator-clause-placed c =
    λ from t p.
    function_placed c.args.source.now.tokens.now from c.args.specs.next c.args.specs.tree c.head-head.result.tree t.0.taken.spelled t.1
    (head_placed c.args.source.now.names.now c.args.source.now.tokens.now c.args.specs.next c.args.pointed c.in_ok-parameters.parameters.tree
    c.head-head.result.tree c.head-head.ensures.placed p c.in_ok-parameters.ensures.placed)

pub returns-clause-placed : goal.returns-clause-placed
returns-clause-placed c =
    λ from t p.
    let made =
    (head_made c.args.source.now.names.now c.args.source.now.tokens.now c.args.specs.next c.args.pointed c.in_ok-parameters.parameters c.head-head.result
    p.0 c.requires.stands c.in_ok-parameters.ensures.parsed c.head-head.ensures.size.0 c.head-head.ensures.size.1 c.head-head.ensures.tree) in
    definition_placed c.args.source.now.tokens.now from c.args.specs.next c.head-head.result.next c.args.specs.tree c.head-head.result.tree _ t.0.taken.spelled
    made.stands.spelled t.1
    (head_placed c.args.source.now.names.now c.args.source.now.tokens.now c.args.specs.next c.args.pointed c.in_ok-parameters.parameters.tree
    c.head-head.result.tree c.head-head.ensures.placed p c.in_ok-parameters.ensures.placed)
    (body_placed c.args.source.now.tokens.now c.head-head.result.next c.in_ok-body.body.next _ c.place_at.ensures c.in_ok-body.ensures.placed
    c.in_ok-body.ensures.parsed.spelled c.place_at-2.ensures)

pub returns-in_err-parameters-clause-inside : goal.returns-in_err-parameters-clause-inside
returns-in_err-parameters-clause-inside c =
    λ from t p.
    let e : c.from_residual.result ≡ Err c.in_err-parameters.field-0.0 = search rules in
    subst (IsBodyApt c.args.source.now.names.now c.args.source.now.tokens.now from) (sym e)
    (parameters_body c.args.source.now.names.now c.args.source.now.tokens.now from c.args.specs c.args.pointed t p c.requires.stands
    c.in_err-parameters.field-0.0 c.in_err-parameters.ensures.parsed)

pub returns-then-not-is_punctuator-clause-inside : goal.returns-then-not-is_punctuator-clause-inside
returns-then-not-is_punctuator-clause-inside c =
    λ from t p.
    end_body c.args.source.now.names.now c.args.source.now.tokens.now from c.args.specs c.head-head.result t
    (head_made c.args.source.now.names.now c.args.source.now.tokens.now c.args.specs.next c.args.pointed c.in_ok-parameters.parameters c.head-head.result p
    c.requires.stands c.in_ok-parameters.ensures.parsed c.head-head.ensures.size.0 c.head-head.ensures.size.1 c.head-head.ensures.tree) c.refuse.result
    c.refuse.ensures.is

pub returns-then-not-are_named-clause-inside : goal.returns-then-not-are_named-clause-inside
returns-then-not-are_named-clause-inside c =
    λ from t p.
    end_body c.args.source.now.names.now c.args.source.now.tokens.now from c.args.specs c.head-head.result t
    (head_made c.args.source.now.names.now c.args.source.now.tokens.now c.args.specs.next c.args.pointed c.in_ok-parameters.parameters c.head-head.result p
    c.requires.stands c.in_ok-parameters.ensures.parsed c.head-head.ensures.size.0 c.head-head.ensures.size.1 c.head-head.ensures.tree)
    c.refuse-then-not-are_named.result c.refuse-then-not-are_named.ensures.is

pub returns-in_err-body-clause-inside : goal.returns-in_err-body-clause-inside
returns-in_err-body-clause-inside c =
    λ from t p.
    let e : c.from_residual-in_err-body.result ≡ Err c.in_err-body.field-0.0 = search rules in
    subst (IsBodyApt c.args.source.now.names.now c.args.source.now.tokens.now from) (sym e)
    (inside_body c.args.source.now.names.now c.args.source.now.tokens.now from c.in_err-body.field-0.0 c.in_err-body.ensures.apt)
