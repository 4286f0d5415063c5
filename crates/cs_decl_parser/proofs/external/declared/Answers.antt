-- Each return is the refusal of the specifiers or of the name, or only specifiers, or what follows the name.
use Rattle.std.proofs.Common.{◌≡◌, Err, refl, sym, ◌∙◌, subst, rules}
use Rattle.std.proofs.lemmas.Bool.{false≢true}
use Rattle.cs_ast.specs.RawStatementView.{external_of}
use Rattle.cs_grammar.specs.DeclarationClasses.{Externals}
use Rattle.cs_declarator_parser.specs.Answers.{ExactAnswers}
use Rattle.cs_decl_parser.proofs.ExternalSites.{declared_type_stops, external_alone_taken, external_name_stops}
use Rattle.cs_decl_parser.specs.FileAnswers.{IsBodyApt}
use Rattle.cs_decl_parser.proofs.InBodies.{type_body, name_body}
use Rattle.cs_decl_parser.proofs.external.declared.Goals as goal

pub returns-in_err-specs-clause-parsed : goal.returns-in_err-specs-clause-parsed
returns-in_err-specs-clause-parsed c =
    let e : c.from_residual.result ≡ Err c.in_err-specs.field-0.0 = search rules in
    subst (ExactAnswers (Externals c.args.source.now.names.now) external_of 200 c.args.source.now.tokens.now c.args.from) (sym e)
    (declared_type_stops c.args.source.now.names.now c.args.source.now.tokens.now c.args.from c.requires.other c.in_err-specs.field-0.0
    c.in_err-specs.ensures.parsed)

pub returns-then-is_punctuator-clause-parsed : goal.returns-then-is_punctuator-clause-parsed
returns-then-is_punctuator-clause-parsed c =
    external_alone_taken c.args.source.now.names.now c.args.source.now.tokens.now c.args.from c.in_ok-specs.specs _
    (record { taken = c.in_ok-specs.ensures.parsed; no_typedef = c.requires.other }) (c.is_punctuator.ensures.punctuator.0 c.if-is_punctuator.true) refl
    refl refl

pub returns-in_err-pointed-clause-parsed : goal.returns-in_err-pointed-clause-parsed
returns-in_err-pointed-clause-parsed c =
    let e : c.from_residual-in_err-pointed.result ≡ Err c.in_err-pointed.field-0.0 = search rules in
    subst (ExactAnswers (Externals c.args.source.now.names.now) external_of 200 c.args.source.now.tokens.now c.args.from) (sym e)
    (external_name_stops c.args.source.now.names.now c.args.source.now.tokens.now c.args.from c.in_ok-specs.specs
    (record { taken = c.in_ok-specs.ensures.parsed; no_typedef = c.requires.other })
    (λ k. false≢true (sym c.if-is_punctuator.false ∙ c.is_punctuator.ensures.punctuator.1 k)) c.in_err-pointed.field-0.0
    c.in_err-pointed.ensures.parsed)

pub returns-then-is_punctuator-2-clause-parsed : goal.returns-then-is_punctuator-2-clause-parsed
returns-then-is_punctuator-2-clause-parsed c =
    c.function.ensures.parsed c.args.from (record { taken = c.in_ok-specs.ensures.parsed; no_typedef = c.requires.other }) c.in_ok-pointed.ensures.parsed

pub returns-clause-parsed : goal.returns-clause-parsed
returns-clause-parsed c =
    c.objects.ensures.parsed c.args.from (record { taken = c.in_ok-specs.ensures.parsed; no_typedef = c.requires.other }) c.in_ok-pointed.ensures.parsed

pub returns-then-is_punctuator-clause-placed : goal.returns-then-is_punctuator-clause-placed
returns-then-is_punctuator-clause-placed c = c.in_ok-specs.ensures.placed

pub returns-then-is_punctuator-2-clause-placed : goal.returns-then-is_punctuator-2-clause-placed
returns-then-is_punctuator-2-clause-placed c =
    c.function.ensures.placed c.args.from (
      record { taken = c.in_ok-specs.ensures.parsed; no_typedef = c.requires.other },
      c.in_ok-specs.ensures.placed,
    ) (c.in_ok-pointed.ensures.parsed, c.in_ok-pointed.ensures.placed)

pub returns-clause-placed : goal.returns-clause-placed
returns-clause-placed c =
    c.objects.ensures.placed c.args.from (
      record { taken = c.in_ok-specs.ensures.parsed; no_typedef = c.requires.other },
      c.in_ok-specs.ensures.placed,
    ) (c.in_ok-pointed.ensures.parsed, c.in_ok-pointed.ensures.placed)

pub returns-in_err-specs-clause-inside : goal.returns-in_err-specs-clause-inside
returns-in_err-specs-clause-inside c =
    let e : c.from_residual.result ≡ Err c.in_err-specs.field-0.0 = search rules in
    subst (IsBodyApt c.args.source.now.names.now c.args.source.now.tokens.now c.args.from) (sym e)
    (type_body c.args.source.now.names.now c.args.source.now.tokens.now c.args.from c.in_err-specs.field-0.0 c.in_err-specs.ensures.parsed)

pub returns-in_err-pointed-clause-inside : goal.returns-in_err-pointed-clause-inside
returns-in_err-pointed-clause-inside c =
    let e : c.from_residual-in_err-pointed.result ≡ Err c.in_err-pointed.field-0.0 = search rules in
    subst (IsBodyApt c.args.source.now.names.now c.args.source.now.tokens.now c.args.from) (sym e)
    (name_body c.args.source.now.names.now c.args.source.now.tokens.now c.args.from c.in_ok-specs.specs
    (record { taken = c.in_ok-specs.ensures.parsed; no_typedef = c.requires.other }) c.in_err-pointed.field-0.0 c.in_err-pointed.ensures.parsed)

pub returns-then-is_punctuator-2-clause-inside : goal.returns-then-is_punctuator-2-clause-inside
returns-then-is_punctuator-2-clause-inside c =
    c.function.ensures.inside c.args.from (record { taken = c.in_ok-specs.ensures.parsed; no_typedef = c.requires.other }) c.in_ok-pointed.ensures.parsed

pub returns-clause-inside : goal.returns-clause-inside
returns-clause-inside c = c.objects.ensures.inside c.args.from (record { taken = c.in_ok-specs.ensures.parsed; no_typedef = c.requires.other })
    c.in_ok-pointed.ensures.parsed
