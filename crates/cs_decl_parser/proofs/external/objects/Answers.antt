-- Each return is the refusal of a declarator, of a value or of an object after a comma, or all were taken.
use Rattle.std.proofs.Common.{◌≡◌, Err, refl, sym, subst, arith, rules}
use Rattle.cs_ast.specs.RawStatementView.{external_of}
use Rattle.cs_grammar.specs.DeclarationClasses.{Externals}
use Rattle.cs_declarator_parser.specs.Answers.{ExactAnswers}
use Rattle.cs_decl_parser.proofs.ExternalSites.{external_declarator_stops, external_value_stops, external_object_stops, external_objects_taken}
use Rattle.cs_decl_parser.proofs.PlacingStatements.{declaration_placed}
use Rattle.cs_decl_parser.specs.FileAnswers.{IsBodyApt}
use Rattle.cs_decl_parser.proofs.InBodies.{objects_body}
use Rattle.cs_declarator_parser.specs.declared.source.Scope.TheVariants as scope
use Rattle.cs_declarator_parser.specs.Aptness.{IsAnswerApt}
use Rattle.cs_declarator_parser.proofs.AptReasons.{stop_apt}
use Rattle.cs_decl_parser.proofs.external.objects.Goals as goal

pub returns-in_err-declarator-clause-parsed : goal.returns-in_err-declarator-clause-parsed
returns-in_err-declarator-clause-parsed c =
    λ from t p.
    let e : c.from_residual.result ≡ Err c.in_err-declarator.field-0.0 = search rules in
    subst (ExactAnswers (Externals c.args.source.now.names.now) external_of 200 c.args.source.now.tokens.now from) (sym e)
    (external_declarator_stops c.args.source.now.names.now c.args.source.now.tokens.now from c.args.specs c.args.pointed t p c.requires.stands
    c.in_err-declarator.field-0.0 (c.in_err-declarator.ensures.parsed c.args.specs.next p))

pub returns-in_err-first-clause-parsed : goal.returns-in_err-first-clause-parsed
returns-in_err-first-clause-parsed c =
    λ from t p.
    let e : c.from_residual-in_err-first.result ≡ Err c.in_err-first.field-0.0 = search rules in
    subst (ExactAnswers (Externals c.args.source.now.names.now) external_of 200 c.args.source.now.tokens.now from) (sym e)
    (external_value_stops c.args.source.now.names.now c.args.source.now.tokens.now from c.args.specs c.args.pointed t p c.requires.stands
    c.in_err-first.field-0.0 (c.in_err-first.ensures.parsed c.args.specs.next (c.in_ok-declarator.ensures.parsed c.args.specs.next p)))

pub returns-in_err-objects-clause-parsed : goal.returns-in_err-objects-clause-parsed
returns-in_err-objects-clause-parsed c =
    λ from t p.
    let e : c.from_residual-in_err-objects.result ≡ Err c.in_err-objects.field-0.0 = search rules in
    subst (ExactAnswers (Externals c.args.source.now.names.now) external_of 200 c.args.source.now.tokens.now from) (sym e)
    (external_object_stops c.args.source.now.names.now c.args.source.now.tokens.now from c.args.specs c.args.pointed t p c.requires.stands
    c.in_err-objects.field-0.0 (c.in_err-objects.ensures.parsed c.args.specs.next
    (c.in_ok-first.ensures.parsed c.args.specs.next (c.in_ok-declarator.ensures.parsed c.args.specs.next p))))

pub returns-clause-parsed : goal.returns-clause-parsed
returns-clause-parsed c =
    λ from t p.
    let h = c.max.ensures in
    external_objects_taken c.args.source.now.names.now c.args.source.now.tokens.now from c.args.specs c.in_ok-objects.objects _ t
    (c.in_ok-objects.ensures.parsed c.args.specs.next
    (c.in_ok-first.ensures.parsed c.args.specs.next (c.in_ok-declarator.ensures.parsed c.args.specs.next p))) refl (omega arith) refl

pub returns-clause-placed : goal.returns-clause-placed
returns-clause-placed c =
    λ from t p.
    let d = c.in_ok-declarator.ensures.parsed c.args.specs.next p.0 in
    let first = c.in_ok-first.ensures.placed c.args.specs.next d (c.in_ok-declarator.ensures.placed c.args.specs.next p.0 p.1) in
    declaration_placed c.args.source.now.tokens.now from c.args.specs.next c.args.specs.tree c.in_ok-objects.objects.tree.items t.0.taken.spelled t.1
    (c.in_ok-objects.ensures.placed c.args.specs.next (c.in_ok-first.ensures.parsed c.args.specs.next d) first)

pub returns-in_err-declarator-clause-inside : goal.returns-in_err-declarator-clause-inside
returns-in_err-declarator-clause-inside c =
    λ from t p.
    let e : c.from_residual.result ≡ Err c.in_err-declarator.field-0.0 = search rules in
    subst (IsBodyApt c.args.source.now.names.now c.args.source.now.tokens.now from) (sym e)
    (objects_body c.args.source.now.names.now c.args.source.now.tokens.now from c.args.specs c.args.pointed t p c.requires.stands c.in_err-declarator.field-0.0)

pub returns-in_err-first-clause-inside : goal.returns-in_err-first-clause-inside
returns-in_err-first-clause-inside c =
    λ from t p.
    let e : c.from_residual-in_err-first.result ≡ Err c.in_err-first.field-0.0 = search rules in
    subst (IsBodyApt c.args.source.now.names.now c.args.source.now.tokens.now from) (sym e)
    (objects_body c.args.source.now.names.now c.args.source.now.tokens.now from c.args.specs c.args.pointed t p c.requires.stands c.in_err-first.field-0.0)

pub returns-in_err-objects-clause-inside : goal.returns-in_err-objects-clause-inside
returns-in_err-objects-clause-inside c =
    λ from t p.
    let e : c.from_residual-in_err-objects.result ≡ Err c.in_err-objects.field-0.0 = search rules in
    subst (IsBodyApt c.args.source.now.names.now c.args.source.now.tokens.now from) (sym e)
    (objects_body c.args.source.now.names.now c.args.source.now.tokens.now from c.args.specs c.args.pointed t p c.requires.stands c.in_err-objects.field-0.0)

pub returns-in_err-declarator-clause-apt : goal.returns-in_err-declarator-clause-apt
returns-in_err-declarator-clause-apt c =
    let e : c.from_residual.result ≡ Err c.in_err-declarator.field-0.0 = search rules in
    subst (IsAnswerApt scope.File c.args.source.now.tokens.now) (sym e)
    (stop_apt scope.File c.args.source.now.tokens.now c.in_err-declarator.field-0.0 c.in_err-declarator.ensures.apt)
