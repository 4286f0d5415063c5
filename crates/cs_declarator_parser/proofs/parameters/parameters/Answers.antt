use Rattle.std.proofs.Common.{◌≡◌, ◌-◌, map, Err, refl, sym, ◌∙◌, subst, arith, rules}
use Rattle.std.proofs.lemmas.Bool.{false≢true}
use Rattle.cs_ast.specs.RawDeclarationView.{parameter, parameters}
use Rattle.cs_grammar.specs.DeclarationClasses.{ParameterLists}
use Rattle.cs_declarator_parser.specs.Answers.{ExactAnswers}
use Rattle.cs_declarator_parser.proofs.ParameterRowSites.{lists_stop, list_taken, none_taken, void_taken}
use Rattle.cs_declarator_parser.proofs.parameters.parameters.Goals as goal

pub returns-then-is_punctuator-clause-parsed : goal.returns-then-is_punctuator-clause-parsed
returns-then-is_punctuator-clause-parsed c =
    let enough = c.requires.enough in
    none_taken c.args.source.now.names.now c.args.limit (omega arith) c.args.source.now.tokens.now c.args.from _
    (c.is_punctuator.ensures.punctuator.0 c.if-is_punctuator.true) refl refl refl

pub returns-then-is_void_alone-clause-parsed : goal.returns-then-is_void_alone-clause-parsed
returns-then-is_void_alone-clause-parsed c =
    let enough = c.requires.enough in
    void_taken c.args.source.now.names.now c.args.limit (omega arith) c.args.source.now.tokens.now c.args.from _
    (c.is_void_alone.ensures.void.0 c.if-is_void_alone.true) refl refl (omega arith)

pub returns-in_err-list-clause-parsed : goal.returns-in_err-list-clause-parsed
returns-in_err-list-clause-parsed c =
    let enough = c.requires.enough in
    let e : c.from_residual.result ≡ Err c.in_err-list.field-0.0 = search rules in
    subst (ExactAnswers (ParameterLists c.args.source.now.names.now) parameters c.args.limit c.args.source.now.tokens.now c.args.from) (sym e)
    (lists_stop c.args.source.now.names.now c.args.limit (c.args.limit - 1) (omega arith) (omega arith) c.args.source.now.tokens.now c.args.from
    (λ k. false≢true (sym c.if-is_punctuator.false ∙ c.is_punctuator.ensures.punctuator.1 k))
    (λ v. false≢true (sym c.if-is_void_alone.false ∙ c.is_void_alone.ensures.void.1 v)) c.in_err-list.field-0.0 c.in_err-list.ensures.parsed)

pub returns-clause-parsed : goal.returns-clause-parsed
returns-clause-parsed c =
    let enough = c.requires.enough in
    list_taken (λ list. map parameter list.items) c.args.source.now.names.now c.args.limit (c.args.limit - 1) (omega arith) c.args.source.now.tokens.now
    c.args.from c.in_ok-list.list c.in_ok-list.ensures.parsed _ refl refl refl
