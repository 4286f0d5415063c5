use Rattle.std.proofs.Common.{drop, ◌≡◌, ◌+◌, ◌-◌, Err, refl, sym, ◌∙◌, subst, arith, rules}
use Rattle.std.proofs.lemmas.Bool.{false≢true}
use Rattle.cs_ast.specs.RawDeclarationView.{declared}
use Rattle.cs_grammar.specs.DeclarationClasses.{Objects}
use Rattle.cs_declarator_parser.specs.Answers.{UnclosedAnswers}
use Rattle.cs_declarator_parser.proofs.ObjectSites.{alone_taken, alone_full, object_value_stops, object_value_taken}
use Rattle.cs_declarator_parser.proofs.Placing.{value_after}
use Rattle.cs_declarator_parser.proofs.objects.with_value.Goals as goal

pub returns-then-not-is_punctuator-clause-parsed : goal.returns-then-not-is_punctuator-clause-parsed
returns-then-not-is_punctuator-clause-parsed c = λ from d.
    alone_taken c.args.source.now.names.now c.args.limit (c.args.limit - 1) (let a = c.requires.some in let b = c.requires.low in
    omega arith) c.args.source.now.tokens.now from c.args.declarator d
    (λ k. false≢true (sym c.if-not-is_punctuator.true ∙ c.is_punctuator.ensures.punctuator.1 k)) c.args.scope c.alone.result c.alone.ensures.tree
    c.alone.ensures.height c.alone.ensures.next (c.alone.ensures.otherwise ∙ c.reason_at.ensures.is)

pub returns-then-declarator-limit-clause-parsed : goal.returns-then-declarator-limit-clause-parsed
returns-then-declarator-limit-clause-parsed c = λ from d.
    alone_full c.args.source.now.names.now c.args.limit (c.args.limit - 1) (let a = c.requires.some in let b = c.requires.low in
    omega arith) c.args.source.now.tokens.now from c.args.declarator d (c.is_punctuator.ensures.punctuator.0 c.if-not-is_punctuator.false)
    c.if-declarator-limit.true c.alone-then-declarator-limit.result c.alone-then-declarator-limit.ensures.tree c.alone-then-declarator-limit.ensures.height
    c.alone-then-declarator-limit.ensures.next c.alone-then-declarator-limit.ensures.otherwise

pub returns-in_err-value-clause-parsed : goal.returns-in_err-value-clause-parsed
returns-in_err-value-clause-parsed c = λ from d.
    let e : c.from_residual.result ≡ Err c.in_err-value.field-0.0 = search rules in
    subst (UnclosedAnswers (Objects c.args.source.now.names.now) declared c.args.limit c.args.source.now.tokens.now from) (sym e)
    (object_value_stops c.args.source.now.names.now c.args.limit (c.args.limit - 1) (let a = c.requires.some in let b = c.requires.low in
    omega arith) c.args.source.now.tokens.now from c.args.declarator d (c.is_punctuator.ensures.punctuator.0 c.if-not-is_punctuator.false)
    (let a = c.if-declarator-limit.false in omega arith) c.in_err-value.field-0.0 c.in_err-value.ensures.parsed)

pub returns-clause-parsed : goal.returns-clause-parsed
returns-clause-parsed c = λ from d.
    let h = (d (c.args.limit - 1) (let a = c.requires.some in let b = c.requires.low in omega arith)).height_is in
    let v = c.in_ok-value.ensures.parsed.height_is in
    let m = c.max.ensures in
    object_value_taken c.args.source.now.names.now c.args.limit (c.args.limit - 1) (let a = c.requires.some in let b = c.requires.low in
    omega arith) c.args.source.now.tokens.now from c.args.declarator d (c.is_punctuator.ensures.punctuator.0 c.if-not-is_punctuator.false)
    (let a = c.if-declarator-limit.false in omega arith) c.in_ok-value.value c.in_ok-value.ensures.parsed _ refl (c.max.result + 1) refl (omega arith) refl
    refl

pub returns-then-not-is_punctuator-clause-placed : goal.returns-then-not-is_punctuator-clause-placed
returns-then-not-is_punctuator-clause-placed c = λ from d p. c.alone.ensures.placed (drop from c.args.source.now.tokens.now) p

pub returns-then-declarator-limit-clause-placed : goal.returns-then-declarator-limit-clause-placed
returns-then-declarator-limit-clause-placed c = λ from d p. c.alone-then-declarator-limit.ensures.placed (drop from c.args.source.now.tokens.now) p

pub returns-clause-placed : goal.returns-clause-placed
returns-clause-placed c = λ from d p.
    let spelled = (d (c.args.limit - 1) (let a = c.requires.some in let b = c.requires.low in omega arith)).spelled in (
      p,
      value_after c.args.declarator.tree c.args.source.now.tokens.now from c.args.declarator.next spelled c.place_at.result c.in_ok-value.value.tree
          c.place_at.ensures c.in_ok-value.ensures.placed,
    )
