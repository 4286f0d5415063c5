use Rattle.std.proofs.Common.{drop, ◌≡◌, ◌-◌, Err, Option, refl, sym, ◌∙◌, subst, arith, rules}
use Rattle.std.proofs.lemmas.Bool.{false≢true}
use Rattle.cs_ast.specs.declared.raw.name.RawName.{RawName}
use Rattle.cs_ast.specs.RawDeclarationView.{constant}
use Rattle.cs_grammar.specs.FilePhrases.{IsFree}
use Rattle.cs_grammar.specs.DeclarationClasses.{Constants}
use Rattle.cs_expr_parser.specs.Positions.{kind_or_end}
use Rattle.cs_declarator_parser.specs.declared.source.Scope.TheVariants.{File}
use Rattle.cs_declarator_parser.specs.Answers.{UnclosedAnswers}
use Rattle.cs_declarator_parser.specs.DeclarationAnswers.{IsNameAt}
use Rattle.cs_declarator_parser.proofs.ListSites.{constant_stops, lone_taken, lone_full, value_stops, value_taken}
use Rattle.std.proofs.lemmas.List.{drop-drop}
use Rattle.cs_grammar.specs.Places.{HasPlaces}
use Rattle.cs_declarator_parser.specs.DeclarationPlaces.{IsNamePlaced}
use Rattle.cs_declarator_parser.specs.declared.source.Scope.TheVariants as scope
use Rattle.cs_declarator_parser.specs.Aptness.{IsUnclosedApt}
use Rattle.cs_declarator_parser.proofs.AptReasons.{apt_in, stop_apt}
use Rattle.cs_declarator_parser.proofs.constants.constant.Goals as goal

pub returns-in_default-clause-parsed : goal.returns-in_default-clause-parsed
returns-in_default-clause-parsed c =
    constant_stops c.args.source.now.names.now c.args.limit c.args.source.now.tokens.now c.args.from File c.refuse.result c.requires.within
    (subst (λ (x : Option RawName). IsNameAt (IsFree c.args.source.now.names.now) (kind_or_end c.args.source.now.tokens.now c.args.from) x) c.in_default.is
    c.in_ok-name.ensures.name) c.refuse.ensures.is

pub returns-then-not-is_punctuator-clause-parsed : goal.returns-then-not-is_punctuator-clause-parsed
returns-then-not-is_punctuator-clause-parsed c =
    let n = subst (λ (x : Option RawName). IsNameAt (IsFree c.args.source.now.names.now) (kind_or_end c.args.source.now.tokens.now c.args.from) x) c.in-Some.is
    c.in_ok-name.ensures.name in
    lone_taken c.args.source.now.names.now c.args.limit (c.args.limit - 1) (let some = c.requires.some in
    omega arith) c.args.source.now.tokens.now c.args.from c.in-Some.name.name n.0 n.1
    (λ k. false≢true (sym c.if-not-is_punctuator.true ∙ c.is_punctuator.ensures.punctuator.1 k)) File c.lone.result c.lone.ensures.tree
    c.lone.ensures.height c.lone.ensures.next (c.lone.ensures.otherwise ∙ c.reason_at.ensures.is)

pub returns-then-limit-lt2-clause-parsed : goal.returns-then-limit-lt2-clause-parsed
returns-then-limit-lt2-clause-parsed c =
    let n = subst (λ (x : Option RawName). IsNameAt (IsFree c.args.source.now.names.now) (kind_or_end c.args.source.now.tokens.now c.args.from) x) c.in-Some.is
    c.in_ok-name.ensures.name in
    lone_full c.args.source.now.names.now c.args.limit c.requires.some c.if-limit-lt2.true c.args.source.now.tokens.now c.args.from c.in-Some.name.name n.0 n.1
    (c.is_punctuator.ensures.punctuator.0 c.if-not-is_punctuator.false) c.lone-then-limit-lt2.result c.lone-then-limit-lt2.ensures.tree
    c.lone-then-limit-lt2.ensures.height c.lone-then-limit-lt2.ensures.next c.lone-then-limit-lt2.ensures.otherwise

pub returns-in_err-value-clause-parsed : goal.returns-in_err-value-clause-parsed
returns-in_err-value-clause-parsed c =
    let n = subst (λ (x : Option RawName). IsNameAt (IsFree c.args.source.now.names.now) (kind_or_end c.args.source.now.tokens.now c.args.from) x) c.in-Some.is
    c.in_ok-name.ensures.name in
    let e : c.from_residual-in_err-value.result ≡ Err c.in_err-value.field-0.0 = search rules in
    subst (UnclosedAnswers (Constants c.args.source.now.names.now) constant c.args.limit c.args.source.now.tokens.now c.args.from) (sym e)
    (value_stops c.args.source.now.names.now c.args.limit (c.args.limit - 1) (let enough = c.if-limit-lt2.false in
    omega arith) (let enough = c.if-limit-lt2.false in
    omega arith) c.args.source.now.tokens.now c.args.from c.in-Some.name.name n.0 n.1 (c.is_punctuator.ensures.punctuator.0 c.if-not-is_punctuator.false)
    c.in_err-value.field-0.0 c.in_err-value.ensures.parsed)

pub returns-clause-parsed : goal.returns-clause-parsed
returns-clause-parsed c =
    let n = subst (λ (x : Option RawName). IsNameAt (IsFree c.args.source.now.names.now) (kind_or_end c.args.source.now.tokens.now c.args.from) x) c.in-Some.is
    c.in_ok-name.ensures.name in
    value_taken c.args.source.now.names.now c.args.limit (c.args.limit - 1) (let enough = c.if-limit-lt2.false in
    omega arith) (let enough = c.if-limit-lt2.false in
    omega arith) c.args.source.now.tokens.now c.args.from c.in-Some.name.name n.0 n.1 (c.is_punctuator.ensures.punctuator.0 c.if-not-is_punctuator.false)
    c.in_ok-value.value c.in_ok-value.ensures.parsed _ c.enumerator.ensures.tree refl refl refl

pub returns-then-not-is_punctuator-clause-placed : goal.returns-then-not-is_punctuator-clause-placed
returns-then-not-is_punctuator-clause-placed c =
    let n = subst (λ (x : Option RawName). IsNamePlaced x (drop c.args.from c.args.source.now.tokens.now)) c.in-Some.is c.in_ok-name.ensures.placed in
    c.lone.ensures.placed (drop c.args.from c.args.source.now.tokens.now) n

pub returns-then-limit-lt2-clause-placed : goal.returns-then-limit-lt2-clause-placed
returns-then-limit-lt2-clause-placed c =
    let n = subst (λ (x : Option RawName). IsNamePlaced x (drop c.args.from c.args.source.now.tokens.now)) c.in-Some.is c.in_ok-name.ensures.placed in
    c.lone-then-limit-lt2.ensures.placed (drop c.args.from c.args.source.now.tokens.now) n

pub returns-clause-placed : goal.returns-clause-placed
returns-clause-placed c =
    let n = subst (λ (x : Option RawName). IsNamePlaced x (drop c.args.from c.args.source.now.tokens.now)) c.in-Some.is c.in_ok-name.ensures.placed in
    c.enumerator.ensures.placed (drop c.args.from c.args.source.now.tokens.now) n
    (subst (HasPlaces c.in_ok-value.value.tree) (sym (drop-drop 2 c.args.from c.args.source.now.tokens.now)) c.in_ok-value.ensures.placed)

pub returns-in_err-value-clause-apt : goal.returns-in_err-value-clause-apt
returns-in_err-value-clause-apt c =
    let e : c.from_residual-in_err-value.result ≡ Err c.in_err-value.field-0.0 = search rules in
    subst (IsUnclosedApt scope.File c.args.source.now.tokens.now) (sym e)
    (stop_apt scope.File c.args.source.now.tokens.now c.in_err-value.field-0.0 c.in_err-value.ensures.apt)

pub returns-clause-apt : goal.returns-clause-apt
returns-clause-apt c = apt_in scope.File (kind_or_end c.args.source.now.tokens.now c.in_ok-value.value.next) c.in_ok-value.value.otherwise
    c.in_ok-value.ensures.apt
