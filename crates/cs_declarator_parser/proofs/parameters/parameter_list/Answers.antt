use Rattle.std.proofs.Common.{◌≡◌, ℕ, max, map, Err, List, [], ◌∷◌, ◌++◌, false, refl, sym, ap, ◌∙◌, subst, arith, rules}
use Rattle.std.proofs.lemmas.Bool.{false≢true}
use Rattle.std.proofs.lemmas.List.{map-append}
use Rattle.cs_ast.specs.declared.raw.declaration.RawParameter.{RawParameter}
use Rattle.cs_ast.specs.RawDeclarations.{Parameter}
use Rattle.cs_ast.specs.RawDeclarationView.{parameter}
use Rattle.cs_grammar.specs.DeclarationClasses.{ParameterClass, ParameterRows}
use Rattle.cs_grammar.proofs.Statements.{close_parenthesis}
use Rattle.cs_grammar.proofs.ParameterRules.{parameter_row}
use Rattle.cs_expr_parser.specs.Positions.{kind_or_end}
use Rattle.cs_declarator_parser.specs.declared.source.Scope.TheVariants.{File}
use Rattle.cs_declarator_parser.specs.Reasons.{plain_reason}
use Rattle.cs_declarator_parser.specs.Answers.{ExactAnswers, Stops}
use Rattle.cs_declarator_parser.proofs.PartStops.{plain_flat}
use Rattle.cs_declarator_parser.proofs.RowSites.{row_first, row_next, row_taken}
use Rattle.cs_declarator_parser.proofs.ParameterRowSites.{ParametersSoFar, first_stops, next_stops, unended_stops, rows_taken}
use Rattle.cs_grammar.specs.FileText.{parameter_text}
use Rattle.cs_declarator_parser.specs.DeclarationPlaces.{IsParameterPlaced}
use Rattle.cs_declarator_parser.proofs.Placing.{RowPlaced, row_begun, row_goes_on, row_placed}
use Rattle.cs_declarator_parser.proofs.PlacingParameters.{parameter_framed}
use Rattle.cs_declarator_parser.proofs.parameters.parameter_list.Goals as goal

pub returns-in_err-last-clause-parsed : goal.returns-in_err-last-clause-parsed
returns-in_err-last-clause-parsed c =
    let enough = c.requires.enough in
    let e : c.from_residual-in_err-last.result ≡ Err c.in_err-last.field-0.0 = search rules in
    subst (ExactAnswers (ParameterRows c.args.source.now.names.now) (λ list. map parameter list.items) c.args.limit c.args.source.now.tokens.now c.args.from)
    (sym e)
    (first_stops c.args.source.now.names.now c.args.limit (omega arith) c.args.source.now.tokens.now c.args.from c.requires.within c.in_err-last.field-0.0
    c.in_err-last.ensures.parsed)

pub parameters-init : goal.parameters-init
parameters-init c =
    let enough = c.requires.enough in
    let b = c.in_ok-last.ensures.bounds in
    let t = c.in_ok-last.ensures.parsed in
    record {
      onward = b.0;
      inside = b.1;
      low = b.2;
      placed =
          subst (λ (x : List RawParameter).
          RowPlaced IsParameterPlaced (λ p. parameter_text (parameter p)) c.args.source.now.tokens.now c.args.from x c.in_ok-last.last.tree
          c.in_ok-last.last.next) (sym c.in_ok-list.ensures.items)
          (row_begun IsParameterPlaced (λ p. parameter_text (parameter p)) c.args.source.now.tokens.now c.args.from c.in_ok-last.last.tree
          c.in_ok-last.last.next t.spelled c.in_ok-last.ensures.placed);
      so_far =
          subst (λ (x : List RawParameter).
          ParametersSoFar c.args.source.now.names.now c.args.limit c.args.source.now.tokens.now c.args.from (map parameter x)
          (parameter c.in_ok-last.last.tree) c.in_ok-last.last.next c.in_ok-last.last.height) (sym c.in_ok-list.ensures.items)
          (row_first (ParameterClass c.args.source.now.names.now) close_parenthesis c.args.limit (parameter_row c.args.source.now.names.now) (omega arith)
          c.args.source.now.tokens.now c.args.from c.requires.within (parameter c.in_ok-last.last.tree) c.in_ok-last.last.next false
          c.in_ok-last.last.height t.spelled t.took t.height_is);
    }

pub returns-in_err-another-clause-parsed : goal.returns-in_err-another-clause-parsed
returns-in_err-another-clause-parsed c =
    let enough = c.requires.enough in
    let e : c.from_residual-in_err-another.result ≡ Err c.in_err-another.field-0.0 = search rules in
    subst (ExactAnswers (ParameterRows c.args.source.now.names.now) (λ list. map parameter list.items) c.args.limit c.args.source.now.tokens.now c.args.from)
    (sym e)
    (next_stops c.args.source.now.names.now c.args.limit (omega arith) c.args.source.now.tokens.now c.args.from (map parameter c.parameters.list.items)
    (parameter c.parameters.last.tree) c.parameters.last.next c.parameters.height c.parameters.invariant.so_far
    (c.is_punctuator.ensures.punctuator.0 c.parameters-test.true) c.in_err-another.field-0.0 c.in_err-another.ensures.parsed)

pub parameters-preserved : goal.parameters-preserved
parameters-preserved c =
    let enough = c.requires.enough in
    let i = c.parameters.invariant in
    let b = c.in_ok-another.ensures.bounds in
    let t = c.in_ok-another.ensures.parsed in
    let h : c.max-height.result ≡ max c.parameters.height c.in_ok-another.another.height = c.max-height.ensures in
    let all : map parameter c.push.new.self.items ≡ map parameter c.parameters.list.items ++ parameter c.parameters.last.tree ∷ [] =
    ap (map parameter) c.in_ok-push.ensures.items ∙ map-append parameter c.parameters.list.items (c.parameters.last.tree ∷ []) in
    let next = row_next (ParameterClass c.args.source.now.names.now) close_parenthesis c.args.limit (parameter_row c.args.source.now.names.now) (omega arith)
    c.args.source.now.tokens.now c.args.from (map parameter c.parameters.list.items) (parameter c.parameters.last.tree) c.parameters.last.next false
    c.parameters.height i.so_far (c.is_punctuator.ensures.punctuator.0 c.parameters-test.true) (parameter c.in_ok-another.another.tree)
    c.in_ok-another.another.next false c.in_ok-another.another.height t.spelled t.took t.height_is in
    record {
      onward = omega arith;
      inside = b.1;
      low = omega arith;
      placed = row_goes_on IsParameterPlaced (λ p. parameter_text (parameter p)) parameter_framed c.args.source.now.tokens.now c.args.from
          c.parameters.list.items c.push.new.self.items c.parameters.last.tree c.parameters.last.next c.in_ok-another.another.tree c.in_ok-another.another.next
          i.placed c.in_ok-push.ensures.items t.spelled c.in_ok-another.ensures.placed;
      so_far =
          subst (λ (x : List Parameter).
          ParametersSoFar c.args.source.now.names.now c.args.limit c.args.source.now.tokens.now c.args.from x (parameter c.in_ok-another.another.tree)
          c.in_ok-another.another.next c.max-height.result) (sym all)
          (subst (λ (x : ℕ).
          ParametersSoFar c.args.source.now.names.now c.args.limit c.args.source.now.tokens.now c.args.from
          (map parameter c.parameters.list.items ++ parameter c.parameters.last.tree ∷ []) (parameter c.in_ok-another.another.tree)
          c.in_ok-another.another.next x) (sym h) next);
    }

pub returns-then-not-is_punctuator-clause-parsed : goal.returns-then-not-is_punctuator-clause-parsed
returns-then-not-is_punctuator-clause-parsed c =
    let enough = c.requires.enough in
    subst (Stops (ParameterRows c.args.source.now.names.now) c.args.limit c.args.source.now.tokens.now c.args.from) (sym c.refuse.ensures.is)
    (unended_stops c.args.source.now.names.now c.args.limit (omega arith) c.args.source.now.tokens.now c.args.from (map parameter c.parameters.list.items)
    (parameter c.parameters.last.tree) c.parameters.last.next c.parameters.height c.parameters.invariant.so_far
    (λ k. false≢true (sym c.parameters-test.false ∙ c.is_punctuator.ensures.punctuator.1 k))
    (λ k. false≢true (sym c.if-not-is_punctuator.true ∙ c.is_punctuator-2.ensures.punctuator.1 k))
    (plain_reason File (kind_or_end c.args.source.now.tokens.now c.parameters.last.next))
    (plain_flat File (kind_or_end c.args.source.now.tokens.now c.parameters.last.next)))

pub returns-clause-parsed : goal.returns-clause-parsed
returns-clause-parsed c =
    rows_taken (λ list. map parameter list.items) c.args.source.now.names.now c.args.limit c.args.source.now.tokens.now c.args.from _ c.requires.no_void
    (row_taken (ParameterClass c.args.source.now.names.now) close_parenthesis c.args.limit (parameter_row c.args.source.now.names.now) (λ x. cc)
    (λ list. map parameter list.items) c.args.source.now.tokens.now c.args.from (map parameter c.parameters.list.items) (parameter c.parameters.last.tree)
    c.parameters.last.next false c.parameters.height c.parameters.invariant.so_far
    (c.is_punctuator-2.ensures.punctuator.0 c.if-not-is_punctuator.false) _ (ap (map parameter) c.in_ok-push-2.ensures.items
    ∙ map-append parameter c.parameters.list.items (c.parameters.last.tree ∷ [])) refl refl)

pub returns-clause-placed : goal.returns-clause-placed
returns-clause-placed c =
    row_placed IsParameterPlaced (λ p. parameter_text (parameter p)) c.args.source.now.tokens.now c.args.from c.parameters.list.items _ c.parameters.last.tree
    c.parameters.last.next c.parameters.invariant.placed c.in_ok-push-2.ensures.items
