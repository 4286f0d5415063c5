use Rattle.std.proofs.Common.{◌≡◌, ℕ, max, map, Err, List, [], ◌∷◌, ◌++◌, refl, sym, ap, ◌∙◌, subst, arith, rules}
use Rattle.std.proofs.lemmas.Bool.{false≢true}
use Rattle.std.proofs.lemmas.List.{map-append}
use Rattle.cs_ast.specs.declared.token.TokenKind.TheVariants as token
use Rattle.cs_ast.specs.declared.token.Punctuator.TheVariants as punctuator
use Rattle.cs_ast.specs.declared.raw.declaration.RawInit.{RawInit}
use Rattle.cs_ast.specs.RawDeclarations.{Declared}
use Rattle.cs_ast.specs.RawDeclarationView.{declared}
use Rattle.cs_grammar.specs.Composed.{Separated}
use Rattle.cs_grammar.specs.DeclarationClasses.{Objects}
use Rattle.cs_grammar.proofs.DeclaredObjects.{object_row}
use Rattle.cs_expr_parser.specs.Parts.{is_deep}
use Rattle.cs_declarator_parser.specs.Answers.{ExactAnswers}
use Rattle.cs_declarator_parser.proofs.RowSites.{RowSoFar, row_first, row_next, row_next_stops, row_wrong, row_taken}
use Rattle.cs_grammar.specs.FileText.{declared_text}
use Rattle.cs_declarator_parser.specs.DeclarationPlaces.{IsDeclaredPlaced}
use Rattle.cs_declarator_parser.proofs.Placing.{RowPlaced, row_begun, row_goes_on, row_placed, declared_framed}
use Rattle.cs_declarator_parser.proofs.objects.with_others.Goals as goal

pub objects-init : goal.objects-init
objects-init c = record {
  onward = omega arith;
  inside = c.requires.within;
  low = c.requires.low;
  apt = c.requires.apt;
  placed = λ from first has.
      subst (λ (x : List RawInit).
      RowPlaced IsDeclaredPlaced (λ d. declared_text (declared d)) c.args.source.now.tokens.now from x c.args.first.tree c.args.first.next)
      (sym c.in_ok-list.ensures.items)
      (row_begun IsDeclaredPlaced (λ d. declared_text (declared d)) c.args.source.now.tokens.now from c.args.first.tree c.args.first.next first.spelled has);
  so_far = λ from first.
      subst (λ (x : List RawInit).
      RowSoFar (Objects c.args.source.now.names.now) (token.Punctuator punctuator.Semicolon) c.args.limit c.args.source.now.tokens.now from (map declared x)
      (declared c.args.first.tree) c.args.first.next (is_deep c.args.first.otherwise) c.args.first.height) (sym c.in_ok-list.ensures.items)
      (row_first (Objects c.args.source.now.names.now) (token.Punctuator punctuator.Semicolon) c.args.limit (object_row c.args.source.now.names.now)
      c.requires.some c.args.source.now.tokens.now from (let o = first.spelled.onward in let w = first.spelled.within in
      omega arith) (declared c.args.first.tree) c.args.first.next (is_deep c.args.first.otherwise) c.args.first.height first.spelled first.took
      first.height_is);
}

pub returns-in_err-another-clause-parsed : goal.returns-in_err-another-clause-parsed
returns-in_err-another-clause-parsed c = λ from first.
    let e : c.from_residual-in_err-another.result ≡ Err c.in_err-another.field-0.0 = search rules in
    subst (ExactAnswers (Separated (Objects c.args.source.now.names.now) (token.Punctuator punctuator.Semicolon)) (λ list. map declared list.items)
    c.args.limit c.args.source.now.tokens.now from) (sym e)
    (row_next_stops (Objects c.args.source.now.names.now) (token.Punctuator punctuator.Semicolon) c.args.limit (object_row c.args.source.now.names.now)
    c.requires.some c.args.source.now.tokens.now from (map declared c.objects.list.items) (declared c.objects.last.tree) c.objects.last.next
    (is_deep c.objects.last.otherwise) c.objects.height (c.objects.invariant.so_far from first) (c.is_punctuator.ensures.punctuator.0 c.objects-test.true)
    c.in_err-another.field-0.0 c.in_err-another.ensures.parsed)

pub objects-preserved : goal.objects-preserved
objects-preserved c =
    let i = c.objects.invariant in
    let b = c.in_ok-another.ensures.bounds in
    let h : c.max-height.result ≡ max c.objects.height c.in_ok-another.another.height = c.max-height.ensures in
    let t = c.in_ok-another.ensures.parsed in
    let all : map declared c.push.new.self.items ≡ map declared c.objects.list.items ++ declared c.objects.last.tree ∷ [] =
    ap (map declared) c.in_ok-push.ensures.items ∙ map-append declared c.objects.list.items (c.objects.last.tree ∷ []) in
    record {
      onward = omega arith;
      inside = b.1;
      low = omega arith;
      apt = c.in_ok-another.ensures.apt;
      placed = λ from first has.
          row_goes_on IsDeclaredPlaced (λ d. declared_text (declared d)) declared_framed c.args.source.now.tokens.now from c.objects.list.items
          c.push.new.self.items c.objects.last.tree c.objects.last.next c.in_ok-another.another.tree c.in_ok-another.another.next (i.placed from first has)
          c.in_ok-push.ensures.items t.spelled c.in_ok-another.ensures.placed;
      so_far = λ from first.
          subst (λ (x : List Declared).
          RowSoFar (Objects c.args.source.now.names.now) (token.Punctuator punctuator.Semicolon) c.args.limit c.args.source.now.tokens.now from x
          (declared c.in_ok-another.another.tree) c.in_ok-another.another.next (is_deep c.in_ok-another.another.otherwise) c.max-height.result) (sym all)
          (subst (λ (x : ℕ).
          RowSoFar (Objects c.args.source.now.names.now) (token.Punctuator punctuator.Semicolon) c.args.limit c.args.source.now.tokens.now from
          (map declared c.objects.list.items ++ declared c.objects.last.tree ∷ []) (declared c.in_ok-another.another.tree) c.in_ok-another.another.next
          (is_deep c.in_ok-another.another.otherwise) x) (sym h)
          (row_next (Objects c.args.source.now.names.now) (token.Punctuator punctuator.Semicolon) c.args.limit (object_row c.args.source.now.names.now)
          c.requires.some c.args.source.now.tokens.now from (map declared c.objects.list.items) (declared c.objects.last.tree) c.objects.last.next
          (is_deep c.objects.last.otherwise) c.objects.height (c.objects.invariant.so_far from first)
          (c.is_punctuator.ensures.punctuator.0 c.objects-test.true) (declared c.in_ok-another.another.tree) c.in_ok-another.another.next
          (is_deep c.in_ok-another.another.otherwise) c.in_ok-another.another.height t.spelled t.took t.height_is));
    }

pub returns-then-not-is_punctuator-clause-parsed : goal.returns-then-not-is_punctuator-clause-parsed
returns-then-not-is_punctuator-clause-parsed c = λ from first.
    row_wrong (Objects c.args.source.now.names.now) (token.Punctuator punctuator.Semicolon) c.args.limit (object_row c.args.source.now.names.now)
    c.args.source.now.tokens.now from (map declared c.objects.list.items) (declared c.objects.last.tree) c.objects.last.next c.objects.last.otherwise
    c.objects.height (c.objects.invariant.so_far from first)
    (λ k. false≢true (sym c.objects-test.false ∙ c.is_punctuator.ensures.punctuator.1 k))
    (λ k. false≢true (sym c.if-not-is_punctuator.true ∙ c.is_punctuator-2.ensures.punctuator.1 k))

pub returns-clause-parsed : goal.returns-clause-parsed
returns-clause-parsed c = λ from first.
    row_taken (Objects c.args.source.now.names.now) (token.Punctuator punctuator.Semicolon) c.args.limit (object_row c.args.source.now.names.now) (λ x. cc)
    (λ list. map declared list.items) c.args.source.now.tokens.now from (map declared c.objects.list.items) (declared c.objects.last.tree)
    c.objects.last.next (is_deep c.objects.last.otherwise) c.objects.height (c.objects.invariant.so_far from first)
    (c.is_punctuator-2.ensures.punctuator.0 c.if-not-is_punctuator.false) _ (ap (map declared) c.in_ok-push-2.ensures.items
    ∙ map-append declared c.objects.list.items (c.objects.last.tree ∷ [])) refl refl

pub returns-clause-placed : goal.returns-clause-placed
returns-clause-placed c = λ from first has.
    row_placed IsDeclaredPlaced (λ d. declared_text (declared d)) c.args.source.now.tokens.now from c.objects.list.items _ c.objects.last.tree
    c.objects.last.next (c.objects.invariant.placed from first has) c.in_ok-push-2.ensures.items
