use Rattle.std.proofs.Common.{◌≡◌, ℕ, ◌-◌, max, map, Err, List, [], ◌∷◌, ◌++◌, refl, sym, ap, ◌∙◌, subst, arith, rules}
use Rattle.std.proofs.lemmas.Bool.{false≢true}
use Rattle.std.proofs.lemmas.List.{map-append}
use Rattle.cs_ast.specs.declared.token.TokenKind.TheVariants as token
use Rattle.cs_ast.specs.declared.token.Punctuator.TheVariants as punctuator
use Rattle.cs_ast.specs.declared.raw.declaration.RawDeclarator.{RawDeclarator}
use Rattle.cs_ast.specs.RawDeclarations.{Declarator}
use Rattle.cs_ast.specs.RawDeclarationView.{declarator}
use Rattle.cs_grammar.specs.Composed.{Separated}
use Rattle.cs_expr_parser.specs.Positions.{kind_or_end}
use Rattle.cs_declarator_parser.specs.Bounds.{StopsInside}
use Rattle.cs_declarator_parser.specs.Answers.{ExactAnswers}
use Rattle.cs_declarator_parser.specs.DeclarationAnswers.{DeclaratorsFor, is_full}
use Rattle.cs_declarator_parser.proofs.RowSites.{RowSoFar, row_first, row_next, row_first_stops, row_next_stops, row_taken}
use Rattle.cs_declarator_parser.proofs.DeclaratorSites.{refuses_at, declarators_row, declarators_low, declarators_wrong}
use Rattle.cs_grammar.specs.FileText.{declarator_text}
use Rattle.cs_declarator_parser.specs.DeclarationPlaces.{IsDeclaratorPlaced}
use Rattle.cs_declarator_parser.proofs.Placing.{RowPlaced, row_begun, row_goes_on, row_placed, declarator_framed}
use Rattle.cs_declarator_parser.proofs.declarator.declarators.Goals as goal

pub returns-in_err-last-clause-parsed : goal.returns-in_err-last-clause-parsed
returns-in_err-last-clause-parsed c =
    let e : c.from_residual.result ≡ Err c.in_err-last.field-0.0 = search rules in
    subst (ExactAnswers (Separated (DeclaratorsFor c.args.declares c.args.source.now.names.now) (token.Punctuator punctuator.Semicolon))
    (λ list. map declarator list.items) c.args.limit c.args.source.now.tokens.now c.args.from) (sym e)
    (row_first_stops (DeclaratorsFor c.args.declares c.args.source.now.names.now) (token.Punctuator punctuator.Semicolon) c.args.limit
    (declarators_row c.args.declares c.args.source.now.names.now) (declarators_low c.args.declares c.args.source.now.names.now c.args.limit c.requires.some)
    c.args.source.now.tokens.now c.args.from c.in_err-last.field-0.0 c.in_err-last.ensures.parsed)

pub declarators-init : goal.declarators-init
declarators-init c =
    let b = c.in_ok-last.ensures.bounds in
    let some = c.requires.some in
    let t = c.in_ok-last.ensures.parsed (c.args.limit - 1) (omega arith) in
    record {
      onward = b.0;
      inside = b.1;
      low = b.2;
      placed =
          subst (λ (x : List RawDeclarator).
          RowPlaced IsDeclaratorPlaced (λ d. declarator_text (declarator d)) c.args.source.now.tokens.now c.args.from x c.in_ok-last.last.tree
          c.in_ok-last.last.next) (sym c.new-list.ensures.items)
          (row_begun IsDeclaratorPlaced (λ d. declarator_text (declarator d)) c.args.source.now.tokens.now c.args.from c.in_ok-last.last.tree
          c.in_ok-last.last.next t.spelled c.in_ok-last.ensures.placed);
      so_far =
          subst (λ (x : List RawDeclarator).
          RowSoFar (DeclaratorsFor c.args.declares c.args.source.now.names.now) (token.Punctuator punctuator.Semicolon) c.args.limit
          c.args.source.now.tokens.now c.args.from (map declarator x) (declarator c.in_ok-last.last.tree) c.in_ok-last.last.next
          (is_full c.args.declares (c.args.limit - 1) (kind_or_end c.args.source.now.tokens.now c.in_ok-last.last.next)) c.in_ok-last.last.height)
          (sym c.new-list.ensures.items)
          (row_first (DeclaratorsFor c.args.declares c.args.source.now.names.now) (token.Punctuator punctuator.Semicolon) c.args.limit
          (declarators_row c.args.declares c.args.source.now.names.now) (declarators_low c.args.declares c.args.source.now.names.now c.args.limit some)
          c.args.source.now.tokens.now c.args.from c.requires.within (declarator c.in_ok-last.last.tree) c.in_ok-last.last.next
          (is_full c.args.declares (c.args.limit - 1) (kind_or_end c.args.source.now.tokens.now c.in_ok-last.last.next)) c.in_ok-last.last.height t.spelled
          t.took t.height_is);
    }

pub returns-in_err-another-clause-parsed : goal.returns-in_err-another-clause-parsed
returns-in_err-another-clause-parsed c =
    let e : c.from_residual-in_err-another.result ≡ Err c.in_err-another.field-0.0 = search rules in
    subst (ExactAnswers (Separated (DeclaratorsFor c.args.declares c.args.source.now.names.now) (token.Punctuator punctuator.Semicolon))
    (λ list. map declarator list.items) c.args.limit c.args.source.now.tokens.now c.args.from) (sym e)
    (row_next_stops (DeclaratorsFor c.args.declares c.args.source.now.names.now) (token.Punctuator punctuator.Semicolon) c.args.limit
    (declarators_row c.args.declares c.args.source.now.names.now) (declarators_low c.args.declares c.args.source.now.names.now c.args.limit c.requires.some)
    c.args.source.now.tokens.now c.args.from (map declarator c.declarators.list.items) (declarator c.declarators.last.tree) c.declarators.last.next
    (is_full c.args.declares (c.args.limit - 1) (kind_or_end c.args.source.now.tokens.now c.declarators.last.next)) c.declarators.height
    c.declarators.invariant.so_far
    (c.is_punctuator.ensures.punctuator.0 c.declarators-test.true) c.in_err-another.field-0.0 c.in_err-another.ensures.parsed)

pub declarators-preserved : goal.declarators-preserved
declarators-preserved c =
    let i = c.declarators.invariant in
    let b = c.in_ok-another.ensures.bounds in
    let h : c.max-height.result ≡ max c.declarators.height c.in_ok-another.another.height = c.max-height.ensures in
    let some = c.requires.some in
    let t = c.in_ok-another.ensures.parsed (c.args.limit - 1) (omega arith) in
    let all : map declarator c.push.new.self.items ≡ map declarator c.declarators.list.items ++ declarator c.declarators.last.tree ∷ [] =
    ap (map declarator) c.in_ok-push.ensures.items ∙ map-append declarator c.declarators.list.items (c.declarators.last.tree ∷ []) in
    let next = row_next (DeclaratorsFor c.args.declares c.args.source.now.names.now) (token.Punctuator punctuator.Semicolon) c.args.limit
    (declarators_row c.args.declares c.args.source.now.names.now) (declarators_low c.args.declares c.args.source.now.names.now c.args.limit some)
    c.args.source.now.tokens.now c.args.from (map declarator c.declarators.list.items) (declarator c.declarators.last.tree) c.declarators.last.next
    (is_full c.args.declares (c.args.limit - 1) (kind_or_end c.args.source.now.tokens.now c.declarators.last.next)) c.declarators.height i.so_far
    (c.is_punctuator.ensures.punctuator.0 c.declarators-test.true) (declarator c.in_ok-another.another.tree) c.in_ok-another.another.next
    (is_full c.args.declares (c.args.limit - 1) (kind_or_end c.args.source.now.tokens.now c.in_ok-another.another.next)) c.in_ok-another.another.height
    t.spelled t.took t.height_is in
    record {
      onward = omega arith;
      inside = b.1;
      low = omega arith;
      placed = row_goes_on IsDeclaratorPlaced (λ d. declarator_text (declarator d)) declarator_framed c.args.source.now.tokens.now c.args.from
          c.declarators.list.items c.push.new.self.items c.declarators.last.tree c.declarators.last.next c.in_ok-another.another.tree
          c.in_ok-another.another.next i.placed c.in_ok-push.ensures.items t.spelled c.in_ok-another.ensures.placed;
      so_far =
          subst (λ (x : List Declarator).
          RowSoFar (DeclaratorsFor c.args.declares c.args.source.now.names.now) (token.Punctuator punctuator.Semicolon) c.args.limit
          c.args.source.now.tokens.now c.args.from x (declarator c.in_ok-another.another.tree) c.in_ok-another.another.next
          (is_full c.args.declares (c.args.limit - 1) (kind_or_end c.args.source.now.tokens.now c.in_ok-another.another.next)) c.max-height.result)
          (sym all)
          (subst (λ (x : ℕ).
          RowSoFar (DeclaratorsFor c.args.declares c.args.source.now.names.now) (token.Punctuator punctuator.Semicolon) c.args.limit
          c.args.source.now.tokens.now c.args.from (map declarator c.declarators.list.items ++ declarator c.declarators.last.tree ∷ [])
          (declarator c.in_ok-another.another.tree) c.in_ok-another.another.next
          (is_full c.args.declares (c.args.limit - 1) (kind_or_end c.args.source.now.tokens.now c.in_ok-another.another.next)) x) (sym h) next);
    }

pub returns-then-not-is_punctuator-clause-parsed : goal.returns-then-not-is_punctuator-clause-parsed
returns-then-not-is_punctuator-clause-parsed c =
    let some = c.requires.some in
    declarators_wrong c.args.declares c.args.source.now.names.now c.args.limit (c.args.limit - 1) c.args.source.now.tokens.now c.args.from
    (map declarator c.declarators.list.items) (declarator c.declarators.last.tree) c.declarators.last.next c.declarators.height
    c.declarators.invariant.so_far
    (λ k. false≢true (sym c.declarators-test.false ∙ c.is_punctuator.ensures.punctuator.1 k))
    (λ k. false≢true (sym c.if-not-is_punctuator.true ∙ c.is_punctuator-2.ensures.punctuator.1 k))
    c.refuse_after.result (c.refuse_after.ensures.is (c.args.limit - 1) (omega arith))

pub returns-clause-parsed : goal.returns-clause-parsed
returns-clause-parsed c =
    row_taken (DeclaratorsFor c.args.declares c.args.source.now.names.now) (token.Punctuator punctuator.Semicolon) c.args.limit
    (declarators_row c.args.declares c.args.source.now.names.now) (λ x. cc) (λ list. map declarator list.items) c.args.source.now.tokens.now c.args.from
    (map declarator c.declarators.list.items) (declarator c.declarators.last.tree) c.declarators.last.next
    (is_full c.args.declares (c.args.limit - 1) (kind_or_end c.args.source.now.tokens.now c.declarators.last.next)) c.declarators.height
    c.declarators.invariant.so_far
    (c.is_punctuator-2.ensures.punctuator.0 c.if-not-is_punctuator.false) _ (ap (map declarator) c.in_ok-push-2.ensures.items
    ∙ map-append declarator c.declarators.list.items (c.declarators.last.tree ∷ [])) refl refl

pub returns-then-not-is_punctuator-clause-bounds : goal.returns-then-not-is_punctuator-clause-bounds
returns-then-not-is_punctuator-clause-bounds c =
    let some = c.requires.some in
    let i = c.declarators.invariant in
    let r = refuses_at c.declarators.last.next _ c.refuse_after.result (c.refuse_after.ensures.is (c.args.limit - 1) (omega arith)) in
    subst (StopsInside c.args.source.now.tokens.now c.args.from) (sym r.1) (omega arith, i.inside)

pub returns-clause-placed : goal.returns-clause-placed
returns-clause-placed c =
    row_placed IsDeclaratorPlaced (λ d. declarator_text (declarator d)) c.args.source.now.tokens.now c.args.from c.declarators.list.items _
    c.declarators.last.tree c.declarators.last.next c.declarators.invariant.placed c.in_ok-push-2.ensures.items
