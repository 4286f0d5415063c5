use Rattle.std.proofs.Common.{◌≡◌, ℕ, ◌+◌, max, map, Err, List, [], ◌∷◌, ◌++◌, refl, sym, ap, ◌∙◌, subst, arith, rules}
use Rattle.std.proofs.lemmas.Bool.{false≢true}
use Rattle.std.proofs.lemmas.List.{map-append}
use Rattle.cs_ast.specs.declared.token.TokenKind.TheVariants as token
use Rattle.cs_ast.specs.declared.token.Punctuator.TheVariants as punctuator
use Rattle.cs_ast.specs.declared.raw.declaration.RawEnumerator.{RawEnumerator}
use Rattle.cs_ast.specs.RawDeclarations.{Constant}
use Rattle.cs_ast.specs.RawDeclarationView.{constant}
use Rattle.cs_grammar.specs.DeclarationClasses.{Constants}
use Rattle.cs_grammar.proofs.Bodies.{constant_row, no_constant_closes}
use Rattle.cs_expr_parser.specs.Positions.{kind_or_end}
use Rattle.cs_expr_parser.specs.Parts.{is_deep}
use Rattle.cs_expr_parser.specs.declared.stop.Stop.TheVariants as stop
use Rattle.cs_declarator_parser.specs.DeclarationAnswers.{ConstantsAnswer}
use Rattle.cs_declarator_parser.proofs.RowSites.{TrailingRow, trailing_first, trailing_next, trailing_first_stops, trailing_next_stops, trailing_taken}
use Rattle.cs_declarator_parser.proofs.RowSites.{row_is_exact}
use Rattle.cs_declarator_parser.proofs.ListSites.{next_stands, list_unclosed}
use Rattle.cs_grammar.specs.FileText.{constant_text}
use Rattle.cs_declarator_parser.specs.DeclarationPlaces.{IsConstantPlaced}
use Rattle.cs_declarator_parser.proofs.Placing.{RowPlaced, row_begun, row_goes_on, row_placed, constant_framed}
use Rattle.cs_declarator_parser.specs.declared.source.Scope.TheVariants as scope
use Rattle.cs_declarator_parser.specs.Aptness.{IsApt}
use Rattle.cs_declarator_parser.proofs.ListSites.{unclosed_apt}
use Rattle.cs_declarator_parser.proofs.constants.constants.Goals as goal

pub returns-in_err-last-clause-parsed : goal.returns-in_err-last-clause-parsed
returns-in_err-last-clause-parsed c =
    let e : c.from_residual.result ≡ Err c.in_err-last.field-0.0 = search rules in
    subst (ConstantsAnswer c.args.source.now.names.now c.args.limit c.args.source.now.tokens.now c.args.from) (sym e)
    (trailing_first_stops (Constants c.args.source.now.names.now) (token.Punctuator punctuator.CloseBrace) c.args.limit
    (constant_row c.args.source.now.names.now) c.requires.some c.args.source.now.tokens.now c.args.from c.in_err-last.field-0.0
    c.in_err-last.ensures.parsed)

pub constants-init : goal.constants-init
constants-init c =
    let b = c.in_ok-last.ensures.bounds in
    let t = c.in_ok-last.ensures.parsed in
    record {
      onward = b.0;
      inside = b.1;
      low = b.2;
      apt = c.in_ok-last.ensures.apt;
      placed =
          subst (λ (x : List RawEnumerator).
          RowPlaced IsConstantPlaced (λ e. constant_text (constant e)) c.args.source.now.tokens.now c.args.from x c.in_ok-last.last.tree
          c.in_ok-last.last.next) (sym c.new-list.ensures.items)
          (row_begun IsConstantPlaced (λ e. constant_text (constant e)) c.args.source.now.tokens.now c.args.from c.in_ok-last.last.tree c.in_ok-last.last.next
          t.spelled c.in_ok-last.ensures.placed);
      so_far =
          subst (λ (x : List RawEnumerator).
          TrailingRow (Constants c.args.source.now.names.now) (token.Punctuator punctuator.CloseBrace) c.args.limit c.args.source.now.tokens.now c.args.from
          (map constant x) (constant c.in_ok-last.last.tree) c.in_ok-last.last.next (is_deep c.in_ok-last.last.otherwise) c.in_ok-last.last.height)
          (sym c.new-list.ensures.items)
          (trailing_first (Constants c.args.source.now.names.now) (token.Punctuator punctuator.CloseBrace) c.args.limit
          (constant_row c.args.source.now.names.now) c.requires.some c.args.source.now.tokens.now c.args.from c.requires.within
          (constant c.in_ok-last.last.tree) c.in_ok-last.last.next (is_deep c.in_ok-last.last.otherwise) c.in_ok-last.last.height t.spelled t.took
          t.height_is);
    }

pub returns-in_err-another-clause-parsed : goal.returns-in_err-another-clause-parsed
returns-in_err-another-clause-parsed c =
    let e : c.from_residual-in_err-another.result ≡ Err c.in_err-another.field-0.0 = search rules in
    let n =
    (next_stands (kind_or_end c.args.source.now.tokens.now c.constants.last.next) (kind_or_end c.args.source.now.tokens.now (c.constants.last.next + 1))
    (sym c.goes_on.ensures.comma ∙ c.constants-test.true)) in
    subst (ConstantsAnswer c.args.source.now.names.now c.args.limit c.args.source.now.tokens.now c.args.from) (sym e)
    (trailing_next_stops (Constants c.args.source.now.names.now) (token.Punctuator punctuator.CloseBrace) c.args.limit
    (constant_row c.args.source.now.names.now) c.requires.some (no_constant_closes c.args.source.now.names.now) c.args.source.now.tokens.now c.args.from
    (map constant c.constants.list.items) (constant c.constants.last.tree) c.constants.last.next (is_deep c.constants.last.otherwise) c.constants.height
    c.constants.invariant.so_far n.0 n.1 c.in_err-another.field-0.0 c.in_err-another.ensures.parsed)

pub constants-preserved : goal.constants-preserved
constants-preserved c =
    let i = c.constants.invariant in
    let b = c.in_ok-another.ensures.bounds in
    let h : c.max-height.result ≡ max c.constants.height c.in_ok-another.another.height = c.max-height.ensures in
    let t = c.in_ok-another.ensures.parsed in
    let n =
    (next_stands (kind_or_end c.args.source.now.tokens.now c.constants.last.next) (kind_or_end c.args.source.now.tokens.now (c.constants.last.next + 1))
    (sym c.goes_on.ensures.comma ∙ c.constants-test.true)) in
    let all : map constant c.push.new.self.items ≡ map constant c.constants.list.items ++ constant c.constants.last.tree ∷ [] =
    ap (map constant) c.in_ok-push.ensures.items ∙ map-append constant c.constants.list.items (c.constants.last.tree ∷ []) in
    let next = trailing_next (Constants c.args.source.now.names.now) (token.Punctuator punctuator.CloseBrace) c.args.limit
    (constant_row c.args.source.now.names.now) c.requires.some (no_constant_closes c.args.source.now.names.now) c.args.source.now.tokens.now c.args.from
    (map constant c.constants.list.items) (constant c.constants.last.tree) c.constants.last.next (is_deep c.constants.last.otherwise) c.constants.height
    c.constants.invariant.so_far n.0 (constant c.in_ok-another.another.tree) c.in_ok-another.another.next (is_deep c.in_ok-another.another.otherwise)
    c.in_ok-another.another.height t.spelled t.took t.height_is in
    record {
      onward = omega arith;
      inside = b.1;
      low = omega arith;
      apt = c.in_ok-another.ensures.apt;
      placed = row_goes_on IsConstantPlaced (λ e. constant_text (constant e)) constant_framed c.args.source.now.tokens.now c.args.from c.constants.list.items
          c.push.new.self.items c.constants.last.tree c.constants.last.next c.in_ok-another.another.tree c.in_ok-another.another.next i.placed
          c.in_ok-push.ensures.items t.spelled c.in_ok-another.ensures.placed;
      so_far =
          subst (λ (x : List Constant).
          TrailingRow (Constants c.args.source.now.names.now) (token.Punctuator punctuator.CloseBrace) c.args.limit c.args.source.now.tokens.now c.args.from
          x (constant c.in_ok-another.another.tree) c.in_ok-another.another.next (is_deep c.in_ok-another.another.otherwise) c.max-height.result) (sym all)
          (subst (λ (x : ℕ).
          TrailingRow (Constants c.args.source.now.names.now) (token.Punctuator punctuator.CloseBrace) c.args.limit c.args.source.now.tokens.now c.args.from
          (map constant c.constants.list.items ++ constant c.constants.last.tree ∷ []) (constant c.in_ok-another.another.tree)
          c.in_ok-another.another.next (is_deep c.in_ok-another.another.otherwise) x) (sym h) next);
    }

pub returns-then-not-is_punctuator-clause-parsed : goal.returns-then-not-is_punctuator-clause-parsed
returns-then-not-is_punctuator-clause-parsed c =
    subst (λ (n : ℕ).
    ConstantsAnswer c.args.source.now.names.now c.args.limit c.args.source.now.tokens.now c.args.from (Err (stop.Refused n c.constants.last.otherwise)))
    (sym c.closing_at-closing.ensures)
    (list_unclosed (Constants c.args.source.now.names.now) c.args.limit (constant_row c.args.source.now.names.now)
    (no_constant_closes c.args.source.now.names.now) c.args.source.now.tokens.now c.args.from (map constant c.constants.list.items)
    (constant c.constants.last.tree) c.constants.last.next c.constants.last.otherwise c.constants.height c.constants.invariant.so_far
    c.is_punctuator-comma.result (c.is_punctuator-comma.ensures.punctuator.0, c.is_punctuator-comma.ensures.punctuator.1)
    (sym c.goes_on.ensures.comma ∙ c.constants-test.false)
    (λ k.
    false≢true (sym c.if-not-is_punctuator.true
    ∙ c.is_punctuator.ensures.punctuator.1 (ap (kind_or_end c.args.source.now.tokens.now) c.closing_at-closing.ensures ∙ k))))

pub returns-clause-parsed : goal.returns-clause-parsed
returns-clause-parsed c =
    let r = trailing_taken (Constants c.args.source.now.names.now) (token.Punctuator punctuator.CloseBrace) c.args.limit
    (constant_row c.args.source.now.names.now) (λ x. cc) (no_constant_closes c.args.source.now.names.now) c.args.source.now.tokens.now c.args.from
    (map constant c.constants.list.items) (constant c.constants.last.tree) c.constants.last.next (is_deep c.constants.last.otherwise) c.constants.height
    c.constants.invariant.so_far c.is_punctuator-comma.result c.is_punctuator-comma.ensures.punctuator.0
    (sym (ap (kind_or_end c.args.source.now.tokens.now) c.closing_at-closing.ensures)
    ∙ c.is_punctuator.ensures.punctuator.0 c.if-not-is_punctuator.false) in
    row_is_exact (Constants c.args.source.now.names.now) (token.Punctuator punctuator.CloseBrace) c.args.limit _ c.args.source.now.tokens.now c.args.from _ _
    c.constants.height _ r
    (ap (λ (x : List Constant). (x, c.is_punctuator-comma.result)) (ap (map constant) c.in_ok-push-2.ensures.items
    ∙ map-append constant c.constants.list.items (c.constants.last.tree ∷ []))) refl (ap (λ (n : ℕ). n + 1) c.closing_at-closing.ensures)

pub returns-clause-placed : goal.returns-clause-placed
returns-clause-placed c =
    row_placed IsConstantPlaced (λ e. constant_text (constant e)) c.args.source.now.tokens.now c.args.from c.constants.list.items _ c.constants.last.tree
    c.constants.last.next c.constants.invariant.placed c.in_ok-push-2.ensures.items

pub returns-then-not-is_punctuator-clause-apt : goal.returns-then-not-is_punctuator-clause-apt
returns-then-not-is_punctuator-clause-apt c =
    subst (λ (n : ℕ). IsApt scope.File (kind_or_end c.args.source.now.tokens.now n) c.constants.last.otherwise) (sym c.closing_at-closing.ensures)
    (unclosed_apt scope.File c.args.source.now.tokens.now c.constants.last.next c.constants.last.otherwise c.is_punctuator-comma.result
    c.is_punctuator-comma.ensures.punctuator.0 (sym c.goes_on.ensures.comma ∙ c.constants-test.false)
    (λ k.
    false≢true (sym c.if-not-is_punctuator.true
    ∙ c.is_punctuator.ensures.punctuator.1 (ap (kind_or_end c.args.source.now.tokens.now) c.closing_at-closing.ensures ∙ k))) c.constants.invariant.apt)
