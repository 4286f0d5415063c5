use Rattle.std.proofs.Common.{◌≡◌, ℕ, ◌+◌, ◌-◌, max, map, Err, List, [], ◌∷◌, ◌++◌, refl, sym, ap, ◌∙◌, subst, arith, rules}
use Rattle.std.proofs.lemmas.Bool.{false≢true}
use Rattle.std.proofs.lemmas.List.{map-append}
use Rattle.cs_ast.specs.declared.token.TokenKind.TheVariants as token
use Rattle.cs_ast.specs.declared.token.Punctuator.TheVariants as punctuator
use Rattle.cs_ast.specs.declared.raw.declaration.RawInitial.{RawInitial}
use Rattle.cs_ast.specs.RawDeclarations.{Initial, Initials, Listed}
use Rattle.cs_ast.specs.RawDeclarationView.{initial}
use Rattle.cs_ast.proofs.RawDeclarationRows.{initial-List}
use Rattle.cs_grammar.specs.DeclarationClasses.{Values}
use Rattle.cs_grammar.proofs.InitialValues.{value_row, no_value_closes, items_of}
use Rattle.cs_expr_parser.specs.Positions.{kind_or_end}
use Rattle.cs_expr_parser.specs.Parts.{is_deep}
use Rattle.cs_expr_parser.specs.declared.stop.Stop.TheVariants as stop
use Rattle.cs_declarator_parser.specs.Answers.{UnclosedAnswers, Stops}
use Rattle.cs_declarator_parser.proofs.PartStops.{plain_flat}
use Rattle.cs_declarator_parser.proofs.RowSites.{TrailingRow, trailing_first, trailing_next, trailing_first_stops, trailing_next_stops, trailing_taken}
use Rattle.cs_declarator_parser.proofs.ListSites.{next_stands, list_unclosed, designator_stops, single_value_stops, single_value_taken, list_full_stops}
use Rattle.cs_declarator_parser.proofs.ListSites.{items_stop}
use Rattle.cs_declarator_parser.proofs.ListSites.{items_taken, items_listed}
use Rattle.cs_grammar.specs.FileText.{initial_text}
use Rattle.cs_declarator_parser.specs.DeclarationPlaces.{IsInitialPlaced}
use Rattle.cs_declarator_parser.proofs.Placing.{RowPlaced, row_begun, row_goes_on, row_placed, initial_framed, list_placed}
use Rattle.cs_declarator_parser.specs.Aptness.{IsApt}
use Rattle.cs_declarator_parser.proofs.AptReasons.{designator_apt, apt_in, stop_apt}
use Rattle.cs_declarator_parser.proofs.ListSites.{unclosed_apt}
use Rattle.cs_declarator_parser.specs.Aptness.{IsUnclosedApt}
use Rattle.cs_declarator_parser.proofs.initial.+initial.Goals as goal

pub initial-returns-then-begins_designator-clause-parsed : goal.initial-returns-then-begins_designator-clause-parsed
initial-returns-then-begins_designator-clause-parsed t c =
    designator_stops c.args.source.now.names.now c.args.limit c.args.source.now.tokens.now c.args.from _ c.requires.within refl
    (c.begins_designator.ensures c.if-begins_designator.true)

pub initial-returns-in_err-value-clause-parsed : goal.initial-returns-in_err-value-clause-parsed
initial-returns-in_err-value-clause-parsed t c =
    let e : c.from_residual.result ≡ Err c.in_err-value.field-0.0 = search rules in
    subst (UnclosedAnswers (Values c.args.source.now.names.now) initial c.args.limit c.args.source.now.tokens.now c.args.from) (sym e)
    (single_value_stops c.args.source.now.names.now c.args.limit c.requires.some c.args.source.now.tokens.now c.args.from
    (λ k. false≢true (sym c.if-is_punctuator.false ∙ c.is_punctuator.ensures.punctuator.1 k)) c.in_err-value.field-0.0 c.in_err-value.ensures.parsed)

pub initial-returns-clause-parsed : goal.initial-returns-clause-parsed
initial-returns-clause-parsed t c =
    single_value_taken c.args.source.now.names.now c.args.limit c.requires.some c.args.source.now.tokens.now c.args.from c.in_ok-value.value
    c.in_ok-value.ensures.parsed _ refl refl refl refl

pub items-returns-then-limit-lt2-clause-parsed : goal.items-returns-then-limit-lt2-clause-parsed
items-returns-then-limit-lt2-clause-parsed t c =
    subst (Stops (Values c.args.source.now.names.now) c.args.limit c.args.source.now.tokens.now c.args.from) (sym c.refuse_deep.ensures.is)
    (list_full_stops c.args.source.now.names.now c.args.limit c.args.source.now.tokens.now c.args.from (let w = c.requires.within in
    omega arith) c.if-limit-lt2.true c.requires.stands)

pub items-returns-in_err-last-clause-parsed : goal.items-returns-in_err-last-clause-parsed
items-returns-in_err-last-clause-parsed t c =
    let e : c.from_residual.result ≡ Err c.in_err-last.field-0.0 = search rules in
    subst (UnclosedAnswers (Values c.args.source.now.names.now) initial c.args.limit c.args.source.now.tokens.now c.args.from) (sym e)
    (items_stop c.args.source.now.names.now c.args.limit (c.args.limit - 1) (let enough = c.if-limit-lt2.false in
    omega arith) (let enough = c.if-limit-lt2.false in omega arith) c.args.source.now.tokens.now c.args.from c.requires.stands c.in_err-last.field-0.0
    (trailing_first_stops (Values c.args.source.now.names.now) (token.Punctuator punctuator.CloseBrace) (c.args.limit - 1)
    (value_row c.args.source.now.names.now) (let enough = c.if-limit-lt2.false in
    omega arith) c.args.source.now.tokens.now (c.args.from + 1) c.in_err-last.field-0.0 c.in_err-last.ensures.parsed))

pub items-items-init : goal.items-items-init
items-items-init t c =
    let b = c.in_ok-last.ensures.bounds in
    let v = c.in_ok-last.ensures.parsed in
    let w = c.requires.within in
    record {
      onward = b.0;
      inside = b.1;
      low = b.2;
      apt = c.in_ok-last.ensures.apt;
      placed =
          subst (λ (x : List RawInitial).
          RowPlaced IsInitialPlaced (λ i. initial_text (initial i)) c.args.source.now.tokens.now (c.args.from + 1) x c.in_ok-last.last.tree
          c.in_ok-last.last.next) (sym c.new-list.ensures.items)
          (row_begun IsInitialPlaced (λ i. initial_text (initial i)) c.args.source.now.tokens.now (c.args.from + 1) c.in_ok-last.last.tree
          c.in_ok-last.last.next v.spelled c.in_ok-last.ensures.placed);
      so_far =
          subst (λ (x : List RawInitial).
          TrailingRow (Values c.args.source.now.names.now) (token.Punctuator punctuator.CloseBrace) (c.args.limit - 1) c.args.source.now.tokens.now
          (c.args.from + 1) (map initial x) (initial c.in_ok-last.last.tree) c.in_ok-last.last.next (is_deep c.in_ok-last.last.otherwise)
          c.in_ok-last.last.height) (sym c.new-list.ensures.items)
          (trailing_first (Values c.args.source.now.names.now) (token.Punctuator punctuator.CloseBrace) (c.args.limit - 1)
          (value_row c.args.source.now.names.now) (let enough = c.if-limit-lt2.false in
          omega arith) c.args.source.now.tokens.now (c.args.from + 1) (omega arith) (initial c.in_ok-last.last.tree) c.in_ok-last.last.next
          (is_deep c.in_ok-last.last.otherwise) c.in_ok-last.last.height v.spelled v.took v.height_is);
    }

pub items-returns-in_err-another-clause-parsed : goal.items-returns-in_err-another-clause-parsed
items-returns-in_err-another-clause-parsed t c =
    let e : c.from_residual-in_err-another.result ≡ Err c.in_err-another.field-0.0 = search rules in
    let n =
    (next_stands (kind_or_end c.args.source.now.tokens.now c.items.last.next) (kind_or_end c.args.source.now.tokens.now (c.items.last.next + 1))
    (sym c.goes_on.ensures.comma ∙ c.items-test.true)) in
    subst (UnclosedAnswers (Values c.args.source.now.names.now) initial c.args.limit c.args.source.now.tokens.now c.args.from) (sym e)
    (items_stop c.args.source.now.names.now c.args.limit (c.args.limit - 1) (let enough = c.if-limit-lt2.false in
    omega arith) (let enough = c.if-limit-lt2.false in omega arith) c.args.source.now.tokens.now c.args.from c.requires.stands c.in_err-another.field-0.0
    (trailing_next_stops (Values c.args.source.now.names.now) (token.Punctuator punctuator.CloseBrace) (c.args.limit - 1)
    (value_row c.args.source.now.names.now) (let enough = c.if-limit-lt2.false in
    omega arith) (no_value_closes c.args.source.now.names.now) c.args.source.now.tokens.now (c.args.from + 1) (map initial c.items.list.items)
    (initial c.items.last.tree) c.items.last.next (is_deep c.items.last.otherwise) c.items.height c.items.invariant.so_far n.0 n.1
    c.in_err-another.field-0.0 c.in_err-another.ensures.parsed))

pub items-items-preserved : goal.items-items-preserved
items-items-preserved t c =
    let i = c.items.invariant in
    let b = c.in_ok-another.ensures.bounds in
    let h : c.max-height.result ≡ max c.items.height c.in_ok-another.another.height = c.max-height.ensures in
    let v = c.in_ok-another.ensures.parsed in
    let n =
    (next_stands (kind_or_end c.args.source.now.tokens.now c.items.last.next) (kind_or_end c.args.source.now.tokens.now (c.items.last.next + 1))
    (sym c.goes_on.ensures.comma ∙ c.items-test.true)) in
    let all : map initial c.push.new.self.items ≡ map initial c.items.list.items ++ initial c.items.last.tree ∷ [] =
    ap (map initial) c.in_ok-push.ensures.items ∙ map-append initial c.items.list.items (c.items.last.tree ∷ []) in
    let next = trailing_next (Values c.args.source.now.names.now) (token.Punctuator punctuator.CloseBrace) (c.args.limit - 1)
    (value_row c.args.source.now.names.now) (let enough = c.if-limit-lt2.false in
    omega arith) (no_value_closes c.args.source.now.names.now) c.args.source.now.tokens.now (c.args.from + 1) (map initial c.items.list.items)
    (initial c.items.last.tree) c.items.last.next (is_deep c.items.last.otherwise) c.items.height c.items.invariant.so_far n.0
    (initial c.in_ok-another.another.tree) c.in_ok-another.another.next (is_deep c.in_ok-another.another.otherwise) c.in_ok-another.another.height v.spelled
    v.took v.height_is in
    record {
      onward = omega arith;
      inside = b.1;
      low = omega arith;
      apt = c.in_ok-another.ensures.apt;
      placed = row_goes_on IsInitialPlaced (λ i. initial_text (initial i)) initial_framed c.args.source.now.tokens.now (c.args.from + 1) c.items.list.items
          c.push.new.self.items c.items.last.tree c.items.last.next c.in_ok-another.another.tree c.in_ok-another.another.next i.placed
          c.in_ok-push.ensures.items v.spelled c.in_ok-another.ensures.placed;
      so_far =
          subst (λ (x : List Initial).
          TrailingRow (Values c.args.source.now.names.now) (token.Punctuator punctuator.CloseBrace) (c.args.limit - 1) c.args.source.now.tokens.now
          (c.args.from + 1) x (initial c.in_ok-another.another.tree) c.in_ok-another.another.next (is_deep c.in_ok-another.another.otherwise)
          c.max-height.result) (sym all)
          (subst (λ (x : ℕ).
          TrailingRow (Values c.args.source.now.names.now) (token.Punctuator punctuator.CloseBrace) (c.args.limit - 1) c.args.source.now.tokens.now
          (c.args.from + 1) (map initial c.items.list.items ++ initial c.items.last.tree ∷ []) (initial c.in_ok-another.another.tree)
          c.in_ok-another.another.next (is_deep c.in_ok-another.another.otherwise) x) (sym h) next);
    }

pub items-returns-then-not-is_punctuator-clause-parsed : goal.items-returns-then-not-is_punctuator-clause-parsed
items-returns-then-not-is_punctuator-clause-parsed t c =
    subst (λ (n : ℕ).
    Stops (Values c.args.source.now.names.now) c.args.limit c.args.source.now.tokens.now c.args.from (stop.Refused n c.items.last.otherwise))
    (sym c.closing_at-closing.ensures)
    (items_stop c.args.source.now.names.now c.args.limit (c.args.limit - 1) (let enough = c.if-limit-lt2.false in
    omega arith) (let enough = c.if-limit-lt2.false in
    omega arith) c.args.source.now.tokens.now c.args.from c.requires.stands (stop.Refused _ c.items.last.otherwise)
    (list_unclosed (Values c.args.source.now.names.now) (c.args.limit - 1) (value_row c.args.source.now.names.now) (no_value_closes c.args.source.now.names.now)
    c.args.source.now.tokens.now (c.args.from + 1) (map initial c.items.list.items) (initial c.items.last.tree) c.items.last.next c.items.last.otherwise
    c.items.height c.items.invariant.so_far c.is_punctuator-comma.result (
      c.is_punctuator-comma.ensures.punctuator.0,
      c.is_punctuator-comma.ensures.punctuator.1,
    )
    (sym c.goes_on.ensures.comma ∙ c.items-test.false)
    (λ k.
    false≢true (sym c.if-not-is_punctuator.true
    ∙ c.is_punctuator.ensures.punctuator.1 (ap (kind_or_end c.args.source.now.tokens.now) c.closing_at-closing.ensures ∙ k)))))

pub items-returns-clause-parsed : goal.items-returns-clause-parsed
items-returns-clause-parsed t c =
    let r = trailing_taken (Values c.args.source.now.names.now) (token.Punctuator punctuator.CloseBrace) (c.args.limit - 1)
    (value_row c.args.source.now.names.now) (λ x. cc) (no_value_closes c.args.source.now.names.now) c.args.source.now.tokens.now (c.args.from + 1)
    (map initial c.items.list.items) (initial c.items.last.tree) c.items.last.next (is_deep c.items.last.otherwise) c.items.height c.items.invariant.so_far
    c.is_punctuator-comma.result c.is_punctuator-comma.ensures.punctuator.0 (sym
    (ap (kind_or_end c.args.source.now.tokens.now) c.closing_at-closing.ensures) ∙ c.is_punctuator.ensures.punctuator.0 c.if-not-is_punctuator.false) in
    items_taken c.args.source.now.names.now c.args.limit (c.args.limit - 1) (let enough = c.if-limit-lt2.false in
    omega arith) (let enough = c.if-limit-lt2.false in omega arith) c.args.source.now.tokens.now c.args.from _ c.requires.stands _ c.items.height r _
    (initial-List c.push-2.new.self c.is_punctuator-comma.result
    ∙ ap (λ (x : Initials). Listed x c.is_punctuator-comma.result) (items_listed c.push-2.new.self.items
    ∙ ap items_of (ap (map initial) c.in_ok-push-2.ensures.items ∙ map-append initial c.items.list.items (c.items.last.tree ∷ []))))
    refl (ap (λ (n : ℕ). n + 1) c.closing_at-closing.ensures) (ap is_deep c.reason_at.ensures.is ∙ plain_flat c.args.scope _)

pub initial-returns-clause-placed : goal.initial-returns-clause-placed
initial-returns-clause-placed t c = c.in_ok-value.ensures.placed

pub items-returns-clause-placed : goal.items-returns-clause-placed
items-returns-clause-placed t c =
    list_placed c.push-2.new.self c.is_punctuator-comma.result c.args.source.now.tokens.now c.args.from
    (row_placed IsInitialPlaced (λ i. initial_text (initial i)) c.args.source.now.tokens.now (c.args.from + 1) c.items.list.items c.push-2.new.self.items
    c.items.last.tree c.items.last.next c.items.invariant.placed c.in_ok-push-2.ensures.items)

pub items-returns-then-not-is_punctuator-clause-apt : goal.items-returns-then-not-is_punctuator-clause-apt
items-returns-then-not-is_punctuator-clause-apt t c =
    subst (λ (n : ℕ). IsApt c.args.scope (kind_or_end c.args.source.now.tokens.now n) c.items.last.otherwise) (sym c.closing_at-closing.ensures)
    (unclosed_apt c.args.scope c.args.source.now.tokens.now c.items.last.next c.items.last.otherwise c.is_punctuator-comma.result
    c.is_punctuator-comma.ensures.punctuator.0 (sym c.goes_on.ensures.comma ∙ c.items-test.false)
    (λ k.
    false≢true (sym c.if-not-is_punctuator.true
    ∙ c.is_punctuator.ensures.punctuator.1 (ap (kind_or_end c.args.source.now.tokens.now) c.closing_at-closing.ensures ∙ k))) c.items.invariant.apt)

pub initial-returns-then-begins_designator-clause-apt : goal.initial-returns-then-begins_designator-clause-apt
initial-returns-then-begins_designator-clause-apt t c =
    designator_apt c.args.scope (kind_or_end c.args.source.now.tokens.now c.args.from) (c.begins_designator.ensures c.if-begins_designator.true)

pub initial-returns-in_err-value-clause-apt : goal.initial-returns-in_err-value-clause-apt
initial-returns-in_err-value-clause-apt t c =
    let e : c.from_residual.result ≡ Err c.in_err-value.field-0.0 = search rules in
    subst (IsUnclosedApt c.args.scope c.args.source.now.tokens.now) (sym e)
    (stop_apt c.args.scope c.args.source.now.tokens.now c.in_err-value.field-0.0 c.in_err-value.ensures.apt)

pub initial-returns-clause-apt : goal.initial-returns-clause-apt
initial-returns-clause-apt t c =
    apt_in c.args.scope (kind_or_end c.args.source.now.tokens.now c.in_ok-value.value.next) c.in_ok-value.value.otherwise c.in_ok-value.ensures.apt
