use Rattle.std.proofs.Common.{◌≡◌, ℕ, max, Err, List, Option, refl, sym, ◌∙◌, subst, arith, rules}
use Rattle.cs_ast.specs.declared.raw.expression.RawExpr.{RawExpr}
use Rattle.cs_ast.specs.RawDeclarationView.{bounds_of}
use Rattle.cs_declarator_parser.specs.DeclarationAnswers.{BoundsAnswer}
use Rattle.cs_declarator_parser.proofs.RowSites.{max_is}
use Rattle.cs_declarator_parser.proofs.DeclaratorSites.{BoundsSoFar, bounds_none, bound_stops, next_bound, bounds_taken}
use Rattle.cs_declarator_parser.proofs.Placing.{SidePlaced, HasBracket, bracket_text, side_begun, bracket_goes_on}
use Rattle.cs_declarator_parser.proofs.declarator.bounds.Goals as goal

pub bounds-init : goal.bounds-init
bounds-init c = record {
  onward = omega arith;
  inside = c.requires.within;
  low = omega arith;
  placed = subst (λ (x : List (Option RawExpr)). SidePlaced HasBracket bracket_text c.args.source.now.tokens.now c.args.from x c.args.from)
      (sym c.new-list.ensures.items) (side_begun HasBracket bracket_text c.args.source.now.tokens.now c.args.from);
  so_far =
      subst (λ (x : List (Option RawExpr)).
      BoundsSoFar c.args.declares c.args.source.now.names.now c.args.limit c.args.source.now.tokens.now c.args.from c.args.from x 0)
      (sym c.new-list.ensures.items)
      (bounds_none c.args.declares c.args.source.now.names.now c.args.limit c.args.source.now.tokens.now c.args.from c.requires.within);
}

pub bounds-preserved : goal.bounds-preserved
bounds-preserved c =
    let i = c.bounds.invariant in
    let b = c.in_ok-taken.ensures.bounds in
    let h : c.max-height.result ≡ max c.bounds.height c.in_ok-taken.taken.height = c.max-height.ensures
    ∙ max_is c.bounds.height c.in_ok-taken.taken.height in
    let next = next_bound c.args.declares c.args.source.now.names.now c.args.limit c.args.source.now.tokens.now c.args.from c.bounds.next c.bounds.list.items
    c.push.new.self.items c.bounds.height c.in_ok-taken.taken i.so_far (c.begins_bound.ensures.bracket c.bounds-test.true) c.in_ok-taken.ensures.parsed
    c.in_ok-push.ensures.items in
    record {
      onward = omega arith;
      inside = b.1;
      low = omega arith;
      placed = bracket_goes_on c.args.source.now.tokens.now c.args.from c.bounds.next c.bounds.list.items c.push.new.self.items c.in_ok-taken.taken.tree
          c.in_ok-taken.taken.next i.placed c.in_ok-push.ensures.items (c.begins_bound.ensures.bracket c.bounds-test.true) c.in_ok-taken.ensures.parsed.spelled
          c.in_ok-taken.ensures.placed;
      so_far =
          subst (λ (x : ℕ).
          BoundsSoFar c.args.declares c.args.source.now.names.now c.args.limit c.args.source.now.tokens.now c.args.from c.in_ok-taken.taken.next
          c.push.new.self.items x) (sym h) next;
    }

pub returns-in_err-taken-clause-parsed : goal.returns-in_err-taken-clause-parsed
returns-in_err-taken-clause-parsed c =
    let e : c.from_residual.result ≡ Err c.in_err-taken.field-0.0 = search rules in
    subst (BoundsAnswer c.args.declares c.args.source.now.names.now (λ list. bounds_of list.items) c.args.limit c.args.source.now.tokens.now c.args.from)
    (sym e)
    (bound_stops c.args.declares c.args.source.now.names.now c.args.limit c.args.source.now.tokens.now c.args.from c.bounds.next c.bounds.list.items
    c.bounds.height (c.begins_bound.ensures.limit c.bounds-test.true) c.bounds.invariant.so_far (c.begins_bound.ensures.bracket c.bounds-test.true)
    c.in_err-taken.field-0.0 c.in_err-taken.ensures.parsed)

pub returns-clause-parsed : goal.returns-clause-parsed
returns-clause-parsed c =
    bounds_taken (λ list. bounds_of list.items) c.args.declares c.args.source.now.names.now c.args.limit c.args.source.now.tokens.now c.args.from c.bounds.next
    c.bounds.list.items c.bounds.height _ c.bounds.invariant.so_far (c.begins_bound.ensures.other c.bounds-test.false) refl refl refl

pub returns-clause-placed : goal.returns-clause-placed
returns-clause-placed c = c.bounds.invariant.placed.row
