use Rattle.std.proofs.Common.{◌≡◌, ℕ, Bool, Option, drop, ◌+◌, ◌-◌, ◌≤◌, List, [], Result, Ok, Err, true, false, refl, sym, ap, ◌∙◌}
use Rattle.std.proofs.Common.{subst, arith, rules, leb-true, le-leb}
use Rattle.std.proofs.lemmas.Bool.{false≢true}
use Rattle.cs_ast.specs.declared.token.TokenKind.TheVariants as token
use Rattle.cs_ast.specs.declared.token.Punctuator.TheVariants as punctuator
use Rattle.cs_grammar.specs.Punctuators.{infix_punctuator, assign_punctuator}
use Rattle.cs_grammar.specs.Text.{words_text, pointers_text}
use Rattle.cs_ast.specs.declared.raw.operator.Step.TheVariants.{Up, Down}
use Rattle.cs_ast.specs.RawTree.{WrittenList, End, More}
use Rattle.cs_ast.specs.RawView.{written, written_list}
use Rattle.cs_grammar.specs.Levels.{level_of, COMMA, ASSIGN, CHOICE, CAST, UNARY, POSTFIX, PRIMARY}
use Rattle.cs_grammar.specs.Phrases.{ArePhrases}
use Rattle.cs_grammar.specs.Parsing.{Expressions}
use Rattle.cs_expr_parser.specs.Positions.{kind_or_end}
use Rattle.cs_expr_parser.specs.Leaves.{IsLeafOf}
use Rattle.cs_expr_parser.specs.declared.unary.Before.TheVariants as before
use Rattle.cs_expr_parser.specs.Parts.{Stops, IsTakenFrom, Answers, RowAnswers, TypeAnswers, ChainAnswers, arguments_text, closed_bounds_text}
use Rattle.cs_expr_parser.specs.LastTokens.{IsStopReported, IsStopReportedAfter, YieldsAfter}
use Rattle.cs_expr_parser.specs.Reasons.{plain_reason}
use Rattle.cs_expr_parser.specs.Words.{is_last_tag}
use Rattle.cs_expr_parser.specs.declared.stop.Stop.TheVariants as stop
use Rattle.cs_ast.specs.declared.raw.expression.RawExpr.{RawExpr}
use Rattle.cs_expr_parser.specs.Places.{AreInRow, IsFoundPlaced}
use Rattle.cs_expr_parser.proofs.SitesOfPlaces.{ArgumentsPlaced, BoundsPlaced, taken_ends, chain_ends_at, same_placed, first_argument_placed}
use Rattle.cs_expr_parser.proofs.SitesOfPlaces.{next_argument_placed, arguments_placed, no_bounds_placed, next_bound_placed, bounds_placed, type_placed}
use Rattle.cs_expr_parser.proofs.SitesOfPlaces.{selected_placed, narrow_placed}
use Rattle.cs_expr_parser.proofs.Sites.{primary_none, leaf_full, parenthesis_full, leaf_taken, enclosed_stops, enclosed_unclosed, enclosed_taken}
use Rattle.cs_expr_parser.proofs.SitesOfChains.{postfix_head_stops, postfix_head, postfix_ends, postfix_full, index_stops, index_unclosed, index_taken}
use Rattle.cs_expr_parser.proofs.SitesOfChains.{call_stops, call_taken, member_answer, step_taken, infix_head_stops, infix_head, infix_ends, infix_full}
use Rattle.cs_expr_parser.proofs.SitesOfChains.{right_stops, infix_taken, comma_head_stops, comma_head, comma_ends, comma_full, second_stops, comma_taken}
use Rattle.cs_expr_parser.proofs.SitesOfLevels.{choice_none, choice_full, one_stops, one_unclosed, other_stops, choice_taken, assign_none, assign_full}
use Rattle.cs_expr_parser.proofs.SitesOfLevels.{value_stops, assign_taken, test_stops, object_stops}
use Rattle.cs_expr_parser.proofs.RowsOfTrees.{joined, list_more}
use Rattle.cs_expr_parser.proofs.Joining.{last_suffix}
use Rattle.cs_expr_parser.proofs.Prefixes.{operand_level}
use Rattle.cs_expr_parser.proofs.SitesOfRows.{ArgumentsSoFar, BoundsSoFar, bounds_none, arguments_none, first_argument_stops, first_argument}
use Rattle.cs_expr_parser.proofs.SitesOfRows.{next_argument_stops, next_argument, arguments_unclosed, arguments_taken, bound_stops, bound_unclosed, next_bound}
use Rattle.cs_expr_parser.proofs.SitesOfRows.{bounds_unclosed, bounds_taken}
use Rattle.cs_expr_parser.proofs.SitesOfTypes.{bounds_stop, type_taken}
use Rattle.cs_expr_parser.proofs.SitesOfWords.{words_no_const}
use Rattle.cs_expr_parser.proofs.SitesOfPrefixes.{unary_none_answer, unary_full, operand_stops, operand_taken, opens_is, cast_none_answer, cast_full_stops}
use Rattle.cs_expr_parser.proofs.SitesOfPrefixes.{cast_type_stops, cast_brace_stops, brace_begins_none, cast_operand_stops, cast_taken, size_type_stops}
use Rattle.cs_expr_parser.proofs.SitesOfPrefixes.{size_type_taken, size_full_answer, size_stops, size_taken}
use Rattle.cs_expr_parser.proofs.SitesOfReasons.{reported_first, reported_after, reported_in_parenthesis, resets_bracket, resets_parenthesis, resets_infix}
use Rattle.cs_expr_parser.proofs.SitesOfReasons.{resets_assign, resets_comma, resets_question, reported_in_chain, reported_in_operand, reported_member}
use Rattle.cs_expr_parser.proofs.SitesOfReasons.{reported_other, reported_argument, reported_after_argument, reported_bound, reported_after_bounds}
use Rattle.cs_expr_parser.proofs.SitesOfReasons.{reported_bounds, reported_pointers, reported_before, reported_in_size, reported_size_answer, reported_in_cast}
use Rattle.cs_expr_parser.proofs.SitesOfReasons.{reported_brace, type_yields}
use Rattle.cs_expr_parser.proofs.+expression.Goals as goal

pub infix::infix-returns-in_err-left-clause-parsed : goal.infix::infix-returns-in_err-left-clause-parsed
infix::infix-returns-in_err-left-clause-parsed t c =
    let few : c.args.level ≤ 12 = omega arith in
    let e : c.from_residual.result ≡ Err c.in_err-left.field-0.0 = search rules in
    subst (Answers c.args.names.now c.args.level c.args.limit c.args.tokens.now c.args.from) (sym e)
    (infix_head_stops c.args.names.now c.args.level c.args.limit c.args.tokens.now c.args.from c.requires.infix few c.in_err-left.field-0.0
    c.in_err-left.ensures.parsed)

pub infix::infix-chain-init : goal.infix::infix-chain-init
infix::infix-chain-init t c =
    let few : c.args.level ≤ 12 = omega arith in
    let b = c.in_ok-left.ensures.bounds in
    record {
      onward = b.0;
      inside = b.1;
      some = b.2;
      low = b.3;
      chain = infix_head c.args.names.now c.args.level c.args.limit c.args.tokens.now c.args.from c.in_ok-left.left c.requires.infix few
          c.in_ok-left.ensures.parsed;
      placed = c.in_ok-left.ensures.placed;
    }

pub infix::infix-returns-then-left-limit-clause-parsed : goal.infix::infix-returns-then-left-limit-clause-parsed
infix::infix-returns-then-left-limit-clause-parsed t c =
    infix_full c.args.names.now c.args.level c.args.limit c.args.tokens.now c.args.from c.chain.left c.deepened.result c.in-Some.operator
    c.chain.invariant.chain c.in-Some.ensures.operator c.if-left-limit.true c.deepened.ensures.node

pub infix::infix-returns-in_err-right-clause-parsed : goal.infix::infix-returns-in_err-right-clause-parsed
infix::infix-returns-in_err-right-clause-parsed t c =
    let e : c.from_residual-in_err-right.result ≡ Err c.in_err-right.field-0.0 = search rules in
    subst (Answers c.args.names.now c.args.level c.args.limit c.args.tokens.now c.args.from) (sym e)
    (right_stops c.args.names.now c.args.level c.args.limit c.args.tokens.now c.args.from c.chain.left c.in-Some.operator c.chain.invariant.chain
    c.in-Some.ensures.operator c.if-left-limit.false c.in_err-right.field-0.0 c.in_err-right.ensures.parsed)

pub infix::infix-chain-preserved : goal.infix::infix-chain-preserved
infix::infix-chain-preserved t c =
    let b = c.in_ok-right.ensures.bounds in
    let i = c.chain.invariant in
    let n = c.in_ok-left-2.ensures.node in
    let next = n.next_is in
    let tall = n.height_is in
    record {
      onward = omega arith;
      inside = omega arith;
      some = omega arith;
      low = omega arith;
      chain = infix_taken c.args.names.now c.args.level c.args.limit c.args.tokens.now c.args.from c.chain.left c.in_ok-right.right c.in_ok-left-2.left
          c.in-Some.operator i.chain c.in-Some.ensures.operator c.if-left-limit.false c.in_ok-right.ensures.parsed n;
      placed = c.in_ok-left-2.ensures.placed c.args.from i.placed
          (chain_ends_at c.args.names.now c.args.level c.args.limit c.args.tokens.now c.args.from c.chain.left i.chain) c.in_ok-right.ensures.placed;
    }

pub infix::infix-returns-clause-parsed : goal.infix::infix-returns-clause-parsed
infix::infix-returns-clause-parsed t c =
    let few : c.args.level ≤ 12 = omega arith in
    infix_ends c.args.names.now c.args.level c.args.limit c.args.tokens.now c.args.from c.chain.left c.requires.infix few c.chain.invariant.chain
    c.in_default.ensures.operator

pub lists::arguments-returns-then-is_punctuator-clause-parsed : goal.lists::arguments-returns-then-is_punctuator-clause-parsed
lists::arguments-returns-then-is_punctuator-clause-parsed t c =
    arguments_none c.args.names.now c.args.limit c.args.tokens.now c.args.from _ (c.is_punctuator.ensures.punctuator.0 c.if-is_punctuator.true)
    c.new-trees.ensures.items refl refl

pub lists::arguments-returns-in_err-last-clause-parsed : goal.lists::arguments-returns-in_err-last-clause-parsed
lists::arguments-returns-in_err-last-clause-parsed t c =
    let e : c.from_residual.result ≡ Err c.in_err-last.field-0.0 = search rules in
    subst (RowAnswers arguments_text (ArePhrases c.args.names.now ASSIGN) c.args.limit c.args.tokens.now c.args.from) (sym e)
    (first_argument_stops c.args.names.now c.args.limit c.args.tokens.now c.args.from c.requires.within
    (λ k. false≢true (sym c.if-is_punctuator.false ∙ c.is_punctuator.ensures.punctuator.1 k)) c.in_err-last.field-0.0 c.in_err-last.ensures.parsed)

pub lists::arguments-returns-in_err-another-clause-parsed : goal.lists::arguments-returns-in_err-another-clause-parsed
lists::arguments-returns-in_err-another-clause-parsed t c =
    let e : c.from_residual-in_err-another.result ≡ Err c.in_err-another.field-0.0 = search rules in
    subst (RowAnswers arguments_text (ArePhrases c.args.names.now ASSIGN) c.args.limit c.args.tokens.now c.args.from) (sym e)
    (next_argument_stops c.args.names.now c.args.limit c.args.tokens.now c.args.from (written_list c.row.trees.items) c.row.height c.row.last
    c.row.invariant.so_far (c.is_punctuator-in-row.ensures.punctuator.0 c.row-test.true) c.in_err-another.field-0.0 c.in_err-another.ensures.parsed)

pub lists::arguments-row-preserved : goal.lists::arguments-row-preserved
lists::arguments-row-preserved t c =
    let i = c.row.invariant in
    let b = c.in_ok-another.ensures.bounds in
    let h = c.max-height.ensures in
    let all : written_list c.push.new.self.items ≡ joined (written_list c.row.trees.items) (More (written c.row.last.tree) End) =
    ap written_list c.in_ok-push.ensures.items ∙ list_more c.row.trees.items c.row.last.tree in
    let next = next_argument c.args.names.now c.args.limit c.args.tokens.now c.args.from (written_list c.row.trees.items) c.row.height c.row.last
    c.in_ok-another.another i.so_far (c.is_punctuator-in-row.ensures.punctuator.0 c.row-test.true) c.in_ok-another.ensures.parsed in
    record {
      onward = omega arith;
      inside = b.1;
      low = omega arith;
      so_far =
          subst (λ (x : WrittenList). ArgumentsSoFar c.args.names.now c.args.limit c.args.tokens.now c.args.from x c.max-height.result c.in_ok-another.another)
          (sym all)
          (subst (λ (x : ℕ).
          ArgumentsSoFar c.args.names.now c.args.limit c.args.tokens.now c.args.from
          (joined (written_list c.row.trees.items) (More (written c.row.last.tree) End)) x c.in_ok-another.another) (sym h) next);
      placed = next_argument_placed c.args.names.now c.args.limit c.args.tokens.now c.args.from c.row.trees.items c.push.new.self.items c.row.last
          c.in_ok-another.another i.placed c.in_ok-another.ensures.parsed c.in_ok-another.ensures.placed c.in_ok-push.ensures.items;
    }

pub lists::arguments-returns-then-not-is_punctuator-clause-parsed : goal.lists::arguments-returns-then-not-is_punctuator-clause-parsed
lists::arguments-returns-then-not-is_punctuator-clause-parsed t c =
    arguments_unclosed c.args.names.now c.args.limit c.args.tokens.now c.args.from (written_list c.row.trees.items) c.row.height c.row.last
    c.refuse_after.result c.row.invariant.so_far (λ k. false≢true (sym c.row-test.false ∙ c.is_punctuator-in-row.ensures.punctuator.1 k))
    (λ k. false≢true (sym c.if-not-is_punctuator.true ∙ c.is_punctuator-2.ensures.punctuator.1 k)) c.refuse_after.ensures

pub lists::arguments-returns-clause-parsed : goal.lists::arguments-returns-clause-parsed
lists::arguments-returns-clause-parsed t c =
    arguments_taken c.args.names.now c.args.limit c.args.tokens.now c.args.from c.row.trees.items c.row.height c.row.last _ c.row.invariant.so_far
    (c.is_punctuator-2.ensures.punctuator.0 c.if-not-is_punctuator.false) c.in_ok-push-2.ensures.items refl refl

pub lists::bounds-returns-in_err-bound-clause-parsed : goal.lists::bounds-returns-in_err-bound-clause-parsed
lists::bounds-returns-in_err-bound-clause-parsed t c =
    let e : c.from_residual.result ≡ Err c.in_err-bound.field-0.0 = search rules in
    subst (RowAnswers closed_bounds_text (ArePhrases c.args.names.now CHOICE) c.args.limit c.args.tokens.now c.args.from) (sym e)
    (bound_stops c.args.names.now c.args.limit c.args.tokens.now c.args.from c.row.next (written_list c.row.trees.items) c.row.height c.requires.least
    c.row.invariant.so_far (c.is_punctuator.ensures.punctuator.0 c.row-test.true) c.in_err-bound.field-0.0 c.in_err-bound.ensures.parsed)

pub lists::bounds-returns-then-not-is_punctuator-clause-parsed : goal.lists::bounds-returns-then-not-is_punctuator-clause-parsed
lists::bounds-returns-then-not-is_punctuator-clause-parsed t c =
    bound_unclosed c.args.names.now c.args.limit c.args.tokens.now c.args.from c.row.next (written_list c.row.trees.items) c.row.height c.in_ok-bound.bound
    c.refuse_after.result c.requires.least c.row.invariant.so_far (c.is_punctuator.ensures.punctuator.0 c.row-test.true) c.in_ok-bound.ensures.parsed
    (λ k. false≢true (sym c.if-not-is_punctuator.true ∙ c.is_punctuator-in-row.ensures.punctuator.1 k)) c.refuse_after.ensures

pub lists::bounds-row-preserved : goal.lists::bounds-row-preserved
lists::bounds-row-preserved t c =
    let i = c.row.invariant in
    let b = c.in_ok-bound.ensures.bounds in
    let h = c.max-height.ensures in
    let next = next_bound c.args.names.now c.args.limit c.args.tokens.now c.args.from c.row.next c.row.trees.items c.row.height c.in_ok-bound.bound
    c.push.new.self.items i.so_far (c.is_punctuator.ensures.punctuator.0 c.row-test.true) c.in_ok-bound.ensures.parsed
    (c.is_punctuator-in-row.ensures.punctuator.0 c.if-not-is_punctuator.false) c.in_ok-push.ensures.items in
    record {
      onward = omega arith;
      inside = next.spelled.within;
      low = omega arith;
      so_far =
          subst (λ (x : ℕ).
          BoundsSoFar c.args.names.now c.args.limit c.args.tokens.now c.args.from (c.in_ok-bound.bound.next + 1) (written_list c.push.new.self.items) x) (sym h)
          next;
      placed = next_bound_placed c.args.names.now c.args.limit c.args.tokens.now c.args.from c.row.next c.row.trees.items c.push.new.self.items
          c.in_ok-bound.bound i.placed c.in_ok-bound.ensures.parsed c.in_ok-bound.ensures.placed c.in_ok-push.ensures.items;
    }

pub lists::bounds-returns-then-not-is_punctuator-2-clause-parsed : goal.lists::bounds-returns-then-not-is_punctuator-2-clause-parsed
lists::bounds-returns-then-not-is_punctuator-2-clause-parsed t c =
    bounds_unclosed c.args.names.now c.args.limit c.args.tokens.now c.args.from c.row.next (written_list c.row.trees.items) c.row.height c.refuse_in_type.result
    c.is_last_word.result c.row.invariant.so_far (λ k. false≢true (sym c.row-test.false ∙ c.is_punctuator.ensures.punctuator.1 k))
    (λ k. false≢true (sym c.if-not-is_punctuator-2.true ∙ c.is_punctuator-2.ensures.punctuator.1 k)) c.refuse_in_type.ensures

pub lists::bounds-returns-clause-parsed : goal.lists::bounds-returns-clause-parsed
lists::bounds-returns-clause-parsed t c =
    bounds_taken c.args.names.now c.args.limit c.args.tokens.now c.args.from c.row.next c.row.height _ c.row.invariant.so_far
    (c.is_punctuator-2.ensures.punctuator.0 c.if-not-is_punctuator-2.false) refl refl

pub loose::assign-returns-in_err-object-clause-parsed : goal.loose::assign-returns-in_err-object-clause-parsed
loose::assign-returns-in_err-object-clause-parsed t c =
    let e : c.from_residual.result ≡ Err c.in_err-object.field-0.0 = search rules in
    subst (Answers c.args.names.now ASSIGN c.args.limit c.args.tokens.now c.args.from) (sym e)
    (object_stops c.args.names.now c.args.limit c.args.tokens.now c.args.from c.in_err-object.field-0.0 c.in_err-object.ensures.parsed)

pub loose::assign-returns-in_default-clause-parsed : goal.loose::assign-returns-in_default-clause-parsed
loose::assign-returns-in_default-clause-parsed t c =
    assign_none c.args.names.now c.args.limit c.args.tokens.now c.args.from c.in_ok-object.object c.in_ok-object.ensures.parsed
    (λ op k bound. c.in_default.ensures.operator op k)

pub loose::assign-returns-then-not-is_unary-clause-parsed : goal.loose::assign-returns-then-not-is_unary-clause-parsed
loose::assign-returns-then-not-is_unary-clause-parsed t c =
    assign_none c.args.names.now c.args.limit c.args.tokens.now c.args.from c.in_ok-object.object c.in_ok-object.ensures.parsed
    (λ op k bound. false≢true (sym c.if-not-is_unary.true ∙ c.is_unary.ensures ∙ le-leb 14 (level_of (written c.in_ok-object.object.tree)) bound))

pub loose::assign-returns-then-object-limit-clause-parsed : goal.loose::assign-returns-then-object-limit-clause-parsed
loose::assign-returns-then-object-limit-clause-parsed t c =
    assign_full c.args.names.now c.args.limit c.args.tokens.now c.args.from c.in_ok-object.object c.deepened.result c.in-Some.operator
    c.in_ok-object.ensures.parsed c.in-Some.ensures.operator (leb-true 14 (level_of (written c.in_ok-object.object.tree)) (sym c.is_unary.ensures
    ∙ c.if-not-is_unary.false)) c.if-object-limit.true c.deepened.ensures.node

pub loose::assign-returns-in_err-value-clause-parsed : goal.loose::assign-returns-in_err-value-clause-parsed
loose::assign-returns-in_err-value-clause-parsed t c =
    let e : c.from_residual-in_err-value.result ≡ Err c.in_err-value.field-0.0 = search rules in
    subst (Answers c.args.names.now ASSIGN c.args.limit c.args.tokens.now c.args.from) (sym e)
    (value_stops c.args.names.now c.args.limit c.args.tokens.now c.args.from c.in_ok-object.object c.in-Some.operator c.in_ok-object.ensures.parsed
    c.in-Some.ensures.operator (leb-true 14 (level_of (written c.in_ok-object.object.tree)) (sym c.is_unary.ensures ∙ c.if-not-is_unary.false))
    c.if-object-limit.false c.in_err-value.field-0.0 c.in_err-value.ensures.parsed)

pub loose::assign-returns-clause-parsed : goal.loose::assign-returns-clause-parsed
loose::assign-returns-clause-parsed t c =
    assign_taken c.args.names.now c.args.limit c.args.tokens.now c.args.from c.in_ok-object.object c.in_ok-value.value c.in_ok-stored.field-0 c.in-Some.operator
    c.in_ok-object.ensures.parsed c.in-Some.ensures.operator (leb-true 14 (level_of (written c.in_ok-object.object.tree)) (sym c.is_unary.ensures
    ∙ c.if-not-is_unary.false)) c.if-object-limit.false c.in_ok-value.ensures.parsed c.in_ok-stored.ensures.node

pub loose::choice-returns-in_err-test-clause-parsed : goal.loose::choice-returns-in_err-test-clause-parsed
loose::choice-returns-in_err-test-clause-parsed t c =
    let e : c.from_residual.result ≡ Err c.in_err-test.field-0.0 = search rules in
    subst (Answers c.args.names.now CHOICE c.args.limit c.args.tokens.now c.args.from) (sym e)
    (test_stops c.args.names.now c.args.limit c.args.tokens.now c.args.from c.in_err-test.field-0.0 c.in_err-test.ensures.parsed)

pub loose::choice-returns-then-not-is_punctuator-clause-parsed : goal.loose::choice-returns-then-not-is_punctuator-clause-parsed
loose::choice-returns-then-not-is_punctuator-clause-parsed t c =
    choice_none c.args.names.now c.args.limit c.args.tokens.now c.args.from c.in_ok-test.test c.in_ok-test.ensures.parsed
    (λ k. false≢true (sym c.if-not-is_punctuator.true ∙ c.is_punctuator.ensures.punctuator.1 k))

pub loose::choice-returns-then-test-limit-clause-parsed : goal.loose::choice-returns-then-test-limit-clause-parsed
loose::choice-returns-then-test-limit-clause-parsed t c =
    choice_full c.args.names.now c.args.limit c.args.tokens.now c.args.from c.in_ok-test.test c.deepened.result c.in_ok-test.ensures.parsed
    (c.is_punctuator.ensures.punctuator.0 c.if-not-is_punctuator.false) c.if-test-limit.true c.deepened.ensures.node

pub loose::choice-returns-in_err-one-clause-parsed : goal.loose::choice-returns-in_err-one-clause-parsed
loose::choice-returns-in_err-one-clause-parsed t c =
    let e : c.from_residual-in_err-one.result ≡ Err c.in_err-one.field-0.0 = search rules in
    subst (Answers c.args.names.now CHOICE c.args.limit c.args.tokens.now c.args.from) (sym e)
    (one_stops c.args.names.now c.args.limit c.args.tokens.now c.args.from c.in_ok-test.test c.in_ok-test.ensures.parsed
    (c.is_punctuator.ensures.punctuator.0 c.if-not-is_punctuator.false) c.if-test-limit.false c.in_err-one.field-0.0 c.in_err-one.ensures.parsed)

pub loose::choice-returns-then-not-is_punctuator-2-clause-parsed : goal.loose::choice-returns-then-not-is_punctuator-2-clause-parsed
loose::choice-returns-then-not-is_punctuator-2-clause-parsed t c =
    one_unclosed c.args.names.now c.args.limit c.args.tokens.now c.args.from c.in_ok-test.test c.in_ok-one.one c.refuse_after.result c.in_ok-test.ensures.parsed
    (c.is_punctuator.ensures.punctuator.0 c.if-not-is_punctuator.false) c.if-test-limit.false c.in_ok-one.ensures.parsed
    (λ k. false≢true (sym c.if-not-is_punctuator-2.true ∙ c.is_punctuator-2.ensures.punctuator.1 k)) c.refuse_after.ensures

pub loose::choice-returns-in_err-other-clause-parsed : goal.loose::choice-returns-in_err-other-clause-parsed
loose::choice-returns-in_err-other-clause-parsed t c =
    let e : c.from_residual-in_err-other.result ≡ Err c.in_err-other.field-0.0 = search rules in
    subst (Answers c.args.names.now CHOICE c.args.limit c.args.tokens.now c.args.from) (sym e)
    (other_stops c.args.names.now c.args.limit c.args.tokens.now c.args.from c.in_ok-test.test c.in_ok-one.one c.in_ok-test.ensures.parsed
    (c.is_punctuator.ensures.punctuator.0 c.if-not-is_punctuator.false) c.if-test-limit.false c.in_ok-one.ensures.parsed
    (c.is_punctuator-2.ensures.punctuator.0 c.if-not-is_punctuator-2.false) c.in_err-other.field-0.0 c.in_err-other.ensures.parsed)

pub loose::choice-returns-clause-parsed : goal.loose::choice-returns-clause-parsed
loose::choice-returns-clause-parsed t c =
    choice_taken c.args.names.now c.args.limit c.args.tokens.now c.args.from c.in_ok-test.test c.in_ok-one.one c.in_ok-other.other c.in_ok-chosen.field-0
    c.in_ok-test.ensures.parsed (c.is_punctuator.ensures.punctuator.0 c.if-not-is_punctuator.false) c.if-test-limit.false c.in_ok-one.ensures.parsed
    (c.is_punctuator-2.ensures.punctuator.0 c.if-not-is_punctuator-2.false) c.in_ok-other.ensures.parsed c.in_ok-chosen.ensures.node

pub loose::comma-returns-in_err-first-clause-parsed : goal.loose::comma-returns-in_err-first-clause-parsed
loose::comma-returns-in_err-first-clause-parsed t c =
    let e : c.from_residual.result ≡ Err c.in_err-first.field-0.0 = search rules in
    subst (Answers c.args.names.now COMMA c.args.limit c.args.tokens.now c.args.from) (sym e)
    (comma_head_stops c.args.names.now c.args.limit c.args.tokens.now c.args.from c.in_err-first.field-0.0 c.in_err-first.ensures.parsed)

pub loose::comma-chain-init : goal.loose::comma-chain-init
loose::comma-chain-init t c =
    let b = c.in_ok-first.ensures.bounds in
    record {
      onward = b.0;
      inside = b.1;
      some = b.2;
      low = b.3;
      chain = comma_head c.args.names.now c.args.limit c.args.tokens.now c.args.from c.in_ok-first.first c.in_ok-first.ensures.parsed;
      placed = c.in_ok-first.ensures.placed;
    }

pub loose::comma-returns-then-first-limit-clause-parsed : goal.loose::comma-returns-then-first-limit-clause-parsed
loose::comma-returns-then-first-limit-clause-parsed t c =
    comma_full c.args.names.now c.args.limit c.args.tokens.now c.args.from c.chain.first c.deepened.result c.chain.invariant.chain
    (c.is_punctuator.ensures.punctuator.0 c.chain-test.true) c.if-first-limit.true c.deepened.ensures.node

pub loose::comma-returns-in_err-second-clause-parsed : goal.loose::comma-returns-in_err-second-clause-parsed
loose::comma-returns-in_err-second-clause-parsed t c =
    let e : c.from_residual-in_err-second.result ≡ Err c.in_err-second.field-0.0 = search rules in
    subst (Answers c.args.names.now COMMA c.args.limit c.args.tokens.now c.args.from) (sym e)
    (second_stops c.args.names.now c.args.limit c.args.tokens.now c.args.from c.chain.first c.chain.invariant.chain
    (c.is_punctuator.ensures.punctuator.0 c.chain-test.true) c.if-first-limit.false c.in_err-second.field-0.0 c.in_err-second.ensures.parsed)

pub loose::comma-chain-preserved : goal.loose::comma-chain-preserved
loose::comma-chain-preserved t c =
    let b = c.in_ok-second.ensures.bounds in
    let i = c.chain.invariant in
    let n = c.in_ok-first-2.ensures.node in
    let next = n.next_is in
    let tall = n.height_is in
    record {
      onward = omega arith;
      inside = omega arith;
      some = omega arith;
      low = omega arith;
      chain = comma_taken c.args.names.now c.args.limit c.args.tokens.now c.args.from c.chain.first c.in_ok-second.second c.in_ok-first-2.first i.chain
          (c.is_punctuator.ensures.punctuator.0 c.chain-test.true) c.if-first-limit.false c.in_ok-second.ensures.parsed n;
      placed = c.in_ok-first-2.ensures.placed c.args.from i.placed
          (chain_ends_at c.args.names.now 0 c.args.limit c.args.tokens.now c.args.from c.chain.first i.chain) c.in_ok-second.ensures.placed;
    }

pub loose::comma-returns-clause-parsed : goal.loose::comma-returns-clause-parsed
loose::comma-returns-clause-parsed t c =
    comma_ends c.args.names.now c.args.limit c.args.tokens.now c.args.from c.chain.first c.chain.invariant.chain
    (λ k. false≢true (sym c.chain-test.false ∙ c.is_punctuator.ensures.punctuator.1 k))

pub postfix::postfix-returns-in_err-left-clause-parsed : goal.postfix::postfix-returns-in_err-left-clause-parsed
postfix::postfix-returns-in_err-left-clause-parsed t c =
    let e : c.from_residual.result ≡ Err c.in_err-left.field-0.0 = search rules in
    subst (Answers c.args.names.now POSTFIX c.args.limit c.args.tokens.now c.args.from) (sym e)
    (postfix_head_stops c.args.names.now c.args.limit c.args.tokens.now c.args.from c.in_err-left.field-0.0 c.in_err-left.ensures.parsed)

pub postfix::postfix-chain-init : goal.postfix::postfix-chain-init
postfix::postfix-chain-init t c =
    let b = c.in_ok-left.ensures.bounds in
    record {
      onward = b.0;
      inside = b.1;
      some = b.2;
      low = b.3;
      chain = postfix_head c.args.names.now c.args.limit c.args.tokens.now c.args.from c.in_ok-left.left c.in_ok-left.ensures.parsed;
      placed = c.in_ok-left.ensures.placed;
    }

pub postfix::postfix-returns-then-left-limit-clause-parsed : goal.postfix::postfix-returns-then-left-limit-clause-parsed
postfix::postfix-returns-then-left-limit-clause-parsed t c =
    postfix_full c.args.names.now c.args.limit c.args.tokens.now c.args.from c.chain.left c.deepened.result c.in-Some.punctuator c.chain.invariant.chain
    c.in-Some.ensures.punctuator c.if-left-limit.true c.deepened.ensures.node

pub postfix::postfix-returns-clause-parsed : goal.postfix::postfix-returns-clause-parsed
postfix::postfix-returns-clause-parsed t c =
    postfix_ends c.args.names.now c.args.limit c.args.tokens.now c.args.from c.chain.left c.chain.invariant.chain c.in_default.ensures.punctuator

pub postfix::suffixed-returns-in_err-number-in-OpenBracket-clause-chained : goal.postfix::suffixed-returns-in_err-number-in-OpenBracket-clause-chained
postfix::suffixed-returns-in_err-number-in-OpenBracket-clause-chained t c =
    λ from chain.
    let e : c.from_residual.result ≡ Err c.in_err-number-in-OpenBracket.field-0.0 = search rules in
    subst (ChainAnswers c.args.names.now POSTFIX c.args.limit c.args.tokens.now from) (sym e)
    (index_stops c.args.names.now c.args.limit c.args.tokens.now from c.args.left chain (c.requires.stands.0 ∙ ap token.Punctuator c.in-OpenBracket.is)
    c.requires.low c.in_err-number-in-OpenBracket.field-0.0 c.in_err-number-in-OpenBracket.ensures.parsed)

pub postfix::suffixed-returns-then-not-is_punctuator-clause-chained : goal.postfix::suffixed-returns-then-not-is_punctuator-clause-chained
postfix::suffixed-returns-then-not-is_punctuator-clause-chained t c =
    λ from chain.
    index_unclosed c.args.names.now c.args.limit c.args.tokens.now from c.args.left c.in_ok-number-in-OpenBracket.number c.refuse_after.result chain
    (c.requires.stands.0 ∙ ap token.Punctuator c.in-OpenBracket.is) c.requires.low c.in_ok-number-in-OpenBracket.ensures.parsed
    (λ k. false≢true (sym c.if-not-is_punctuator.true ∙ c.is_punctuator.ensures.punctuator.1 k)) c.refuse_after.ensures

pub postfix::suffixed-returns-in_err-listed-in-OpenParenthesis-clause-chained : goal.postfix::suffixed-returns-in_err-listed-in-OpenParenthesis-clause-chained
postfix::suffixed-returns-in_err-listed-in-OpenParenthesis-clause-chained t c =
    λ from chain.
    let e : c.from_residual-in_err-listed-in-OpenParenthesis.result ≡ Err c.in_err-listed-in-OpenParenthesis.field-0.0 = search rules in
    subst (ChainAnswers c.args.names.now POSTFIX c.args.limit c.args.tokens.now from) (sym e)
    (call_stops c.args.names.now c.args.limit c.args.tokens.now from c.args.left chain (c.requires.stands.0 ∙ ap token.Punctuator c.in-OpenParenthesis.is)
    c.requires.low c.in_err-listed-in-OpenParenthesis.field-0.0 c.in_err-listed-in-OpenParenthesis.ensures.parsed)

pub postfix::suffixed-returns-in_ok-indexed-in-OpenBracket-clause-chained : goal.postfix::suffixed-returns-in_ok-indexed-in-OpenBracket-clause-chained
postfix::suffixed-returns-in_ok-indexed-in-OpenBracket-clause-chained t c =
    λ from chain.
    index_taken c.args.names.now c.args.limit c.args.tokens.now from c.args.left c.in_ok-number-in-OpenBracket.number c.in_ok-indexed-in-OpenBracket.field-0
    chain (c.requires.stands.0 ∙ ap token.Punctuator c.in-OpenBracket.is) c.requires.low c.in_ok-number-in-OpenBracket.ensures.parsed
    (c.is_punctuator.ensures.punctuator.0 c.if-not-is_punctuator.false) c.in_ok-indexed-in-OpenBracket.ensures.node

pub postfix::suffixed-returns-in_ok-called-in-OpenParenthesis-clause-chained : goal.postfix::suffixed-returns-in_ok-called-in-OpenParenthesis-clause-chained
postfix::suffixed-returns-in_ok-called-in-OpenParenthesis-clause-chained t c =
    λ from chain.
    call_taken c.args.names.now c.args.limit c.args.tokens.now from c.args.left c.in_ok-listed-in-OpenParenthesis.listed
    c.in_ok-called-in-OpenParenthesis.field-0 chain (c.requires.stands.0 ∙ ap token.Punctuator c.in-OpenParenthesis.is) c.requires.low
    c.in_ok-listed-in-OpenParenthesis.ensures.parsed c.in_ok-called-in-OpenParenthesis.ensures.node

pub postfix::suffixed-returns-in-Dot-clause-chained : goal.postfix::suffixed-returns-in-Dot-clause-chained
postfix::suffixed-returns-in-Dot-clause-chained t c =
    λ from chain.
    member_answer c.args.names.now c.args.limit c.args.tokens.now from c.args.left false c.selected.result chain (c.requires.stands.0
    ∙ ap token.Punctuator c.in-Dot.is) c.requires.within c.requires.low c.selected.ensures.node

pub postfix::suffixed-returns-in-Arrow-clause-chained : goal.postfix::suffixed-returns-in-Arrow-clause-chained
postfix::suffixed-returns-in-Arrow-clause-chained t c =
    λ from chain.
    member_answer c.args.names.now c.args.limit c.args.tokens.now from c.args.left true c.selected-in-Arrow.result chain (c.requires.stands.0
    ∙ ap token.Punctuator c.in-Arrow.is) c.requires.within c.requires.low c.selected-in-Arrow.ensures.node

pub postfix::suffixed-returns-in_ok-stepped-in-Increment-clause-chained : goal.postfix::suffixed-returns-in_ok-stepped-in-Increment-clause-chained
postfix::suffixed-returns-in_ok-stepped-in-Increment-clause-chained t c =
    λ from chain.
    step_taken c.args.names.now c.args.limit c.args.tokens.now from c.args.left c.in_ok-stepped-in-Increment.field-0 Up chain (c.requires.stands.0
    ∙ ap token.Punctuator c.in-Increment.is) c.requires.within c.requires.low c.in_ok-stepped-in-Increment.ensures.node

pub postfix::suffixed-returns-in_ok-stepped-in_default-clause-chained : goal.postfix::suffixed-returns-in_ok-stepped-in_default-clause-chained
postfix::suffixed-returns-in_ok-stepped-in_default-clause-chained t c =
    let n = c.in_default in
    λ from chain.
    step_taken c.args.names.now c.args.limit c.args.tokens.now from c.args.left c.in_ok-stepped-in_default.field-0 Down chain (c.requires.stands.0
    ∙ ap token.Punctuator (last_suffix c.args.punctuator c.requires.stands.1 n.not-OpenBracket n.not-OpenParenthesis n.not-Dot n.not-Arrow
    n.not-Increment)) c.requires.within c.requires.low c.in_ok-stepped-in_default.ensures.node

pub primary::primary-returns-then-limit-lt2-clause-parsed : goal.primary::primary-returns-then-limit-lt2-clause-parsed
primary::primary-returns-then-limit-lt2-clause-parsed t c =
    parenthesis_full c.args.names.now c.args.limit c.args.tokens.now c.args.from c.refuse.result c.requires.within c.if-limit-lt2.true
    (c.is_punctuator.ensures.punctuator.0 c.if-is_punctuator.true) c.refuse.ensures

pub primary::primary-returns-in_err-inner-clause-parsed : goal.primary::primary-returns-in_err-inner-clause-parsed
primary::primary-returns-in_err-inner-clause-parsed t c =
    let e : c.from_residual.result ≡ Err c.in_err-inner.field-0.0 = search rules in
    subst (Answers c.args.names.now PRIMARY c.args.limit c.args.tokens.now c.args.from) (sym e)
    (enclosed_stops c.args.names.now c.args.limit c.args.tokens.now c.args.from c.if-limit-lt2.false
    (c.is_punctuator.ensures.punctuator.0 c.if-is_punctuator.true) c.in_err-inner.field-0.0 c.in_err-inner.ensures.parsed)

pub primary::primary-returns-then-not-is_punctuator-clause-parsed : goal.primary::primary-returns-then-not-is_punctuator-clause-parsed
primary::primary-returns-then-not-is_punctuator-clause-parsed t c =
    enclosed_unclosed c.args.names.now c.args.limit c.args.tokens.now c.args.from c.in_ok-inner.inner c.refuse_after.result c.if-limit-lt2.false
    (c.is_punctuator.ensures.punctuator.0 c.if-is_punctuator.true) c.in_ok-inner.ensures.parsed
    (λ k. false≢true (sym c.if-not-is_punctuator.true ∙ c.is_punctuator-then-is_punctuator.ensures.punctuator.1 k)) c.refuse_after.ensures

pub primary::primary-returns-then-is_punctuator-clause-parsed : goal.primary::primary-returns-then-is_punctuator-clause-parsed
primary::primary-returns-then-is_punctuator-clause-parsed t c =
    enclosed_taken c.args.names.now c.args.limit c.args.tokens.now c.args.from c.in_ok-inner.inner c.in_ok-enclosed.field-0 c.if-limit-lt2.false
    (c.is_punctuator.ensures.punctuator.0 c.if-is_punctuator.true) c.in_ok-inner.ensures.parsed
    (c.is_punctuator-then-is_punctuator.ensures.punctuator.0 c.if-not-is_punctuator.false) c.in_ok-enclosed.ensures.node

pub primary::primary-returns-in_default-clause-parsed : goal.primary::primary-returns-in_default-clause-parsed
primary::primary-returns-in_default-clause-parsed t c =
    primary_none c.args.names.now c.args.limit c.args.tokens.now c.args.from c.refuse-in_default.result c.requires.within
    (λ k. false≢true (sym c.if-is_punctuator.false ∙ c.is_punctuator.ensures.punctuator.1 k))
    (subst (IsLeafOf c.args.names.now (kind_or_end c.args.tokens.now c.args.from)) c.in_default.is c.in_ok-tree.ensures.leaf) c.refuse-in_default.ensures

pub primary::primary-returns-then-limit-eq0-clause-parsed : goal.primary::primary-returns-then-limit-eq0-clause-parsed
primary::primary-returns-then-limit-eq0-clause-parsed t c =
    leaf_full c.args.names.now c.args.limit c.args.tokens.now c.args.from c.in-Some.tree c.refuse-then-limit-eq0.result c.requires.within c.if-limit-eq0.true
    (λ k. false≢true (sym c.if-is_punctuator.false ∙ c.is_punctuator.ensures.punctuator.1 k))
    (subst (IsLeafOf c.args.names.now (kind_or_end c.args.tokens.now c.args.from)) c.in-Some.is c.in_ok-tree.ensures.leaf) c.refuse-then-limit-eq0.ensures

pub primary::primary-returns-clause-parsed : goal.primary::primary-returns-clause-parsed
primary::primary-returns-clause-parsed t c =
    leaf_taken c.args.names.now c.args.limit c.args.tokens.now c.args.from _ (let some = c.if-limit-eq0.false in
    omega arith) (subst (IsLeafOf c.args.names.now (kind_or_end c.args.tokens.now c.args.from)) c.in-Some.is c.in_ok-tree.ensures.leaf) refl refl refl

pub types::parenthesised_type-returns-in_err-words-clause-parsed : goal.types::parenthesised_type-returns-in_err-words-clause-parsed
types::parenthesised_type-returns-in_err-words-clause-parsed t c =
    let e : c.from_residual.result ≡ Err c.in_err-words.field-0.0 = search rules in
    subst (TypeAnswers c.args.names.now c.args.limit c.args.tokens.now c.args.from) (sym e)
    (c.in_err-words.ensures.words c.args.limit)

pub types::parenthesised_type-pointer_words-requires-clause-no_const : goal.types::parenthesised_type-pointer_words-requires-clause-no_const
types::parenthesised_type-pointer_words-requires-clause-no_const t c =
    words_no_const c.args.names.now c.args.tokens.now c.args.from c.in_ok-words.words c.in_ok-words.ensures.words

pub types::parenthesised_type-returns-in_err-listed-clause-parsed : goal.types::parenthesised_type-returns-in_err-listed-clause-parsed
types::parenthesised_type-returns-in_err-listed-clause-parsed t c =
    let e : c.from_residual-in_err-listed.result ≡ Err c.in_err-listed.field-0.0 = search rules in
    subst (TypeAnswers c.args.names.now c.args.limit c.args.tokens.now c.args.from) (sym e)
    (bounds_stop c.args.names.now c.args.limit c.args.tokens.now c.args.from c.in_ok-words.words c.in_ok-pointers.pointers c.in_ok-words.ensures.words
    c.in_ok-pointers.ensures.pointers c.in_err-listed.field-0.0 c.in_err-listed.ensures.parsed)

pub types::parenthesised_type-returns-clause-parsed : goal.types::parenthesised_type-returns-clause-parsed
types::parenthesised_type-returns-clause-parsed t c =
    type_taken c.args.names.now c.args.limit c.args.tokens.now c.args.from c.in_ok-words.words c.in_ok-pointers.pointers c.in_ok-listed.listed _
    c.in_ok-words.ensures.words c.in_ok-pointers.ensures.pointers c.in_ok-listed.ensures.parsed refl refl refl

pub unary::cast-returns-then-not-opens_type-clause-parsed : goal.unary::cast-returns-then-not-opens_type-clause-parsed
unary::cast-returns-then-not-opens_type-clause-parsed t c =
    cast_none_answer c.args.names.now c.args.limit c.args.tokens.now c.args.from c.unary.result (sym c.opens_type.ensures.opens ∙ c.if-not-opens_type.true)
    c.unary.ensures.parsed

pub unary::cast-returns-then-limit-lt2-clause-parsed : goal.unary::cast-returns-then-limit-lt2-clause-parsed
unary::cast-returns-then-limit-lt2-clause-parsed t c =
    cast_full_stops c.args.names.now c.args.limit c.args.tokens.now c.args.from c.refuse.result c.requires.within c.if-limit-lt2.true
    (opens_is c.args.names.now (kind_or_end c.args.tokens.now c.args.from) (kind_or_end c.args.tokens.now (c.args.from + 1)) (sym c.opens_type.ensures.opens
    ∙ c.if-not-opens_type.false)).0 c.refuse.ensures

pub unary::cast-returns-in_err-taken-clause-parsed : goal.unary::cast-returns-in_err-taken-clause-parsed
unary::cast-returns-in_err-taken-clause-parsed t c =
    let e : c.from_residual.result ≡ Err c.in_err-taken.field-0.0 = search rules in
    subst (Answers c.args.names.now CAST c.args.limit c.args.tokens.now c.args.from) (sym e)
    (cast_type_stops c.args.names.now c.args.limit c.args.tokens.now c.args.from c.if-limit-lt2.false
    (opens_is c.args.names.now (kind_or_end c.args.tokens.now c.args.from) (kind_or_end c.args.tokens.now (c.args.from + 1)) (sym c.opens_type.ensures.opens
    ∙ c.if-not-opens_type.false)).0
    (opens_is c.args.names.now (kind_or_end c.args.tokens.now c.args.from) (kind_or_end c.args.tokens.now (c.args.from + 1)) (sym c.opens_type.ensures.opens
    ∙ c.if-not-opens_type.false)).1 c.in_err-taken.field-0.0 c.in_err-taken.ensures.parsed)

pub unary::cast-returns-then-is_brace-clause-parsed : goal.unary::cast-returns-then-is_brace-clause-parsed
unary::cast-returns-then-is_brace-clause-parsed t c =
    cast_brace_stops c.args.names.now c.args.limit c.args.tokens.now c.args.from c.in_ok-taken.taken c.refuse_in_type.result c.if-limit-lt2.false
    (opens_is c.args.names.now (kind_or_end c.args.tokens.now c.args.from) (kind_or_end c.args.tokens.now (c.args.from + 1)) (sym c.opens_type.ensures.opens
    ∙ c.if-not-opens_type.false)).0 c.in_ok-taken.ensures.parsed
    (brace_begins_none c.args.names.now (kind_or_end c.args.tokens.now c.in_ok-taken.taken.next) (sym c.is_brace.ensures ∙ c.if-is_brace.true))
    c.refuse_in_type.ensures

pub unary::cast-returns-in_err-operand-clause-parsed : goal.unary::cast-returns-in_err-operand-clause-parsed
unary::cast-returns-in_err-operand-clause-parsed t c =
    let e : c.from_residual-in_err-operand.result ≡ Err c.in_err-operand.field-0.0 = search rules in
    subst (Answers c.args.names.now CAST c.args.limit c.args.tokens.now c.args.from) (sym e)
    (cast_operand_stops c.args.names.now c.args.limit c.args.tokens.now c.args.from c.in_ok-taken.taken c.if-limit-lt2.false
    (opens_is c.args.names.now (kind_or_end c.args.tokens.now c.args.from) (kind_or_end c.args.tokens.now (c.args.from + 1)) (sym c.opens_type.ensures.opens
    ∙ c.if-not-opens_type.false)).0 c.in_ok-taken.ensures.parsed c.in_err-operand.field-0.0 c.in_err-operand.ensures.parsed)

pub unary::cast-returns-clause-parsed : goal.unary::cast-returns-clause-parsed
unary::cast-returns-clause-parsed t c =
    cast_taken c.args.names.now c.args.limit c.args.tokens.now c.args.from c.in_ok-taken.taken c.in_ok-operand.operand c.in_ok-converted.field-0
    c.if-limit-lt2.false (opens_is c.args.names.now (kind_or_end c.args.tokens.now c.args.from) (kind_or_end c.args.tokens.now (c.args.from + 1))
    (sym c.opens_type.ensures.opens ∙ c.if-not-opens_type.false)).0 c.in_ok-taken.ensures.parsed c.in_ok-operand.ensures.parsed
    c.in_ok-converted.ensures.node

pub unary::sized-returns-in_err-taken-clause-parsed : goal.unary::sized-returns-in_err-taken-clause-parsed
unary::sized-returns-in_err-taken-clause-parsed t c =
    let e : c.from_residual.result ≡ Err c.in_err-taken.field-0.0 = search rules in
    subst (Answers c.args.names.now UNARY c.args.limit c.args.tokens.now c.args.from) (sym e)
    (size_type_stops c.args.names.now c.args.limit c.args.tokens.now c.args.from c.requires.least c.requires.stands (sym c.opens_type.ensures.opens
    ∙ c.if-opens_type.true) c.in_err-taken.field-0.0 c.in_err-taken.ensures.parsed)

pub unary::sized-returns-then-opens_type-clause-parsed : goal.unary::sized-returns-then-opens_type-clause-parsed
unary::sized-returns-then-opens_type-clause-parsed t c =
    size_type_taken c.args.names.now c.args.limit c.args.tokens.now c.args.from c.in_ok-taken.taken c.in_ok-measured.field-0 c.requires.least c.requires.stands
    (sym c.opens_type.ensures.opens ∙ c.if-opens_type.true) c.in_ok-taken.ensures.parsed c.in_ok-measured.ensures.node

pub unary::sized-returns-in_err-operand-clause-parsed : goal.unary::sized-returns-in_err-operand-clause-parsed
unary::sized-returns-in_err-operand-clause-parsed t c =
    let e : c.from_residual-in_err-operand.result ≡ Err c.in_err-operand.field-0.0 = search rules in
    subst (Answers c.args.names.now UNARY c.args.limit c.args.tokens.now c.args.from) (sym e)
    (size_stops c.args.names.now c.args.limit c.args.tokens.now c.args.from c.requires.least c.requires.stands (sym c.opens_type.ensures.opens
    ∙ c.if-opens_type.false) (λ two k. false≢true (sym c.if-is_narrow.false ∙ c.is_narrow.ensures.1 (two, k))) c.in_err-operand.field-0.0
    c.in_err-operand.ensures.parsed)

pub unary::sized-returns-clause-parsed : goal.unary::sized-returns-clause-parsed
unary::sized-returns-clause-parsed t c =
    size_taken c.args.names.now c.args.limit c.args.tokens.now c.args.from c.in_ok-operand.operand c.in_ok-prefixed.field-0 c.requires.least c.requires.stands
    c.in_ok-operand.ensures.parsed c.in_ok-prefixed.ensures.node

pub unary::unary-returns-in_default-clause-parsed : goal.unary::unary-returns-in_default-clause-parsed
unary::unary-returns-in_default-clause-parsed t c =
    unary_none_answer c.args.names.now c.args.limit c.args.tokens.now c.args.from c.postfix.result c.in_default.ensures.operator c.postfix.ensures.parsed

pub unary::unary-returns-then-limit-lt2-clause-parsed : goal.unary::unary-returns-then-limit-lt2-clause-parsed
unary::unary-returns-then-limit-lt2-clause-parsed t c =
    unary_full c.args.names.now c.args.limit c.args.tokens.now c.args.from c.in-Some.before c.refuse.result c.requires.within c.if-limit-lt2.true
    c.in-Some.ensures.operator c.refuse.ensures

pub unary::unary-returns-in_err-operand-in-Step-clause-parsed : goal.unary::unary-returns-in_err-operand-in-Step-clause-parsed
unary::unary-returns-in_err-operand-in-Step-clause-parsed t c =
    let level : operand_level c.in-Some.before ≡ 14 = ap operand_level c.in-Step.is in
    let e : c.from_residual.result ≡ Err c.in_err-operand-in-Step.field-0.0 = search rules in
    subst (Answers c.args.names.now UNARY c.args.limit c.args.tokens.now c.args.from) (sym e)
    (operand_stops c.args.names.now c.args.limit c.args.tokens.now c.args.from c.in-Some.before c.if-limit-lt2.false
    (λ e. let z : before.Step c.in-Step.field-0 ≡ before.Size = sym c.in-Step.is ∙ e in cc) c.in-Some.ensures.operator
    c.in_err-operand-in-Step.field-0.0 (subst (λ (n : ℕ).
    Stops (Expressions c.args.names.now n) (c.args.limit - 1) c.args.tokens.now (c.args.from + 1) c.in_err-operand-in-Step.field-0.0) (sym level)
    c.in_err-operand-in-Step.ensures.parsed))

pub unary::unary-returns-in_err-operand-in-Operator-clause-parsed : goal.unary::unary-returns-in_err-operand-in-Operator-clause-parsed
unary::unary-returns-in_err-operand-in-Operator-clause-parsed t c =
    let level : operand_level c.in-Some.before ≡ 13 = ap operand_level c.in-Operator.is in
    let e : c.from_residual-in_err-operand-in-Operator.result ≡ Err c.in_err-operand-in-Operator.field-0.0 = search rules in
    subst (Answers c.args.names.now UNARY c.args.limit c.args.tokens.now c.args.from) (sym e)
    (operand_stops c.args.names.now c.args.limit c.args.tokens.now c.args.from c.in-Some.before c.if-limit-lt2.false
    (λ e. let z : before.Operator c.in-Operator.field-0 ≡ before.Size = sym c.in-Operator.is ∙ e in cc) c.in-Some.ensures.operator
    c.in_err-operand-in-Operator.field-0.0 (subst (λ (n : ℕ).
    Stops (Expressions c.args.names.now n) (c.args.limit - 1) c.args.tokens.now (c.args.from + 1) c.in_err-operand-in-Operator.field-0.0) (sym level)
    c.in_err-operand-in-Operator.ensures.parsed))

pub unary::unary-returns-in_ok-prefixed-in-Step-clause-parsed : goal.unary::unary-returns-in_ok-prefixed-in-Step-clause-parsed
unary::unary-returns-in_ok-prefixed-in-Step-clause-parsed t c =
    let level : operand_level c.in-Some.before ≡ 14 = ap operand_level c.in-Step.is in
    operand_taken c.args.names.now c.args.limit c.args.tokens.now c.args.from c.in-Some.before c.in_ok-operand-in-Step.operand c.in_ok-prefixed-in-Step.field-0
    c.if-limit-lt2.false (λ e. let z : before.Step c.in-Step.field-0 ≡ before.Size = sym c.in-Step.is ∙ e in cc) c.in-Some.ensures.operator
    (subst (λ (n : ℕ). IsTakenFrom c.args.names.now n (c.args.limit - 1) c.args.tokens.now (c.args.from + 1) c.in_ok-operand-in-Step.operand) (sym level)
    c.in_ok-operand-in-Step.ensures.parsed) c.in_ok-prefixed-in-Step.ensures.node

pub unary::unary-returns-in_ok-prefixed-in-Operator-clause-parsed : goal.unary::unary-returns-in_ok-prefixed-in-Operator-clause-parsed
unary::unary-returns-in_ok-prefixed-in-Operator-clause-parsed t c =
    let level : operand_level c.in-Some.before ≡ 13 = ap operand_level c.in-Operator.is in
    operand_taken c.args.names.now c.args.limit c.args.tokens.now c.args.from c.in-Some.before c.in_ok-operand-in-Operator.operand
    c.in_ok-prefixed-in-Operator.field-0 c.if-limit-lt2.false (λ e.
    let z : before.Operator c.in-Operator.field-0 ≡ before.Size = sym c.in-Operator.is ∙ e in
    cc) c.in-Some.ensures.operator
    (subst (λ (n : ℕ). IsTakenFrom c.args.names.now n (c.args.limit - 1) c.args.tokens.now (c.args.from + 1) c.in_ok-operand-in-Operator.operand)
    (sym level) c.in_ok-operand-in-Operator.ensures.parsed) c.in_ok-prefixed-in-Operator.ensures.node

pub unary::sized-returns-then-is_narrow-clause-parsed : goal.unary::sized-returns-then-is_narrow-clause-parsed
unary::sized-returns-then-is_narrow-clause-parsed t c =
    let n = c.is_narrow.ensures.0 c.if-is_narrow.true in
    size_full_answer c.args.names.now c.args.limit c.args.tokens.now c.args.from c.comma.result n.0 c.requires.stands n.1 (sym c.opens_type.ensures.opens
    ∙ c.if-opens_type.false) c.comma.ensures.bounds c.comma.ensures.parsed

pub infix::infix-returns-in_err-left-clause-reported : goal.infix::infix-returns-in_err-left-clause-reported
infix::infix-returns-in_err-left-clause-reported t c =
    let e : c.from_residual.result ≡ Err c.in_err-left.field-0.0 = search rules in
    subst (IsStopReported c.args.names.now c.args.tokens.now c.args.from) (sym e)
    (c.in_err-left.ensures.reported)

pub infix::infix-returns-in_err-right-clause-reported : goal.infix::infix-returns-in_err-right-clause-reported
infix::infix-returns-in_err-right-clause-reported t c =
    let e : c.from_residual-in_err-right.result ≡ Err c.in_err-right.field-0.0 = search rules in
    subst (IsStopReported c.args.names.now c.args.tokens.now c.args.from) (sym e)
    (reported_in_chain c.args.names.now c.args.level c.args.limit c.args.tokens.now c.args.from c.chain.left (infix_punctuator c.in-Some.operator)
    c.chain.invariant.chain c.in-Some.ensures.operator.0 (resets_infix c.args.names.now c.in-Some.operator) c.in_err-right.field-0.0
    c.in_err-right.ensures.reported)

pub lists::arguments-returns-in_err-last-clause-reported : goal.lists::arguments-returns-in_err-last-clause-reported
lists::arguments-returns-in_err-last-clause-reported t c =
    let e : c.from_residual.result ≡ Err c.in_err-last.field-0.0 = search rules in
    subst (IsStopReported c.args.names.now c.args.tokens.now c.args.from) (sym e)
    (c.in_err-last.ensures.reported)

pub lists::arguments-returns-in_err-another-clause-reported : goal.lists::arguments-returns-in_err-another-clause-reported
lists::arguments-returns-in_err-another-clause-reported t c =
    let e : c.from_residual-in_err-another.result ≡ Err c.in_err-another.field-0.0 = search rules in
    subst (IsStopReported c.args.names.now c.args.tokens.now c.args.from) (sym e)
    (reported_argument c.args.names.now c.args.limit c.args.tokens.now c.args.from (written_list c.row.trees.items) c.row.height c.row.last
    c.row.invariant.so_far (c.is_punctuator-in-row.ensures.punctuator.0 c.row-test.true) c.in_err-another.field-0.0 c.in_err-another.ensures.reported)

pub lists::arguments-returns-then-not-is_punctuator-clause-reported : goal.lists::arguments-returns-then-not-is_punctuator-clause-reported
lists::arguments-returns-then-not-is_punctuator-clause-reported t c =
    reported_after_argument c.args.names.now c.args.limit c.args.tokens.now c.args.from (written_list c.row.trees.items) c.row.height c.row.last
    c.refuse_after.result c.row.invariant.so_far c.refuse_after.ensures

pub lists::bounds-returns-in_err-bound-clause-reported : goal.lists::bounds-returns-in_err-bound-clause-reported
lists::bounds-returns-in_err-bound-clause-reported t c =
    λ before yields.
    let e : c.from_residual.result ≡ Err c.in_err-bound.field-0.0 = search rules in
    subst (IsStopReportedAfter c.args.names.now before c.args.tokens.now c.args.from) (sym e)
    (reported_bound c.args.names.now c.args.limit c.args.tokens.now c.args.from c.row.next (written_list c.row.trees.items) c.row.height before
    c.row.invariant.so_far (c.is_punctuator.ensures.punctuator.0 c.row-test.true) c.in_err-bound.field-0.0 c.in_err-bound.ensures.reported)

pub lists::bounds-returns-then-not-is_punctuator-clause-reported : goal.lists::bounds-returns-then-not-is_punctuator-clause-reported
lists::bounds-returns-then-not-is_punctuator-clause-reported t c =
    λ before yields.
    reported_bound c.args.names.now c.args.limit c.args.tokens.now c.args.from c.row.next (written_list c.row.trees.items) c.row.height before
    c.row.invariant.so_far (c.is_punctuator.ensures.punctuator.0 c.row-test.true) c.refuse_after.result
    (reported_after c.args.names.now 2 c.args.limit c.args.tokens.now (c.row.next + 1) c.in_ok-bound.bound c.refuse_after.result
    c.in_ok-bound.ensures.parsed c.refuse_after.ensures)

pub lists::bounds-returns-then-not-is_punctuator-2-clause-reported : goal.lists::bounds-returns-then-not-is_punctuator-2-clause-reported
lists::bounds-returns-then-not-is_punctuator-2-clause-reported t c =
    λ before yields.
    reported_after_bounds c.args.names.now c.args.limit c.args.tokens.now c.args.from c.row.next c.row.trees.items c.row.height before c.args.after_tag
    c.refuse_in_type.result c.row.invariant.so_far yields
    (c.refuse_in_type.ensures ∙ ap (λ (b : Bool). stop.Refused c.row.next (plain_reason (kind_or_end c.args.tokens.now c.row.next) b))
    (c.is_last_word.ensures ∙ ap (is_last_tag c.args.after_tag) c.deref.ensures.value))

pub loose::assign-returns-in_err-object-clause-reported : goal.loose::assign-returns-in_err-object-clause-reported
loose::assign-returns-in_err-object-clause-reported t c =
    let e : c.from_residual.result ≡ Err c.in_err-object.field-0.0 = search rules in
    subst (IsStopReported c.args.names.now c.args.tokens.now c.args.from) (sym e)
    (c.in_err-object.ensures.reported)

pub loose::assign-returns-in_err-value-clause-reported : goal.loose::assign-returns-in_err-value-clause-reported
loose::assign-returns-in_err-value-clause-reported t c =
    let e : c.from_residual-in_err-value.result ≡ Err c.in_err-value.field-0.0 = search rules in
    subst (IsStopReported c.args.names.now c.args.tokens.now c.args.from) (sym e)
    (reported_in_operand c.args.names.now 2 c.args.limit c.args.tokens.now c.args.from c.in_ok-object.object (assign_punctuator c.in-Some.operator)
    c.in_ok-object.ensures.parsed c.in-Some.ensures.operator (resets_assign c.args.names.now c.in-Some.operator) c.in_err-value.field-0.0
    c.in_err-value.ensures.reported)

pub loose::choice-returns-in_err-test-clause-reported : goal.loose::choice-returns-in_err-test-clause-reported
loose::choice-returns-in_err-test-clause-reported t c =
    let e : c.from_residual.result ≡ Err c.in_err-test.field-0.0 = search rules in
    subst (IsStopReported c.args.names.now c.args.tokens.now c.args.from) (sym e)
    (c.in_err-test.ensures.reported)

pub loose::choice-returns-in_err-one-clause-reported : goal.loose::choice-returns-in_err-one-clause-reported
loose::choice-returns-in_err-one-clause-reported t c =
    let e : c.from_residual-in_err-one.result ≡ Err c.in_err-one.field-0.0 = search rules in
    subst (IsStopReported c.args.names.now c.args.tokens.now c.args.from) (sym e)
    (reported_in_operand c.args.names.now 3 c.args.limit c.args.tokens.now c.args.from c.in_ok-test.test punctuator.Question c.in_ok-test.ensures.parsed
    (c.is_punctuator.ensures.punctuator.0 c.if-not-is_punctuator.false) (resets_question c.args.names.now) c.in_err-one.field-0.0
    c.in_err-one.ensures.reported)

pub loose::choice-returns-then-not-is_punctuator-2-clause-reported : goal.loose::choice-returns-then-not-is_punctuator-2-clause-reported
loose::choice-returns-then-not-is_punctuator-2-clause-reported t c =
    reported_in_operand c.args.names.now 3 c.args.limit c.args.tokens.now c.args.from c.in_ok-test.test punctuator.Question c.in_ok-test.ensures.parsed
    (c.is_punctuator.ensures.punctuator.0 c.if-not-is_punctuator.false) (resets_question c.args.names.now) c.refuse_after.result
    (reported_after c.args.names.now 0 (c.args.limit - 1) c.args.tokens.now (c.in_ok-test.test.next + 1) c.in_ok-one.one c.refuse_after.result
    c.in_ok-one.ensures.parsed c.refuse_after.ensures)

pub loose::choice-returns-in_err-other-clause-reported : goal.loose::choice-returns-in_err-other-clause-reported
loose::choice-returns-in_err-other-clause-reported t c =
    let e : c.from_residual-in_err-other.result ≡ Err c.in_err-other.field-0.0 = search rules in
    subst (IsStopReported c.args.names.now c.args.tokens.now c.args.from) (sym e)
    (reported_other c.args.names.now c.args.limit c.args.tokens.now c.args.from c.in_ok-test.test c.in_ok-one.one c.in_ok-test.ensures.parsed
    (c.is_punctuator.ensures.punctuator.0 c.if-not-is_punctuator.false) c.in_ok-one.ensures.parsed
    (c.is_punctuator-2.ensures.punctuator.0 c.if-not-is_punctuator-2.false) c.in_err-other.field-0.0 c.in_err-other.ensures.reported)

pub loose::comma-returns-in_err-first-clause-reported : goal.loose::comma-returns-in_err-first-clause-reported
loose::comma-returns-in_err-first-clause-reported t c =
    let e : c.from_residual.result ≡ Err c.in_err-first.field-0.0 = search rules in
    subst (IsStopReported c.args.names.now c.args.tokens.now c.args.from) (sym e)
    (c.in_err-first.ensures.reported)

pub loose::comma-returns-in_err-second-clause-reported : goal.loose::comma-returns-in_err-second-clause-reported
loose::comma-returns-in_err-second-clause-reported t c =
    let e : c.from_residual-in_err-second.result ≡ Err c.in_err-second.field-0.0 = search rules in
    subst (IsStopReported c.args.names.now c.args.tokens.now c.args.from) (sym e)
    (reported_in_chain c.args.names.now 0 c.args.limit c.args.tokens.now c.args.from c.chain.first punctuator.Comma c.chain.invariant.chain
    (c.is_punctuator.ensures.punctuator.0 c.chain-test.true) (resets_comma c.args.names.now) c.in_err-second.field-0.0 c.in_err-second.ensures.reported)

pub postfix::postfix-returns-in_err-left-clause-reported : goal.postfix::postfix-returns-in_err-left-clause-reported
postfix::postfix-returns-in_err-left-clause-reported t c =
    let e : c.from_residual.result ≡ Err c.in_err-left.field-0.0 = search rules in
    subst (IsStopReported c.args.names.now c.args.tokens.now c.args.from) (sym e)
    (c.in_err-left.ensures.reported)

pub postfix::postfix-returns-in_err-left-2-clause-reported : goal.postfix::postfix-returns-in_err-left-2-clause-reported
postfix::postfix-returns-in_err-left-2-clause-reported t c =
    let e : c.from_residual-in_err-left-2.result ≡ Err c.in_err-left-2.field-0.0 = search rules in
    subst (IsStopReported c.args.names.now c.args.tokens.now c.args.from) (sym e)
    (c.in_err-left-2.ensures.reported c.args.from c.chain.invariant.chain)

pub postfix::suffixed-returns-in_err-number-in-OpenBracket-clause-reported : goal.postfix::suffixed-returns-in_err-number-in-OpenBracket-clause-reported
postfix::suffixed-returns-in_err-number-in-OpenBracket-clause-reported t c =
    λ from chain.
    let e : c.from_residual.result ≡ Err c.in_err-number-in-OpenBracket.field-0.0 = search rules in
    subst (IsStopReported c.args.names.now c.args.tokens.now from) (sym e)
    (reported_in_chain c.args.names.now 15 c.args.limit c.args.tokens.now from c.args.left punctuator.OpenBracket chain (c.requires.stands.0
    ∙ ap token.Punctuator c.in-OpenBracket.is) (resets_bracket c.args.names.now) c.in_err-number-in-OpenBracket.field-0.0
    c.in_err-number-in-OpenBracket.ensures.reported)

pub postfix::suffixed-returns-then-not-is_punctuator-clause-reported : goal.postfix::suffixed-returns-then-not-is_punctuator-clause-reported
postfix::suffixed-returns-then-not-is_punctuator-clause-reported t c =
    λ from chain.
    reported_in_chain c.args.names.now 15 c.args.limit c.args.tokens.now from c.args.left punctuator.OpenBracket chain (c.requires.stands.0
    ∙ ap token.Punctuator c.in-OpenBracket.is) (resets_bracket c.args.names.now) c.refuse_after.result
    (reported_after c.args.names.now 0 (c.args.limit - 1) c.args.tokens.now (c.args.left.next + 1) c.in_ok-number-in-OpenBracket.number
    c.refuse_after.result c.in_ok-number-in-OpenBracket.ensures.parsed c.refuse_after.ensures)

pub postfix::suffixed-returns-in_err-listed-in-OpenParenthesis-clause-reported : goal.postfix::suffixed-returns-in_err-listed-in-OpenParenthesis-clause-reported
postfix::suffixed-returns-in_err-listed-in-OpenParenthesis-clause-reported t c =
    λ from chain.
    let e : c.from_residual-in_err-listed-in-OpenParenthesis.result ≡ Err c.in_err-listed-in-OpenParenthesis.field-0.0 = search rules in
    subst (IsStopReported c.args.names.now c.args.tokens.now from) (sym e)
    (reported_in_chain c.args.names.now 15 c.args.limit c.args.tokens.now from c.args.left punctuator.OpenParenthesis chain (c.requires.stands.0
    ∙ ap token.Punctuator c.in-OpenParenthesis.is) (resets_parenthesis c.args.names.now) c.in_err-listed-in-OpenParenthesis.field-0.0
    c.in_err-listed-in-OpenParenthesis.ensures.reported)

pub postfix::suffixed-returns-in-Dot-clause-reported : goal.postfix::suffixed-returns-in-Dot-clause-reported
postfix::suffixed-returns-in-Dot-clause-reported t c =
    λ from chain.
    reported_member c.args.names.now c.args.limit c.args.tokens.now from c.args.left false c.selected.result chain (c.requires.stands.0
    ∙ ap token.Punctuator c.in-Dot.is) c.requires.within c.selected.ensures.node

pub postfix::suffixed-returns-in-Arrow-clause-reported : goal.postfix::suffixed-returns-in-Arrow-clause-reported
postfix::suffixed-returns-in-Arrow-clause-reported t c =
    λ from chain.
    reported_member c.args.names.now c.args.limit c.args.tokens.now from c.args.left true c.selected-in-Arrow.result chain (c.requires.stands.0
    ∙ ap token.Punctuator c.in-Arrow.is) c.requires.within c.selected-in-Arrow.ensures.node

pub primary::primary-returns-then-limit-lt2-clause-reported : goal.primary::primary-returns-then-limit-lt2-clause-reported
primary::primary-returns-then-limit-lt2-clause-reported t c =
    reported_first c.args.names.now c.args.tokens.now c.args.from true c.refuse.result c.requires.within c.refuse.ensures

pub primary::primary-returns-in_err-inner-clause-reported : goal.primary::primary-returns-in_err-inner-clause-reported
primary::primary-returns-in_err-inner-clause-reported t c =
    let e : c.from_residual.result ≡ Err c.in_err-inner.field-0.0 = search rules in
    subst (IsStopReported c.args.names.now c.args.tokens.now c.args.from) (sym e)
    (reported_in_parenthesis c.args.names.now c.args.tokens.now c.args.from (c.is_punctuator.ensures.punctuator.0 c.if-is_punctuator.true)
    c.in_err-inner.field-0.0 c.in_err-inner.ensures.reported)

pub primary::primary-returns-then-not-is_punctuator-clause-reported : goal.primary::primary-returns-then-not-is_punctuator-clause-reported
primary::primary-returns-then-not-is_punctuator-clause-reported t c =
    reported_in_parenthesis c.args.names.now c.args.tokens.now c.args.from (c.is_punctuator.ensures.punctuator.0 c.if-is_punctuator.true) c.refuse_after.result
    (reported_after c.args.names.now 0 (c.args.limit - 1) c.args.tokens.now (c.args.from + 1) c.in_ok-inner.inner c.refuse_after.result
    c.in_ok-inner.ensures.parsed c.refuse_after.ensures)

pub primary::primary-returns-in_default-clause-reported : goal.primary::primary-returns-in_default-clause-reported
primary::primary-returns-in_default-clause-reported t c =
    reported_first c.args.names.now c.args.tokens.now c.args.from false c.refuse-in_default.result c.requires.within c.refuse-in_default.ensures

pub primary::primary-returns-then-limit-eq0-clause-reported : goal.primary::primary-returns-then-limit-eq0-clause-reported
primary::primary-returns-then-limit-eq0-clause-reported t c =
    reported_first c.args.names.now c.args.tokens.now c.args.from true c.refuse-then-limit-eq0.result c.requires.within c.refuse-then-limit-eq0.ensures

pub types::parenthesised_type-returns-in_err-words-clause-reported : goal.types::parenthesised_type-returns-in_err-words-clause-reported
types::parenthesised_type-returns-in_err-words-clause-reported t c =
    let e : c.from_residual.result ≡ Err c.in_err-words.field-0.0 = search rules in
    subst (IsStopReported c.args.names.now c.args.tokens.now c.args.from) (sym e)
    (c.in_err-words.ensures.reported)

pub types::parenthesised_type-returns-in_err-pointers-clause-reported : goal.types::parenthesised_type-returns-in_err-pointers-clause-reported
types::parenthesised_type-returns-in_err-pointers-clause-reported t c =
    let e : c.from_residual-in_err-pointers.result ≡ Err c.in_err-pointers.field-0.0 = search rules in
    subst (IsStopReported c.args.names.now c.args.tokens.now c.args.from) (sym e)
    (reported_pointers c.args.names.now c.args.tokens.now c.args.from c.in_ok-words.words.next c.in_err-pointers.field-0.0 c.in_err-pointers.ensures.pointers)

pub types::parenthesised_type-returns-in_err-listed-clause-reported : goal.types::parenthesised_type-returns-in_err-listed-clause-reported
types::parenthesised_type-returns-in_err-listed-clause-reported t c =
    let e : c.from_residual-in_err-listed.result ≡ Err c.in_err-listed.field-0.0 = search rules in
    subst (IsStopReported c.args.names.now c.args.tokens.now c.args.from) (sym e)
    (reported_bounds c.args.names.now c.args.tokens.now c.args.from c.in_ok-words.words c.in_ok-pointers.pointers c.in_ok-words.ensures.words
    c.in_ok-pointers.ensures.pointers c.in_err-listed.field-0.0
    (c.in_err-listed.ensures.reported (words_text c.in_ok-words.words.words.items (pointers_text c.in_ok-pointers.pointers.words.items []))
    (subst (YieldsAfter c.args.names.now (words_text c.in_ok-words.words.words.items (pointers_text c.in_ok-pointers.pointers.words.items [])))
    (sym (c.is_last_word-after_tag.ensures ∙ ap (is_last_tag c.in_ok-words.words.tagged) c.deref.ensures.value))
    (type_yields c.args.names.now c.in_ok-words.words.words.items c.in_ok-pointers.pointers.words.items c.in_ok-words.words.tagged
    c.in_ok-words.ensures.words.tagged))))

pub unary::cast-returns-then-not-opens_type-clause-reported : goal.unary::cast-returns-then-not-opens_type-clause-reported
unary::cast-returns-then-not-opens_type-clause-reported t c =
    c.unary.ensures.reported

pub unary::cast-returns-then-limit-lt2-clause-reported : goal.unary::cast-returns-then-limit-lt2-clause-reported
unary::cast-returns-then-limit-lt2-clause-reported t c =
    reported_first c.args.names.now c.args.tokens.now c.args.from true c.refuse.result c.requires.within c.refuse.ensures

pub unary::cast-returns-in_err-taken-clause-reported : goal.unary::cast-returns-in_err-taken-clause-reported
unary::cast-returns-in_err-taken-clause-reported t c =
    let e : c.from_residual.result ≡ Err c.in_err-taken.field-0.0 = search rules in
    subst (IsStopReported c.args.names.now c.args.tokens.now c.args.from) (sym e)
    (reported_in_parenthesis c.args.names.now c.args.tokens.now c.args.from
    (opens_is c.args.names.now (kind_or_end c.args.tokens.now c.args.from) (kind_or_end c.args.tokens.now (c.args.from + 1)) (sym c.opens_type.ensures.opens
    ∙ c.if-not-opens_type.false)).0 c.in_err-taken.field-0.0 c.in_err-taken.ensures.reported)

pub unary::cast-returns-then-is_brace-clause-reported : goal.unary::cast-returns-then-is_brace-clause-reported
unary::cast-returns-then-is_brace-clause-reported t c =
    reported_brace c.args.names.now (c.args.limit - 1) c.args.tokens.now c.args.from c.in_ok-taken.taken c.refuse_in_type.result
    (opens_is c.args.names.now (kind_or_end c.args.tokens.now c.args.from) (kind_or_end c.args.tokens.now (c.args.from + 1)) (sym c.opens_type.ensures.opens
    ∙ c.if-not-opens_type.false)).0 c.in_ok-taken.ensures.parsed c.refuse_in_type.ensures

pub unary::cast-returns-in_err-operand-clause-reported : goal.unary::cast-returns-in_err-operand-clause-reported
unary::cast-returns-in_err-operand-clause-reported t c =
    let e : c.from_residual-in_err-operand.result ≡ Err c.in_err-operand.field-0.0 = search rules in
    subst (IsStopReported c.args.names.now c.args.tokens.now c.args.from) (sym e)
    (reported_in_cast c.args.names.now (c.args.limit - 1) c.args.tokens.now c.args.from c.in_ok-taken.taken
    (opens_is c.args.names.now (kind_or_end c.args.tokens.now c.args.from) (kind_or_end c.args.tokens.now (c.args.from + 1)) (sym c.opens_type.ensures.opens
    ∙ c.if-not-opens_type.false)).0 c.in_ok-taken.ensures.parsed (sym c.is_brace.ensures ∙ c.if-is_brace.false) c.in_err-operand.field-0.0
    c.in_err-operand.ensures.reported)

pub unary::sized-returns-in_err-taken-clause-reported : goal.unary::sized-returns-in_err-taken-clause-reported
unary::sized-returns-in_err-taken-clause-reported t c =
    let e : c.from_residual.result ≡ Err c.in_err-taken.field-0.0 = search rules in
    subst (IsStopReported c.args.names.now c.args.tokens.now c.args.from) (sym e)
    (reported_in_size c.args.names.now c.args.tokens.now c.args.from c.requires.stands
    (opens_is c.args.names.now (kind_or_end c.args.tokens.now (c.args.from + 1)) (kind_or_end c.args.tokens.now (c.args.from + 1 + 1))
    (sym c.opens_type.ensures.opens ∙ c.if-opens_type.true)).0 c.in_err-taken.field-0.0 c.in_err-taken.ensures.reported)

pub unary::sized-returns-then-is_narrow-clause-reported : goal.unary::sized-returns-then-is_narrow-clause-reported
unary::sized-returns-then-is_narrow-clause-reported t c =
    let n = c.is_narrow.ensures.0 c.if-is_narrow.true in
    reported_size_answer c.args.names.now c.args.tokens.now c.args.from c.comma.result c.requires.stands n.1 c.comma.ensures.reported

pub unary::sized-returns-in_err-operand-clause-reported : goal.unary::sized-returns-in_err-operand-clause-reported
unary::sized-returns-in_err-operand-clause-reported t c =
    let e : c.from_residual-in_err-operand.result ≡ Err c.in_err-operand.field-0.0 = search rules in
    subst (IsStopReported c.args.names.now c.args.tokens.now c.args.from) (sym e)
    (reported_before c.args.names.now c.args.tokens.now c.args.from before.Size c.requires.stands c.in_err-operand.field-0.0 c.in_err-operand.ensures.reported)

pub unary::unary-returns-in_default-clause-reported : goal.unary::unary-returns-in_default-clause-reported
unary::unary-returns-in_default-clause-reported t c =
    c.postfix.ensures.reported

pub unary::unary-returns-then-limit-lt2-clause-reported : goal.unary::unary-returns-then-limit-lt2-clause-reported
unary::unary-returns-then-limit-lt2-clause-reported t c =
    reported_first c.args.names.now c.args.tokens.now c.args.from true c.refuse.result c.requires.within c.refuse.ensures

pub unary::unary-returns-in_err-operand-in-Step-clause-reported : goal.unary::unary-returns-in_err-operand-in-Step-clause-reported
unary::unary-returns-in_err-operand-in-Step-clause-reported t c =
    let e : c.from_residual.result ≡ Err c.in_err-operand-in-Step.field-0.0 = search rules in
    subst (IsStopReported c.args.names.now c.args.tokens.now c.args.from) (sym e)
    (reported_before c.args.names.now c.args.tokens.now c.args.from c.in-Some.before c.in-Some.ensures.operator c.in_err-operand-in-Step.field-0.0
    c.in_err-operand-in-Step.ensures.reported)

pub unary::unary-returns-in_err-operand-in-Operator-clause-reported : goal.unary::unary-returns-in_err-operand-in-Operator-clause-reported
unary::unary-returns-in_err-operand-in-Operator-clause-reported t c =
    let e : c.from_residual-in_err-operand-in-Operator.result ≡ Err c.in_err-operand-in-Operator.field-0.0 = search rules in
    subst (IsStopReported c.args.names.now c.args.tokens.now c.args.from) (sym e)
    (reported_before c.args.names.now c.args.tokens.now c.args.from c.in-Some.before c.in-Some.ensures.operator c.in_err-operand-in-Operator.field-0.0
    c.in_err-operand-in-Operator.ensures.reported)

pub infix::infix-returns-then-left-limit-clause-placed : goal.infix::infix-returns-then-left-limit-clause-placed
infix::infix-returns-then-left-limit-clause-placed t c =
    same_placed c.args.tokens.now c.args.from c.chain.left.tree c.deepened.result.tree c.deepened.ensures.same c.chain.invariant.placed

pub loose::comma-returns-then-first-limit-clause-placed : goal.loose::comma-returns-then-first-limit-clause-placed
loose::comma-returns-then-first-limit-clause-placed t c =
    same_placed c.args.tokens.now c.args.from c.chain.first.tree c.deepened.result.tree c.deepened.ensures.same c.chain.invariant.placed

pub postfix::postfix-returns-then-left-limit-clause-placed : goal.postfix::postfix-returns-then-left-limit-clause-placed
postfix::postfix-returns-then-left-limit-clause-placed t c =
    same_placed c.args.tokens.now c.args.from c.chain.left.tree c.deepened.result.tree c.deepened.ensures.same c.chain.invariant.placed

pub postfix::postfix-chain-preserved : goal.postfix::postfix-chain-preserved
postfix::postfix-chain-preserved t c =
    let b = c.in_ok-left-2.ensures.bounds in
    let i = c.chain.invariant in
    record {
      onward = omega arith;
      inside = b.1;
      some = b.2;
      low = b.3;
      chain = c.in_ok-left-2.ensures.chained c.args.from i.chain;
      placed = c.in_ok-left-2.ensures.placed c.args.from i.chain i.placed;
    }

pub loose::assign-returns-then-object-limit-clause-placed : goal.loose::assign-returns-then-object-limit-clause-placed
loose::assign-returns-then-object-limit-clause-placed t c =
    same_placed c.args.tokens.now c.args.from c.in_ok-object.object.tree c.deepened.result.tree c.deepened.ensures.same c.in_ok-object.ensures.placed

pub loose::assign-returns-clause-placed : goal.loose::assign-returns-clause-placed
loose::assign-returns-clause-placed t c =
    c.in_ok-stored.ensures.placed c.args.from c.in_ok-object.ensures.placed
    (taken_ends c.args.names.now 2 c.args.limit c.args.tokens.now c.args.from c.in_ok-object.object c.in_ok-object.ensures.parsed)
    c.in_ok-value.ensures.placed

pub loose::choice-returns-then-test-limit-clause-placed : goal.loose::choice-returns-then-test-limit-clause-placed
loose::choice-returns-then-test-limit-clause-placed t c =
    same_placed c.args.tokens.now c.args.from c.in_ok-test.test.tree c.deepened.result.tree c.deepened.ensures.same c.in_ok-test.ensures.placed

pub loose::choice-returns-clause-placed : goal.loose::choice-returns-clause-placed
loose::choice-returns-clause-placed t c =
    c.in_ok-chosen.ensures.placed c.args.from c.in_ok-test.ensures.placed
    (taken_ends c.args.names.now 3 c.args.limit c.args.tokens.now c.args.from c.in_ok-test.test c.in_ok-test.ensures.parsed) c.in_ok-one.ensures.placed
    (taken_ends c.args.names.now 0 (c.args.limit - 1) c.args.tokens.now (c.in_ok-test.test.next + 1) c.in_ok-one.one c.in_ok-one.ensures.parsed)
    c.in_ok-other.ensures.placed

pub lists::arguments-row-init : goal.lists::arguments-row-init
lists::arguments-row-init t c =
    let b = c.in_ok-last.ensures.bounds in
    let empty = c.new-trees.ensures.items in
    record {
      onward = b.0;
      inside = b.1;
      low = b.3;
      so_far =
          subst (λ (x : List RawExpr).
          ArgumentsSoFar c.args.names.now c.args.limit c.args.tokens.now c.args.from (written_list x) c.in_ok-last.last.height c.in_ok-last.last)
          (sym empty)
          (first_argument c.args.names.now c.args.limit c.args.tokens.now c.args.from c.in_ok-last.last c.requires.within c.in_ok-last.ensures.parsed);
      placed =
          subst (λ (x : List RawExpr). ArgumentsPlaced c.args.tokens.now c.args.from x c.in_ok-last.last) (sym empty)
          (first_argument_placed c.args.names.now c.args.limit c.args.tokens.now c.args.from c.in_ok-last.last c.in_ok-last.ensures.parsed
          c.in_ok-last.ensures.placed);
    }

pub lists::arguments-returns-then-is_punctuator-clause-placed : goal.lists::arguments-returns-then-is_punctuator-clause-placed
lists::arguments-returns-then-is_punctuator-clause-placed t c =
    subst (λ (x : List RawExpr). AreInRow x (drop c.args.from c.args.tokens.now)) (sym c.new-trees.ensures.items) tt

pub lists::arguments-returns-clause-placed : goal.lists::arguments-returns-clause-placed
lists::arguments-returns-clause-placed t c =
    arguments_placed c.args.tokens.now c.args.from c.row.trees.items c.push-2.new.self.items c.row.last c.row.invariant.placed c.in_ok-push-2.ensures.items

pub lists::bounds-row-init : goal.lists::bounds-row-init
lists::bounds-row-init t c =
    let empty = c.new-trees.ensures.items in
    record {
      onward = omega arith;
      inside = c.requires.within;
      low = omega arith;
      so_far = subst (λ (x : List RawExpr). BoundsSoFar c.args.names.now c.args.limit c.args.tokens.now c.args.from c.args.from (written_list x) 0) (sym empty)
          (bounds_none c.args.names.now c.args.limit c.args.tokens.now c.args.from c.requires.within);
      placed = subst (BoundsPlaced c.args.tokens.now c.args.from c.args.from) (sym empty) (no_bounds_placed c.args.tokens.now c.args.from);
    }

pub lists::bounds-returns-clause-placed : goal.lists::bounds-returns-clause-placed
lists::bounds-returns-clause-placed t c =
    bounds_placed c.args.tokens.now c.args.from c.row.next _ c.row.invariant.placed refl

pub postfix::suffixed-returns-in_ok-indexed-in-OpenBracket-clause-placed : goal.postfix::suffixed-returns-in_ok-indexed-in-OpenBracket-clause-placed
postfix::suffixed-returns-in_ok-indexed-in-OpenBracket-clause-placed t c =
    λ from chain here.
    c.in_ok-indexed-in-OpenBracket.ensures.placed from here (chain_ends_at c.args.names.now 15 c.args.limit c.args.tokens.now from c.args.left chain)
    c.in_ok-number-in-OpenBracket.ensures.placed

pub postfix::suffixed-returns-in_ok-called-in-OpenParenthesis-clause-placed : goal.postfix::suffixed-returns-in_ok-called-in-OpenParenthesis-clause-placed
postfix::suffixed-returns-in_ok-called-in-OpenParenthesis-clause-placed t c =
    λ from chain here.
    c.in_ok-called-in-OpenParenthesis.ensures.placed from here (chain_ends_at c.args.names.now 15 c.args.limit c.args.tokens.now from c.args.left chain)
    c.in_ok-listed-in-OpenParenthesis.ensures.placed

pub postfix::suffixed-returns-in-Dot-clause-placed : goal.postfix::suffixed-returns-in-Dot-clause-placed
postfix::suffixed-returns-in-Dot-clause-placed t c =
    λ from chain here.
    selected_placed c.args.tokens.now from c.args.left c.selected.result c.selected.ensures.placed here
    (chain_ends_at c.args.names.now 15 c.args.limit c.args.tokens.now from c.args.left chain)

pub postfix::suffixed-returns-in-Arrow-clause-placed : goal.postfix::suffixed-returns-in-Arrow-clause-placed
postfix::suffixed-returns-in-Arrow-clause-placed t c =
    λ from chain here.
    selected_placed c.args.tokens.now from c.args.left c.selected-in-Arrow.result c.selected-in-Arrow.ensures.placed here
    (chain_ends_at c.args.names.now 15 c.args.limit c.args.tokens.now from c.args.left chain)

pub postfix::suffixed-returns-in_ok-stepped-in-Increment-clause-placed : goal.postfix::suffixed-returns-in_ok-stepped-in-Increment-clause-placed
postfix::suffixed-returns-in_ok-stepped-in-Increment-clause-placed t c =
    λ from chain here.
    c.in_ok-stepped-in-Increment.ensures.placed from here (chain_ends_at c.args.names.now 15 c.args.limit c.args.tokens.now from c.args.left chain)

pub postfix::suffixed-returns-in_ok-stepped-in_default-clause-placed : goal.postfix::suffixed-returns-in_ok-stepped-in_default-clause-placed
postfix::suffixed-returns-in_ok-stepped-in_default-clause-placed t c =
    λ from chain here.
    c.in_ok-stepped-in_default.ensures.placed from here (chain_ends_at c.args.names.now 15 c.args.limit c.args.tokens.now from c.args.left chain)

pub primary::primary-returns-then-is_punctuator-clause-placed : goal.primary::primary-returns-then-is_punctuator-clause-placed
primary::primary-returns-then-is_punctuator-clause-placed t c =
    c.in_ok-enclosed.ensures.placed c.in_ok-inner.ensures.placed

pub primary::primary-returns-clause-placed : goal.primary::primary-returns-clause-placed
primary::primary-returns-clause-placed t c =
    subst (λ (x : Option RawExpr). IsFoundPlaced x (drop c.args.from c.args.tokens.now)) c.in-Some.is c.in_ok-tree.ensures.placed

pub types::parenthesised_type-returns-clause-placed : goal.types::parenthesised_type-returns-clause-placed
types::parenthesised_type-returns-clause-placed t c =
    type_placed c.args.names.now c.args.tokens.now c.args.from c.in_ok-words.words c.in_ok-pointers.pointers c.in_ok-listed.listed _ c.in_ok-words.ensures.words
    c.in_ok-pointers.ensures.pointers refl refl refl refl c.in_ok-words.ensures.placed c.in_ok-listed.ensures.placed

pub unary::cast-returns-then-not-opens_type-clause-placed : goal.unary::cast-returns-then-not-opens_type-clause-placed
unary::cast-returns-then-not-opens_type-clause-placed t c =
    c.unary.ensures.placed

pub unary::cast-returns-clause-placed : goal.unary::cast-returns-clause-placed
unary::cast-returns-clause-placed t c =
    c.in_ok-converted.ensures.placed c.in_ok-taken.ensures.placed c.in_ok-operand.ensures.placed

pub unary::sized-returns-then-opens_type-clause-placed : goal.unary::sized-returns-then-opens_type-clause-placed
unary::sized-returns-then-opens_type-clause-placed t c =
    c.in_ok-measured.ensures.placed c.in_ok-taken.ensures.placed

pub unary::sized-returns-then-is_narrow-clause-placed : goal.unary::sized-returns-then-is_narrow-clause-placed
unary::sized-returns-then-is_narrow-clause-placed t c =
    narrow_placed c.args.tokens.now c.args.from c.comma.result c.comma.ensures.bounds

pub unary::sized-returns-clause-placed : goal.unary::sized-returns-clause-placed
unary::sized-returns-clause-placed t c =
    c.in_ok-prefixed.ensures.placed c.in_ok-operand.ensures.placed

pub unary::unary-returns-in_default-clause-placed : goal.unary::unary-returns-in_default-clause-placed
unary::unary-returns-in_default-clause-placed t c =
    c.postfix.ensures.placed

pub unary::unary-returns-in_ok-prefixed-in-Step-clause-placed : goal.unary::unary-returns-in_ok-prefixed-in-Step-clause-placed
unary::unary-returns-in_ok-prefixed-in-Step-clause-placed t c =
    c.in_ok-prefixed-in-Step.ensures.placed c.in_ok-operand-in-Step.ensures.placed

pub unary::unary-returns-in_ok-prefixed-in-Operator-clause-placed : goal.unary::unary-returns-in_ok-prefixed-in-Operator-clause-placed
unary::unary-returns-in_ok-prefixed-in-Operator-clause-placed t c =
    c.in_ok-prefixed-in-Operator.ensures.placed c.in_ok-operand-in-Operator.ensures.placed
