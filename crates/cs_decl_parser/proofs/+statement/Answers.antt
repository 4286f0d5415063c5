use Rattle.std.proofs.Common.{◌≡◌, ℕ, ◌+◌, ◌<◌, inl, inr, drop, Option, Err, refl, sym, ap, ◌∙◌, subst, arith, rules}
use Rattle.std.proofs.lemmas.Bool.{false≢true}
use Rattle.cs_ast.specs.declared.raw.name.RawName.{RawName}
use Rattle.cs_ast.specs.RawStatementView.{sentence, statement_of, item, switch_item}
use Rattle.cs_ast.specs.declared.raw.statement.RawStmtKind.TheVariants as kind
use Rattle.cs_grammar.specs.FileClasses.{Sentences, BlockItems, SwitchParts, SwitchRows}
use Rattle.cs_decl_parser.specs.declared.form.Form.{Form}
use Rattle.cs_decl_parser.specs.declared.form.Form.TheVariants as form
use Rattle.cs_expr_parser.specs.Positions.{kind_or_end}
use Rattle.cs_decl_parser.specs.Nodes.{IsNode}
use Rattle.cs_declarator_parser.specs.DeclarationAnswers.{IsNameAt}
use Rattle.cs_decl_parser.specs.Forms.{least}
use Rattle.cs_declarator_parser.specs.Answers.{Answers, ExactAnswers}
use Rattle.cs_decl_parser.specs.Blocks.{ItemsAnswers, switch_items_of}
use Rattle.cs_decl_parser.proofs.StatementSites.{statement_full, unlabelled_stops, nothing_taken, reported_form, while_test_stops, while_body_stops}
use Rattle.cs_decl_parser.proofs.StatementSites.{while_taken, if_test_stops, if_body_stops, if_taken, else_stops, else_taken, do_body_stops, do_while_missing}
use Rattle.cs_decl_parser.proofs.StatementSites.{do_test_stops, do_semicolon_missing, do_taken, label_stops, label_taken, unnamed_label}
use Rattle.cs_decl_parser.proofs.BlockSites.{block_stops, block_taken, ItemsSoFar, items_none, items_stop, items_more, items_taken, SwitchSoFar, switch_none}
use Rattle.cs_decl_parser.proofs.BlockSites.{switch_stop, switch_more, switch_row_taken, switch_value_stops, switch_brace_missing, switch_items_stop}
use Rattle.cs_decl_parser.proofs.BlockSites.{switch_taken, no_case, inside_stops, inside_taken}
use Rattle.cs_decl_parser.proofs.LocalSites.{declares_stops, declares_taken, does_stops, does_taken}
use Rattle.cs_decl_parser.proofs.ForSites.{for_control_stops, for_body_stops, for_taken}
use Rattle.cs_declarator_parser.specs.DeclarationPlaces.{IsNamePlaced}
use Rattle.cs_decl_parser.proofs.PlacingStatements.{label_placed, block_placed, tested_placed, choice_placed, done_placed, loop_placed, switch_placed}
use Rattle.cs_decl_parser.proofs.PlacingStatements.{items_begun, items_go_on, switch_begun, switch_goes_on}
use Rattle.cs_decl_parser.proofs.+statement.Goals as goal
use Rattle.cs_decl_parser.proofs.+statement.Goals.{block::item-else-begins_type-via-then-begins_type+else-not-is_label}
use Rattle.cs_decl_parser.proofs.+statement.Goals.{block::item-else-begins_type-via-else-begins_type}

pub loops::while_statement-returns-in_err-test-clause-parsed : goal.loops::while_statement-returns-in_err-test-clause-parsed
loops::while_statement-returns-in_err-test-clause-parsed t c =
    let e : c.from_residual.result ≡ Err c.in_err-test.field-0.0 = search rules in
    subst (Answers (Sentences c.args.source.now.names.now) statement_of c.args.limit c.args.source.now.tokens.now c.args.from) (sym e)
    (while_test_stops c.args.source.now.names.now c.args.limit c.args.source.now.tokens.now c.args.from c.requires.enough c.requires.stands
    c.in_err-test.field-0.0 c.in_err-test.ensures.parsed)

pub loops::while_statement-returns-in_err-body-clause-parsed : goal.loops::while_statement-returns-in_err-body-clause-parsed
loops::while_statement-returns-in_err-body-clause-parsed t c =
    let e : c.from_residual-in_err-body.result ≡ Err c.in_err-body.field-0.0 = search rules in
    subst (Answers (Sentences c.args.source.now.names.now) statement_of c.args.limit c.args.source.now.tokens.now c.args.from) (sym e)
    (while_body_stops c.args.source.now.names.now c.args.limit c.args.source.now.tokens.now c.args.from c.in_ok-test.test c.requires.enough c.requires.stands
    c.in_ok-test.ensures.parsed c.in_err-body.field-0.0 c.in_err-body.ensures.parsed)

pub loops::while_statement-returns-clause-parsed : goal.loops::while_statement-returns-clause-parsed
loops::while_statement-returns-clause-parsed t c =
    while_taken c.args.source.now.names.now c.args.limit c.args.source.now.tokens.now c.args.from c.in_ok-test.test c.in_ok-body.body c.in_ok-made.made
    c.requires.enough c.requires.stands c.in_ok-test.ensures.parsed c.in_ok-body.ensures.parsed c.in_ok-made.ensures.node

pub branches::if_statement-returns-in_err-test-clause-parsed : goal.branches::if_statement-returns-in_err-test-clause-parsed
branches::if_statement-returns-in_err-test-clause-parsed t c =
    let e : c.from_residual.result ≡ Err c.in_err-test.field-0.0 = search rules in
    subst (Answers (Sentences c.args.source.now.names.now) statement_of c.args.limit c.args.source.now.tokens.now c.args.from) (sym e)
    (if_test_stops c.args.source.now.names.now c.args.limit c.args.source.now.tokens.now c.args.from c.requires.enough c.requires.stands c.in_err-test.field-0.0
    c.in_err-test.ensures.parsed)

pub branches::if_statement-returns-in_err-body-clause-parsed : goal.branches::if_statement-returns-in_err-body-clause-parsed
branches::if_statement-returns-in_err-body-clause-parsed t c =
    let e : c.from_residual-in_err-body.result ≡ Err c.in_err-body.field-0.0 = search rules in
    subst (Answers (Sentences c.args.source.now.names.now) statement_of c.args.limit c.args.source.now.tokens.now c.args.from) (sym e)
    (if_body_stops c.args.source.now.names.now c.args.limit c.args.source.now.tokens.now c.args.from c.in_ok-test.test c.requires.enough c.requires.stands
    c.in_ok-test.ensures.parsed c.in_err-body.field-0.0 c.in_err-body.ensures.parsed)

pub branches::if_statement-returns-then-not-is_keyword-clause-parsed : goal.branches::if_statement-returns-then-not-is_keyword-clause-parsed
branches::if_statement-returns-then-not-is_keyword-clause-parsed t c =
    if_taken c.args.source.now.names.now c.args.limit c.args.source.now.tokens.now c.args.from c.in_ok-test.test c.in_ok-body.body c.in_ok-made.made
    c.requires.enough c.requires.stands c.in_ok-test.ensures.parsed c.in_ok-body.ensures.parsed
    (λ k. false≢true (sym c.if-not-is_keyword.true ∙ c.is_keyword.ensures.keyword.1 k)) c.in_ok-made.ensures.node

pub branches::if_statement-returns-in_err-other-clause-parsed : goal.branches::if_statement-returns-in_err-other-clause-parsed
branches::if_statement-returns-in_err-other-clause-parsed t c =
    let e : c.from_residual-in_err-other.result ≡ Err c.in_err-other.field-0.0 = search rules in
    subst (Answers (Sentences c.args.source.now.names.now) statement_of c.args.limit c.args.source.now.tokens.now c.args.from) (sym e)
    (else_stops c.args.source.now.names.now c.args.limit c.args.source.now.tokens.now c.args.from c.in_ok-test.test c.in_ok-body.body c.requires.enough
    c.requires.stands c.in_ok-test.ensures.parsed c.in_ok-body.ensures.parsed (c.is_keyword.ensures.keyword.0 c.if-not-is_keyword.false)
    c.in_err-other.field-0.0 c.in_err-other.ensures.parsed)

pub branches::if_statement-returns-clause-parsed : goal.branches::if_statement-returns-clause-parsed
branches::if_statement-returns-clause-parsed t c =
    else_taken c.args.source.now.names.now c.args.limit c.args.source.now.tokens.now c.args.from c.in_ok-test.test c.in_ok-body.body c.in_ok-other.other
    c.in_ok-made-2.made c.requires.enough c.requires.stands c.in_ok-test.ensures.parsed c.in_ok-body.ensures.parsed
    (c.is_keyword.ensures.keyword.0 c.if-not-is_keyword.false) c.in_ok-other.ensures.parsed c.in_ok-made-2.ensures.node

pub loops::do_statement-returns-in_err-body-clause-parsed : goal.loops::do_statement-returns-in_err-body-clause-parsed
loops::do_statement-returns-in_err-body-clause-parsed t c =
    let e : c.from_residual.result ≡ Err c.in_err-body.field-0.0 = search rules in
    subst (Answers (Sentences c.args.source.now.names.now) statement_of c.args.limit c.args.source.now.tokens.now c.args.from) (sym e)
    (do_body_stops c.args.source.now.names.now c.args.limit c.args.source.now.tokens.now c.args.from c.requires.enough c.requires.stands c.in_err-body.field-0.0
    c.in_err-body.ensures.parsed)

pub loops::do_statement-returns-then-not-is_keyword-clause-parsed : goal.loops::do_statement-returns-then-not-is_keyword-clause-parsed
loops::do_statement-returns-then-not-is_keyword-clause-parsed t c =
    do_while_missing c.args.source.now.names.now c.args.limit c.args.source.now.tokens.now c.args.from c.in_ok-body.body c.refuse.result c.requires.enough
    c.requires.stands c.in_ok-body.ensures.parsed (λ k. false≢true (sym c.if-not-is_keyword.true ∙ c.is_keyword.ensures.keyword.1 k))
    c.refuse.ensures.is

pub loops::do_statement-returns-in_err-test-clause-parsed : goal.loops::do_statement-returns-in_err-test-clause-parsed
loops::do_statement-returns-in_err-test-clause-parsed t c =
    let e : c.from_residual-in_err-test.result ≡ Err c.in_err-test.field-0.0 = search rules in
    subst (Answers (Sentences c.args.source.now.names.now) statement_of c.args.limit c.args.source.now.tokens.now c.args.from) (sym e)
    (do_test_stops c.args.source.now.names.now c.args.limit c.args.source.now.tokens.now c.args.from c.in_ok-body.body c.requires.enough c.requires.stands
    c.in_ok-body.ensures.parsed (c.is_keyword.ensures.keyword.0 c.if-not-is_keyword.false) c.in_err-test.field-0.0 c.in_err-test.ensures.parsed)

pub loops::do_statement-returns-then-not-is_punctuator-clause-parsed : goal.loops::do_statement-returns-then-not-is_punctuator-clause-parsed
loops::do_statement-returns-then-not-is_punctuator-clause-parsed t c =
    do_semicolon_missing c.args.source.now.names.now c.args.limit c.args.source.now.tokens.now c.args.from c.in_ok-body.body c.in_ok-test.test
    c.refuse-then-not-is_punctuator.result c.requires.enough c.requires.stands c.in_ok-body.ensures.parsed
    (c.is_keyword.ensures.keyword.0 c.if-not-is_keyword.false) c.in_ok-test.ensures.parsed
    (λ k. false≢true (sym c.if-not-is_punctuator.true ∙ c.is_punctuator.ensures.punctuator.1 k)) c.refuse-then-not-is_punctuator.ensures.is

pub loops::do_statement-returns-clause-parsed : goal.loops::do_statement-returns-clause-parsed
loops::do_statement-returns-clause-parsed t c =
    do_taken c.args.source.now.names.now c.args.limit c.args.source.now.tokens.now c.args.from c.in_ok-body.body c.in_ok-made.made c.in_ok-test.test
    c.requires.enough c.requires.stands c.in_ok-body.ensures.parsed (c.is_keyword.ensures.keyword.0 c.if-not-is_keyword.false) c.in_ok-test.ensures.parsed
    (c.is_punctuator.ensures.punctuator.0 c.if-not-is_punctuator.false) c.in_ok-made.ensures.node

pub loops::for_statement-returns-in_err-control-clause-parsed : goal.loops::for_statement-returns-in_err-control-clause-parsed
loops::for_statement-returns-in_err-control-clause-parsed t c =
    let e : c.from_residual.result ≡ Err c.in_err-control.field-0.0 = search rules in
    subst (Answers (Sentences c.args.source.now.names.now) statement_of c.args.limit c.args.source.now.tokens.now c.args.from) (sym e)
    (for_control_stops c.args.source.now.names.now c.args.limit c.args.source.now.tokens.now c.args.from c.requires.enough c.requires.stands
    c.in_err-control.field-0.0 c.in_err-control.ensures.parsed)

pub loops::for_statement-returns-in_err-body-clause-parsed : goal.loops::for_statement-returns-in_err-body-clause-parsed
loops::for_statement-returns-in_err-body-clause-parsed t c =
    let e : c.from_residual-in_err-body.result ≡ Err c.in_err-body.field-0.0 = search rules in
    subst (Answers (Sentences c.args.source.now.names.now) statement_of c.args.limit c.args.source.now.tokens.now c.args.from) (sym e)
    (for_body_stops c.args.source.now.names.now c.args.limit c.args.source.now.tokens.now c.args.from c.in_ok-control.control c.requires.enough
    c.requires.stands c.in_ok-control.ensures.parsed c.in_err-body.field-0.0 c.in_err-body.ensures.parsed)

pub loops::for_statement-returns-clause-parsed : goal.loops::for_statement-returns-clause-parsed
loops::for_statement-returns-clause-parsed t c =
    for_taken c.args.source.now.names.now c.args.limit c.args.source.now.tokens.now c.args.from c.in_ok-control.control c.in_ok-body.body c.in_ok-made.made
    c.requires.enough c.requires.stands c.in_ok-control.ensures.parsed c.in_ok-body.ensures.parsed c.in_ok-made.ensures.node

pub statement::label-returns-in_default-clause-parsed : goal.statement::label-returns-in_default-clause-parsed
statement::label-returns-in_default-clause-parsed t c =
    let none = subst (IsNameAt (λ name. Unit {0}) (kind_or_end c.args.source.now.tokens.now c.args.from)) c.in_default.is c.in_ok-name.ensures.name in
    absurd (unnamed_label c.args.source.now.tokens.now c.args.from c.requires.stands (λ n k. none n k tt))

pub statement::label-returns-in_err-body-clause-parsed : goal.statement::label-returns-in_err-body-clause-parsed
statement::label-returns-in_err-body-clause-parsed t c =
    let name = subst (IsNameAt (λ name. Unit {0}) (kind_or_end c.args.source.now.tokens.now c.args.from)) c.in-Some.is c.in_ok-name.ensures.name in
    let e : c.from_residual-in_err-body.result ≡ Err c.in_err-body.field-0.0 = search rules in
    subst (Answers (Sentences c.args.source.now.names.now) statement_of c.args.limit c.args.source.now.tokens.now c.args.from) (sym e)
    (label_stops c.args.source.now.names.now c.args.limit c.args.source.now.tokens.now c.args.from c.in-Some.name.name c.requires.enough name.0
    c.requires.stands c.in_err-body.field-0.0 c.in_err-body.ensures.parsed)

pub statement::label-returns-clause-parsed : goal.statement::label-returns-clause-parsed
statement::label-returns-clause-parsed t c =
    let name = subst (IsNameAt (λ name. Unit {0}) (kind_or_end c.args.source.now.tokens.now c.args.from)) c.in-Some.is c.in_ok-name.ensures.name in
    label_taken c.args.source.now.names.now c.args.limit c.args.source.now.tokens.now c.args.from c.in-Some.name.name c.in_ok-body.body c.in_ok-made.made
    c.requires.enough name.0 c.requires.stands c.in_ok-body.ensures.parsed c.in_ok-made.ensures.node

pub statement::statement-returns-then-limit-least_height-clause-parsed : goal.statement::statement-returns-then-limit-least_height-clause-parsed
statement::statement-returns-then-limit-least_height-clause-parsed t c =
    statement_full c.args.source.now.names.now c.args.limit c.args.source.now.tokens.now c.args.from c.refuse_deep.result c.requires.within
    (subst (λ (f : Form). c.args.limit < least f) c.form_at-form.ensures.form
    (subst (λ (n : ℕ). c.args.limit < n) c.least_height.ensures c.if-limit-least_height.true)) c.refuse_deep.ensures.is

pub statement::statement-returns-in-Unlabelled-clause-parsed : goal.statement::statement-returns-in-Unlabelled-clause-parsed
statement::statement-returns-in-Unlabelled-clause-parsed t c =
    let l : least c.form_at-form.result ≡ 2 = ap least c.in-Unlabelled.is in
    let h = c.least_height.ensures in
    let f = c.if-limit-least_height.false in
    unlabelled_stops c.args.source.now.names.now c.args.limit c.args.source.now.tokens.now c.args.from c.refuse.result (omega arith)
    (sym c.form_at-form.ensures.form ∙ c.in-Unlabelled.is) c.refuse.ensures.is

pub statement::statement-returns-in_ok-leaf-in-Empty-clause-parsed : goal.statement::statement-returns-in_ok-leaf-in-Empty-clause-parsed
statement::statement-returns-in_ok-leaf-in-Empty-clause-parsed t c =
    let l : least c.form_at-form.result ≡ 1 = ap least c.in-Empty.is in
    let h = c.least_height.ensures in
    let f = c.if-limit-least_height.false in
    nothing_taken c.args.source.now.names.now c.args.limit c.args.source.now.tokens.now c.args.from c.in_ok-leaf-in-Empty.field-0 (omega arith)
    (reported_form c.args.source.now.names.now c.args.source.now.tokens.now c.args.from form.Empty (sym c.form_at-form.ensures.form ∙ c.in-Empty.is))
    c.in_ok-leaf-in-Empty.ensures.node

pub statement::statement-returns-in-Goto-clause-parsed : goal.statement::statement-returns-in-Goto-clause-parsed
statement::statement-returns-in-Goto-clause-parsed t c =
    let l : least c.form_at-form.result ≡ 1 = ap least c.in-Goto.is in
    let h = c.least_height.ensures in
    let f = c.if-limit-least_height.false in
    c.goto.ensures.parsed c.args.limit (omega arith)

pub statement::statement-returns-in-Continue-clause-parsed : goal.statement::statement-returns-in-Continue-clause-parsed
statement::statement-returns-in-Continue-clause-parsed t c =
    let l : least c.form_at-form.result ≡ 1 = ap least c.in-Continue.is in
    let h = c.least_height.ensures in
    let f = c.if-limit-least_height.false in
    c.jump.ensures.parsed c.args.limit (omega arith)

pub statement::statement-returns-in-Break-clause-parsed : goal.statement::statement-returns-in-Break-clause-parsed
statement::statement-returns-in-Break-clause-parsed t c =
    let l : least c.form_at-form.result ≡ 1 = ap least c.in-Break.is in
    let h = c.least_height.ensures in
    let f = c.if-limit-least_height.false in
    c.jump-in-Break.ensures.parsed c.args.limit (omega arith)

pub block::block-returns-in_err-items-clause-parsed : goal.block::block-returns-in_err-items-clause-parsed
block::block-returns-in_err-items-clause-parsed t c =
    let e : c.from_residual.result ≡ Err c.in_err-items.field-0.0 = search rules in
    subst (Answers (Sentences c.args.source.now.names.now) statement_of c.args.limit c.args.source.now.tokens.now c.args.from) (sym e)
    (block_stops c.args.source.now.names.now c.args.limit c.args.source.now.tokens.now c.args.from c.requires.some c.requires.stands c.in_err-items.field-0.0
    c.in_err-items.ensures.parsed)

pub block::block-returns-clause-parsed : goal.block::block-returns-clause-parsed
block::block-returns-clause-parsed t c =
    block_taken c.args.source.now.names.now c.args.limit c.args.source.now.tokens.now c.args.from c.in_ok-items.items c.in_ok-node.field-0 c.requires.some
    c.requires.stands c.in_ok-items.ensures.parsed c.in_ok-node.ensures.node

pub block::items-items-init : goal.block::items-items-init
block::items-items-init t c =
    record {
      onward = omega arith;
      inside = c.requires.within;
      low = omega arith;
      so_far = items_none c.args.source.now.names.now c.args.limit c.args.source.now.tokens.now c.args.from c.new-list.result.items c.new-list.ensures.items
          c.requires.within;
      placed = items_begun c.args.source.now.tokens.now c.args.from c.new-list.result.items c.new-list.ensures.items;
    }

pub block::items-returns-in_err-taken-clause-parsed : goal.block::items-returns-in_err-taken-clause-parsed
block::items-returns-in_err-taken-clause-parsed t c =
    let e : c.from_residual.result ≡ Err c.in_err-taken.field-0.0 = search rules in
    subst (ItemsAnswers c.args.source.now.names.now c.args.limit c.args.source.now.tokens.now c.args.from) (sym e)
    (items_stop c.args.source.now.names.now c.args.limit c.args.source.now.tokens.now c.args.from c.items.list.items c.items.height c.items.next
    c.items.invariant.so_far (λ k. false≢true (sym c.items-test.true ∙ c.is_punctuator.ensures.punctuator.1 k)) c.in_err-taken.field-0.0
    c.in_err-taken.ensures.parsed)

pub block::items-items-preserved : goal.block::items-items-preserved
block::items-items-preserved t c =
    let b = c.in_ok-taken.ensures.bounds in
    let i = c.items.invariant in
    let h = c.max-height.ensures in
    record {
      onward = omega arith;
      inside = b.1;
      low = omega arith;
      so_far =
          subst (λ (n : ℕ).
          ItemsSoFar c.args.source.now.names.now c.args.limit c.args.source.now.tokens.now c.args.from c.push.new.self.items n c.in_ok-taken.taken.next) (sym h)
          (items_more c.args.source.now.names.now c.args.limit c.args.source.now.tokens.now c.args.from c.items.list.items c.push.new.self.items c.items.height
          c.items.next c.in_ok-taken.taken i.so_far c.in_ok-taken.ensures.parsed c.in_ok-push.ensures.items);
      placed = items_go_on c.args.source.now.tokens.now c.args.from c.items.list.items c.push.new.self.items c.items.next c.in_ok-taken.taken.tree
          c.in_ok-taken.taken.next i.placed c.in_ok-push.ensures.items c.in_ok-taken.ensures.parsed.spelled c.in_ok-taken.ensures.placed;
    }

pub block::items-returns-clause-parsed : goal.block::items-returns-clause-parsed
block::items-returns-clause-parsed t c =
    items_taken c.args.source.now.names.now c.args.limit c.args.source.now.tokens.now c.args.from c.items.list.items c.items.height c.items.next _
    c.items.invariant.so_far (c.is_punctuator.ensures.punctuator.0 c.items-test.false) refl refl refl

pub block::item-returns-in_err-declared-clause-parsed : goal.block::item-returns-in_err-declared-clause-parsed
block::item-returns-in_err-declared-clause-parsed t c =
    let e : c.from_residual.result ≡ Err c.in_err-declared.field-0.0 = search rules in
    subst (Answers (BlockItems c.args.source.now.names.now) item c.args.limit c.args.source.now.tokens.now c.args.from) (sym e)
    (declares_stops c.args.source.now.names.now c.args.limit c.args.source.now.tokens.now c.args.from (sym c.begins_type.ensures ∙ c.if-begins_type.true)
    (sym c.is_label.ensures.labelled ∙ c.if-not-is_label.true) c.in_err-declared.field-0.0 c.in_err-declared.ensures.parsed)

pub block::item-returns-then-not-is_label-clause-parsed : goal.block::item-returns-then-not-is_label-clause-parsed
block::item-returns-then-not-is_label-clause-parsed t c =
    declares_taken c.args.source.now.names.now c.args.limit c.args.source.now.tokens.now c.args.from c.in_ok-declared.declared _ c.in_ok-declared.ensures.parsed
    refl refl refl

pub block::item-returns-in_err-taken-clause-parsed : goal.block::item-returns-in_err-taken-clause-parsed
block::item-returns-in_err-taken-clause-parsed t c =
    let e : c.from_residual-in_err-taken.result ≡ Err c.in_err-taken.field-0.0 = search rules in
    subst (Answers (BlockItems c.args.source.now.names.now) item c.args.limit c.args.source.now.tokens.now c.args.from) (sym e)
    (does_stops c.args.source.now.names.now c.args.limit c.args.source.now.tokens.now c.args.from
    (elim c.else-begins_type.branch [
      | block::item-else-begins_type-via-then-begins_type+else-not-is_label w ↦ inr (sym w.is_label.ensures.labelled ∙ w.if-not-is_label.false)
      | block::item-else-begins_type-via-else-begins_type w ↦ inl (sym c.begins_type.ensures ∙ w.if-begins_type.false)
    ]) c.in_err-taken.field-0.0 c.in_err-taken.ensures.parsed)

pub block::item-returns-clause-parsed : goal.block::item-returns-clause-parsed
block::item-returns-clause-parsed t c =
    does_taken c.args.source.now.names.now c.args.limit c.args.source.now.tokens.now c.args.from c.in_ok-taken.taken _ c.in_ok-taken.ensures.parsed refl refl
    refl

pub branches::switch_statement-returns-in_err-value-clause-parsed : goal.branches::switch_statement-returns-in_err-value-clause-parsed
branches::switch_statement-returns-in_err-value-clause-parsed t c =
    let e : c.from_residual.result ≡ Err c.in_err-value.field-0.0 = search rules in
    subst (Answers (Sentences c.args.source.now.names.now) statement_of c.args.limit c.args.source.now.tokens.now c.args.from) (sym e)
    (switch_value_stops c.args.source.now.names.now c.args.limit c.args.source.now.tokens.now c.args.from c.requires.enough c.requires.stands
    c.in_err-value.field-0.0 c.in_err-value.ensures.parsed)

pub branches::switch_statement-returns-then-not-is_punctuator-clause-parsed : goal.branches::switch_statement-returns-then-not-is_punctuator-clause-parsed
branches::switch_statement-returns-then-not-is_punctuator-clause-parsed t c =
    switch_brace_missing c.args.source.now.names.now c.args.limit c.args.source.now.tokens.now c.args.from c.in_ok-value.value c.refuse.result c.requires.enough
    c.requires.stands c.in_ok-value.ensures.parsed (λ k. false≢true (sym c.if-not-is_punctuator.true ∙ c.is_punctuator.ensures.punctuator.1 k))
    c.refuse.ensures.is

pub branches::switch_statement-returns-in_err-items-clause-parsed : goal.branches::switch_statement-returns-in_err-items-clause-parsed
branches::switch_statement-returns-in_err-items-clause-parsed t c =
    let e : c.from_residual-in_err-items.result ≡ Err c.in_err-items.field-0.0 = search rules in
    subst (Answers (Sentences c.args.source.now.names.now) statement_of c.args.limit c.args.source.now.tokens.now c.args.from) (sym e)
    (switch_items_stop c.args.source.now.names.now c.args.limit c.args.source.now.tokens.now c.args.from c.in_ok-value.value c.requires.enough c.requires.stands
    c.in_ok-value.ensures.parsed (c.is_punctuator.ensures.punctuator.0 c.if-not-is_punctuator.false) c.in_err-items.field-0.0 c.in_err-items.ensures.parsed)

pub branches::switch_statement-returns-clause-parsed : goal.branches::switch_statement-returns-clause-parsed
branches::switch_statement-returns-clause-parsed t c =
    switch_taken c.args.source.now.names.now c.args.limit c.args.source.now.tokens.now c.args.from c.in_ok-value.value c.in_ok-items.items c.in_ok-node.field-0
    c.requires.enough c.requires.stands c.in_ok-value.ensures.parsed (c.is_punctuator.ensures.punctuator.0 c.if-not-is_punctuator.false)
    c.in_ok-items.ensures.parsed (subst (λ (n : ℕ).
    IsNode (sentence (kind.Switch c.in_ok-value.value.tree c.in_ok-items.items.tree)) (n + 1) c.in_ok-items.items.next c.in_ok-node.field-0)
    c.max-height.ensures c.in_ok-node.ensures.node)

pub branches::switch_items-items-init : goal.branches::switch_items-items-init
branches::switch_items-items-init t c =
    record {
      onward = omega arith;
      inside = c.requires.within;
      low = omega arith;
      so_far = switch_none c.args.source.now.names.now c.args.limit c.args.source.now.tokens.now c.args.from c.new-list.result.items c.new-list.ensures.items
          c.requires.within;
      placed = switch_begun c.args.source.now.tokens.now c.args.from c.new-list.result.items c.new-list.ensures.items;
    }

pub branches::switch_items-returns-in_err-taken-clause-parsed : goal.branches::switch_items-returns-in_err-taken-clause-parsed
branches::switch_items-returns-in_err-taken-clause-parsed t c =
    let e : c.from_residual.result ≡ Err c.in_err-taken.field-0.0 = search rules in
    subst (ExactAnswers (SwitchRows c.args.source.now.names.now) switch_items_of c.args.limit c.args.source.now.tokens.now c.args.from) (sym e)
    (switch_stop c.args.source.now.names.now c.args.limit c.args.source.now.tokens.now c.args.from c.items.list.items c.items.height c.items.next
    c.items.invariant.so_far (λ k. false≢true (sym c.items-test.true ∙ c.is_punctuator.ensures.punctuator.1 k)) c.in_err-taken.field-0.0
    c.in_err-taken.ensures.parsed)

pub branches::switch_items-items-preserved : goal.branches::switch_items-items-preserved
branches::switch_items-items-preserved t c =
    let b = c.in_ok-taken.ensures.bounds in
    let i = c.items.invariant in
    let h = c.max-height.ensures in
    record {
      onward = omega arith;
      inside = b.1;
      low = omega arith;
      so_far =
          subst (λ (n : ℕ).
          SwitchSoFar c.args.source.now.names.now c.args.limit c.args.source.now.tokens.now c.args.from c.push.new.self.items n c.in_ok-taken.taken.next)
          (sym h) (switch_more c.args.source.now.names.now c.args.limit c.args.source.now.tokens.now c.args.from c.items.list.items c.push.new.self.items
          c.items.height c.items.next c.in_ok-taken.taken i.so_far c.in_ok-taken.ensures.parsed c.in_ok-push.ensures.items);
      placed = switch_goes_on c.args.source.now.tokens.now c.args.from c.items.list.items c.push.new.self.items c.items.next c.in_ok-taken.taken.tree
          c.in_ok-taken.taken.next i.placed c.in_ok-push.ensures.items c.in_ok-taken.ensures.parsed.spelled c.in_ok-taken.ensures.placed;
    }

pub branches::switch_items-returns-clause-parsed : goal.branches::switch_items-returns-clause-parsed
branches::switch_items-returns-clause-parsed t c =
    switch_row_taken c.args.source.now.names.now c.args.limit c.args.source.now.tokens.now c.args.from c.items.list.items c.items.height c.items.next _
    c.items.invariant.so_far (c.is_punctuator.ensures.punctuator.0 c.items-test.false) refl refl refl

pub branches::switch_item-returns-then-is_keyword-2-clause-parsed : goal.branches::switch_item-returns-then-is_keyword-2-clause-parsed
branches::switch_item-returns-then-is_keyword-2-clause-parsed t c =
    c.default.ensures.parsed c.args.limit

pub branches::switch_item-returns-in_err-inner-clause-parsed : goal.branches::switch_item-returns-in_err-inner-clause-parsed
branches::switch_item-returns-in_err-inner-clause-parsed t c =
    let e : c.from_residual.result ≡ Err c.in_err-inner.field-0.0 = search rules in
    subst (Answers (SwitchParts c.args.source.now.names.now) switch_item c.args.limit c.args.source.now.tokens.now c.args.from) (sym e)
    (inside_stops c.args.source.now.names.now c.args.limit c.args.source.now.tokens.now c.args.from
    (no_case (kind_or_end c.args.source.now.tokens.now c.args.from) (λ k. false≢true (sym c.if-is_keyword.false ∙ c.is_keyword.ensures.keyword.1 k))
    (λ k. false≢true (sym c.if-is_keyword-2.false ∙ c.is_keyword-2.ensures.keyword.1 k))) c.in_err-inner.field-0.0 c.in_err-inner.ensures.parsed)

pub branches::switch_item-returns-clause-parsed : goal.branches::switch_item-returns-clause-parsed
branches::switch_item-returns-clause-parsed t c =
    inside_taken c.args.source.now.names.now c.args.limit c.args.source.now.tokens.now c.args.from c.in_ok-inner.inner _
    (no_case (kind_or_end c.args.source.now.tokens.now c.args.from) (λ k. false≢true (sym c.if-is_keyword.false ∙ c.is_keyword.ensures.keyword.1 k))
    (λ k. false≢true (sym c.if-is_keyword-2.false ∙ c.is_keyword-2.ensures.keyword.1 k))) c.in_ok-inner.ensures.parsed refl refl refl

pub statement::statement-returns-in_ok-leaf-in-Empty-clause-placed : goal.statement::statement-returns-in_ok-leaf-in-Empty-clause-placed
statement::statement-returns-in_ok-leaf-in-Empty-clause-placed t c =
    c.in_ok-leaf-in-Empty.ensures.placed tt

pub statement::label-returns-clause-placed : goal.statement::label-returns-clause-placed
statement::label-returns-clause-placed t c =
    let at = subst (λ (n : Option RawName). IsNamePlaced n (drop c.args.from c.args.source.now.tokens.now)) c.in-Some.is c.in_ok-name.ensures.placed in
    label_placed c.args.source.now.tokens.now c.args.from c.in-Some.name.place c.in_ok-body.body.tree c.in_ok-made.made.tree c.in_ok-made.ensures.placed at
    c.in_ok-body.ensures.placed

pub block::block-returns-clause-placed : goal.block::block-returns-clause-placed
block::block-returns-clause-placed t c =
    block_placed c.args.source.now.tokens.now c.args.from c.place_at.result c.in_ok-items.items.tree c.in_ok-node.field-0.tree c.in_ok-node.ensures.placed
    c.place_at.ensures c.in_ok-items.ensures.placed

pub block::items-returns-clause-placed : goal.block::items-returns-clause-placed
block::items-returns-clause-placed t c = c.items.invariant.placed.row

pub branches::switch_items-returns-clause-placed : goal.branches::switch_items-returns-clause-placed
branches::switch_items-returns-clause-placed t c = c.items.invariant.placed.row

pub branches::if_statement-returns-then-not-is_keyword-clause-placed : goal.branches::if_statement-returns-then-not-is_keyword-clause-placed
branches::if_statement-returns-then-not-is_keyword-clause-placed t c =
    tested_placed c.args.source.now.tokens.now c.args.from c.place_at-place.result c.in_ok-test.test.tree c.in_ok-test.test.next c.in_ok-body.body.tree
    c.in_ok-made.made.tree c.in_ok-made.ensures.placed c.place_at-place.ensures c.in_ok-test.ensures.parsed.spelled c.in_ok-test.ensures.placed
    c.in_ok-body.ensures.placed

pub branches::if_statement-returns-clause-placed : goal.branches::if_statement-returns-clause-placed
branches::if_statement-returns-clause-placed t c =
    choice_placed c.args.source.now.tokens.now c.args.from c.place_at-place.result c.in_ok-test.test.tree c.in_ok-test.test.next c.in_ok-body.body.tree
    c.in_ok-body.body.next c.in_ok-other.other.tree c.in_ok-made-2.made.tree c.in_ok-made-2.ensures.placed c.place_at-place.ensures
    c.in_ok-test.ensures.parsed.spelled c.in_ok-test.ensures.placed c.in_ok-body.ensures.parsed.spelled c.in_ok-body.ensures.placed
    c.in_ok-other.ensures.placed

pub branches::switch_statement-returns-clause-placed : goal.branches::switch_statement-returns-clause-placed
branches::switch_statement-returns-clause-placed t c =
    switch_placed c.args.source.now.tokens.now c.args.from c.place_at.result c.in_ok-value.value.tree c.in_ok-value.value.next c.in_ok-items.items.tree
    c.in_ok-node.field-0.tree c.in_ok-node.ensures.placed c.place_at.ensures c.in_ok-value.ensures.parsed.spelled c.in_ok-value.ensures.placed
    c.in_ok-items.ensures.placed

pub loops::while_statement-returns-clause-placed : goal.loops::while_statement-returns-clause-placed
loops::while_statement-returns-clause-placed t c =
    tested_placed c.args.source.now.tokens.now c.args.from c.place_at-place.result c.in_ok-test.test.tree c.in_ok-test.test.next c.in_ok-body.body.tree
    c.in_ok-made.made.tree c.in_ok-made.ensures.placed c.place_at-place.ensures c.in_ok-test.ensures.parsed.spelled c.in_ok-test.ensures.placed
    c.in_ok-body.ensures.placed

pub loops::do_statement-returns-clause-placed : goal.loops::do_statement-returns-clause-placed
loops::do_statement-returns-clause-placed t c =
    done_placed c.args.source.now.tokens.now c.args.from c.place_at-place.result c.in_ok-body.body.tree c.in_ok-body.body.next c.in_ok-test.test.tree
    c.in_ok-made.made.tree c.in_ok-made.ensures.placed c.place_at-place.ensures c.in_ok-body.ensures.parsed.spelled c.in_ok-body.ensures.placed
    c.in_ok-test.ensures.placed

pub loops::for_statement-returns-clause-placed : goal.loops::for_statement-returns-clause-placed
loops::for_statement-returns-clause-placed t c =
    loop_placed c.args.source.now.names.now c.args.source.now.tokens.now c.args.from c.place_at-place.result c.in_ok-control.control.tree
    c.in_ok-control.control.next c.in_ok-body.body.tree c.in_ok-made.made.tree c.in_ok-made.ensures.placed c.place_at-place.ensures
    c.in_ok-control.ensures.parsed.spelled c.in_ok-control.ensures.placed c.in_ok-body.ensures.placed
