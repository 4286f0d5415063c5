use Rattle.std.proofs.Common.{rules, ◌≡◌, ◌+◌, ℕ, true, Err, Some, None, length, sym, ap, subst, ◌∙◌, arith}
use Rattle.std.specs.Prelude.{FitsSigned}
use Rattle.std.specs.Int.{w128}
use Rattle.std.proofs.lemmas.Int.{to_z-of_z}
use Rattle.std.proofs.lemmas.Grind.{common_steps}
use Rattle.std.proofs.lemmas.List.{length-map}
use Rattle.cs_types.specs.IntType.{IsIntegerOfC}
use Rattle.cs_types.specs.Shape.{shape_of}
use Rattle.cs_ast.specs.declared.raw.statement.RawStmt.{RawStmt}
use Rattle.cs_ast.specs.declared.raw.statement.RawStmtKind.TheVariants as raw
use Rattle.cs_ast.specs.declared.typed.statement.Stmt.{Stmt}
use Rattle.cs_ast.specs.TypedTree.{While, Do, Label}
use Rattle.cs_ast.specs.TypedView.{typed, statement}
use Rattle.cs_scopes.specs.Verdicts.{Fine, IsRefused}
use Rattle.cs_scopes.proofs.Lifting.{lift-refused}
use Rattle.cs_folding.proofs.Numbers.{fits_in_c}
use Rattle.cs_scopes.proofs.Lifting.{refused_as}
use Rattle.cs_consts.proofs.SingleParts.{lift_is}
use Rattle.cs_declarations.specs.Answered.{AnswersWith}
use Rattle.cs_declarations.specs.Environment.{snapshot_of}
use Rattle.cs_declarations.specs.View.{environment_of, snapshot}
use Rattle.cs_declarations.proofs.FoldedSoFar.{part_taken, part_stops}
use Rattle.cs_declarations.proofs.Refusing.{refused_with}
use Rattle.cs_statements.specs.Locals.{Inside, knowing}
use Rattle.cs_statements.specs.Statements.{part, past, in_block, meeting, is_first, label_number, no_statements, no_cases, telling, with_statements, goto_typed}
use Rattle.cs_statements.specs.Statements.{while_typed, do_typed, for_typed, block_typed, body_typed, item_typed, label_typed, statement_typed, switch_whole}
use Rattle.cs_statements.specs.Statements.{first_typed, switch_item_typed, switch_list_typed, wrapped_in}
use Rattle.cs_statements.specs.View.{inside_of, where_of, typed_statements_of, typed_part, optional_part, statement_part, kind_part, switching_of}
use Rattle.cs_statements.proofs.CasesInTurn.{case_refused, case_taken, constant_refused, constant_is, items_over, switch_over}
use Rattle.cs_statements.proofs.ConstantNumbers.{value_in_c, small_enough, wrapped_in_c}
use Rattle.cs_statements.proofs.StatementKinds.{reported_as, block_refused, block_reported, empty_reported, run_refused, run_reported, return_refused}
use Rattle.cs_statements.proofs.StatementKinds.{return_reported, if_test_refused, if_body_refused, if_reported, else_test_refused, else_body_refused}
use Rattle.cs_statements.proofs.StatementKinds.{else_refused, else_reported, for_held, switch_held}
use Rattle.cs_statements.proofs.StatementRows.{statement_typed-Switch}
use Rattle.cs_statements.proofs.StatementsInTurn.{answers_as, answers_with, listed, while_test_stops, while_body_stops, while_taken, answers_after}
use Rattle.cs_statements.proofs.StatementsInTurn.{refused_after}
use Rattle.cs_statements.proofs.StatementsInTurn.{given_after, do_body}
use Rattle.cs_statements.proofs.StatementsInTurn.{do_body_stops, do_test_stops}
use Rattle.cs_statements.proofs.StatementsInTurn.{do_taken, for_begins, for_first_stops, for_test_stops, for_last_stops, for_body_stops, for_taken}
use Rattle.cs_statements.proofs.StatementsInTurn.{switch_value_stops}
use Rattle.cs_statements.proofs.StatementsInTurn.{switch_items_stop, switch_taken, block_stops, block_taken, label_body_stops, label_taken, reported_push}
use Rattle.cs_statements.proofs.StatementsInTurn.{left_is, closed_is, part_inside}
use Rattle.cs_statements.proofs.+statements.Goals as goal

pub statements::kind_typed-returns-in_err-block-in-Block : goal.statements::kind_typed-returns-in_err-block-in-Block
statements::kind_typed-returns-in_err-block-in-Block t c =
    let e : c.from_residual.result ≡ Err c.in_err-block-in-Block.field-0.0 = search rules in
    let w = where_of c.args.at in
    let i = inside_of c.args.inside.now in
    let at = c.args.place in
    refused_with (kind_part at) (statement_typed w i at c.args.tree.now) c.from_residual.result c.block.new.inside c.in_err-block-in-Block.field-0.0 e
    (block_refused w i at c.args.tree.now c.in-Block.items c.in-Block.is c.in_err-block-in-Block.field-0.0
    (subst (λ list. IsRefused (block_typed w i list) c.in_err-block-in-Block.field-0.0) c.deref.ensures.value c.in_err-block-in-Block.ensures))

pub statements::kind_typed-returns-in_ok-block-in-Block : goal.statements::kind_typed-returns-in_ok-block-in-Block
statements::kind_typed-returns-in_ok-block-in-Block t c =
    let w = where_of c.args.at in
    let i = inside_of c.args.inside.now in
    let at = c.args.place in
    let list = c.in_ok-block-in-Block.field-0 in
    block_reported w i at c.args.tree.now c.in-Block.items c.in-Block.is list c.block.new.inside
    (subst (λ items. block_typed w i items ≡ Fine (typed_statements_of list.items c.block.new.inside)) c.deref.ensures.value c.in_ok-block-in-Block.ensures)

pub statements::kind_typed-returns-in-Empty : goal.statements::kind_typed-returns-in-Empty
statements::kind_typed-returns-in-Empty t c =
    let w = where_of c.args.at in
    let i = inside_of c.args.inside.now in
    let at = c.args.place in
    empty_reported w i at c.args.tree.now c.new.result c.in-Empty.is c.new.ensures.items

pub statements::kind_typed-returns-in_err-dropped-in-Run : goal.statements::kind_typed-returns-in_err-dropped-in-Run
statements::kind_typed-returns-in_err-dropped-in-Run t c =
    let e : c.from_residual-in_err-dropped-in-Run.result ≡ Err c.in_err-dropped-in-Run.field-0.0 = search rules in
    let w = where_of c.args.at in
    let i = inside_of c.args.inside.now in
    let at = c.args.place in
    refused_with (kind_part at) (statement_typed w i at c.args.tree.now) c.from_residual-in_err-dropped-in-Run.result c.dropped.new.self
    c.in_err-dropped-in-Run.field-0.0 e
    (run_refused w i at c.args.tree.now c.in-Run.value c.in-Run.is c.in_err-dropped-in-Run.field-0.0 c.in_err-dropped-in-Run.ensures)

pub statements::kind_typed-returns-in_ok-dropped-in-Run : goal.statements::kind_typed-returns-in_ok-dropped-in-Run
statements::kind_typed-returns-in_ok-dropped-in-Run t c =
    let w = where_of c.args.at in
    let i = inside_of c.args.inside.now in
    let at = c.args.place in
    run_reported w i at c.args.tree.now c.in-Run.value c.in-Run.is c.in_ok-dropped-in-Run.field-0 c.dropped.new.self c.in_ok-dropped-in-Run.ensures

pub statements::kind_typed-returns-in_err-returned-in-Return : goal.statements::kind_typed-returns-in_err-returned-in-Return
statements::kind_typed-returns-in_err-returned-in-Return t c =
    let e : c.from_residual-in_err-returned-in-Return.result ≡ Err c.in_err-returned-in-Return.field-0.0 = search rules in
    let w = where_of c.args.at in
    let i = inside_of c.args.inside.now in
    let at = c.args.place in
    refused_with (kind_part at) (statement_typed w i at c.args.tree.now) c.from_residual-in_err-returned-in-Return.result c.returned.new.inside
    c.in_err-returned-in-Return.field-0.0 e
    (return_refused w i at c.args.tree.now c.in-Return.value c.in-Return.is c.in_err-returned-in-Return.field-0.0 c.in_err-returned-in-Return.ensures)

pub statements::kind_typed-returns-in_ok-returned-in-Return : goal.statements::kind_typed-returns-in_ok-returned-in-Return
statements::kind_typed-returns-in_ok-returned-in-Return t c =
    let w = where_of c.args.at in
    let i = inside_of c.args.inside.now in
    let at = c.args.place in
    return_reported w i at c.args.tree.now c.in-Return.value c.in-Return.is c.in_ok-returned-in-Return.field-0 c.returned.new.inside
    c.in_ok-returned-in-Return.ensures

pub statements::kind_typed-returns-in_err-test-in-If : goal.statements::kind_typed-returns-in_err-test-in-If
statements::kind_typed-returns-in_err-test-in-If t c =
    let e : c.from_residual-in_err-test-in-If.result ≡ Err c.in_err-test-in-If.field-0.0 = search rules in
    let w = where_of c.args.at in
    let i = inside_of c.args.inside.now in
    let at = c.args.place in
    refused_with (kind_part at) (statement_typed w i at c.args.tree.now) c.from_residual-in_err-test-in-If.result c.tested.new.self
    c.in_err-test-in-If.field-0.0 e
    (if_test_refused w i at c.args.tree.now c.in-If.test c.in-If.body c.in-If.is c.in_err-test-in-If.field-0.0 c.in_err-test-in-If.ensures)

pub statements::kind_typed-returns-in_err-body-in-If : goal.statements::kind_typed-returns-in_err-body-in-If
statements::kind_typed-returns-in_err-body-in-If t c =
    let e : c.from_residual-in_err-body-in-If.result ≡ Err c.in_err-body-in-If.field-0.0 = search rules in
    let w = where_of c.args.at in
    let i = inside_of c.args.inside.now in
    let at = c.args.place in
    refused_with (kind_part at) (statement_typed w i at c.args.tree.now) c.from_residual-in_err-body-in-If.result c.statement_typed.new.inside
    c.in_err-body-in-If.field-0.0 e
    (if_body_refused w i at c.args.tree.now c.in-If.test c.in-If.body c.in-If.is c.in_ok-test-in-If.test c.tested.new.self c.in_ok-test-in-If.ensures
    c.in_err-body-in-If.field-0.0 c.in_err-body-in-If.ensures)

pub statements::kind_typed-returns-in_ok-body-in-If : goal.statements::kind_typed-returns-in_ok-body-in-If
statements::kind_typed-returns-in_ok-body-in-If t c =
    let w = where_of c.args.at in
    let i = inside_of c.args.inside.now in
    let at = c.args.place in
    if_reported w i at c.args.tree.now c.in-If.test c.in-If.body c.in-If.is c.in_ok-test-in-If.test c.tested.new.self c.in_ok-test-in-If.ensures
    c.in_ok-body-in-If.body c.statement_typed.new.inside c.in_ok-body-in-If.ensures

pub statements::kind_typed-returns-in_err-test-in-IfElse : goal.statements::kind_typed-returns-in_err-test-in-IfElse
statements::kind_typed-returns-in_err-test-in-IfElse t c =
    let e : c.from_residual-in_err-test-in-IfElse.result ≡ Err c.in_err-test-in-IfElse.field-0.0 = search rules in
    let w = where_of c.args.at in
    let i = inside_of c.args.inside.now in
    let at = c.args.place in
    refused_with (kind_part at) (statement_typed w i at c.args.tree.now) c.from_residual-in_err-test-in-IfElse.result c.tested-in-IfElse.new.self
    c.in_err-test-in-IfElse.field-0.0 e
    (else_test_refused w i at c.args.tree.now c.in-IfElse.test c.in-IfElse.body c.in-IfElse.other c.in-IfElse.is c.in_err-test-in-IfElse.field-0.0
    c.in_err-test-in-IfElse.ensures)

pub statements::kind_typed-returns-in_err-body-in-IfElse : goal.statements::kind_typed-returns-in_err-body-in-IfElse
statements::kind_typed-returns-in_err-body-in-IfElse t c =
    let e : c.from_residual-in_err-body-in-IfElse.result ≡ Err c.in_err-body-in-IfElse.field-0.0 = search rules in
    let w = where_of c.args.at in
    let i = inside_of c.args.inside.now in
    let at = c.args.place in
    refused_with (kind_part at) (statement_typed w i at c.args.tree.now) c.from_residual-in_err-body-in-IfElse.result c.statement_typed-in-IfElse.new.inside
    c.in_err-body-in-IfElse.field-0.0 e
    (else_body_refused w i at c.args.tree.now c.in-IfElse.test c.in-IfElse.body c.in-IfElse.other c.in-IfElse.is c.in_ok-test-in-IfElse.test
    c.tested-in-IfElse.new.self c.in_ok-test-in-IfElse.ensures c.in_err-body-in-IfElse.field-0.0 c.in_err-body-in-IfElse.ensures)

pub statements::kind_typed-returns-in_err-other-in-IfElse : goal.statements::kind_typed-returns-in_err-other-in-IfElse
statements::kind_typed-returns-in_err-other-in-IfElse t c =
    let e : c.from_residual-in_err-other-in-IfElse.result ≡ Err c.in_err-other-in-IfElse.field-0.0 = search rules in
    let w = where_of c.args.at in
    let i = inside_of c.args.inside.now in
    let at = c.args.place in
    refused_with (kind_part at) (statement_typed w i at c.args.tree.now) c.from_residual-in_err-other-in-IfElse.result c.statement_typed-in-IfElse-2.new.inside
    c.in_err-other-in-IfElse.field-0.0 e
    (else_refused w i at c.args.tree.now c.in-IfElse.test c.in-IfElse.body c.in-IfElse.other c.in-IfElse.is c.in_ok-test-in-IfElse.test
    c.tested-in-IfElse.new.self c.in_ok-test-in-IfElse.ensures c.in_ok-body-in-IfElse.body c.statement_typed-in-IfElse.new.inside
    c.in_ok-body-in-IfElse.ensures c.in_err-other-in-IfElse.field-0.0 c.in_err-other-in-IfElse.ensures)

pub statements::kind_typed-returns-in_ok-other-in-IfElse : goal.statements::kind_typed-returns-in_ok-other-in-IfElse
statements::kind_typed-returns-in_ok-other-in-IfElse t c =
    let w = where_of c.args.at in
    let i = inside_of c.args.inside.now in
    let at = c.args.place in
    else_reported w i at c.args.tree.now c.in-IfElse.test c.in-IfElse.body c.in-IfElse.other c.in-IfElse.is c.in_ok-test-in-IfElse.test
    c.tested-in-IfElse.new.self c.in_ok-test-in-IfElse.ensures c.in_ok-body-in-IfElse.body c.statement_typed-in-IfElse.new.inside
    c.in_ok-body-in-IfElse.ensures c.in_ok-other-in-IfElse.other c.statement_typed-in-IfElse-2.new.inside c.in_ok-other-in-IfElse.ensures

pub statements::kind_typed-returns-in-While : goal.statements::kind_typed-returns-in-While
statements::kind_typed-returns-in-While t c =
    let w = where_of c.args.at in
    let i = inside_of c.args.inside.now in
    let at = c.args.place in
    reported_as w i at c.args.tree.now (raw.While c.in-While.test c.in-While.body) c.while_typed.result c.while_typed.new.inside c.in-While.is
    c.while_typed.ensures

pub statements::kind_typed-returns-in-Do : goal.statements::kind_typed-returns-in-Do
statements::kind_typed-returns-in-Do t c =
    let w = where_of c.args.at in
    let i = inside_of c.args.inside.now in
    let at = c.args.place in
    reported_as w i at c.args.tree.now (raw.Do c.in-Do.body c.in-Do.test) c.do_typed.result c.do_typed.new.inside c.in-Do.is
    c.do_typed.ensures

pub statements::kind_typed-returns-in-For : goal.statements::kind_typed-returns-in-For
statements::kind_typed-returns-in-For t c =
    let w = where_of c.args.at in
    let i = inside_of c.args.inside.now in
    let at = c.args.place in
    reported_as w i at c.args.tree.now (raw.For c.in-For.first c.in-For.test c.in-For.last c.in-For.body) c.for_typed.result c.for_typed.new.inside c.in-For.is
    c.for_typed.ensures

pub statements::kind_typed-returns-in-Switch : goal.statements::kind_typed-returns-in-Switch
statements::kind_typed-returns-in-Switch t c =
    let w = where_of c.args.at in
    let i = inside_of c.args.inside.now in
    let at = c.args.place in
    answers_as (kind_part at) (statement_typed w i at c.args.tree.now) (switch_whole w i at c.in-Switch.value c.deref-in-Switch.result.now)
    c.switch_typed.result c.switch_typed.new.inside
    (ap (statement_typed w i at) c.in-Switch.is ∙ statement_typed-Switch w i at c.in-Switch.value c.in-Switch.items
    ∙ ap (switch_whole w i at c.in-Switch.value) (sym c.deref-in-Switch.ensures.value))
    c.switch_typed.ensures

pub statements::kind_typed-returns-in-Label : goal.statements::kind_typed-returns-in-Label
statements::kind_typed-returns-in-Label t c =
    let w = where_of c.args.at in
    let i = inside_of c.args.inside.now in
    let at = c.args.place in
    reported_as w i at c.args.tree.now (raw.Label c.in-Label.name c.in-Label.body) c.labelled.result c.labelled.new.inside c.in-Label.is
    c.labelled.ensures

pub statements::kind_typed-returns-in-Goto : goal.statements::kind_typed-returns-in-Goto
statements::kind_typed-returns-in-Goto t c =
    let w = where_of c.args.at in
    let i = inside_of c.args.inside.now in
    let at = c.args.place in
    answers_as (kind_part at) (statement_typed w i at c.args.tree.now) (goto_typed at i (label_number c.in-Goto.name w.labels)) c.jump.result c.args.inside.now
    (ap (statement_typed w i at) c.in-Goto.is)
    (answers_with at c.args.inside.now (goto_typed at i (label_number c.in-Goto.name w.labels)) c.jump.result (c.jump.ensures i))

pub statements::while_typed-returns-in_err-test : goal.statements::while_typed-returns-in_err-test
statements::while_typed-returns-in_err-test t c =
    let e : c.from_residual.result ≡ Err c.in_err-test.field-0.0 = search rules in
    let w = where_of c.args.at in
    let i = inside_of c.args.inside.now in
    let at = c.args.place in
    let body = c.args.body.now in
    let test = c.args.test.now in
    refused_with (kind_part at) (while_typed w i at test body.place body.kind.value) c.from_residual.result c.tested.new.self c.in_err-test.field-0.0 e
    (while_test_stops w i at test body c.in_err-test.field-0.0 c.in_err-test.ensures)

pub statements::while_typed-returns-in_err-body : goal.statements::while_typed-returns-in_err-body
statements::while_typed-returns-in_err-body t c =
    let e : c.from_residual-in_err-body.result ≡ Err c.in_err-body.field-0.0 = search rules in
    let w = where_of c.args.at in
    let i = inside_of c.args.inside.now in
    let at = c.args.place in
    let body = c.args.body.now in
    let test = c.args.test.now in
    refused_with (kind_part at) (while_typed w i at test body.place body.kind.value) c.from_residual-in_err-body.result c.statement_typed.new.inside
    c.in_err-body.field-0.0 e
    (while_body_stops w i at test body (where_of c.in_loop.result) (typed_part c.in_ok-test.test c.tested.new.self) c.in_loop.ensures c.in_ok-test.ensures
    c.in_err-body.field-0.0 c.in_err-body.ensures)

pub statements::while_typed-returns : goal.statements::while_typed-returns
statements::while_typed-returns t c =
    let w = where_of c.args.at in
    let i = inside_of c.args.inside.now in
    let at = c.args.place in
    let body = c.args.body.now in
    let test = c.args.test.now in
    let now = c.statement_typed.new.inside in
    while_taken w i at test body (where_of c.in_loop.result) (typed_part c.in_ok-test.test c.tested.new.self) c.in_loop.ensures c.in_ok-test.ensures
    (statement_part c.in_ok-body.body now) c.in_ok-body.ensures

pub statements::do_typed-returns-in_err-body : goal.statements::do_typed-returns-in_err-body
statements::do_typed-returns-in_err-body t c =
    let e : c.from_residual-in_err-body.result ≡ Err c.in_err-body.field-0.0 = search rules in
    let w = where_of c.args.at in
    let within = where_of c.in_loop.result in
    let i = inside_of c.args.inside.now in
    let at = c.args.place in
    let body = c.args.body.now in
    let test = c.args.test.now in
    let now = c.statement_typed-typed.new.inside in
    let typed = do_body w i at test body within c.in_loop.ensures in
    refused_with (kind_part at) (do_typed w i at test body.place body.kind.value) c.from_residual-in_err-body.result now c.in_err-body.field-0.0 e
    (do_body_stops w i at test body within c.in_loop.ensures c.in_err-body.field-0.0
    (refused_after statement_part typed c.after_word.result now c.in_err-body.field-0.0 c.in_err-body.was
    (answers_after statement_part at c.in_ok-fault.fault _ (statement_typed within i body.place body.kind.value) c.statement_typed-typed.result
    c.after_word.result now (c.in_ok-fault.ensures at) c.after_word.ensures c.statement_typed-typed.ensures)))

pub statements::do_typed-returns-in_err-test : goal.statements::do_typed-returns-in_err-test
statements::do_typed-returns-in_err-test t c =
    let e : c.from_residual-in_err-test.result ≡ Err c.in_err-test.field-0.0 = search rules in
    let w = where_of c.args.at in
    let within = where_of c.in_loop.result in
    let i = inside_of c.args.inside.now in
    let at = c.args.place in
    let body = c.args.body.now in
    let test = c.args.test.now in
    let then = c.statement_typed-typed.new.inside in
    let typed = do_body w i at test body within c.in_loop.ensures in
    refused_with (kind_part at) (do_typed w i at test body.place body.kind.value) c.from_residual-in_err-test.result c.tested.new.self c.in_err-test.field-0.0 e
    (do_test_stops w i at test body within c.in_loop.ensures (statement_part c.in_ok-body.body then)
    (given_after statement_part typed c.after_word.result then c.in_ok-body.body c.in_ok-body.was
    (answers_after statement_part at c.in_ok-fault.fault _ (statement_typed within i body.place body.kind.value) c.statement_typed-typed.result
    c.after_word.result then (c.in_ok-fault.ensures at) c.after_word.ensures c.statement_typed-typed.ensures))
    c.in_err-test.field-0.0 c.in_err-test.ensures)

pub statements::do_typed-returns : goal.statements::do_typed-returns
statements::do_typed-returns t c =
    let w = where_of c.args.at in
    let within = where_of c.in_loop.result in
    let i = inside_of c.args.inside.now in
    let at = c.args.place in
    let body = c.args.body.now in
    let test = c.args.test.now in
    let then = c.statement_typed-typed.new.inside in
    let typed = do_body w i at test body within c.in_loop.ensures in
    do_taken w i at test body within c.in_loop.ensures (statement_part c.in_ok-body.body then)
    (given_after statement_part typed c.after_word.result then c.in_ok-body.body c.in_ok-body.was
    (answers_after statement_part at c.in_ok-fault.fault _ (statement_typed within i body.place body.kind.value) c.statement_typed-typed.result
    c.after_word.result then (c.in_ok-fault.ensures at) c.after_word.ensures c.statement_typed-typed.ensures))
    (typed_part c.in_ok-test.test c.tested.new.self) c.in_ok-test.ensures

pub statements::for_typed-returns-in_err-first : goal.statements::for_typed-returns-in_err-first
statements::for_typed-returns-in_err-first t c =
    let e : c.from_residual-in_err-first.result ≡ Err c.in_err-first.field-0.0 = search rules in
    let w = where_of c.args.at in
    let i = inside_of c.args.inside.now in
    let at = c.args.place in
    let inner = knowing (environment_of c.enter-around.new.self) i in
    let enters : inner ≡ in_block i = ap (λ k. knowing k i) c.enter-around.ensures.entered in
    let body = c.args.body.now in
    let begins = for_begins w i at c.args.first.now c.args.test.now c.args.last.now body.place body.kind.value inner enters in
    let said : AnswersWith listed begins c.after_word.result c.first_typed.new.inside =
    answers_after listed at c.in_ok-fault.fault _ (first_typed inner c.args.first.now) c.first_typed.result c.after_word.result c.first_typed.new.inside
    (c.in_ok-fault.ensures at) c.after_word.ensures c.first_typed.ensures in
    refused_with (kind_part at) (for_typed w i at c.args.first.now c.args.test.now c.args.last.now body.place body.kind.value)
    c.from_residual-in_err-first.result c.first_typed.new.inside c.in_err-first.field-0.0 e
    (for_first_stops w i at c.args.first.now c.args.test.now c.args.last.now body.place body.kind.value inner enters c.in_err-first.field-0.0
    (refused_after listed begins c.after_word.result c.first_typed.new.inside c.in_err-first.field-0.0 c.in_err-first.was said))

pub statements::for_typed-returns-in_err-test : goal.statements::for_typed-returns-in_err-test
statements::for_typed-returns-in_err-test t c =
    let e : c.from_residual-in_err-test.result ≡ Err c.in_err-test.field-0.0 = search rules in
    let w = where_of c.args.at in
    let i = inside_of c.args.inside.now in
    let at = c.args.place in
    let inner = knowing (environment_of c.enter-around.new.self) i in
    let enters : inner ≡ in_block i = ap (λ k. knowing k i) c.enter-around.ensures.entered in
    let body = c.args.body.now in
    let begins = for_begins w i at c.args.first.now c.args.test.now c.args.last.now body.place body.kind.value inner enters in
    let said : AnswersWith listed begins c.after_word.result c.first_typed.new.inside =
    answers_after listed at c.in_ok-fault.fault _ (first_typed inner c.args.first.now) c.first_typed.result c.after_word.result c.first_typed.new.inside
    (c.in_ok-fault.ensures at) c.after_word.ensures c.first_typed.ensures in
    refused_with (kind_part at) (for_typed w i at c.args.first.now c.args.test.now c.args.last.now body.place body.kind.value)
    c.from_residual-in_err-test.result c.tested_if.new.self c.in_err-test.field-0.0 e
    (for_test_stops w i at c.args.first.now c.args.test.now c.args.last.now body.place body.kind.value inner enters
    (typed_statements_of c.in_ok-first.first.items c.first_typed.new.inside)
    (given_after listed begins c.after_word.result c.first_typed.new.inside c.in_ok-first.first c.in_ok-first.was said) c.in_err-test.field-0.0
    c.in_err-test.ensures)

pub statements::for_typed-returns-in_err-last : goal.statements::for_typed-returns-in_err-last
statements::for_typed-returns-in_err-last t c =
    let e : c.from_residual-in_err-last.result ≡ Err c.in_err-last.field-0.0 = search rules in
    let w = where_of c.args.at in
    let i = inside_of c.args.inside.now in
    let at = c.args.place in
    let inner = knowing (environment_of c.enter-around.new.self) i in
    let enters : inner ≡ in_block i = ap (λ k. knowing k i) c.enter-around.ensures.entered in
    let body = c.args.body.now in
    let begins = for_begins w i at c.args.first.now c.args.test.now c.args.last.now body.place body.kind.value inner enters in
    let said : AnswersWith listed begins c.after_word.result c.first_typed.new.inside =
    answers_after listed at c.in_ok-fault.fault _ (first_typed inner c.args.first.now) c.first_typed.result c.after_word.result c.first_typed.new.inside
    (c.in_ok-fault.ensures at) c.after_word.ensures c.first_typed.ensures in
    refused_with (kind_part at) (for_typed w i at c.args.first.now c.args.test.now c.args.last.now body.place body.kind.value)
    c.from_residual-in_err-last.result c.dropped_if.new.self c.in_err-last.field-0.0 e
    (for_last_stops w i at c.args.first.now c.args.test.now c.args.last.now body.place body.kind.value inner enters
    (typed_statements_of c.in_ok-first.first.items c.first_typed.new.inside)
    (given_after listed begins c.after_word.result c.first_typed.new.inside c.in_ok-first.first c.in_ok-first.was said)
    (optional_part c.in_ok-test.test c.tested_if.new.self)
    c.in_ok-test.ensures c.in_err-last.field-0.0 c.in_err-last.ensures)

pub statements::for_typed-returns-in_err-body : goal.statements::for_typed-returns-in_err-body
statements::for_typed-returns-in_err-body t c =
    let e : c.from_residual-in_err-body.result ≡ Err c.in_err-body.field-0.0 = search rules in
    let w = where_of c.args.at in
    let i = inside_of c.args.inside.now in
    let at = c.args.place in
    let inner = knowing (environment_of c.enter-around.new.self) i in
    let enters : inner ≡ in_block i = ap (λ k. knowing k i) c.enter-around.ensures.entered in
    let body = c.args.body.now in
    let begins = for_begins w i at c.args.first.now c.args.test.now c.args.last.now body.place body.kind.value inner enters in
    let said : AnswersWith listed begins c.after_word.result c.first_typed.new.inside =
    answers_after listed at c.in_ok-fault.fault _ (first_typed inner c.args.first.now) c.first_typed.result c.after_word.result c.first_typed.new.inside
    (c.in_ok-fault.ensures at) c.after_word.ensures c.first_typed.ensures in
    refused_with (kind_part at) (for_typed w i at c.args.first.now c.args.test.now c.args.last.now body.place body.kind.value)
    c.from_residual-in_err-body.result c.statement_typed.new.inside c.in_err-body.field-0.0 e
    (for_body_stops w i at c.args.first.now c.args.test.now c.args.last.now body.place body.kind.value inner enters
    (typed_statements_of c.in_ok-first.first.items c.first_typed.new.inside)
    (given_after listed begins c.after_word.result c.first_typed.new.inside c.in_ok-first.first c.in_ok-first.was said)
    (optional_part c.in_ok-test.test c.tested_if.new.self)
    c.in_ok-test.ensures (optional_part c.in_ok-last.last c.dropped_if.new.self) c.in_ok-last.ensures (where_of c.in_loop.result) c.in_loop.ensures
    c.in_err-body.field-0.0 c.in_err-body.ensures)

pub statements::for_typed-returns : goal.statements::for_typed-returns
statements::for_typed-returns t c =
    let w = where_of c.args.at in
    let i = inside_of c.args.inside.now in
    let at = c.args.place in
    let inner = knowing (environment_of c.enter-around.new.self) i in
    let enters : inner ≡ in_block i = ap (λ k. knowing k i) c.enter-around.ensures.entered in
    let body = c.args.body.now in
    let begins = for_begins w i at c.args.first.now c.args.test.now c.args.last.now body.place body.kind.value inner enters in
    let said : AnswersWith listed begins c.after_word.result c.first_typed.new.inside =
    answers_after listed at c.in_ok-fault.fault _ (first_typed inner c.args.first.now) c.first_typed.result c.after_word.result c.first_typed.new.inside
    (c.in_ok-fault.ensures at) c.after_word.ensures c.first_typed.ensures in
    let now = c.statement_typed.new.inside in
    for_taken w i at c.args.first.now c.args.test.now c.args.last.now body.place body.kind.value inner enters
    (typed_statements_of c.in_ok-first.first.items c.first_typed.new.inside)
    (given_after listed begins c.after_word.result c.first_typed.new.inside c.in_ok-first.first c.in_ok-first.was said)
    (optional_part c.in_ok-test.test c.tested_if.new.self)
    c.in_ok-test.ensures (optional_part c.in_ok-last.last c.dropped_if.new.self) c.in_ok-last.ensures (where_of c.in_loop.result) c.in_loop.ensures
    (statement_part c.in_ok-body.body now) c.in_ok-body.ensures
    ∙ for_held at c.in_ok-first.first c.in_ok-test.test c.in_ok-last.last c.in_ok-body.body (knowing (environment_of c.leave.new.self) (inside_of now)) _
    (left_is i now c.leave.new.self (snapshot c.enter-around.result) c.leave.ensures c.enter-around.ensures.snapshot)

pub statements::block-returns-in_err-statements : goal.statements::block-returns-in_err-statements
statements::block-returns-in_err-statements t c =
    let e : c.from_residual.result ≡ Err c.in_err-statements.field-0.0 = search rules in
    let w = where_of c.args.at in
    let i = inside_of c.args.inside.now in
    let items = c.args.items.now in
    let inner = knowing (environment_of c.enter-around.new.self) i in
    let enters : inner ≡ in_block i = ap (λ k. knowing k i) c.enter-around.ensures.entered in
    refused_with (λ list following. typed_statements_of list.items following) (block_typed w i items) c.from_residual.result c.items_typed.new.inside
    c.in_err-statements.field-0.0 e
    (block_stops w i items inner enters c.in_err-statements.field-0.0 c.in_err-statements.ensures)

pub statements::block-returns : goal.statements::block-returns
statements::block-returns t c =
    let w = where_of c.args.at in
    let i = inside_of c.args.inside.now in
    let items = c.args.items.now in
    let inner = knowing (environment_of c.enter-around.new.self) i in
    let enters : inner ≡ in_block i = ap (λ k. knowing k i) c.enter-around.ensures.entered in
    let now = c.items_typed.new.inside in
    let list = c.in_ok-statements.statements.items in
    block_taken w i items inner enters (typed_statements_of list now) c.in_ok-statements.ensures
    ∙ ap Fine (closed_is i list now (knowing (environment_of c.leave.new.self) (inside_of now))
    (left_is i now c.leave.new.self (snapshot c.enter-around.result) c.leave.ensures c.enter-around.ensures.snapshot))

pub statements::items_typed-returns-in_err-statements : goal.statements::items_typed-returns-in_err-statements
statements::items_typed-returns-in_err-statements t c =
    let e : c.from_residual.result ≡ Err c.in_err-statements.field-0.0 = search rules in
    let w = where_of c.args.at in
    let i = inside_of c.args.inside.now in
    let items = c.args.items.now in
    let whole = body_typed w items (no_statements i) in
    refused_with (λ list following. typed_statements_of list.items following) whole c.from_residual.result c.item_typed.new.inside
    c.in_err-statements.field-0.0 e
    (part_stops (body_typed w) (item_typed w) (items_over w) items c.loop-item.item-index c.item-item.result whole
    (typed_statements_of c.loop-item.statements.items c.loop-item.inside) c.in_err-statements.field-0.0 c.loop-item-test.true c.item-item.is
    c.loop-item.invariant c.in_err-statements.ensures)

pub statements::items_typed-loop-item-preserved : goal.statements::items_typed-loop-item-preserved
statements::items_typed-loop-item-preserved t c =
    let w = where_of c.args.at in
    let i = inside_of c.args.inside.now in
    let items = c.args.items.now in
    let whole = body_typed w items (no_statements i) in
    part_taken (body_typed w) (item_typed w) (items_over w) items c.loop-item.item-index c.item-item.result whole
    (typed_statements_of c.loop-item.statements.items c.loop-item.inside) (typed_statements_of c.in_ok-statements.statements.items c.item_typed.new.inside)
    c.loop-item-test.true c.item-item.is c.loop-item.invariant c.in_ok-statements.ensures

pub statements::item_typed-returns-in_err-statement_typed-in-Run : goal.statements::item_typed-returns-in_err-statement_typed-in-Run
statements::item_typed-returns-in_err-statement_typed-in-Run t c =
    let e : c.from_residual.result ≡ Err c.in_err-statement_typed-in-Run.field-0.0 = search rules in
    let w = where_of c.args.at in
    let so_far = typed_statements_of c.args.before.items c.args.inside.now in
    let run : RawStmt = c.in-Run.statement in
    refused_with (λ list following. typed_statements_of list.items following) (item_typed w c.args.item.now so_far) c.from_residual.result
    c.statement_typed.new.inside c.in_err-statement_typed-in-Run.field-0.0 e
    (refused_as c.in_err-statement_typed-in-Run.field-0.0 (ap (λ x. item_typed w x so_far) c.in-Run.is)
    (lift-refused (telling so_far.statements) (statement_typed w so_far.inside run.place run.kind.value) c.in_err-statement_typed-in-Run.field-0.0
    c.in_err-statement_typed-in-Run.ensures))

pub statements::item_typed-returns-in_ok-push-in-Run : goal.statements::item_typed-returns-in_ok-push-in-Run
statements::item_typed-returns-in_ok-push-in-Run t c =
    let w = where_of c.args.at in
    let so_far = typed_statements_of c.args.before.items c.args.inside.now in
    let run : RawStmt = c.in-Run.statement in
    let one = c.in_ok-statement_typed-in-Run.field-0 in
    let now = c.statement_typed.new.inside in
    ap (λ x. item_typed w x so_far) c.in-Run.is
    ∙ lift_is (telling so_far.statements) (statement_typed w so_far.inside run.place run.kind.value) (statement_part one now)
    c.in_ok-statement_typed-in-Run.ensures
    ∙ ap Fine (reported_push c.args.before.items c.push.new.self.items one now c.in_ok-push-in-Run.ensures.items)

pub statements::labelled-returns-in_err-body : goal.statements::labelled-returns-in_err-body
statements::labelled-returns-in_err-body t c =
    let e : c.from_residual-in_err-body.result ≡ Err c.in_err-body.field-0.0 = search rules in
    let w = where_of c.args.at in
    let i = inside_of c.args.inside.now in
    let at = c.args.place in
    let name = c.args.name.now in
    let body = c.args.body.now in
    let first : is_first i (label_number name w.labels) ≡ true = first_of (search rules, grind (arith, common_steps)) in
    let next : c.in_ok-next.next ≡ c.args.inside.now.met + 1 = first_of (search rules, grind (arith, common_steps)) in
    let inner : Inside = record { known = i.known; variables = i.variables; met = c.in_ok-next.next } in
    let met : ℕ → Inside = λ n. record { known = i.known; variables = i.variables; met = n } in
    let meets : inner ≡ meeting i = ap met next in
    refused_with (kind_part at) (label_typed w i at name body.place body.kind.value) c.from_residual-in_err-body.result c.statement_typed.new.inside
    c.in_err-body.field-0.0 e
    (label_body_stops w i at name body.place body.kind.value first inner meets c.in_err-body.field-0.0 c.in_err-body.ensures)

pub statements::labelled-returns : goal.statements::labelled-returns
statements::labelled-returns t c =
    let w = where_of c.args.at in
    let i = inside_of c.args.inside.now in
    let at = c.args.place in
    let name = c.args.name.now in
    let body = c.args.body.now in
    let first : is_first i (label_number name w.labels) ≡ true = first_of (search rules, grind (arith, common_steps)) in
    let next : c.in_ok-next.next ≡ c.args.inside.now.met + 1 = first_of (search rules, grind (arith, common_steps)) in
    let inner : Inside = record { known = i.known; variables = i.variables; met = c.in_ok-next.next } in
    let met : ℕ → Inside = λ n. record { known = i.known; variables = i.variables; met = n } in
    let meets : inner ≡ meeting i = ap met next in
    let now = c.statement_typed.new.inside in
    label_taken w i at name body.place body.kind.value first inner meets (statement_part c.in_ok-body.body now) c.in_ok-body.ensures

pub switches::switch_typed-returns-in_err-selector : goal.switches::switch_typed-returns-in_err-selector
switches::switch_typed-returns-in_err-selector t c =
    let e : c.from_residual.result ≡ Err c.in_err-selector.field-0.0 = search rules in
    let w = where_of c.args.at in
    let i = inside_of c.args.inside.now in
    let at = c.args.place in
    let tree = c.args.tree.now in
    let items = c.args.items.now in
    refused_with (kind_part at) (switch_whole w i at tree items) c.from_residual.result c.selected.new.self c.in_err-selector.field-0.0 e
    (switch_value_stops w i at tree items c.in_err-selector.field-0.0 c.in_err-selector.ensures)

pub switches::switch_typed-returns-in_err-found : goal.switches::switch_typed-returns-in_err-found
switches::switch_typed-returns-in_err-found t c =
    let e : c.from_residual-in_err-found.result ≡ Err c.in_err-found.field-0.0 = search rules in
    let w = where_of c.args.at in
    let i = inside_of c.args.inside.now in
    let at = c.args.place in
    let tree = c.args.tree.now in
    let items = c.args.items.now in
    let selector = c.in_ok-selector.selector in
    let between = c.selected.new.self in
    let inner = knowing (environment_of c.enter-around.new.self) (inside_of between) in
    let enters : inner ≡ in_block (inside_of between) = ap (λ k. knowing k (inside_of between)) c.enter-around.ensures.entered in
    refused_with (kind_part at) (switch_whole w i at tree items) c.from_residual-in_err-found.result c.switch_items.new.inside c.in_err-found.field-0.0 e
    (switch_items_stop w i at tree items (typed_part selector between) c.in_ok-selector.ensures (where_of c.in_switch.result) inner c.in_switch.ensures enters
    c.in_err-found.field-0.0 c.in_err-found.ensures)

pub switches::switch_typed-returns : goal.switches::switch_typed-returns
switches::switch_typed-returns t c =
    let w = where_of c.args.at in
    let i = inside_of c.args.inside.now in
    let at = c.args.place in
    let tree = c.args.tree.now in
    let items = c.args.items.now in
    let selector = c.in_ok-selector.selector in
    let between = c.selected.new.self in
    let inner = knowing (environment_of c.enter-around.new.self) (inside_of between) in
    let enters : inner ≡ in_block (inside_of between) = ap (λ k. knowing k (inside_of between)) c.enter-around.ensures.entered in
    let now = c.switch_items.new.inside in
    let found = c.in_ok-found.found in
    let same : past tree i ≡ inside_of between = part_inside (past tree i) _ (typed_part selector between) c.in_ok-selector.ensures in
    let around : snapshot c.enter-around.result ≡ snapshot_of i.known = c.enter-around.ensures.snapshot
    ∙ ap (λ (x : Inside). snapshot_of x.known) (sym same) in
    switch_taken w i at tree items (typed_part selector between) c.in_ok-selector.ensures (where_of c.in_switch.result) inner c.in_switch.ensures enters
    (switching_of found now) c.in_ok-found.ensures
    ∙ switch_held at selector found.cases c.into_list.result found.statements (knowing (environment_of c.leave.new.self) (inside_of now)) _
    (left_is i now c.leave.new.self (snapshot c.enter-around.result) c.leave.ensures around) c.into_list.ensures

pub switches::switch_items-returns-in_err-so_far : goal.switches::switch_items-returns-in_err-so_far
switches::switch_items-returns-in_err-so_far t c =
    let e : c.from_residual.result ≡ Err c.in_err-so_far.field-0.0 = search rules in
    let w = where_of c.args.at in
    let i = inside_of c.args.inside.now in
    let ty = shape_of c.args.ty.now in
    let items = c.args.items.now in
    let whole = switch_list_typed w ty items (no_cases i) in
    refused_with switching_of whole c.from_residual.result c.switch_item.new.inside c.in_err-so_far.field-0.0 e
    (part_stops (switch_list_typed w ty) (switch_item_typed w ty) (switch_over w ty) items c.loop-item.item-index c.item-item.result whole
    (switching_of c.loop-item.so_far c.loop-item.inside) c.in_err-so_far.field-0.0 c.loop-item-test.true c.item-item.is c.loop-item.invariant
    c.in_err-so_far.ensures)

pub switches::switch_items-loop-item-preserved : goal.switches::switch_items-loop-item-preserved
switches::switch_items-loop-item-preserved t c =
    let w = where_of c.args.at in
    let i = inside_of c.args.inside.now in
    let ty = shape_of c.args.ty.now in
    let items = c.args.items.now in
    let whole = switch_list_typed w ty items (no_cases i) in
    part_taken (switch_list_typed w ty) (switch_item_typed w ty) (switch_over w ty) items c.loop-item.item-index c.item-item.result whole
    (switching_of c.loop-item.so_far c.loop-item.inside) (switching_of c.in_ok-so_far.so_far c.switch_item.new.inside) c.loop-item-test.true c.item-item.is
    c.loop-item.invariant c.in_ok-so_far.ensures

pub switches::switch_item-returns-in_err-constant-in-Case : goal.switches::switch_item-returns-in_err-constant-in-Case
switches::switch_item-returns-in_err-constant-in-Case t c =
    let e : c.from_residual.result ≡ Err c.in_err-constant-in-Case.field-0.0 = search rules in
    let w = where_of c.args.at in
    let ty = shape_of c.args.ty.now in
    let known = c.args.inside.now.known in
    let so_far = switching_of c.args.before c.args.inside.now in
    refused_with switching_of (switch_item_typed w ty c.args.item.now so_far) c.from_residual.result c.args.inside.now c.in_err-constant-in-Case.field-0.0 e
    (refused_as c.in_err-constant-in-Case.field-0.0 (ap (λ x. switch_item_typed w ty x so_far) c.in-Case.is)
    (constant_refused c.in-Case.place so_far ty c.in-Case.tree known.context c.in_err-constant-in-Case.field-0.0 c.in_err-constant-in-Case.ensures))

pub switches::switch_item-wrapped_in-number-requires : goal.switches::switch_item-wrapped_in-number-requires
switches::switch_item-wrapped_in-number-requires t c =
    let n = c.in_ok-constant-in-Case.constant.1 in
    let small = value_in_c c.args.inside.now.known.context c.in-Case.tree c.in_ok-constant-in-Case.constant.0 n c.in_ok-constant-in-Case.ensures in
    let fits : FitsSigned w128 n = fits_in_c n small in
    simp to_z-of_z (small_enough n small)

pub switches::switch_item-returns-in_err-add-in-Case : goal.switches::switch_item-returns-in_err-add-in-Case
switches::switch_item-returns-in_err-add-in-Case t c =
    let e : c.from_residual-in_err-add-in-Case.result ≡ Err c.in_err-add-in-Case.field-0.0 = search rules in
    let w = where_of c.args.at in
    let ty = shape_of c.args.ty.now in
    let known = c.args.inside.now.known in
    let so_far = switching_of c.args.before c.args.inside.now in
    let constant = c.in_ok-constant-in-Case.constant in
    let number = c.wrapped_in-number.result in
    let item : c.len.result ≡ length so_far.reported.statements = c.len.ensures ∙ c.args.before.statements.ok.0
    ∙ sym (length-map c.args.before.statements.items (λ s. statement s)) in
    let small : IsIntegerOfC constant.1 = value_in_c known.context c.in-Case.tree constant.0 constant.1 c.in_ok-constant-in-Case.ensures in
    let fits : FitsSigned w128 constant.1 = fits_in_c constant.1 small in
    let wraps : number ≡ wrapped_in known.context.model ty constant.1 = simp to_z-of_z at c.wrapped_in-number.ensures in
    let holds : FitsSigned w128 number = fits_in_c number (subst IsIntegerOfC (sym wraps) (wrapped_in_c known.context.model ty constant.1 small)) in
    let is = ap (λ x. switch_item_typed w ty x so_far) c.in-Case.is
    ∙ constant_is c.in-Case.place so_far ty c.in-Case.tree known.context constant c.in_ok-constant-in-Case.ensures number wraps in
    refused_with switching_of (switch_item_typed w ty c.args.item.now so_far) c.from_residual-in_err-add-in-Case.result c.args.inside.now
    c.in_err-add-in-Case.field-0.0 e
    (refused_as c.in_err-add-in-Case.field-0.0 is
    (case_refused c.in-Case.place so_far (Some number) c.len.result item c.in_err-add-in-Case.field-0.0 (simp to_z-of_z at c.in_err-add-in-Case.ensures)))

pub switches::switch_item-returns-in_ok-add-in-Case : goal.switches::switch_item-returns-in_ok-add-in-Case
switches::switch_item-returns-in_ok-add-in-Case t c =
    let w = where_of c.args.at in
    let ty = shape_of c.args.ty.now in
    let known = c.args.inside.now.known in
    let so_far = switching_of c.args.before c.args.inside.now in
    let constant = c.in_ok-constant-in-Case.constant in
    let number = c.wrapped_in-number.result in
    let item : c.len.result ≡ length so_far.reported.statements = c.len.ensures ∙ c.args.before.statements.ok.0
    ∙ sym (length-map c.args.before.statements.items (λ s. statement s)) in
    let small : IsIntegerOfC constant.1 = value_in_c known.context c.in-Case.tree constant.0 constant.1 c.in_ok-constant-in-Case.ensures in
    let fits : FitsSigned w128 constant.1 = fits_in_c constant.1 small in
    let wraps : number ≡ wrapped_in known.context.model ty constant.1 = simp to_z-of_z at c.wrapped_in-number.ensures in
    let holds : FitsSigned w128 number = fits_in_c number (subst IsIntegerOfC (sym wraps) (wrapped_in_c known.context.model ty constant.1 small)) in
    let is = ap (λ x. switch_item_typed w ty x so_far) c.in-Case.is
    ∙ constant_is c.in-Case.place so_far ty c.in-Case.tree known.context constant c.in_ok-constant-in-Case.ensures number wraps in
    is ∙ case_taken c.in-Case.place so_far (Some number) c.len.result item c.add.new.self (simp to_z-of_z at c.in_ok-add-in-Case.ensures)

pub switches::switch_item-returns-in_err-add-in-Default : goal.switches::switch_item-returns-in_err-add-in-Default
switches::switch_item-returns-in_err-add-in-Default t c =
    let e : c.from_residual-in_err-add-in-Default.result ≡ Err c.in_err-add-in-Default.field-0.0 = search rules in
    let w = where_of c.args.at in
    let ty = shape_of c.args.ty.now in
    let known = c.args.inside.now.known in
    let so_far = switching_of c.args.before c.args.inside.now in
    let item : c.len-in-Default.result ≡ length so_far.reported.statements = c.len-in-Default.ensures ∙ c.args.before.statements.ok.0
    ∙ sym (length-map c.args.before.statements.items (λ s. statement s)) in
    let is = ap (λ x. switch_item_typed w ty x so_far) c.in-Default.is in
    refused_with switching_of (switch_item_typed w ty c.args.item.now so_far) c.from_residual-in_err-add-in-Default.result c.args.inside.now
    c.in_err-add-in-Default.field-0.0 e
    (refused_as c.in_err-add-in-Default.field-0.0 is
    (case_refused c.in-Default.place so_far None c.len-in-Default.result item c.in_err-add-in-Default.field-0.0 c.in_err-add-in-Default.ensures))

pub switches::switch_item-returns-in_ok-add-in-Default : goal.switches::switch_item-returns-in_ok-add-in-Default
switches::switch_item-returns-in_ok-add-in-Default t c =
    let w = where_of c.args.at in
    let ty = shape_of c.args.ty.now in
    let known = c.args.inside.now.known in
    let so_far = switching_of c.args.before c.args.inside.now in
    let item : c.len-in-Default.result ≡ length so_far.reported.statements = c.len-in-Default.ensures ∙ c.args.before.statements.ok.0
    ∙ sym (length-map c.args.before.statements.items (λ s. statement s)) in
    let is = ap (λ x. switch_item_typed w ty x so_far) c.in-Default.is in
    is ∙ case_taken c.in-Default.place so_far None c.len-in-Default.result item c.add-in-Default.new.self c.in_ok-add-in-Default.ensures

pub switches::switch_item-returns-in_err-item_typed-in-Item : goal.switches::switch_item-returns-in_err-item_typed-in-Item
switches::switch_item-returns-in_err-item_typed-in-Item t c =
    let e : c.from_residual-in_err-item_typed-in-Item.result ≡ Err c.in_err-item_typed-in-Item.field-0.0 = search rules in
    let w = where_of c.args.at in
    let ty = shape_of c.args.ty.now in
    let known = c.args.inside.now.known in
    let so_far = switching_of c.args.before c.args.inside.now in
    refused_with switching_of (switch_item_typed w ty c.args.item.now so_far) c.from_residual-in_err-item_typed-in-Item.result c.item_typed.new.inside
    c.in_err-item_typed-in-Item.field-0.0 e
    (refused_as c.in_err-item_typed-in-Item.field-0.0 (ap (λ x. switch_item_typed w ty x so_far) c.in-Item.is)
    (lift-refused (with_statements so_far) (item_typed w c.in-Item.item so_far.reported) c.in_err-item_typed-in-Item.field-0.0
    c.in_err-item_typed-in-Item.ensures))

pub switches::switch_item-returns-in_ok-item_typed-in-Item : goal.switches::switch_item-returns-in_ok-item_typed-in-Item
switches::switch_item-returns-in_ok-item_typed-in-Item t c =
    let w = where_of c.args.at in
    let ty = shape_of c.args.ty.now in
    let known = c.args.inside.now.known in
    let so_far = switching_of c.args.before c.args.inside.now in
    ap (λ x. switch_item_typed w ty x so_far) c.in-Item.is
    ∙ lift_is (with_statements so_far) (item_typed w c.in-Item.item so_far.reported)
    (typed_statements_of c.in_ok-item_typed-in-Item.field-0.items c.item_typed.new.inside) c.in_ok-item_typed-in-Item.ensures
