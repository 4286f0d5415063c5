-- The cycle of typing: each return is the equation of its production for these parts.
use Rattle.std.proofs.Common.{◌≡◌, ◌+◌, ◌<◌, [], ◌∷◌, ◌++◌, max, drop, length, map, Some, None, Err, pos, rules, arith, refl, sym, ap}
use Rattle.std.proofs.Common.{subst, ◌∙◌}
use Rattle.std.specs.Prelude.{option_copied, OnOk, FitsSigned, vec_len, ◌⊎◌, ◌≤◌, min}
use Rattle.std.specs.Int.{w128}
use Rattle.std.proofs.lemmas.Int.{to_z-of_z}
use Rattle.std.specs.Option.{option_map, option_or}
use Rattle.std.proofs.lemmas.List.{length-map, drop_all}
use Rattle.cs_types.specs.declared.ctype.CType.{CType}
use Rattle.cs_types.specs.Shape.{shape_of}
use Rattle.cs_ast.specs.declared.raw.expression.RawExprKind.TheVariants as kind
use Rattle.cs_ast.specs.TypedView.{typed, typed_list, form}
use Rattle.cs_ast.specs.RawView.{written, written_kind, written_list}
use Rattle.cs_ast.specs.RawHeight.{height, highest}
use Rattle.cs_ast.proofs.HeightsOfNodes.{height-Call, height-SizeOfType, height-Cast}
use Rattle.cs_consts.proofs.Heights.{height-among}
use Rattle.cs_scopes.specs.Verdicts.{Fine, Fault, lift, IsRefused, Yields, Answers}
use Rattle.cs_scopes.specs.Faults.{least_code, unless_fault, unless_stopped}
use Rattle.cs_expressions.specs.Stores.{steppable, step_operator, led}
use Rattle.cs_expressions.specs.Operators.{followed}
use Rattle.cs_expressions.specs.Places.{selected}
use Rattle.cs_scopes.specs.Meanings.{signature_of}
use Rattle.cs_expressions.specs.Calls.{shape_in}
use Rattle.cs_consts.specs.declared.purpose.Purpose.TheVariants.{Constant}
use Rattle.cs_consts.specs.Rows.{expressions_before}
use Rattle.cs_consts.specs.Typing.{literals_after, literals_after_list, arguments_listed, formed, done, value_in, operand_in, infix_formed, choice_formed}
use Rattle.cs_consts.specs.Typing.{store_formed, cast_formed, call_formed, stepped_object, measured_arrays, measured_type, measured_type_name, base_in}
use Rattle.cs_consts.specs.Typing.{arguments_listed_fault, numbers_listed, bounds_listed, bound_number}
use Rattle.cs_consts.specs.Typing.{subscript_formed, arrow_on, prefixed, number_at}
use Rattle.cs_scopes.proofs.Lifting.{lift-refused, lift2-refused-first, yields_as}
use Rattle.cs_consts.proofs.Productions.{done_stops, done_is, value_stops, value_is, operand_stops, operand_is, infix_left_stops, infix_right_stops}
use Rattle.cs_consts.proofs.Productions.{infix_taken, subscript_left_stops, subscript_right_stops, subscript_taken}
use Rattle.cs_consts.proofs.Productions.{choice_test_stops, choice_tested_stops, choice_one_stops, choice_other_stops, choice_taken}
use Rattle.cs_consts.proofs.Productions.{store_object_stops, store_left_stops, store_value_stops, store_taken, cast_type_stops, cast_operand_stops, cast_taken}
use Rattle.cs_consts.proofs.Productions.{call_other_stops, call_other, call_arguments_stop, call_taken, call_passes}
use Rattle.cs_consts.proofs.ProductionRows.{formed-Call, formed-SizeOfType, formed-Cast, literals-Call, literals-SizeOfType}
use Rattle.cs_consts.proofs.RowsSoFar.{none_before, at_place, argument_taken, argument_stopped, code_taken, code_stopped, arguments_end, codes_end, one_over}
use Rattle.cs_consts.proofs.RowsSoFar.{number_taken, bound_passed, bound_stops, some_refused, both}
use Rattle.cs_consts.proofs.SingleParts.{part_taken, parts_taken, second_stops, step_object_stops, step_steppable_stops, step_taken, size_base_stops}
use Rattle.cs_consts.proofs.SingleParts.{size_complete_stops, size_stops, size_taken, size_bounds_stop, on_ok}
use Rattle.cs_consts.proofs.typing.+typing.Goals as goal
use Rattle.cs_consts.proofs.typing.+typing.Goals.{arguments_of-in-Ok+in_ok-push-in-Ok, arguments_of-in-Err-Code}
use Rattle.cs_consts.proofs.typing.+typing.Goals.{bounds_of-in-Ok+in_ok-push-in-Ok, bounds_of-in-Err-Code+in_ok-push-in-Err-Code}

pub judged-returns-in_err-value-clause-reported : goal.judged-returns-in_err-value-clause-reported
judged-returns-in_err-value-clause-reported t c =
    let e : c.from_residual.result ≡ Err c.in_err-value.field-0.0 = search rules in
    subst (Yields (done c.args.context.now c.args.purpose
    (formed c.args.context.now c.args.purpose c.args.literals.now.items (shape_in c.args.target) c.args.tree.now.place c.args.tree.now.kind.value))) (sym e)
    (done_stops c.args.context.now c.args.purpose _ c.in_err-value.field-0.0 c.in_err-value.ensures.reported)

pub judged-returns-clause-reported : goal.judged-returns-clause-reported
judged-returns-clause-reported t c =
    yields_as c.finished.result (done_is c.args.context.now c.args.purpose _ (typed c.in_ok-value.value) c.in_ok-value.ensures.reported) c.finished.ensures

pub value_in-returns-in_err-value-clause-reported : goal.value_in-returns-in_err-value-clause-reported
value_in-returns-in_err-value-clause-reported t c =
    let e : c.from_residual.result ≡ Err c.in_err-value.field-0.0 = search rules in
    subst (Yields (value_in c.args.context.now c.args.purpose
    (formed c.args.context.now c.args.purpose c.args.literals.now.items None c.args.tree.now.place c.args.tree.now.kind.value))) (sym e)
    (value_stops c.args.context.now c.args.purpose _ c.in_err-value.field-0.0 c.in_err-value.ensures.reported)

pub value_in-returns-clause-reported : goal.value_in-returns-clause-reported
value_in-returns-clause-reported t c =
    yields_as c.valued.result (value_is c.args.context.now c.args.purpose _ (typed c.in_ok-value.value) c.in_ok-value.ensures.reported) c.valued.ensures

pub operand_in-returns-in_err-value-clause-reported : goal.operand_in-returns-in_err-value-clause-reported
operand_in-returns-in_err-value-clause-reported t c =
    let e : c.from_residual.result ≡ Err c.in_err-value.field-0.0 = search rules in
    subst (Yields (operand_in c.args.context.now c.args.purpose
    (formed c.args.context.now c.args.purpose c.args.literals.now.items (shape_in c.args.target) c.args.tree.now.place c.args.tree.now.kind.value))) (sym e)
    (operand_stops c.args.context.now c.args.purpose _ c.in_err-value.field-0.0 c.in_err-value.ensures.reported)

pub operand_in-returns-clause-reported : goal.operand_in-returns-clause-reported
operand_in-returns-clause-reported t c =
    yields_as c.operand.result (operand_is c.args.context.now c.args.purpose _ (typed c.in_ok-value.value) c.in_ok-value.ensures.reported) c.operand.ensures

pub infix-returns-in_err-left-clause-reported : goal.infix-returns-in_err-left-clause-reported
infix-returns-in_err-left-clause-reported t c =
    let e : c.from_residual.result ≡ Err c.in_err-left.field-0.0 = search rules in
    subst (Yields (infix_formed c.args.context.now c.args.purpose c.args.literals.now.items c.args.place c.args.operator c.args.left.now c.args.right.now))
    (sym e) (infix_left_stops c.args.context.now c.args.purpose c.args.literals.now.items c.args.place c.args.operator c.args.left.now c.args.right.now
    c.in_err-left.field-0.0 c.in_err-left.ensures.reported)

pub infix-returns-in_err-right-clause-reported : goal.infix-returns-in_err-right-clause-reported
infix-returns-in_err-right-clause-reported t c =
    let e : c.from_residual-in_err-right.result ≡ Err c.in_err-right.field-0.0 = search rules in
    let right =
    operand_in c.args.context.now c.purpose_after-following.result
    (formed c.args.context.now c.purpose_after-following.result c.operand_in.new.literals.items None c.args.right.now.place c.args.right.now.kind.value) in
    let refused = c.in_err-right.ensures.reported right c.operand_in-other.ensures.reported in
    subst (Yields (infix_formed c.args.context.now c.args.purpose c.args.literals.now.items c.args.place c.args.operator c.args.left.now c.args.right.now))
    (sym e) (infix_right_stops c.args.context.now c.args.purpose c.args.literals.now.items c.operand_in.new.literals.items c.args.place c.args.operator
    c.args.left.now c.args.right.now (typed c.in_ok-left.left) c.purpose_after-following.result c.left_operand_fault-fault.result
    c.in_err-right.field-0.0 c.in_ok-left.ensures.reported c.purpose_after-following.ensures c.in_ok-left.ensures.texts
    c.left_operand_fault-fault.ensures refused)

pub infix-returns-clause-reported : goal.infix-returns-clause-reported
infix-returns-clause-reported t c =
    let right =
    operand_in c.args.context.now c.purpose_after-following.result
    (formed c.args.context.now c.purpose_after-following.result c.operand_in.new.literals.items None c.args.right.now.place c.args.right.now.kind.value) in
    let given = c.in_ok-right.ensures.reported right c.operand_in-other.ensures.reported in
    infix_taken c.args.context.now c.args.purpose c.args.literals.now.items c.operand_in.new.literals.items c.args.place c.args.operator c.args.left.now
    c.args.right.now (typed c.in_ok-left.left) (typed c.in_ok-right.right) c.purpose_after-following.result c.left_operand_fault-fault.result
    c.combined.result c.in_ok-left.ensures.reported c.purpose_after-following.ensures c.in_ok-left.ensures.texts c.left_operand_fault-fault.ensures given
    c.combined.ensures

pub subscript-returns-in_err-left-clause-reported : goal.subscript-returns-in_err-left-clause-reported
subscript-returns-in_err-left-clause-reported t c =
    let e : c.from_residual.result ≡ Err c.in_err-left.field-0.0 = search rules in
    subst (Yields (subscript_formed c.args.context.now c.args.purpose c.args.literals.now.items c.args.place c.args.left.now c.args.right.now))
    (sym e) (subscript_left_stops c.args.context.now c.args.purpose c.args.literals.now.items c.args.place c.args.left.now c.args.right.now
    c.in_err-left.field-0.0 c.in_err-left.ensures.reported)

pub subscript-returns-in_err-right-clause-reported : goal.subscript-returns-in_err-right-clause-reported
subscript-returns-in_err-right-clause-reported t c =
    let e : c.from_residual-in_err-right.result ≡ Err c.in_err-right.field-0.0 = search rules in
    let right =
    operand_in c.args.context.now c.args.purpose
    (formed c.args.context.now c.args.purpose c.operand_in.new.literals.items None c.args.right.now.place c.args.right.now.kind.value) in
    let refused = c.in_err-right.ensures.reported right c.operand_in-other.ensures.reported in
    subst (Yields (subscript_formed c.args.context.now c.args.purpose c.args.literals.now.items c.args.place c.args.left.now c.args.right.now))
    (sym e) (subscript_right_stops c.args.context.now c.args.purpose c.args.literals.now.items c.operand_in.new.literals.items c.args.place
    c.args.left.now c.args.right.now (typed c.in_ok-left.left) c.left_operand_fault-fault.result c.in_err-right.field-0.0 c.in_ok-left.ensures.reported
    c.in_ok-left.ensures.texts c.left_operand_fault-fault.ensures refused)

pub subscript-returns-clause-reported : goal.subscript-returns-clause-reported
subscript-returns-clause-reported t c =
    let right =
    operand_in c.args.context.now c.args.purpose
    (formed c.args.context.now c.args.purpose c.operand_in.new.literals.items None c.args.right.now.place c.args.right.now.kind.value) in
    let given = c.in_ok-right.ensures.reported right c.operand_in-other.ensures.reported in
    subscript_taken c.args.context.now c.args.purpose c.args.literals.now.items c.operand_in.new.literals.items c.args.place c.args.left.now
    c.args.right.now (typed c.in_ok-left.left) (typed c.in_ok-right.right) c.left_operand_fault-fault.result c.indexed.result
    c.in_ok-left.ensures.reported c.in_ok-left.ensures.texts c.left_operand_fault-fault.ensures given c.indexed.ensures

pub select-returns-in_err-test-clause-reported : goal.select-returns-in_err-test-clause-reported
select-returns-in_err-test-clause-reported t c =
    let e : c.from_residual.result ≡ Err c.in_err-test.field-0.0 = search rules in
    subst (Yields (choice_formed c.args.context.now c.args.purpose c.args.literals.now.items c.args.place c.args.test.now c.args.one.now c.args.other.now))
    (sym e) (choice_test_stops c.args.context.now c.args.purpose c.args.literals.now.items c.args.place c.args.test.now c.args.one.now c.args.other.now
    c.in_err-test.field-0.0 c.in_err-test.ensures.reported)

pub select-returns-in_err-test-2-clause-reported : goal.select-returns-in_err-test-2-clause-reported
select-returns-in_err-test-2-clause-reported t c =
    let e : c.from_residual-in_err-test-2.result ≡ Err c.in_err-test-2.field-0.0 = search rules in
    subst (Yields (choice_formed c.args.context.now c.args.purpose c.args.literals.now.items c.args.place c.args.test.now c.args.one.now c.args.other.now))
    (sym e) (choice_tested_stops c.args.context.now c.args.purpose c.args.literals.now.items c.args.place c.args.test.now c.args.one.now c.args.other.now
    (typed c.in_ok-test.test) c.in_err-test-2.field-0.0 c.in_ok-test.ensures.reported c.in_err-test-2.ensures)

pub select-returns-in_err-one-clause-reported : goal.select-returns-in_err-one-clause-reported
select-returns-in_err-one-clause-reported t c =
    let e : c.from_residual-in_err-one.result ≡ Err c.in_err-one.field-0.0 = search rules in
    subst (Yields (choice_formed c.args.context.now c.args.purpose c.args.literals.now.items c.args.place c.args.test.now c.args.one.now c.args.other.now))
    (sym e) (choice_one_stops c.args.context.now c.args.purpose c.args.literals.now.items c.operand_in.new.literals.items c.args.place c.args.test.now
    c.args.one.now c.args.other.now (typed c.in_ok-test.test) (typed c.in_ok-test-2.test) c.purpose_if-for_one.result c.in_err-one.field-0.0
    c.in_ok-test.ensures.reported c.in_ok-test-2.ensures c.purpose_if-for_one.ensures c.in_ok-test.ensures.texts c.in_err-one.ensures.reported)

pub select-returns-in_err-other-clause-reported : goal.select-returns-in_err-other-clause-reported
select-returns-in_err-other-clause-reported t c =
    let e : c.from_residual-in_err-other.result ≡ Err c.in_err-other.field-0.0 = search rules in
    subst (Yields (choice_formed c.args.context.now c.args.purpose c.args.literals.now.items c.args.place c.args.test.now c.args.one.now c.args.other.now))
    (sym e) (choice_other_stops c.args.context.now c.args.purpose c.args.literals.now.items c.operand_in.new.literals.items c.value_in.new.literals.items
    c.args.place c.args.test.now c.args.one.now c.args.other.now (typed c.in_ok-test.test) (typed c.in_ok-test-2.test) (typed c.in_ok-one.one)
    c.purpose_if-for_one.result c.purpose_if-for_other.result c.in_err-other.field-0.0 c.in_ok-test.ensures.reported c.in_ok-test-2.ensures
    c.purpose_if-for_one.ensures c.purpose_if-for_other.ensures c.in_ok-test.ensures.texts c.in_ok-one.ensures.texts c.in_ok-one.ensures.reported
    c.in_err-other.ensures.reported)

pub select-returns-clause-reported : goal.select-returns-clause-reported
select-returns-clause-reported t c =
    choice_taken c.args.context.now c.args.purpose c.args.literals.now.items c.operand_in.new.literals.items c.value_in.new.literals.items c.args.place
    c.args.test.now c.args.one.now c.args.other.now (typed c.in_ok-test.test) (typed c.in_ok-test-2.test) (typed c.in_ok-one.one)
    (typed c.in_ok-other.other) c.purpose_if-for_one.result c.purpose_if-for_other.result c.chosen.result c.in_ok-test.ensures.reported
    c.in_ok-test-2.ensures c.purpose_if-for_one.ensures c.purpose_if-for_other.ensures c.in_ok-test.ensures.texts c.in_ok-one.ensures.texts
    c.in_ok-one.ensures.reported c.in_ok-other.ensures.reported c.chosen.ensures

pub store-returns-in_err-object-clause-reported : goal.store-returns-in_err-object-clause-reported
store-returns-in_err-object-clause-reported t c =
    let e : c.from_residual.result ≡ Err c.in_err-object.field-0.0 = search rules in
    subst (Yields (store_formed c.args.context.now c.args.purpose c.args.literals.now.items c.args.place c.args.operator c.args.object.now c.args.value.now))
    (sym e) (store_object_stops c.args.context.now c.args.purpose c.args.literals.now.items c.args.place c.args.operator c.args.object.now c.args.value.now
    c.in_err-object.field-0.0 c.in_err-object.ensures.reported)

pub store-returns-in_err-object-2-clause-reported : goal.store-returns-in_err-object-2-clause-reported
store-returns-in_err-object-2-clause-reported t c =
    let e : c.from_residual-in_err-object-2.result ≡ Err c.in_err-object-2.field-0.0 = search rules in
    subst (Yields (store_formed c.args.context.now c.args.purpose c.args.literals.now.items c.args.place c.args.operator c.args.object.now c.args.value.now))
    (sym e) (store_left_stops c.args.context.now c.args.purpose c.args.literals.now.items c.args.place c.args.operator c.args.object.now c.args.value.now
    (typed c.in_ok-object.object) c.in_err-object-2.field-0.0 c.in_ok-object.ensures.reported c.in_err-object-2.ensures)

pub store-returns-in_err-value-clause-reported : goal.store-returns-in_err-value-clause-reported
store-returns-in_err-value-clause-reported t c =
    let e : c.from_residual-in_err-value.result ≡ Err c.in_err-value.field-0.0 = search rules in
    let right =
    operand_in c.args.context.now c.args.purpose
    (formed c.args.context.now c.args.purpose c.judged.new.literals.items (shape_in c.right_target-target.result) c.args.value.now.place
    c.args.value.now.kind.value) in
    let refused = c.in_err-value.ensures.reported right c.operand_in-right.ensures.reported in
    subst (Yields (store_formed c.args.context.now c.args.purpose c.args.literals.now.items c.args.place c.args.operator c.args.object.now c.args.value.now))
    (sym e) (store_value_stops c.args.context.now c.args.purpose c.args.literals.now.items c.judged.new.literals.items c.args.place c.args.operator
    c.args.object.now c.args.value.now (typed c.in_ok-object.object) (typed c.in_ok-object-2.object) (shape_in c.right_target-target.result)
    c.in_err-value.field-0.0 c.in_ok-object.ensures.reported c.in_ok-object-2.ensures c.in_ok-object.ensures.texts c.right_target-target.ensures
    (subst (λ f. IsRefused (led c.args.place f right) c.in_err-value.field-0.0) c.left_fault-fault.ensures refused))

pub store-returns-clause-reported : goal.store-returns-clause-reported
store-returns-clause-reported t c =
    let right =
    operand_in c.args.context.now c.args.purpose
    (formed c.args.context.now c.args.purpose c.judged.new.literals.items (shape_in c.right_target-target.result) c.args.value.now.place
    c.args.value.now.kind.value) in
    let given = c.in_ok-value.ensures.reported right c.operand_in-right.ensures.reported in
    store_taken c.args.context.now c.args.purpose c.args.literals.now.items c.judged.new.literals.items c.args.place c.args.operator c.args.object.now
    c.args.value.now (typed c.in_ok-object.object) (typed c.in_ok-object-2.object) (typed c.in_ok-value.value) (shape_in c.right_target-target.result)
    c.stored.result c.in_ok-object.ensures.reported c.in_ok-object-2.ensures c.in_ok-object.ensures.texts c.right_target-target.ensures
    (subst (λ f. led c.args.place f right ≡ Fine (typed c.in_ok-value.value)) c.left_fault-fault.ensures given) c.stored.ensures

pub cast-returns-in_err-target-clause-reported : goal.cast-returns-in_err-target-clause-reported
cast-returns-in_err-target-clause-reported t c =
    let e : c.from_residual.result ≡ Err c.in_err-target.field-0.0 = search rules in
    subst (Yields (cast_formed c.args.context.now c.args.purpose c.args.literals.now.items c.args.place c.args.ty.now c.args.bounds c.args.operand.now)) (sym e)
    (cast_type_stops c.args.context.now c.args.purpose c.args.literals.now.items c.args.place c.args.ty.now c.args.bounds c.args.operand.now
    c.in_err-target.field-0.0 c.in_err-target.ensures)

pub cast-returns-in_err-value-clause-reported : goal.cast-returns-in_err-value-clause-reported
cast-returns-in_err-value-clause-reported t c =
    let e : c.from_residual-in_err-value.result ≡ Err c.in_err-value.field-0.0 = search rules in
    subst (Yields (cast_formed c.args.context.now c.args.purpose c.args.literals.now.items c.args.place c.args.ty.now c.args.bounds c.args.operand.now)) (sym e)
    (cast_operand_stops c.args.context.now c.args.purpose c.args.literals.now.items c.args.place c.args.ty.now c.args.bounds c.args.operand.now
    (shape_of c.in_ok-target.target) c.in_err-value.field-0.0 c.in_ok-target.ensures c.in_err-value.ensures.reported)

pub cast-returns-clause-reported : goal.cast-returns-clause-reported
cast-returns-clause-reported t c =
    cast_taken c.args.context.now c.args.purpose c.args.literals.now.items c.args.place c.args.ty.now c.args.bounds c.args.operand.now
    (shape_of c.in_ok-target.target) (typed c.in_ok-value.value) c.cast_to.result c.in_ok-target.ensures c.in_ok-value.ensures.reported c.cast_to.ensures

pub step-returns-in_err-object-clause-reported : goal.step-returns-in_err-object-clause-reported
step-returns-in_err-object-clause-reported t c =
    let e : c.from_residual.result ≡ Err c.in_err-object.field-0.0 = search rules in
    subst (Yields (lift (stepped_object c.args.context.now (step_operator c.args.step) c.args.gives c.args.place)
    (lift (steppable c.args.context.now.table.list (step_operator c.args.step) c.args.place)
    (done c.args.context.now c.args.purpose
    (formed c.args.context.now c.args.purpose c.args.literals.now.items None c.args.object.now.place c.args.object.now.kind.value))))) (sym e)
    (step_object_stops c.args.context.now c.args.place (step_operator c.args.step) c.args.gives
    (done c.args.context.now c.args.purpose
    (formed c.args.context.now c.args.purpose c.args.literals.now.items None c.args.object.now.place c.args.object.now.kind.value))
    c.in_err-object.field-0.0 c.in_err-object.ensures.reported)

pub step-returns-in_err-object-2-clause-reported : goal.step-returns-in_err-object-2-clause-reported
step-returns-in_err-object-2-clause-reported t c =
    let e : c.from_residual-in_err-object-2.result ≡ Err c.in_err-object-2.field-0.0 = search rules in
    subst (Yields (lift (stepped_object c.args.context.now (step_operator c.args.step) c.args.gives c.args.place)
    (lift (steppable c.args.context.now.table.list (step_operator c.args.step) c.args.place)
    (done c.args.context.now c.args.purpose
    (formed c.args.context.now c.args.purpose c.args.literals.now.items None c.args.object.now.place c.args.object.now.kind.value))))) (sym e)
    (step_steppable_stops c.args.context.now c.args.place (step_operator c.args.step) c.step_operator-operator.result c.args.gives
    (done c.args.context.now c.args.purpose
    (formed c.args.context.now c.args.purpose c.args.literals.now.items None c.args.object.now.place c.args.object.now.kind.value))
    (typed c.in_ok-object.object) c.in_err-object-2.field-0.0 c.step_operator-operator.ensures c.in_ok-object.ensures.reported c.in_err-object-2.ensures)

pub step-returns-clause-reported : goal.step-returns-clause-reported
step-returns-clause-reported t c =
    step_taken c.args.context.now c.args.place (step_operator c.args.step) c.step_operator-operator.result c.args.gives
    (done c.args.context.now c.args.purpose
    (formed c.args.context.now c.args.purpose c.args.literals.now.items None c.args.object.now.place c.args.object.now.kind.value))
    (typed c.in_ok-object.object) (typed c.in_ok-object-2.object) c.stepped.result c.step_operator-operator.ensures c.in_ok-object.ensures.reported
    c.in_ok-object-2.ensures c.stepped.ensures

pub size_of_type-returns-in_err-base-clause-reported : goal.size_of_type-returns-in_err-base-clause-reported
size_of_type-returns-in_err-base-clause-reported t c =
    let e : c.from_residual.result ≡ Err c.in_err-base.field-0.0 = search rules in
    let base = base_in c.args.context.now c.args.place c.args.ty.now in
    let ns = numbers_listed c.args.context.now c.args.literals.now.items c.args.bounds.now in
    let bounds = bounds_listed c.args.context.now c.args.literals.now.items c.args.bounds.now in
    subst (Yields (measured_type_name c.args.context.now c.args.place base ns bounds)) (sym e)
    (size_base_stops c.args.context.now c.args.place base ns bounds c.in_err-base.field-0.0 c.in_err-base.ensures)

pub size_of_type-returns-in_err-base-2-clause-reported : goal.size_of_type-returns-in_err-base-2-clause-reported
size_of_type-returns-in_err-base-2-clause-reported t c =
    let e : c.from_residual-in_err-base-2.result ≡ Err c.in_err-base-2.field-0.0 = search rules in
    let base = base_in c.args.context.now c.args.place c.args.ty.now in
    let ns = numbers_listed c.args.context.now c.args.literals.now.items c.args.bounds.now in
    let bounds = bounds_listed c.args.context.now c.args.literals.now.items c.args.bounds.now in
    subst (Yields (measured_type_name c.args.context.now c.args.place base ns bounds)) (sym e)
    (size_complete_stops c.args.context.now c.args.place base ns bounds (shape_of c.in_ok-base.base) c.in_ok-base.ensures c.in_err-base-2.field-0.0
    c.in_err-base-2.ensures)

pub size_of_type-returns-in_err-size-clause-reported : goal.size_of_type-returns-in_err-size-clause-reported
size_of_type-returns-in_err-size-clause-reported t c =
    let e : c.from_residual-in_err-size.result ≡ Err c.in_err-size.field-0.0 = search rules in
    let base = base_in c.args.context.now c.args.place c.args.ty.now in
    let ns = numbers_listed c.args.context.now c.args.literals.now.items c.args.bounds.now in
    let bounds = bounds_listed c.args.context.now c.args.literals.now.items c.args.bounds.now in
    subst (Yields (measured_type_name c.args.context.now c.args.place base ns bounds)) (sym e)
    (size_stops c.args.context.now c.args.place base ns bounds (shape_of c.in_ok-base.base) c.in_ok-base.ensures (shape_of c.in_ok-base-2.base)
    c.in_ok-base-2.ensures c.in_err-size.field-0.0
    (subst (λ l. IsRefused (measured_arrays c.args.context.now c.args.place l (shape_of c.in_ok-base-2.base)) c.in_err-size.field-0.0)
    (c.deref.ensures.value ∙ c.in_ok-bounds.ensures.numbers) c.in_err-size.ensures))

pub size_of_type-returns-in-Some-clause-reported : goal.size_of_type-returns-in-Some-clause-reported
size_of_type-returns-in-Some-clause-reported t c =
    let base = base_in c.args.context.now c.args.place c.args.ty.now in
    let ns = numbers_listed c.args.context.now c.args.literals.now.items c.args.bounds.now in
    let bounds = bounds_listed c.args.context.now c.args.literals.now.items c.args.bounds.now in
    size_bounds_stop c.args.context.now c.args.place base ns bounds (shape_of c.in_ok-base.base) c.in_ok-base.ensures (shape_of c.in_ok-base-2.base)
    c.in_ok-base-2.ensures (typed c.in_ok-size.size) c.in-Some.code c.in-Some.at
    (subst (λ l. measured_arrays c.args.context.now c.args.place l (shape_of c.in_ok-base-2.base) ≡ Fine (typed c.in_ok-size.size))
    (c.deref.ensures.value ∙ c.in_ok-bounds.ensures.numbers) c.in_ok-size.ensures)
    (sym c.in_ok-bounds.ensures.refused ∙ ap (λ r. unless_stopped r (Fine tt)) c.in-Some.is)

pub size_of_type-returns-clause-reported : goal.size_of_type-returns-clause-reported
size_of_type-returns-clause-reported t c =
    let base = base_in c.args.context.now c.args.place c.args.ty.now in
    let ns = numbers_listed c.args.context.now c.args.literals.now.items c.args.bounds.now in
    let bounds = bounds_listed c.args.context.now c.args.literals.now.items c.args.bounds.now in
    size_taken c.args.context.now c.args.place base ns bounds (shape_of c.in_ok-base.base) c.in_ok-base.ensures (shape_of c.in_ok-base-2.base)
    c.in_ok-base-2.ensures (typed c.in_ok-size.size)
    (subst (λ l. measured_arrays c.args.context.now c.args.place l (shape_of c.in_ok-base-2.base) ≡ Fine (typed c.in_ok-size.size))
    (c.deref.ensures.value ∙ c.in_ok-bounds.ensures.numbers) c.in_ok-size.ensures)
    (sym c.in_ok-bounds.ensures.refused ∙ ap (λ r. unless_stopped r (Fine tt)) c.in-None.is)

pub call-call_with-requires : goal.call-call_with-requires
call-call_with-requires t c =
    let counted = call_passes c.args.place (shape_in c.args.target) (length c.args.arguments.now) c.in-Some.called.now c.call_fault-fault.result _ _ _
    c.call_fault-fault.ensures c.in_ok-values.ensures.reported in
    c.in_ok-values.ensures.count counted ∙ counted

pub call-returns-clause-texts : goal.call-returns-clause-texts
call-returns-clause-texts t c =
    let counted = call_passes c.args.place (shape_in c.args.target) (length c.args.arguments.now) c.in-Some.called.now c.call_fault-fault.result _ _ _
    c.call_fault-fault.ensures c.in_ok-values.ensures.reported in
    on_ok c.call_with.result (c.in_ok-values.ensures.texts counted)

pub call-returns-in_err-operand_in-clause-reported : goal.call-returns-in_err-operand_in-clause-reported
call-returns-in_err-operand_in-clause-reported t c =
    let e : c.from_residual.result ≡ Err c.in_err-operand_in.field-0.0 = search rules in
    subst (Yields (call_formed c.args.context.now c.args.purpose c.args.literals.now.items (shape_in c.args.target) c.args.place c.args.function.now
    c.args.arguments.now)) (sym e)
    (call_other_stops c.args.context.now c.args.purpose c.args.literals.now.items (shape_in c.args.target) c.args.place c.args.function.now
    c.args.arguments.now c.in_err-operand_in.field-0.0 (sym c.called.ensures ∙ ap (λ r. option_map signature_of (option_copied r)) c.in_default.is)
    c.in_err-operand_in.ensures.reported)

pub call-returns-in_default-clause-reported : goal.call-returns-in_default-clause-reported
call-returns-in_default-clause-reported t c =
    call_other c.args.context.now c.args.purpose c.args.literals.now.items (shape_in c.args.target) c.args.place c.args.function.now c.args.arguments.now
    (typed c.in_ok-operand_in.field-0) (sym c.called.ensures ∙ ap (λ r. option_map signature_of (option_copied r)) c.in_default.is)
    c.in_ok-operand_in.ensures.reported

pub call-returns-in_err-values-clause-reported : goal.call-returns-in_err-values-clause-reported
call-returns-in_err-values-clause-reported t c =
    let e : c.from_residual-in_err-values.result ≡ Err c.in_err-values.field-0.0 = search rules in
    let found = sym c.called.ensures ∙ ap (λ r. option_map signature_of (option_copied r)) c.in-Some.is in
    subst (Yields (call_formed c.args.context.now c.args.purpose c.args.literals.now.items (shape_in c.args.target) c.args.place c.args.function.now
    c.args.arguments.now)) (sym e)
    (call_arguments_stop c.args.context.now c.args.purpose c.args.literals.now.items (shape_in c.args.target) c.args.place c.args.function.now
    c.args.arguments.now (signature_of c.in-Some.called.now) found c.in_err-values.field-0.0
    (subst (λ f.
    IsRefused (unless_fault c.args.place
    (least_code f (arguments_listed_fault c.args.context.now c.args.purpose c.args.literals.now.items c.args.place
    (signature_of c.in-Some.called.now).parameters c.args.arguments.now))
    (arguments_listed c.args.context.now c.args.purpose c.args.literals.now.items (signature_of c.in-Some.called.now).parameters c.args.arguments.now))
    c.in_err-values.field-0.0) c.call_fault-fault.ensures c.in_err-values.ensures.reported))

pub call-returns-clause-reported : goal.call-returns-clause-reported
call-returns-clause-reported t c =
    let found = sym c.called.ensures ∙ ap (λ r. option_map signature_of (option_copied r)) c.in-Some.is in
    call_taken c.args.context.now c.args.purpose c.args.literals.now.items (shape_in c.args.target) c.args.place c.args.function.now c.args.arguments.now
    (signature_of c.in-Some.called.now) found (typed_list c.in_ok-values.values.items) c.call_with.result
    (subst (λ f.
    unless_fault c.args.place
    (least_code f (arguments_listed_fault c.args.context.now c.args.purpose c.args.literals.now.items c.args.place
    (signature_of c.in-Some.called.now).parameters c.args.arguments.now))
    (arguments_listed c.args.context.now c.args.purpose c.args.literals.now.items (signature_of c.in-Some.called.now).parameters c.args.arguments.now)
    ≡ Fine (typed_list c.in_ok-values.values.items)) c.call_fault-fault.ensures c.in_ok-values.ensures.reported) c.call_with.ensures

pub formed-returns-in-Index-clause-reported : goal.formed-returns-in-Index-clause-reported
formed-returns-in-Index-clause-reported t c =
    subst (λ k.
    Yields (formed c.args.context.now c.args.purpose c.args.literals.now.items (shape_in c.args.target) c.args.tree.now.place k) c.subscript.result)
    (sym c.in-Index.is ∙ c.deref.ensures) c.subscript.ensures.reported

pub formed-returns-in-Infix-clause-reported : goal.formed-returns-in-Infix-clause-reported
formed-returns-in-Infix-clause-reported t c =
    subst (λ k. Yields (formed c.args.context.now c.args.purpose c.args.literals.now.items (shape_in c.args.target) c.args.tree.now.place k) c.infix.result)
    (sym c.in-Infix.is ∙ c.deref.ensures) c.infix.ensures.reported

pub formed-returns-in-Choice-clause-reported : goal.formed-returns-in-Choice-clause-reported
formed-returns-in-Choice-clause-reported t c =
    subst (λ k. Yields (formed c.args.context.now c.args.purpose c.args.literals.now.items (shape_in c.args.target) c.args.tree.now.place k) c.select.result)
    (sym c.in-Choice.is ∙ c.deref.ensures) c.select.ensures.reported

pub formed-returns-in-Assign-clause-reported : goal.formed-returns-in-Assign-clause-reported
formed-returns-in-Assign-clause-reported t c =
    subst (λ k. Yields (formed c.args.context.now c.args.purpose c.args.literals.now.items (shape_in c.args.target) c.args.tree.now.place k) c.store.result)
    (sym c.in-Assign.is ∙ c.deref.ensures) c.store.ensures.reported

pub formed-returns-in-StepAfter-clause-reported : goal.formed-returns-in-StepAfter-clause-reported
formed-returns-in-StepAfter-clause-reported t c =
    subst (λ k. Yields (formed c.args.context.now c.args.purpose c.args.literals.now.items (shape_in c.args.target) c.args.tree.now.place k) c.step.result)
    (sym c.in-StepAfter.is ∙ c.deref.ensures) c.step.ensures.reported

pub formed-returns-in-StepBefore-clause-reported : goal.formed-returns-in-StepBefore-clause-reported
formed-returns-in-StepBefore-clause-reported t c =
    subst (λ k.
    Yields (formed c.args.context.now c.args.purpose c.args.literals.now.items (shape_in c.args.target) c.args.tree.now.place k)
    c.step-in-StepBefore.result) (sym c.in-StepBefore.is ∙ c.deref.ensures) c.step-in-StepBefore.ensures.reported

pub formed-returns-in-Parenthesis-clause-reported : goal.formed-returns-in-Parenthesis-clause-reported
formed-returns-in-Parenthesis-clause-reported t c =
    subst (λ k. Yields (formed c.args.context.now c.args.purpose c.args.literals.now.items (shape_in c.args.target) c.args.tree.now.place k) c.judged.result)
    (sym c.in-Parenthesis.is ∙ c.deref.ensures) c.judged.ensures.reported

pub formed-returns-in-Call-clause-reported : goal.formed-returns-in-Call-clause-reported
formed-returns-in-Call-clause-reported t c =
    subst (λ k. Yields (formed c.args.context.now c.args.purpose c.args.literals.now.items (shape_in c.args.target) c.args.tree.now.place k) c.call.result)
    (sym c.in-Call.is ∙ c.deref.ensures)
    (yields_as c.call.result (formed-Call c.args.context.now c.args.purpose c.args.literals.now.items (shape_in c.args.target) c.args.tree.now.place
    c.in-Call.function c.in-Call.arguments)
    (subst (λ x.
    Yields (call_formed c.args.context.now c.args.purpose c.args.literals.now.items (shape_in c.args.target) c.args.tree.now.place c.in-Call.function x)
    c.call.result) c.deref-in-Call.ensures.value c.call.ensures.reported))

pub formed-returns-in-Cast-clause-reported : goal.formed-returns-in-Cast-clause-reported
formed-returns-in-Cast-clause-reported t c =
    let count : c.len-count.result ≡ length c.in-Cast.bounds.items = omega (arith, c.len-count.ensures, c.in-Cast.bounds.ok.0) in
    subst (λ k. Yields (formed c.args.context.now c.args.purpose c.args.literals.now.items (shape_in c.args.target) c.args.tree.now.place k) c.cast.result)
    (sym c.in-Cast.is ∙ c.deref.ensures)
    (yields_as c.cast.result (formed-Cast c.args.context.now c.args.purpose c.args.literals.now.items (shape_in c.args.target) c.args.tree.now.place
    c.in-Cast.ty c.in-Cast.bounds c.in-Cast.operand)
    ((subst (λ x.
    Yields (cast_formed c.args.context.now c.args.purpose c.args.literals.now.items c.args.tree.now.place c.in-Cast.ty x c.in-Cast.operand) c.cast.result)
    count c.cast.ensures.reported)))

pub formed-returns-in-SizeOfType-clause-reported : goal.formed-returns-in-SizeOfType-clause-reported
formed-returns-in-SizeOfType-clause-reported t c =
    subst (λ k.
    Yields (formed c.args.context.now c.args.purpose c.args.literals.now.items (shape_in c.args.target) c.args.tree.now.place k) c.size_of_type.result)
    (sym c.in-SizeOfType.is ∙ c.deref.ensures)
    (yields_as c.size_of_type.result
    (formed-SizeOfType c.args.context.now c.args.purpose c.args.literals.now.items (shape_in c.args.target) c.args.tree.now.place c.in-SizeOfType.ty
    c.in-SizeOfType.bounds) (subst (λ x.
    Yields (measured_type_name c.args.context.now c.args.tree.now.place (base_in c.args.context.now c.args.tree.now.place c.in-SizeOfType.ty)
    (numbers_listed c.args.context.now c.args.literals.now.items x) (bounds_listed c.args.context.now c.args.literals.now.items x)) c.size_of_type.result)
    c.deref-in-SizeOfType.ensures.value c.size_of_type.ensures.reported))

pub formed-returns-in_err-object-in-Member-clause-reported : goal.formed-returns-in_err-object-in-Member-clause-reported
formed-returns-in_err-object-in-Member-clause-reported t c =
    let e : c.from_residual-in_err-object-in-Member.result ≡ Err c.in_err-object-in-Member.field-0.0 = search rules in
    subst (λ k.
    Yields (formed c.args.context.now c.args.purpose c.args.literals.now.items (shape_in c.args.target) c.args.tree.now.place k)
    c.from_residual-in_err-object-in-Member.result) (sym c.in-Member.is ∙ c.deref.ensures)
    (subst
    (Yields (formed c.args.context.now c.args.purpose c.args.literals.now.items (shape_in c.args.target) c.args.tree.now.place
    (kind.Member c.in-Member.object c.in-Member.name))) (sym e)
    (lift-refused (selected c.args.context.now.table.list c.args.tree.now.place c.in-Member.name.place c.in-Member.name.name) _
    c.in_err-object-in-Member.field-0.0 c.in_err-object-in-Member.ensures.reported))

pub formed-returns-in_ok-object-in-Member-clause-reported : goal.formed-returns-in_ok-object-in-Member-clause-reported
formed-returns-in_ok-object-in-Member-clause-reported t c =
    subst (λ k. Yields (formed c.args.context.now c.args.purpose c.args.literals.now.items (shape_in c.args.target) c.args.tree.now.place k) c.selected.result)
    (sym c.in-Member.is ∙ c.deref.ensures)
    (part_taken (selected c.args.context.now.table.list c.args.tree.now.place c.in-Member.name.place c.in-Member.name.name) _
    (typed c.in_ok-object-in-Member.object) c.selected.result c.in_ok-object-in-Member.ensures.reported c.selected.ensures)

pub formed-returns-in_err-value-in-Arrow-clause-reported : goal.formed-returns-in_err-value-in-Arrow-clause-reported
formed-returns-in_err-value-in-Arrow-clause-reported t c =
    let e : c.from_residual-in_err-value-in-Arrow.result ≡ Err c.in_err-value-in-Arrow.field-0.0 = search rules in
    subst (λ k.
    Yields (formed c.args.context.now c.args.purpose c.args.literals.now.items (shape_in c.args.target) c.args.tree.now.place k)
    c.from_residual-in_err-value-in-Arrow.result) (sym c.in-Arrow.is ∙ c.deref.ensures)
    (subst
    (Yields (formed c.args.context.now c.args.purpose c.args.literals.now.items (shape_in c.args.target) c.args.tree.now.place
    (kind.Arrow c.in-Arrow.value c.in-Arrow.name))) (sym e)
    (lift-refused (arrow_on c.args.context.now c.args.tree.now.place c.in-Arrow.name.place c.in-Arrow.name.name) _ c.in_err-value-in-Arrow.field-0.0
    c.in_err-value-in-Arrow.ensures.reported))

pub formed-returns-in_ok-value-in-Arrow-clause-reported : goal.formed-returns-in_ok-value-in-Arrow-clause-reported
formed-returns-in_ok-value-in-Arrow-clause-reported t c =
    subst (λ k.
    Yields (formed c.args.context.now c.args.purpose c.args.literals.now.items (shape_in c.args.target) c.args.tree.now.place k) c.selected_through.result)
    (sym c.in-Arrow.is ∙ c.deref.ensures)
    (part_taken (arrow_on c.args.context.now c.args.tree.now.place c.in-Arrow.name.place c.in-Arrow.name.name) _ (typed c.in_ok-value-in-Arrow.value)
    c.selected_through.result c.in_ok-value-in-Arrow.ensures.reported c.selected_through.ensures)

pub formed-returns-in_err-operand-in-Prefix-clause-reported : goal.formed-returns-in_err-operand-in-Prefix-clause-reported
formed-returns-in_err-operand-in-Prefix-clause-reported t c =
    let e : c.from_residual-in_err-operand-in-Prefix.result ≡ Err c.in_err-operand-in-Prefix.field-0.0 = search rules in
    subst (λ k.
    Yields (formed c.args.context.now c.args.purpose c.args.literals.now.items (shape_in c.args.target) c.args.tree.now.place k)
    c.from_residual-in_err-operand-in-Prefix.result) (sym c.in-Prefix.is ∙ c.deref.ensures)
    (subst
    (Yields (formed c.args.context.now c.args.purpose c.args.literals.now.items (shape_in c.args.target) c.args.tree.now.place
    (kind.Prefix c.in-Prefix.operator c.in-Prefix.operand))) (sym e)
    (lift-refused (prefixed c.args.context.now c.in-Prefix.operator c.args.tree.now.place) _ c.in_err-operand-in-Prefix.field-0.0
    c.in_err-operand-in-Prefix.ensures.reported))

pub formed-returns-in_ok-operand-in-Prefix-clause-reported : goal.formed-returns-in_ok-operand-in-Prefix-clause-reported
formed-returns-in_ok-operand-in-Prefix-clause-reported t c =
    subst (λ k. Yields (formed c.args.context.now c.args.purpose c.args.literals.now.items (shape_in c.args.target) c.args.tree.now.place k) c.prefixed.result)
    (sym c.in-Prefix.is ∙ c.deref.ensures)
    (part_taken (prefixed c.args.context.now c.in-Prefix.operator c.args.tree.now.place) _ (typed c.in_ok-operand-in-Prefix.operand) c.prefixed.result
    c.in_ok-operand-in-Prefix.ensures.reported c.prefixed.ensures)

pub formed-returns-in_err-operand-in-SizeOf-clause-reported : goal.formed-returns-in_err-operand-in-SizeOf-clause-reported
formed-returns-in_err-operand-in-SizeOf-clause-reported t c =
    let e : c.from_residual-in_err-operand-in-SizeOf.result ≡ Err c.in_err-operand-in-SizeOf.field-0.0 = search rules in
    subst (λ k.
    Yields (formed c.args.context.now c.args.purpose c.args.literals.now.items (shape_in c.args.target) c.args.tree.now.place k)
    c.from_residual-in_err-operand-in-SizeOf.result) (sym c.in-SizeOf.is ∙ c.deref.ensures)
    (subst
    (Yields (formed c.args.context.now c.args.purpose c.args.literals.now.items (shape_in c.args.target) c.args.tree.now.place
    (kind.SizeOf c.in-SizeOf.operand))) (sym e)
    (lift-refused (measured_type c.args.context.now c.args.tree.now.place) _ c.in_err-operand-in-SizeOf.field-0.0
    c.in_err-operand-in-SizeOf.ensures.reported))

pub formed-returns-in_ok-operand-in-SizeOf-clause-reported : goal.formed-returns-in_ok-operand-in-SizeOf-clause-reported
formed-returns-in_ok-operand-in-SizeOf-clause-reported t c =
    subst (λ k. Yields (formed c.args.context.now c.args.purpose c.args.literals.now.items (shape_in c.args.target) c.args.tree.now.place k) c.measured.result)
    (sym c.in-SizeOf.is ∙ c.deref.ensures)
    (part_taken (measured_type c.args.context.now c.args.tree.now.place) _ (typed c.in_ok-operand-in-SizeOf.operand) c.measured.result
    c.in_ok-operand-in-SizeOf.ensures.reported c.measured.ensures)

pub formed-returns-in_err-first-in-Comma-clause-reported : goal.formed-returns-in_err-first-in-Comma-clause-reported
formed-returns-in_err-first-in-Comma-clause-reported t c =
    let e : c.from_residual-in_err-first-in-Comma.result ≡ Err c.in_err-first-in-Comma.field-0.0 = search rules in
    subst (λ k.
    Yields (formed c.args.context.now c.args.purpose c.args.literals.now.items (shape_in c.args.target) c.args.tree.now.place k)
    c.from_residual-in_err-first-in-Comma.result) (sym c.in-Comma.is ∙ c.deref.ensures)
    (subst
    (Yields (formed c.args.context.now c.args.purpose c.args.literals.now.items (shape_in c.args.target) c.args.tree.now.place
    (kind.Comma c.in-Comma.first c.in-Comma.second))) (sym e)
    (lift2-refused-first (followed c.args.tree.now.place) _ _ c.in_err-first-in-Comma.field-0.0 c.in_err-first-in-Comma.ensures.reported))

pub formed-returns-in_err-second-in-Comma-clause-reported : goal.formed-returns-in_err-second-in-Comma-clause-reported
formed-returns-in_err-second-in-Comma-clause-reported t c =
    let e : c.from_residual-in_err-second-in-Comma.result ≡ Err c.in_err-second-in-Comma.field-0.0 = search rules in
    subst (λ k.
    Yields (formed c.args.context.now c.args.purpose c.args.literals.now.items (shape_in c.args.target) c.args.tree.now.place k)
    c.from_residual-in_err-second-in-Comma.result) (sym c.in-Comma.is ∙ c.deref.ensures)
    (subst
    (Yields (formed c.args.context.now c.args.purpose c.args.literals.now.items (shape_in c.args.target) c.args.tree.now.place
    (kind.Comma c.in-Comma.first c.in-Comma.second))) (sym e)
    (second_stops (followed c.args.tree.now.place)
    (value_in c.args.context.now c.args.purpose
    (formed c.args.context.now c.args.purpose c.args.literals.now.items None c.in-Comma.first.place c.in-Comma.first.kind.value))
    (value_in c.args.context.now c.args.purpose
    (formed c.args.context.now c.args.purpose (literals_after c.args.literals.now.items c.in-Comma.first.kind.value) None c.in-Comma.second.place
    c.in-Comma.second.kind.value)) (typed c.in_ok-first-in-Comma.first) c.in_err-second-in-Comma.field-0.0 c.in_ok-first-in-Comma.ensures.reported
    (subst (λ l.
    IsRefused (value_in c.args.context.now c.args.purpose
    (formed c.args.context.now c.args.purpose l None c.in-Comma.second.place c.in-Comma.second.kind.value)) c.in_err-second-in-Comma.field-0.0)
    c.in_ok-first-in-Comma.ensures.texts c.in_err-second-in-Comma.ensures.reported)))

pub formed-returns-in_ok-second-in-Comma-clause-reported : goal.formed-returns-in_ok-second-in-Comma-clause-reported
formed-returns-in_ok-second-in-Comma-clause-reported t c =
    subst (λ k. Yields (formed c.args.context.now c.args.purpose c.args.literals.now.items (shape_in c.args.target) c.args.tree.now.place k) c.followed.result)
    (sym c.in-Comma.is ∙ c.deref.ensures)
    (parts_taken (followed c.args.tree.now.place)
    (value_in c.args.context.now c.args.purpose
    (formed c.args.context.now c.args.purpose c.args.literals.now.items None c.in-Comma.first.place c.in-Comma.first.kind.value))
    (value_in c.args.context.now c.args.purpose
    (formed c.args.context.now c.args.purpose (literals_after c.args.literals.now.items c.in-Comma.first.kind.value) None c.in-Comma.second.place
    c.in-Comma.second.kind.value)) (typed c.in_ok-first-in-Comma.first) (typed c.in_ok-second-in-Comma.second) c.followed.result
    c.in_ok-first-in-Comma.ensures.reported (subst (λ l.
    value_in c.args.context.now c.args.purpose (formed c.args.context.now c.args.purpose l None c.in-Comma.second.place c.in-Comma.second.kind.value)
    ≡ Fine (typed c.in_ok-second-in-Comma.second)) c.in_ok-first-in-Comma.ensures.texts c.in_ok-second-in-Comma.ensures.reported) c.followed.ensures)

pub formed-returns-in-Call-clause-texts : goal.formed-returns-in-Call-clause-texts
formed-returns-in-Call-clause-texts t c =
    subst (λ k. OnOk c.call.result (c.call.new.literals.items ≡ literals_after c.args.literals.now.items k)) (sym c.in-Call.is ∙ c.deref.ensures)
    (subst (λ ls. OnOk c.call.result (c.call.new.literals.items ≡ ls))
    (sym (literals-Call c.args.literals.now.items c.in-Call.function c.in-Call.arguments))
    (subst (λ l. OnOk c.call.result (c.call.new.literals.items ≡ literals_after_list c.args.literals.now.items l)) c.deref-in-Call.ensures.value
    c.call.ensures.texts))

pub formed-returns-in-SizeOfType-clause-texts : goal.formed-returns-in-SizeOfType-clause-texts
formed-returns-in-SizeOfType-clause-texts t c =
    subst (λ k. OnOk c.size_of_type.result (c.size_of_type.new.literals.items ≡ literals_after c.args.literals.now.items k)) (sym c.in-SizeOfType.is
    ∙ c.deref.ensures) (subst (λ ls. OnOk c.size_of_type.result (c.size_of_type.new.literals.items ≡ ls))
    (sym (literals-SizeOfType c.args.literals.now.items c.in-SizeOfType.ty c.in-SizeOfType.bounds))
    (subst (λ l. OnOk c.size_of_type.result (c.size_of_type.new.literals.items ≡ literals_after_list c.args.literals.now.items l))
    c.deref-in-SizeOfType.ensures.value c.size_of_type.ensures.texts))

pub formed-call-requires : goal.formed-call-requires
formed-call-requires t c =
    let e = height-Call c.in-Call.function c.in-Call.arguments c.in-Call.is in
    let g : highest (written_list c.deref-in-Call.result.now) ≡ highest (written_list c.in-Call.arguments.items) =
    ap (λ l. highest (written_list l)) c.deref-in-Call.ensures.value in
    grind arith

pub formed-size_of_type-requires : goal.formed-size_of_type-requires
formed-size_of_type-requires t c =
    let e = height-SizeOfType c.in-SizeOfType.ty c.in-SizeOfType.bounds c.in-SizeOfType.is in
    let g : highest (written_list c.deref-in-SizeOfType.result.now) ≡ highest (written_list c.in-SizeOfType.bounds.items) =
    ap (λ l. highest (written_list l)) c.deref-in-SizeOfType.ensures.value in
    grind arith

pub formed-cast-requires : goal.formed-cast-requires
formed-cast-requires t c =
    let e = height-Cast c.in-Cast.ty c.in-Cast.bounds c.in-Cast.operand c.in-Cast.is in
    grind arith

pub formed-subscript-requires : goal.formed-subscript-requires
formed-subscript-requires t c =
    let e : height (written c.args.tree.now) ≡ 1 + max (height (written c.in-Index.left)) (height (written c.in-Index.right)) =
    ap (λ k. height (written_kind k)) (sym c.deref.ensures ∙ c.in-Index.is) in
    grind arith

pub formed-infix-requires : goal.formed-infix-requires
formed-infix-requires t c =
    let e : height (written c.args.tree.now) ≡ 1 + max (height (written c.in-Infix.left)) (height (written c.in-Infix.right)) =
    ap (λ k. height (written_kind k)) (sym c.deref.ensures ∙ c.in-Infix.is) in
    grind arith

pub formed-select-requires : goal.formed-select-requires
formed-select-requires t c =
    let e : height (written c.args.tree.now) ≡ 1 + max (height (written c.in-Choice.test))
    (max (height (written c.in-Choice.one)) (height (written c.in-Choice.other))) =
    ap (λ k. height (written_kind k)) (sym c.deref.ensures ∙ c.in-Choice.is) in
    grind arith

pub formed-store-requires : goal.formed-store-requires
formed-store-requires t c =
    let e : height (written c.args.tree.now) ≡ 1 + max (height (written c.in-Assign.object)) (height (written c.in-Assign.value)) =
    ap (λ k. height (written_kind k)) (sym c.deref.ensures ∙ c.in-Assign.is) in
    grind arith

pub arguments_of-loop-i-init : goal.arguments_of-loop-i-init
arguments_of-loop-i-init t c =
    record {
      made = λ _. c.new-list.ensures.len;
      values =
          ap (λ l.
          lift (expressions_before l) (arguments_listed c.args.context.now c.args.purpose c.args.literals.now.items
          (map (λ (ty : CType). shape_of ty) c.args.function.now.parameters.items) c.args.arguments.now)) c.new-list.ensures.items
          ∙ none_before (arguments_listed c.args.context.now c.args.purpose c.args.literals.now.items
          (map (λ (ty : CType). shape_of ty) c.args.function.now.parameters.items) c.args.arguments.now);
      codes = refl;
      texts = λ _. refl;
    }

pub arguments_of-loop-i-preserved : goal.arguments_of-loop-i-preserved
arguments_of-loop-i-preserved t c =
    let i = c.loop-i.i in
    let all = c.args.arguments.now in
    let parameters = c.args.function.now.parameters.items in
    let context = c.args.context.now in
    let here : i < length all = omega (arith, c.loop-i-test.true, c.min-i-end.ensures) in
    let there : i < length c.as_slice-types.result.now = omega (arith, c.loop-i-test.true, c.min-i-end.ensures) in
    let is_types : map (λ (ty : CType). shape_of ty) (drop i parameters)
    ≡ shape_of c.index-types-i.result ∷ map (λ (ty : CType). shape_of ty) (drop (i + 1) parameters) =
    ap (map (λ (ty : CType). shape_of ty))
    (subst (λ l. drop i l ≡ c.index-types-i.result ∷ drop (i + 1) l) c.as_slice-types.ensures.value
    (at_place i c.as_slice-types.result.now c.index-types-i.result there c.index-types-i.is)) in
    let is_arguments = at_place i all c.index-arguments-i.result here c.index-arguments-i.is in
    let types = map (λ (ty : CType). shape_of ty) (drop i parameters) in
    let following = map (λ (ty : CType). shape_of ty) (drop (i + 1) parameters) in
    let a = c.index-arguments-i.result in
    let ty = shape_of c.index-types-i.result in
    let ls = c.loop-i.literals.items in
    let ms = c.match-operand_in.literals.items in
    elim c.match-operand_in.branch [
      | arguments_of-in-Ok+in_ok-push-in-Ok w ↦
          let pushed = ap (λ l. l.items) w.list-is ∙ w.in_ok-push-in-Ok.ensures.items in
          let texts = ap (λ l. l.items) w.literals-is ∙ w.in-Ok.ensures.texts in
          let more = w.least-is ∙ w.least_code-least.ensures ∙ ap (least_code c.loop-i.least) (w.conversion_fault.ensures c.args.place) in
          record {
            made = λ none.
                omega (arith, ap (λ l. vec_len l) w.list-is, w.in_ok-push-in-Ok.ensures.len, c.loop-i.invariant.made (sym w.refused-is ∙ none));
            values =
                ap (λ r.
                unless_stopped r (lift (expressions_before c.match-operand_in.list.items)
                (arguments_listed context c.args.purpose ms following (drop (i + 1) all)))) w.refused-is
                ∙ ap (λ l.
                unless_stopped c.loop-i.refused (lift (expressions_before l) (arguments_listed context c.args.purpose ms following (drop (i + 1) all)))) pushed
                ∙ argument_taken context c.args.purpose c.args.place ty types following a (drop i all) (drop (i + 1) all) ls ms is_types is_arguments
                c.loop-i.refused c.loop-i.list.items w.in-Ok.value _ w.in-Ok.ensures.reported texts c.loop-i.invariant.values;
            codes =
                ap (λ f. least_code f (arguments_listed_fault context c.args.purpose ms c.args.place following (drop (i + 1) all))) more
                ∙ code_taken context c.args.purpose c.args.place ty types following a (drop i all) (drop (i + 1) all) ls ms is_types is_arguments
                c.loop-i.least (typed w.in-Ok.value) _ w.in-Ok.ensures.reported texts c.loop-i.invariant.codes;
            texts = λ none.
                ap (λ l. literals_after_list l (drop (i + 1) all)) texts ∙ ap (literals_after_list ls) (sym is_arguments)
                ∙ c.loop-i.invariant.texts (sym w.refused-is ∙ none);
          }
      | arguments_of-in-Err-Code w ↦
          let value = operand_in context c.args.purpose (formed context c.args.purpose ls (Some ty) a.place a.kind.value) in
          let reported : value ≡ Fault w.in-Err-Code.code w.in-Err-Code.at =
          subst (IsRefused value) w.in-Err-Code.field-0-is w.in-Err-Code.ensures.reported in
          let texts = ap (λ l. l.items) w.literals-is ∙ w.clear.ensures.items in
          let now : c.match-operand_in.refused ≡ option_or c.loop-i.refused (Some (w.in-Err-Code.code, w.in-Err-Code.at)) =
          w.refused-is ∙ w.or-refused.ensures
          ∙ ap (λ r. option_or c.loop-i.refused (Some r)) (both w.in-Err-Code.code-is w.in-Err-Code.at-is) in
          record {
            made = λ none. some_refused c.loop-i.refused (w.in-Err-Code.code, w.in-Err-Code.at) (sym now ∙ none);
            values =
                ap (λ r.
                unless_stopped r (lift (expressions_before c.match-operand_in.list.items)
                (arguments_listed context c.args.purpose ms following (drop (i + 1) all)))) now
                ∙ argument_stopped context c.args.purpose c.args.place ty types following a (drop i all) (drop (i + 1) all) ls ms is_types is_arguments
                c.loop-i.refused c.loop-i.list.items c.match-operand_in.list.items w.in-Err-Code.code w.in-Err-Code.at _ reported c.loop-i.invariant.values;
            codes =
                ap (λ f. least_code f (arguments_listed_fault context c.args.purpose ms c.args.place following (drop (i + 1) all))) w.least-is
                ∙ code_stopped context c.args.purpose c.args.place ty types following a (drop i all) (drop (i + 1) all) ls ms is_types is_arguments
                c.loop-i.least w.in-Err-Code.code w.in-Err-Code.at _ reported texts c.loop-i.invariant.codes;
            texts = λ none. some_refused c.loop-i.refused (w.in-Err-Code.code, w.in-Err-Code.at) (sym now ∙ none);
          }
    ]

pub arguments_of-returns-clause-reported : goal.arguments_of-returns-clause-reported
arguments_of-returns-clause-reported t c =
    let i = c.loop-i.i in
    let all = c.args.arguments.now in
    let context = c.args.context.now in
    let ls = c.loop-i.literals.items in
    let types = map (λ (ty : CType). shape_of ty) (drop i c.args.function.now.parameters.items) in
    let past : min (length all) (length c.as_slice-types.result.now) ≤ i = subst (λ n. n ≤ i) c.min-i-end.ensures c.loop-i-test.false in
    let over : (types ≡ []) ⊎ (drop i all ≡ []) =
    one_over i all c.args.function.now.parameters.items (λ (ty : CType). shape_of ty)
    (subst (λ l. min (length all) (length l) ≤ i) c.as_slice-types.ensures.value past) in
    subst (λ v. Answers (λ list. typed_list list.items) v c.unless_refused.result)
    (ap (λ f. unless_fault c.args.place f (unless_stopped c.loop-i.refused (Fine (typed_list c.loop-i.list.items))))
    (codes_end context c.args.purpose c.args.place types (drop i all) ls over c.loop-i.least _ c.loop-i.invariant.codes)
    ∙ ap (unless_fault c.args.place _)
    (arguments_end context c.args.purpose c.args.place types (drop i all) ls over c.loop-i.refused c.loop-i.list.items _ c.loop-i.invariant.values))
    c.unless_refused.ensures.values

pub arguments_of-operand_in-requires : goal.arguments_of-operand_in-requires
arguments_of-operand_in-requires t c =
    let here : c.loop-i.i < length c.args.arguments.now = omega (arith, c.loop-i-test.true, c.min-i-end.ensures) in
    let h = height-among c.args.arguments.now c.loop-i.i c.index-arguments-i.result here c.index-arguments-i.is in
    grind arith

pub bounds_of-loop-bound-init : goal.bounds_of-loop-bound-init
bounds_of-loop-bound-init t c =
    record {
      numbers = ap (λ l. l ++ numbers_listed c.args.context.now c.args.literals.now.items c.args.bounds.now) (sym c.new-numbers.ensures.items);
      bounds = refl;
      texts = λ _. refl;
    }

pub bounds_of-judged-requires : goal.bounds_of-judged-requires
bounds_of-judged-requires t c =
    let h = height-among c.args.bounds.now c.loop-bound.bound-index c.bound-item.result c.loop-bound-test.true c.bound-item.is in
    grind arith

pub bounds_of-loop-bound-preserved : goal.bounds_of-loop-bound-preserved
bounds_of-loop-bound-preserved t c =
    let i = c.loop-bound.bound-index in
    let all = c.args.bounds.now in
    let context = c.args.context.now in
    let a = c.bound-item.result in
    let ls = c.loop-bound.literals.items in
    let ms = c.match-judged.literals.items in
    let there : drop i all ≡ a ∷ drop (i + 1) all = at_place i all a c.loop-bound-test.true c.bound-item.is in
    elim c.match-judged.branch [
      | bounds_of-in-Ok+in_ok-push-in-Ok w ↦
          let fits : FitsSigned w128 w.number_at.result = search rules in
          let added : w.push.new.self.items ≡ c.loop-bound.numbers.items ++ w.number_at.result ∷ [] = simp to_z-of_z at w.in_ok-push-in-Ok.ensures.items in
          let pushed = ap (λ l. l.items) w.numbers-is ∙ added in
          let texts = ap (λ l. l.items) w.literals-is ∙ w.in-Ok.ensures.texts in
          record {
            numbers = number_taken context a (drop i all) (drop (i + 1) all) ls ms there c.loop-bound.numbers.items w.number_at.result
                (Fine (typed w.in-Ok.value)) _ w.in-Ok.ensures.reported (ap (λ k. number_at (form k)) (sym w.deref.ensures) ∙ sym w.number_at.ensures) texts
                c.loop-bound.invariant.numbers ∙ ap (λ l. l ++ numbers_listed context ms (drop (i + 1) all)) (sym pushed);
            bounds = ap (λ r. unless_stopped r (bounds_listed context ms (drop (i + 1) all))) w.refused-is
                ∙ bound_passed context a (drop i all) (drop (i + 1) all) ls ms there c.loop-bound.refused (typed w.in-Ok.value) _ w.in-Ok.ensures.reported
                texts
                c.loop-bound.invariant.bounds;
            texts = λ none.
                ap (λ l. literals_after_list l (drop (i + 1) all)) texts ∙ ap (literals_after_list ls) (sym there)
                ∙ c.loop-bound.invariant.texts (sym w.refused-is ∙ none);
          }
      | bounds_of-in-Err-Code+in_ok-push-in-Err-Code w ↦
          let value = done context Constant (formed context Constant ls None a.place a.kind.value) in
          let reported : value ≡ Fault w.in-Err-Code.code w.in-Err-Code.at =
          subst (IsRefused value) w.in-Err-Code.field-0-is w.in-Err-Code.ensures.reported in
          let added : w.push-in-Err-Code.new.self.items ≡ c.loop-bound.numbers.items ++ pos 1 ∷ [] = w.in_ok-push-in-Err-Code.ensures.items in
          let pushed = ap (λ l. l.items) w.numbers-is ∙ added in
          let texts = ap (λ l. l.items) w.literals-is ∙ w.clear.ensures.items in
          let now : c.match-judged.refused ≡ option_or c.loop-bound.refused (Some (w.in-Err-Code.code, w.in-Err-Code.at)) =
          w.refused-is ∙ w.or-refused.ensures
          ∙ ap (λ r. option_or c.loop-bound.refused (Some r)) (both (sym w.in-Err-Code.code-is) (sym w.in-Err-Code.at-is)) in
          record {
            numbers = number_taken context a (drop i all) (drop (i + 1) all) ls ms there c.loop-bound.numbers.items (pos 1)
                (Fault w.in-Err-Code.code w.in-Err-Code.at) _ reported refl texts c.loop-bound.invariant.numbers
                ∙ ap (λ l. l ++ numbers_listed context ms (drop (i + 1) all)) (sym pushed);
            bounds = ap (λ r. unless_stopped r (bounds_listed context ms (drop (i + 1) all))) now
                ∙ bound_stops context a (drop i all) (drop (i + 1) all) ls ms there c.loop-bound.refused w.in-Err-Code.code w.in-Err-Code.at _ reported
                c.loop-bound.invariant.bounds;
            texts = λ none. some_refused c.loop-bound.refused (w.in-Err-Code.code, w.in-Err-Code.at) (sym now ∙ none);
          }
    ]
