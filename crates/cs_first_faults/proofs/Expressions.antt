-- Expressions are refused at their first failing position, by recursion over the tree.
use Rattle.std.proofs.Common.{refl, true, false, if◌then◌else◌, List, [], ◌∷◌, ◌++◌, Option, Some, None}
use mathlib.Core.Former.{Count}
use Rattle.cs_types.specs.Shape.{Shape}
use Rattle.cs_ast.specs.declared.place.Place.{Place}
use Rattle.cs_ast.specs.declared.raw.expression.RawExprKind.{RawExprKind, Row_of-RawExpr, end_of-RawExpr, more_of-RawExpr}
use Rattle.cs_ast.specs.declared.raw.expression.RawExprKind.TheVariants as kind
use Rattle.cs_ast.specs.declared.raw.operator.InfixOp.TheVariants as infix_op
use Rattle.cs_ast.specs.declared.raw.operator.PrefixOp.{PrefixOp}
use Rattle.cs_ast.specs.declared.typed.operator.Gives.TheVariants.{Old, New}
use Rattle.cs_ast.specs.TypedTree.{Typed, TypedList}
use Rattle.cs_scopes.specs.declared.context.Context.{Context}
use Rattle.cs_scopes.specs.Scopes.{newest}
use Rattle.cs_scopes.specs.Verdicts.{Verdict, Fine, Fault, lift, lift2}
use Rattle.cs_folding.specs.TypedParts.{type_of}
use Rattle.cs_expressions.specs.Calls.{called, parameters_of}
use Rattle.cs_expressions.specs.Objects.{operand, valued}
use Rattle.cs_expressions.specs.Operators.{combined, followed, tested}
use Rattle.cs_expressions.specs.Places.{selected, struct_number, struct_after}
use Rattle.cs_expressions.specs.Primary.{Literals, named, text_at}
use Rattle.cs_expressions.specs.Stores.{steppable, step_operator}
use Rattle.cs_consts.specs.declared.purpose.Purpose.{Purpose}
use Rattle.cs_consts.specs.declared.purpose.Purpose.TheVariants.{Run, Constant}
use Rattle.cs_consts.specs.Constants.{finished}
use Rattle.cs_consts.specs.Operands.{left_operand_fault}
use Rattle.cs_consts.specs.Typing.{literals_after, row_length, done, value_in, operand_in, purpose_if, purpose_after, is_address, prefixed, prefixed_value}
use Rattle.cs_consts.specs.Typing.{indexed_values}
use Rattle.cs_consts.specs.Typing.{arrow_on, stepped_object, left_side, stored_to, right_target, cast_type, given_shape, measured_type, base_in}
use Rattle.cs_consts.specs.Typing.{further, bound_taken, formed, arguments_formed, bounds_formed, numbers_formed, arguments_fault}
use Rattle.cs_first_faults.specs.Failures.{FailingPlace, failing_at, if_typed, if_both_typed, fails, IsFirst}
use Rattle.cs_first_faults.specs.Expressions.{done_failures, value_failures, operand_failures, object_in, object_failures, something, member_failures}
use Rattle.cs_first_faults.specs.Expressions.{address_codes, arrow_failures, step_codes, left_codes, store_codes, argument_codes, failures, argument_failures}
use Rattle.cs_first_faults.specs.Expressions.{bound_failures}
use Rattle.cs_first_faults.proofs.Firsts.{no_some, no_none, first-failing, first-fails, first-after, first-ahead, first-asked, first-both}
use Rattle.cs_first_faults.proofs.Operators.{member-first, arrow-first, step-first, step_before-first, store-first, choice-first, cast-first, prefix-first}
use Rattle.cs_first_faults.proofs.Between.{combined-led, indexed-led}
use Rattle.cs_first_faults.proofs.Calls.{arguments-least, call-first, size-first}

-- ---- the uses of an expression

pub done-first : (c : Context) (purpose : Purpose) (v : Verdict Typed) (failures : List FailingPlace) → IsFirst v failures
    → IsFirst (done c purpose v) (done_failures c purpose v failures)
unfolding done
done-first c purpose v failures h = first-fails (finished c.model purpose) v failures h

pub value-first : (c : Context) (purpose : Purpose) (v : Verdict Typed) (failures : List FailingPlace) → IsFirst v failures
    → IsFirst (value_in c purpose v) (value_failures c purpose v failures)
unfolding value_in
value-first c purpose v failures h = first-fails (valued c.table.list) (done c purpose v) _ (done-first c purpose v failures h)

pub operand-first : (c : Context) (purpose : Purpose) (v : Verdict Typed) (failures : List FailingPlace) → IsFirst v failures
    → IsFirst (operand_in c purpose v) (operand_failures c purpose v failures)
unfolding operand_in
operand-first c purpose v failures h = first-fails (operand c.table.list) (done c purpose v) _ (done-first c purpose v failures h)

-- ---- productions whose rules come after their part

dot-first : (c : Context) (at name_at : Place) (name : List _) (v : Verdict Typed) (failures : List FailingPlace) → IsFirst v failures
    → IsFirst (lift (selected c.table.list at name_at name) v)
    ((failures ++ fails something v)
    ++ if_typed (λ found. member_failures c.table.list at name_at name found (struct_number (type_of found))) (lift something v))
unfolding lift
dot-first c at name_at name v failures h =
    first-after (selected c.table.list at name_at name) v failures (fails something)
    (λ w. if_typed (λ found. member_failures c.table.list at name_at name found (struct_number (type_of found))) (lift something w)) h
    (member-first c.table.list at name_at name)

through-first : (c : Context) (at name_at : Place) (name : List _) (v : Verdict Typed) (failures : List FailingPlace) → IsFirst v failures
    → IsFirst (lift (arrow_on c at name_at name) v)
    (failures ++ if_typed (λ found. arrow_failures c.table.list at name_at name (struct_after (type_of found))) v)
unfolding lift
through-first c at name_at name (Fine e) [] h = arrow-first c at name_at name e
through-first c at name_at name (Fine e) (f ∷ fs) h = no_some _ h
through-first c at name_at name (Fault code place) [] h = no_none _ h
through-first c at name_at name (Fault code place) (f ∷ fs) h = h

after-step-first : (c : Context) (step : _) (at : Place) (v : Verdict Typed) (failures : List FailingPlace) → IsFirst v failures
    → IsFirst (lift (stepped_object c (step_operator step) Old at) (lift (steppable c.table.list (step_operator step) at) v))
    ((failures ++ fails something v) ++ failing_at at (if_typed (step_codes c (step_operator step)) (lift something v)))
unfolding lift
after-step-first c step at (Fine e) [] h = step-first c (step_operator step) Old at e
after-step-first c step at (Fine e) (f ∷ fs) h = no_some _ h
after-step-first c step at (Fault code place) [] h = no_none _ h
after-step-first c step at (Fault code place) (f ∷ fs) h = h

before-step-first : (c : Context) (step : _) (at : Place) (v : Verdict Typed) (failures : List FailingPlace) → IsFirst v failures
    → IsFirst (lift (stepped_object c (step_operator step) New at) (lift (steppable c.table.list (step_operator step) at) v))
    (failing_at at (if_typed (step_codes c (step_operator step)) (lift something v)) ++ (failures ++ fails something v))
unfolding lift
before-step-first c step at (Fine e) [] h = step_before-first c (step_operator step) New at e
before-step-first c step at (Fine e) (f ∷ fs) h = no_some _ h
before-step-first c step at (Fault code place) [] h = no_none _ h
before-step-first c step at (Fault code place) (f ∷ fs) h = h

assign-first : (c : Context) (op : _) (at : Place) (v right : Verdict Typed) (failures following : List FailingPlace) → IsFirst v failures
    → IsFirst right following
    → IsFirst (lift (stored_to c op at right) (lift (left_side op at) v))
    ((failures ++ fails something v)
    ++ failing_at at
    (if_typed (left_codes c op) (lift something v) ++ if_both_typed (store_codes c op at) (lift (left_side op at) v) right)
    ++ following)
unfolding lift
assign-first c op at (Fine e) right [] following h k = store-first c op at e right following k
assign-first c op at (Fine e) right (f ∷ fs) following h k = no_some _ h
assign-first c op at (Fault code place) right [] following h k = no_none _ h
assign-first c op at (Fault code place) right (f ∷ fs) following h k = h

prefixed-first : (c : Context) (purpose : Purpose) (op : PrefixOp) (at : Place) (v : Verdict Typed) (failures : List FailingPlace)
    → IsFirst v failures
    → IsFirst (lift (prefixed c op at) (done c purpose v))
    (if is_address op
    then failing_at at (if_typed address_codes (object_in c purpose v)) ++ object_failures c purpose v failures
    else fails (prefixed_value c op at) (operand_in c purpose v) ++ operand_failures c purpose v failures)
unfolding operand_in
prefixed-first c purpose op at v failures h = prefix-first c op at (done c purpose v) _ (done-first c purpose v failures h)

-- ---- parts one after another

comma-first : (at : Place) (v w : Verdict Typed) (one other : List FailingPlace) → IsFirst v one → IsFirst w other
    → IsFirst (lift2 (followed at) v w) (one ++ other)
comma-first at v w one other h k = first-both _ v w one other h k

further-first : (v : Verdict Typed) (w : Verdict TypedList) (one other : List FailingPlace) → IsFirst v one → IsFirst w other
    → IsFirst (lift2 further v w) (one ++ other)
further-first v w one other h k = first-both _ v w one other h k

taken-first : (v : Verdict Typed) (w : Verdict (Unit {0})) (one other : List FailingPlace) → IsFirst v one → IsFirst w other
    → IsFirst (lift2 bound_taken v w) (one ++ other)
taken-first v w one other h k = first-both _ v w one other h k

-- ---- the tree

mutual
  pub formed-first : (c : Context) (purpose : Purpose) (literals : Literals) (target : Option Shape) (at : Place) (k : RawExprKind)
      → IsFirst (formed c purpose literals target at k) (failures c purpose literals target at k)
  formed-first c purpose literals target at (kind.Name name) = first-failing (named at (newest name c.scope.declarations))
  formed-first c purpose literals target at (kind.Number k) = refl
  formed-first c purpose literals target at (kind.Character n) = refl
  formed-first c purpose literals target at (kind.Text bytes) = first-failing (text_at literals at bytes)
  formed-first c purpose literals target at (kind.Parenthesis' place p inner) =
      done-first c purpose _ _ (formed-first c purpose literals target place inner)
  formed-first c purpose literals target at (kind.Index' place p left place' q right) =
      first-asked at (left_operand_fault c.table.list infix_op.Add) (indexed_values c at) _ _ _ _
      (operand-first c purpose _ _ (formed-first c purpose literals None place left))
      (operand-first c purpose _ _ (formed-first c purpose (literals_after literals left) None place' right)) (indexed-led c at)
  formed-first c purpose literals target at (kind.Call' place p function shape row) =
      call-first c at target (called c.scope.declarations function) (row_length row) _ _
      (arguments_fault c purpose literals at (parameters_of (called c.scope.declarations function)) row)
      (argument_codes c purpose literals at (parameters_of (called c.scope.declarations function)) row) _ _
      (operand-first c purpose _ _ (formed-first c purpose literals None place function))
      (arguments-first c purpose literals (parameters_of (called c.scope.declarations function)) row)
      (arguments-least c purpose literals at (parameters_of (called c.scope.declarations function)) row)
  formed-first c purpose literals target at (kind.Member' place p object name) =
      dot-first c at name.place name.name _ _ (done-first c purpose _ _ (formed-first c purpose literals None place object))
  formed-first c purpose literals target at (kind.Arrow' place p e name) =
      through-first c at name.place name.name _ _ (operand-first c purpose _ _ (formed-first c purpose literals None place e))
  formed-first c purpose literals target at (kind.StepAfter' step place p object) =
      after-step-first c step at _ _ (done-first c purpose _ _ (formed-first c purpose literals None place object))
  formed-first c purpose literals target at (kind.StepBefore' step place p object) =
      before-step-first c step at _ _ (done-first c purpose _ _ (formed-first c purpose literals None place object))
  formed-first c purpose literals target at (kind.Prefix' operator place p e) =
      prefixed-first c purpose operator at _ _ (formed-first c purpose literals None place e)
  formed-first c purpose literals target at (kind.SizeOf' place p e) =
      first-ahead (measured_type c at) _ _ (done-first c Run _ _ (formed-first c Run literals None place e))
  formed-first c purpose literals target at (kind.SizeOfType' ty shape row) =
      size-first c at (base_in c at ty) (numbers_formed c literals row) _ _ (bounds-first c literals row)
  formed-first c purpose literals target at (kind.Cast' ty shape row place p e) =
      cast-first c at (row_length row) (base_in c at ty) _ _
      (done-first c purpose _ _ (formed-first c purpose literals (given_shape (cast_type at (row_length row) (base_in c at ty))) place e))
  formed-first c purpose literals target at (kind.Infix' operator place p left place' q right) =
      let one = operand_in c purpose (formed c purpose literals None place left) in
      let following = purpose_after operator purpose one in
      first-asked at (left_operand_fault c.table.list operator) (combined c.model c.table.list operator at) _ _ _ _
      (operand-first c purpose _ _ (formed-first c purpose literals None place left))
      (operand-first c following _ _ (formed-first c following (literals_after literals left) None place' right)) (combined-led c operator at)
  formed-first c purpose literals target at (kind.Choice' place p test place' q one place'' r other) =
      let yields = lift (tested at) (operand_in c purpose (formed c purpose literals None place test)) in
      let following = literals_after literals test in
      choice-first c at _ _ _ _ _ _
      (operand-first c purpose _ _ (formed-first c purpose literals None place test))
      (value-first c (purpose_if true purpose yields) _ _ (formed-first c (purpose_if true purpose yields) following None place' one))
      (value-first c (purpose_if false purpose yields) _ _
      (formed-first c (purpose_if false purpose yields) (literals_after following one) None place'' other))
  formed-first c purpose literals target at (kind.Assign' operator place p object place' q value) =
      let left = lift (left_side operator at) (done c purpose (formed c purpose literals None place object)) in
      assign-first c operator at _ _ _ _
      (done-first c purpose _ _ (formed-first c purpose literals None place object))
      (operand-first c purpose _ _ (formed-first c purpose (literals_after literals object) (right_target operator left) place' value))
  formed-first c purpose literals target at (kind.Comma' place p first place' q second) =
      comma-first at _ _ _ _
      (value-first c purpose _ _ (formed-first c purpose literals None place first))
      (value-first c purpose _ _ (formed-first c purpose (literals_after literals first) None place' second))

  arguments-first : (c : Context) (purpose : Purpose) (literals : Literals) (types : List Shape) {n : Count} (row : Row_of-RawExpr n)
      → IsFirst (arguments_formed c purpose literals types row) (argument_failures c purpose literals types row)
  arguments-first c purpose literals types end_of-RawExpr = refl
  arguments-first c purpose literals [] (more_of-RawExpr place p k rest) = refl
  arguments-first c purpose literals (ty ∷ types) (more_of-RawExpr place p k rest) =
      further-first _ _ _ _
      (operand-first c purpose _ _ (formed-first c purpose literals (Some ty) place k))
      (arguments-first c purpose (literals_after literals k) types rest)

  bounds-first : (c : Context) (literals : Literals) {n : Count} (row : Row_of-RawExpr n)
      → IsFirst (bounds_formed c literals row) (bound_failures c literals row)
  bounds-first c literals end_of-RawExpr = refl
  bounds-first c literals (more_of-RawExpr place p k rest) =
      taken-first _ _ _ _
      (done-first c Constant _ _ (formed-first c Constant literals None place k))
      (bounds-first c (literals_after literals k) rest)
