-- Expressions with the same parts at the same positions are typed alike.
use Rattle.std.proofs.Common.{◌≡◌, suc, true, false, List, [], ◌∷◌, Option, Some, None, refl, ap, ◌∙◌}
use mathlib.Core.Former.{Count}
use Rattle.cs_types.specs.Shape.{Shape, integer}
use Rattle.cs_ast.specs.declared.place.Place.{Place}
use Rattle.cs_ast.specs.declared.raw.expression.RawExprKind.{RawExprKind, Row_of-RawExpr}
use Rattle.cs_ast.specs.declared.raw.operator.InfixOp.TheVariants as infix_op
use Rattle.cs_ast.specs.declared.raw.written_type.TypeWord.{TypeWord}
use Rattle.cs_ast.specs.declared.raw.written_type.TypeWord.TheVariants as word
use Rattle.cs_ast.specs.declared.raw.written_type.WrittenType.{WrittenType}
use Rattle.cs_scopes.specs.declared.context.Context.{Context}
use Rattle.cs_scopes.specs.Meanings.{Declaration}
use Rattle.cs_scopes.specs.declared.scope.Tag.{Tag}
use Rattle.cs_scopes.specs.Scopes.{tagged}
use Rattle.cs_scopes.specs.TypeNames.{type_named, based, whole_word, integer_type, struct_at, enum_at, tag_place, starred, complete_at}
use Rattle.cs_scopes.specs.Verdicts.{Fine, lift, lift2, lift3}
use Rattle.cs_expressions.specs.Calls.{called, parameters_of}
use Rattle.cs_expressions.specs.Operators.{combined, tested, followed}
use Rattle.cs_expressions.specs.Places.{selected}
use Rattle.cs_expressions.specs.Primary.{Literals}
use Rattle.cs_expressions.specs.Stores.{steppable, step_operator}
use Rattle.cs_consts.specs.declared.purpose.Purpose.{Purpose}
use Rattle.cs_consts.specs.declared.purpose.Purpose.TheVariants.{Run, Constant}
use Rattle.cs_ast.specs.declared.typed.operator.Gives.TheVariants.{Old, New}
use Rattle.cs_consts.specs.Typing.{literals_after, literals_after_row, row_length, done, value_in, operand_in, purpose_if, purpose_after, prefixed}
use Rattle.cs_consts.specs.Operands.{left_operand_fault}
use Rattle.cs_consts.specs.Typing.{between, indexed_values, arrow_on, stepped_object, left_side, stored_to, right_target, cast_type, given_shape, cast_to}
use Rattle.cs_consts.specs.Typing.{chosen_values, measured_type, further, call_or_not, bound_number, bound_taken, measured_type_name, base_in, formed}
use Rattle.cs_consts.specs.Typing.{arguments_formed, passing_fault, arguments_fault, numbers_formed, bounds_formed, literals_past}
use Rattle.cs_scopes.specs.Faults.{least_code}
use Rattle.cs_one_program.specs.SameExpressions.{SameType, SameKind, SameRow, End, More}
use Rattle.cs_one_program.specs.SameExpressions as same

-- the type that specifiers name
based_same : (declarations : List Declaration) (tags : List Tag) (at : Place) (ty other : WrittenType) → SameType ty other
    → (whole : Option TypeWord) → based declarations tags at ty whole ≡ based declarations tags at other whole
unfolding based
based_same declarations tags at ty other h None = ap (λ words. Fine (integer (integer_type words))) h.words
based_same declarations tags at ty other h (Some (word.Struct name)) = ap (λ tag. struct_at (tag_place at tag) (tagged name tags)) h.tag
based_same declarations tags at ty other h (Some (word.Enum name)) = ap (λ tag. enum_at (tag_place at tag) (tagged name tags)) h.tag
based_same declarations tags at ty other h (Some _) = refl

base_same : (c : Context) (at : Place) {ty other : WrittenType} → SameType ty other → base_in c at ty ≡ base_in c at other
unfolding type_named
base_same c at {ty = ty} {other = other} h =
    let named = based_same c.scope.declarations c.scope.tags at ty other h (whole_word ty.words.items)
    ∙ ap (λ words. based c.scope.declarations c.scope.tags at other (whole_word words)) h.words in
    λ i. lift (λ base. Fine (starred (h.pointers i) base)) (named i)

mutual
  pub literals_same : (literals : Literals) {k k' : RawExprKind} → SameKind k k' → literals_after literals k ≡ literals_after literals k'
  literals_same literals same.Name = refl
  literals_same literals same.Number = refl
  literals_same literals same.Character = refl
  literals_same literals same.Text = refl
  literals_same literals (same.Parenthesis place e) = literals_same literals e
  literals_same literals (same.Index place place' l r) = λ i. literals_same (literals_same literals l i) r i
  literals_same literals (same.Call place f row) = literals_row_same literals row
  literals_same literals (same.Member place name e) = literals_same literals e
  literals_same literals (same.Arrow place name e) = literals_same literals e
  literals_same literals (same.StepAfter step place e) = literals_same literals e
  literals_same literals (same.StepBefore step place e) = literals_same literals e
  literals_same literals (same.Prefix operator place e) = literals_same literals e
  literals_same literals (same.SizeOf place e) = literals_same literals e
  literals_same literals (same.SizeOfType ty row) = literals_row_same literals row
  literals_same literals (same.Cast place ty row e) = literals_same literals e
  literals_same literals (same.Infix operator place place' l r) = λ i. literals_same (literals_same literals l i) r i
  literals_same literals (same.Choice place place' place'' t l r) = λ i. literals_same (literals_same (literals_same literals t i) l i) r i
  literals_same literals (same.Assign operator place place' l r) = λ i. literals_same (literals_same literals l i) r i
  literals_same literals (same.Comma place place' l r) = λ i. literals_same (literals_same literals l i) r i

  literals_row_same : (literals : Literals) {n m : Count} {row : Row_of-RawExpr n} {row' : Row_of-RawExpr m} → SameRow n m row row'
      → literals_after_row literals row ≡ literals_after_row literals row'
  literals_row_same literals End = refl
  literals_row_same literals (More place e others) = λ i. literals_row_same (literals_same literals e i) others i

length_same : {n m : Count} {row : Row_of-RawExpr n} {row' : Row_of-RawExpr m} → SameRow n m row row' → row_length row ≡ row_length row'
length_same End = refl
length_same (More place e others) = ap suc (length_same others)

called_same : (declarations : List Declaration) {k k' : RawExprKind} → SameKind k k' → called declarations k ≡ called declarations k'
called_same declarations (same.Parenthesis place e) = called_same declarations e
called_same declarations _ = refl

mutual
  pub formed_same : (c : Context) (purpose : Purpose) (literals : Literals) (target : Option Shape) (at : Place) {k k' : RawExprKind} → SameKind k k'
      → formed c purpose literals target at k ≡ formed c purpose literals target at k'
  formed_same c purpose literals target at same.Name = refl
  formed_same c purpose literals target at same.Number = refl
  formed_same c purpose literals target at same.Character = refl
  formed_same c purpose literals target at same.Text = refl
  formed_same c purpose literals target at (same.Parenthesis place e) = λ i. done c purpose (formed_same c purpose literals target place e i)
  formed_same c purpose literals target at (same.Index place place' l r) = λ i.
      between at (left_operand_fault c.table.list infix_op.Add) (indexed_values c at)
      (operand_in c purpose (formed_same c purpose literals None place l i))
      (operand_in c purpose (formed_same c purpose (literals_same literals l i) None place' r i))
  formed_same c purpose literals target at (same.Call place f row) = λ i.
      call_or_not c at target (called_same c.scope.declarations f i) (length_same row i)
      (operand_in c purpose (formed_same c purpose literals None place f i))
      (argument_faults_same c purpose literals at (parameters_of (called_same c.scope.declarations f i)) row i)
      (arguments_same c purpose literals (parameters_of (called_same c.scope.declarations f i)) row i)
  formed_same c purpose literals target at (same.Member place name e) = λ i.
      lift (selected c.table.list at name.place name.name) (done c purpose (formed_same c purpose literals None place e i))
  formed_same c purpose literals target at (same.Arrow place name e) = λ i.
      lift (arrow_on c at name.place name.name) (operand_in c purpose (formed_same c purpose literals None place e i))
  formed_same c purpose literals target at (same.StepAfter step place e) = λ i.
      lift (stepped_object c (step_operator step) Old at)
      (lift (steppable c.table.list (step_operator step) at) (done c purpose (formed_same c purpose literals None place e i)))
  formed_same c purpose literals target at (same.StepBefore step place e) = λ i.
      lift (stepped_object c (step_operator step) New at)
      (lift (steppable c.table.list (step_operator step) at) (done c purpose (formed_same c purpose literals None place e i)))
  formed_same c purpose literals target at (same.Prefix operator place e) = λ i.
      lift (prefixed c operator at) (done c purpose (formed_same c purpose literals None place e i))
  formed_same c purpose literals target at (same.SizeOf place e) = λ i.
      lift (measured_type c at) (done c Run (formed_same c Run literals None place e i))
  formed_same c purpose literals target at (same.SizeOfType ty row) = λ i.
      measured_type_name c at (base_same c at ty i) (numbers_same c literals row i) (bounds_same c literals row i)
  formed_same c purpose literals target at (same.Cast place ty row e) = λ i.
      lift2 (cast_to c at) (cast_type at (length_same row i) (base_same c at ty i))
      (done c purpose (formed_same c purpose literals (given_shape (cast_type at (length_same row i) (base_same c at ty i))) place e i))
  formed_same c purpose literals target at (same.Infix operator place place' l r) = λ i.
      let one = operand_in c purpose (formed_same c purpose literals None place l i) in
      let following = purpose_after operator purpose one in
      between at (left_operand_fault c.table.list operator) (combined c.model c.table.list operator at) one
      (operand_in c following (formed_same c following (literals_same literals l i) None place' r i))
  formed_same c purpose literals target at (same.Choice place place' place'' t l r) = λ i.
      let yields = lift (tested at) (operand_in c purpose (formed_same c purpose literals None place t i)) in
      let following = literals_same literals t i in
      lift3 (chosen_values c at) yields
      (value_in c (purpose_if true purpose yields) (formed_same c (purpose_if true purpose yields) following None place' l i))
      (value_in c (purpose_if false purpose yields) (formed_same c (purpose_if false purpose yields) (literals_same following l i) None place'' r i))
  formed_same c purpose literals target at (same.Assign operator place place' l r) = λ i.
      let left = lift (left_side operator at) (done c purpose (formed_same c purpose literals None place l i)) in
      let right = operand_in c purpose (formed_same c purpose (literals_same literals l i) (right_target operator left) place' r i) in
      lift (stored_to c operator at right) left
  formed_same c purpose literals target at (same.Comma place place' l r) = λ i.
      lift2 (followed at)
      (value_in c purpose (formed_same c purpose literals None place l i))
      (value_in c purpose (formed_same c purpose (literals_same literals l i) None place' r i))

  arguments_same : (c : Context) (purpose : Purpose) (literals : Literals) (types : List Shape) {n m : Count} {row : Row_of-RawExpr n} {row' : Row_of-RawExpr m}
      → SameRow n m row row' → arguments_formed c purpose literals types row ≡ arguments_formed c purpose literals types row'
  arguments_same c purpose literals types End = refl
  arguments_same c purpose literals [] (More place e others) = refl
  arguments_same c purpose literals (ty ∷ types) (More place e others) = λ i.
      lift2 further
      (operand_in c purpose (formed_same c purpose literals (Some ty) place e i))
      (arguments_same c purpose (literals_same literals e i) types others i)

  argument_faults_same : (c : Context) (purpose : Purpose) (literals : Literals) (at : Place) (types : List Shape) {n m : Count} {row : Row_of-RawExpr n}
      {row' : Row_of-RawExpr m} → SameRow n m row row'
      → arguments_fault c purpose literals at types row ≡ arguments_fault c purpose literals at types row'
  argument_faults_same c purpose literals at types End = refl
  argument_faults_same c purpose literals at [] (More place e others) = refl
  argument_faults_same c purpose literals at (ty ∷ types) (More place e others) = λ i.
      let value = operand_in c purpose (formed_same c purpose literals (Some ty) place e i) in
      least_code (passing_fault c at ty value)
      (argument_faults_same c purpose (literals_past value (literals_same literals e i)) at types others i)

  numbers_same : (c : Context) (literals : Literals) {n m : Count} {row : Row_of-RawExpr n} {row' : Row_of-RawExpr m}
      → SameRow n m row row' → numbers_formed c literals row ≡ numbers_formed c literals row'
  numbers_same c literals End = refl
  numbers_same c literals (More place e others) = λ i.
      let bound = done c Constant (formed_same c Constant literals None place e i) in
      bound_number bound ∷ numbers_same c (literals_past bound (literals_same literals e i)) others i

  bounds_same : (c : Context) (literals : Literals) {n m : Count} {row : Row_of-RawExpr n} {row' : Row_of-RawExpr m}
      → SameRow n m row row' → bounds_formed c literals row ≡ bounds_formed c literals row'
  bounds_same c literals End = refl
  bounds_same c literals (More place e others) = λ i.
      lift2 bound_taken
      (done c Constant (formed_same c Constant literals None place e i))
      (bounds_same c (literals_same literals e i) others i)
