-- The typing of expressions (C11 6.5): a rule for each production, which reports the first type error.
use Rattle.std.specs.Prelude.{ℕ, zero, suc, ℤ, pos, length, Bool, true, false, if◌then◌else◌, List}
use Rattle.std.specs.Prelude.{[], ◌∷◌, ◌++◌, Option, Some, None}
use Rattle.std.specs.Ordering.{int_eq}
use Rattle.cs_types.specs.declared.int_type.IntType.TheVariants as int_type
use Rattle.cs_types.specs.Shape.{Shape, integer, array, struct}
use Rattle.cs_ast.specs.declared.place.Place.{Place}
use Rattle.cs_ast.specs.declared.raw.expression.RawExpr.{RawExpr}
use Rattle.cs_ast.specs.declared.raw.expression.RawExprKind.{RawExprKind, Row_of-RawExpr, end_of-RawExpr, more_of-RawExpr}
use Rattle.cs_ast.specs.declared.raw.expression.RawExprKind.TheVariants as kind
use Rattle.cs_ast.specs.declared.raw.written_type.WrittenType.{WrittenType}
use Rattle.cs_ast.specs.declared.raw.operator.AssignOp.{AssignOp}
use Rattle.cs_ast.specs.declared.raw.operator.AssignOp.TheVariants as assign_op
use Rattle.cs_ast.specs.declared.raw.operator.InfixOp.{InfixOp}
use Rattle.cs_ast.specs.declared.raw.operator.InfixOp.TheVariants as infix_op
use Rattle.cs_ast.specs.declared.raw.operator.PrefixOp.{PrefixOp}
use Rattle.cs_ast.specs.declared.raw.operator.PrefixOp.TheVariants as prefix_op
use Rattle.cs_ast.specs.declared.typed.operator.BinOp.{BinOp}
use Rattle.cs_ast.specs.declared.typed.operator.BinOp.TheVariants as bin
use Rattle.cs_ast.specs.declared.typed.operator.UnOp.TheVariants as un
use Rattle.cs_ast.specs.declared.typed.operator.Gives.{Gives}
use Rattle.cs_ast.specs.declared.typed.operator.Gives.TheVariants.{Old, New}
use Rattle.cs_ast.specs.TypedTree.{Typed, Of, Form, Number, TypedList, NoMore, Further}
use Rattle.cs_scopes.specs.declared.context.Context.{Context}
use Rattle.cs_consts.specs.declared.purpose.Purpose.{Purpose}
use Rattle.cs_consts.specs.declared.purpose.Purpose.TheVariants.{Run, Constant, Unneeded}
use Rattle.cs_scopes.specs.declared.refusal.TypeCode.{TypeCode}
use Rattle.cs_scopes.specs.declared.refusal.TypeCode.TheVariants as code
use Rattle.cs_scopes.specs.Meanings.{Signature}
use Rattle.cs_scopes.specs.Verdicts.{Verdict, Fine, Fault, lift, lift2, lift3}
use Rattle.cs_folding.specs.TypedParts.{type_of, form_of}
use Rattle.cs_expressions.specs.Integers.{raised, turned}
use Rattle.cs_types.specs.Kinds.{is_void}
use Rattle.cs_expressions.specs.Objects.{valued, operand, measured}
use Rattle.cs_consts.specs.Constants.{finished}
use Rattle.cs_consts.specs.Operands.{left_operand_fault}
use Rattle.cs_expressions.specs.Conversions.{converted, conversion_fault, recast}
use Rattle.cs_expressions.specs.Operators.{combined, tested, denied, chosen, followed}
use Rattle.cs_expressions.specs.Places.{address_of, through, indexed, selected, selected_through}
use Rattle.cs_expressions.specs.Stores.{assignable, assigned_fault, assigned, updatable, updated_fault, updated, weighed, led, step_operator}
use Rattle.cs_expressions.specs.Stores.{steppable, stepped}
use Rattle.cs_expressions.specs.Primary.{Literals, constant_type, named, text_at}
use Rattle.cs_scopes.specs.Scopes.{newest}
use Rattle.cs_scopes.specs.TypeNames.{type_named, arrayed, complete_at}
use Rattle.cs_expressions.specs.Calls.{called, parameters_of, call_fault, converted_list, call_of}
use Rattle.cs_scopes.specs.Faults.{least_code, unless_fault}

abbrev mutual
  -- the literals after those of an expression
  pub literals_after : Literals → RawExprKind → Literals
  literals_after literals (kind.Name name) = literals
  literals_after literals (kind.Number constant) = literals
  literals_after literals (kind.Character value) = literals
  literals_after literals (kind.Text bytes) = literals ++ bytes ∷ []
  literals_after literals (kind.Parenthesis' place p inner) = literals_after literals inner
  literals_after literals (kind.Index' place p left place' q right) = literals_after (literals_after literals left) right
  literals_after literals (kind.Call' place p function shape row) = literals_after_row literals row
  literals_after literals (kind.Member' place p object name) = literals_after literals object
  literals_after literals (kind.Arrow' place p e name) = literals_after literals e
  literals_after literals (kind.StepAfter' step place p object) = literals_after literals object
  literals_after literals (kind.StepBefore' step place p object) = literals_after literals object
  literals_after literals (kind.Prefix' operator place p e) = literals_after literals e
  literals_after literals (kind.SizeOf' place p e) = literals_after literals e
  literals_after literals (kind.SizeOfType' ty shape row) = literals_after_row literals row
  literals_after literals (kind.Cast' ty shape row place p e) = literals_after literals e
  literals_after literals (kind.Infix' operator place p left place' q right) = literals_after (literals_after literals left) right
  literals_after literals (kind.Choice' place p test place' q one place'' r other) =
      literals_after (literals_after (literals_after literals test) one) other
  literals_after literals (kind.Assign' operator place p object place' q value) = literals_after (literals_after literals object) value
  literals_after literals (kind.Comma' place p first place' q second) = literals_after (literals_after literals first) second

  -- the same for a list of expressions
  pub literals_after_row : Literals → {n : _} → Row_of-RawExpr n → Literals
  literals_after_row literals end_of-RawExpr = literals
  literals_after_row literals (more_of-RawExpr place p k rest) = literals_after_row (literals_after literals k) rest

-- the literals after a part that is typed: none if it is refused, since the file is refused
abbrev pub literals_past : {A : Type 0} → Verdict A → Literals → Literals
literals_past (Fine value) literals = literals
literals_past (Fault code place) literals = []

-- the number of expressions in a list
abbrev pub row_length : {n : _} → Row_of-RawExpr n → ℕ
row_length end_of-RawExpr = 0
row_length (more_of-RawExpr place p k rest) = suc (row_length rest)

-- an expression for its purpose
unfoldable pub done : Context → Purpose → Verdict Typed → Verdict Typed
done c purpose v = lift (finished c.model purpose) v

-- its value, or the expression itself if it has none
unfoldable pub value_in : Context → Purpose → Verdict Typed → Verdict Typed
value_in c purpose v = lift (valued c.table.list) (done c purpose v)

-- its value, which it must have
unfoldable pub operand_in : Context → Purpose → Verdict Typed → Verdict Typed
operand_in c purpose v = lift (operand c.table.list) (done c purpose v)

-- the number is 0
abbrev pub is_zero_number : Form → Bool
is_zero_number (Number n) = int_eq n (pos 0)
is_zero_number other = false

-- the purpose of a constant's operand that is only evaluated if a test is true, or only if it is false
abbrev pub purpose_if : Bool → Purpose → Verdict Typed → Purpose
purpose_if way Run v = Run
purpose_if way Unneeded v = Unneeded
purpose_if true Constant (Fine e) = if is_zero_number (form_of e) then Unneeded else Constant
purpose_if false Constant (Fine e) = if is_zero_number (form_of e) then Constant else Unneeded
purpose_if way Constant (Fault code place) = Constant

-- the purpose of the right operand of an operator (C11 6.5.13, paragraph 4; 6.5.14, paragraph 4)
abbrev pub purpose_after : InfixOp → Purpose → Verdict Typed → Purpose
purpose_after infix_op.And purpose v = purpose_if true purpose v
purpose_after infix_op.Or purpose v = purpose_if false purpose v
purpose_after other purpose v = purpose

-- the operator is `&`
abbrev pub is_address : PrefixOp → Bool
is_address prefix_op.Address = true
is_address other = false

-- a prefix operator, on the value of its operand
unfoldable pub prefixed_value : Context → PrefixOp → Place → Typed → Verdict Typed
prefixed_value c prefix_op.Address at v = address_of at v
prefixed_value c prefix_op.Through at v = through at v (type_of v)
prefixed_value c prefix_op.Plus at v = raised c.model at v (type_of v)
prefixed_value c prefix_op.Minus at v = turned c.model un.Negate at v (type_of v)
prefixed_value c prefix_op.Complement at v = turned c.model un.Complement at v (type_of v)
prefixed_value c prefix_op.Not at v = denied at v

-- a prefix operator, on its typed operand (C11 6.5.3)
unfoldable pub prefixed : Context → PrefixOp → Place → Typed → Verdict Typed
prefixed c op at e = if is_address op then address_of at e else lift (prefixed_value c op at) (operand c.table.list e)

-- an operator between two operands: a fault of the left one, whatever the right one is, is reported before one in the right operand,
-- since the operator comes first
unfoldable pub between : Place → (Shape → Option TypeCode) → (Typed → Typed → Verdict Typed) → Verdict Typed → Verdict Typed → Verdict Typed
between at asks rule (Fine left) right = lift (rule left) (led at (asks (type_of left)) right)
between at asks rule (Fault code place) right = Fault code place

-- a subscript of two values
abbrev pub indexed_values : Context → Place → Typed → Typed → Verdict Typed
indexed_values c at left right = indexed c.table.list at left right (type_of left) (type_of right)

-- `->` on a value
abbrev pub arrow_on : Context → Place → Place → List ℕ → Typed → Verdict Typed
arrow_on c at name_at name e = selected_through c.table.list at name_at name e (type_of e)

-- a step of an object
abbrev pub stepped_object : Context → BinOp → Gives → Place → Typed → Verdict Typed
stepped_object c op gives at e = stepped c.model op gives at e (type_of e)

-- the operator of a compound assignment
abbrev pub operator_of : AssignOp → BinOp
operator_of assign_op.Plain = bin.Add
operator_of assign_op.Multiply = bin.Mul
operator_of assign_op.Divide = bin.Div
operator_of assign_op.Remainder = bin.Rem
operator_of assign_op.Add = bin.Add
operator_of assign_op.Subtract = bin.Sub
operator_of assign_op.ShiftLeft = bin.Shl
operator_of assign_op.ShiftRight = bin.Shr
operator_of assign_op.BitAnd = bin.And
operator_of assign_op.BitXor = bin.Xor
operator_of assign_op.BitOr = bin.Or

-- the operator is `=`
abbrev pub is_plain : AssignOp → Bool
is_plain assign_op.Plain = true
is_plain other = false

-- the left operand of an assignment operator, as far as the operator refuses it whatever the right one is
unfoldable pub left_side : AssignOp → Place → Typed → Verdict Typed
left_side op at e = if is_plain op then assignable at e else updatable (operator_of op) at e

-- what else the operator refuses in the type of its left operand: weighed with what it refuses in both operands
unfoldable pub left_fault : Context → AssignOp → Shape → Option TypeCode
left_fault c op ty = if is_plain op then assigned_fault c.table.list ty else updated_fault c.table.list ty

-- an assignment operator on an object and a value, by the types of both
unfoldable pub stored_by : Context → AssignOp → Place → Typed → Typed → Verdict Typed
stored_by c op at object value =
    if is_plain op
    then lift (assigned at object) (converted c.model at value (type_of object) (type_of value))
    else updated c.model (operator_of op) at object value (type_of object) (type_of value)

-- an assignment operator on an object and a value
unfoldable pub stored : Context → AssignOp → Place → Typed → Typed → Verdict Typed
stored c op at object value = weighed at (left_fault c op (type_of object)) (stored_by c op at object value)

-- an assignment operator on an object, whose right operand may be refused: the operator comes before it
abbrev pub stored_to : Context → AssignOp → Place → Verdict Typed → Typed → Verdict Typed
stored_to c op at right object = lift (stored c op at object) (led at (left_fault c op (type_of object)) right)

-- the type of an expression, if it has one
abbrev pub type_in : Verdict Typed → Option Shape
type_in (Fine e) = Some (type_of e)
type_in (Fault code place) = None

-- the type that the right operand of an assignment operator is assigned to; only `=` has one
abbrev pub right_target : AssignOp → Verdict Typed → Option Shape
right_target op v = if is_plain op then type_in v else None

-- a type to which a value can be cast (C11 6.5.4, paragraph 2)
abbrev pub castable : Place → Shape → Verdict Shape
castable at (array element count) = Fault code.OperandTypes at
castable at (struct number) = Fault code.OperandTypes at
castable at ty = Fine ty

-- the type of a cast with this number of bounds
unfoldable pub cast_type : Place → ℕ → Verdict Shape → Verdict Shape
cast_type at zero v = lift (castable at) v
cast_type at (suc n) v = Fault code.OperandTypes at

-- the type of a verdict, if it is one
abbrev pub given_shape : Verdict Shape → Option Shape
given_shape (Fine ty) = Some ty
given_shape (Fault code place) = None

-- the operand of a cast: that of a cast to `void` needs no value
unfoldable pub cast_operand : Context → Shape → Typed → Verdict Typed
cast_operand c target e = if is_void target then valued c.table.list e else operand c.table.list e

-- a cast to a type (C11 6.5.4)
unfoldable pub cast_to : Context → Place → Shape → Typed → Verdict Typed
cast_to c at target e = lift (λ v. recast c.model at v target (type_of v)) (cast_operand c target e)

-- a choice between two values
abbrev pub chosen_values : Context → Place → Typed → Typed → Typed → Verdict Typed
chosen_values c at test one other = chosen c.model at test one other (type_of one) (type_of other)

-- `sizeof` of an expression, whose arrays don't decay
abbrev pub measured_type : Context → Place → Typed → Verdict Typed
measured_type c at e = measured c.model c.table.list at (type_of e)

-- one more argument before others
abbrev pub further : Typed → TypedList → Verdict TypedList
further e others = Fine (Further e others)

-- a call of something that isn't the name of a function
abbrev pub no_function : Place → Typed → Verdict Typed
no_function at e = Fault code.OperandTypes at

-- a call of a function, with the values of its arguments, each converted to the type of its parameter (C11 6.5.2.2, paragraph 7)
unfoldable pub call_with : Context → Place → Option Shape → Signature → TypedList → Verdict Typed
call_with c at target f values = lift (call_of at target f) (converted_list c.model at (parameters_of (Some f)) values)

-- the code at a call for an argument that has a type
abbrev pub passing_fault : Context → Place → Shape → Verdict Typed → Option TypeCode
passing_fault c at ty (Fine e) = conversion_fault c.model at ty e
passing_fault c at ty (Fault code place) = None

-- a call of a function with its arguments, or of anything else: of the codes at the call for the number of arguments, the target of the
-- result and each argument that has a type, the least is reported, before an argument that is refused
unfoldable pub call_or_not : Context → Place → Option Shape → Option Signature → ℕ → Verdict Typed → Option TypeCode → Verdict TypedList
    → Verdict Typed
call_or_not c at target None count v fault values = lift (no_function at) v
call_or_not c at target (Some f) count v fault values =
    unless_fault at (least_code (call_fault target count f) fault) (lift (call_with c at target f) values)

-- the number of a constant
abbrev pub number_at : Form → ℤ
number_at (Number n) = n
number_at other = pos 0

-- the number of a bound; that of a refused one counts as 1, so that its array is as small as possible
abbrev pub bound_number : Verdict Typed → ℤ
bound_number (Fine e) = number_at (form_of e)
bound_number (Fault code place) = pos 1

-- a bound before others, none of which is refused
abbrev pub bound_taken : Typed → Unit {0} → Verdict (Unit {0})
bound_taken e others = Fine tt

-- `sizeof` of a type with bounds
unfoldable pub measured_arrays : Context → Place → List ℤ → Shape → Verdict Typed
measured_arrays c at ns base = lift (measured c.model c.table.list at) (arrayed c.model c.table.list at base ns)

-- a size before bounds, none of which is refused
abbrev pub size_alone : Typed → Unit {0} → Verdict Typed
size_alone size bounds = Fine size

-- the same with bounds that may be refused: a fault of the type or of the bounds' numbers, at the `sizeof`, is reported before that
abbrev pub measured_type_name : Context → Place → Verdict Shape → List ℤ → Verdict (Unit {0}) → Verdict Typed
measured_type_name c at base ns bounds = lift2 size_alone (lift (measured_arrays c at ns) (lift (complete_at c.table.list at) base)) bounds

-- a written type between parentheses, without its arrays
abbrev pub base_in : Context → Place → WrittenType → Verdict Shape
base_in c at ty = type_named c.scope.declarations c.scope.tags at ty

abbrev mutual
  -- an expression at a position, after some literals; its context may assign or convert its value to a type
  pub formed : Context → Purpose → Literals → Option Shape → Place → RawExprKind → Verdict Typed
  -- C11 6.5.1
  formed c purpose literals target at (kind.Name name) = named at (newest name c.scope.declarations)
  formed c purpose literals target at (kind.Number k) = Fine (Of at (integer (constant_type c.model k)) (Number (pos k.value)))
  formed c purpose literals target at (kind.Character n) = Fine (Of at (integer int_type.Int) (Number n))
  formed c purpose literals target at (kind.Text bytes) = text_at literals at bytes
  formed c purpose literals target at (kind.Parenthesis' place p inner) = done c purpose (formed c purpose literals target place inner)
  -- C11 6.5.2.1
  formed c purpose literals target at (kind.Index' place p left place' q right) =
      between at (left_operand_fault c.table.list infix_op.Add) (indexed_values c at)
      (operand_in c purpose (formed c purpose literals None place left))
      (operand_in c purpose (formed c purpose (literals_after literals left) None place' right))
  -- C11 6.5.2.2
  formed c purpose literals target at (kind.Call' place p function shape row) =
      call_or_not c at target (called c.scope.declarations function) (row_length row)
      (operand_in c purpose (formed c purpose literals None place function))
      (arguments_fault c purpose literals at (parameters_of (called c.scope.declarations function)) row)
      (arguments_formed c purpose literals (parameters_of (called c.scope.declarations function)) row)
  -- C11 6.5.2.3
  formed c purpose literals target at (kind.Member' place p object name) =
      lift (selected c.table.list at name.place name.name) (done c purpose (formed c purpose literals None place object))
  formed c purpose literals target at (kind.Arrow' place p e name) =
      lift (arrow_on c at name.place name.name) (operand_in c purpose (formed c purpose literals None place e))
  -- C11 6.5.2.4
  formed c purpose literals target at (kind.StepAfter' step place p object) =
      lift (stepped_object c (step_operator step) Old at)
      (lift (steppable c.table.list (step_operator step) at) (done c purpose (formed c purpose literals None place object)))
  -- C11 6.5.3.1
  formed c purpose literals target at (kind.StepBefore' step place p object) =
      lift (stepped_object c (step_operator step) New at)
      (lift (steppable c.table.list (step_operator step) at) (done c purpose (formed c purpose literals None place object)))
  -- C11 6.5.3.2, 6.5.3.3
  formed c purpose literals target at (kind.Prefix' operator place p e) =
      lift (prefixed c operator at) (done c purpose (formed c purpose literals None place e))
  -- C11 6.5.3.4: the operand isn't evaluated
  formed c purpose literals target at (kind.SizeOf' place p e) =
      lift (measured_type c at) (done c Run (formed c Run literals None place e))
  formed c purpose literals target at (kind.SizeOfType' ty shape row) =
      measured_type_name c at (base_in c at ty) (numbers_formed c literals row) (bounds_formed c literals row)
  -- C11 6.5.4
  formed c purpose literals target at (kind.Cast' ty shape row place p e) =
      lift2 (cast_to c at) (cast_type at (row_length row) (base_in c at ty))
      (done c purpose (formed c purpose literals (given_shape (cast_type at (row_length row) (base_in c at ty))) place e))
  -- C11 6.5.5 to 6.5.14
  formed c purpose literals target at (kind.Infix' operator place p left place' q right) =
      let one = operand_in c purpose (formed c purpose literals None place left) in
      let following = purpose_after operator purpose one in
      between at (left_operand_fault c.table.list operator) (combined c.model c.table.list operator at) one
      (operand_in c following (formed c following (literals_after literals left) None place' right))
  -- C11 6.5.15
  formed c purpose literals target at (kind.Choice' place p test place' q one place'' r other) =
      let yields = lift (tested at) (operand_in c purpose (formed c purpose literals None place test)) in
      let following = literals_after literals test in
      lift3 (chosen_values c at) yields
      (value_in c (purpose_if true purpose yields) (formed c (purpose_if true purpose yields) following None place' one))
      (value_in c (purpose_if false purpose yields) (formed c (purpose_if false purpose yields) (literals_after following one) None place'' other))
  -- C11 6.5.16
  formed c purpose literals target at (kind.Assign' operator place p object place' q value) =
      let left = lift (left_side operator at) (done c purpose (formed c purpose literals None place object)) in
      let right = operand_in c purpose (formed c purpose (literals_after literals object) (right_target operator left) place' value) in
      lift (stored_to c operator at right) left
  -- C11 6.5.17
  formed c purpose literals target at (kind.Comma' place p first place' q second) =
      lift2 (followed at)
      (value_in c purpose (formed c purpose literals None place first))
      (value_in c purpose (formed c purpose (literals_after literals first) None place' second))

  -- the values of the arguments of a call, one for each parameter
  pub arguments_formed : Context → Purpose → Literals → List Shape → {n : _} → Row_of-RawExpr n → Verdict TypedList
  arguments_formed c purpose literals types end_of-RawExpr = Fine NoMore
  arguments_formed c purpose literals [] (more_of-RawExpr place p k rest) = Fine NoMore
  arguments_formed c purpose literals (ty ∷ types) (more_of-RawExpr place p k rest) =
      lift2 further
      (operand_in c purpose (formed c purpose literals (Some ty) place k))
      (arguments_formed c purpose (literals_after literals k) types rest)

  -- the least code at a call for the arguments that have types
  pub arguments_fault : Context → Purpose → Literals → Place → List Shape → {n : _} → Row_of-RawExpr n → Option TypeCode
  arguments_fault c purpose literals at types end_of-RawExpr = None
  arguments_fault c purpose literals at [] (more_of-RawExpr place p k rest) = None
  arguments_fault c purpose literals at (ty ∷ types) (more_of-RawExpr place p k rest) =
      let value = operand_in c purpose (formed c purpose literals (Some ty) place k) in
      least_code (passing_fault c at ty value) (arguments_fault c purpose (literals_past value (literals_after literals k)) at types rest)

  -- the numbers of bounds, which have to be constant
  pub numbers_formed : Context → Literals → {n : _} → Row_of-RawExpr n → List ℤ
  numbers_formed c literals end_of-RawExpr = []
  numbers_formed c literals (more_of-RawExpr place p k rest) =
      let bound = done c Constant (formed c Constant literals None place k) in
      bound_number bound ∷ numbers_formed c (literals_past bound (literals_after literals k)) rest

  -- the bounds themselves, one of which may be refused
  pub bounds_formed : Context → Literals → {n : _} → Row_of-RawExpr n → Verdict (Unit {0})
  bounds_formed c literals end_of-RawExpr = Fine tt
  bounds_formed c literals (more_of-RawExpr place p k rest) =
      lift2 bound_taken
      (done c Constant (formed c Constant literals None place k))
      (bounds_formed c (literals_after literals k) rest)

-- the rules of the productions with more than one part, each as a rule on these parts: what the functions for them ensure
abbrev pub infix_formed : Context → Purpose → Literals → Place → InfixOp → RawExpr → RawExpr → Verdict Typed
infix_formed c purpose literals at operator left right =
    let one = operand_in c purpose (formed c purpose literals None left.place left.kind.value) in
    let following = purpose_after operator purpose one in
    between at (left_operand_fault c.table.list operator) (combined c.model c.table.list operator at) one
    (operand_in c following (formed c following (literals_after literals left.kind.value) None right.place right.kind.value))

abbrev pub subscript_formed : Context → Purpose → Literals → Place → RawExpr → RawExpr → Verdict Typed
subscript_formed c purpose literals at left right =
    between at (left_operand_fault c.table.list infix_op.Add) (indexed_values c at)
    (operand_in c purpose (formed c purpose literals None left.place left.kind.value))
    (operand_in c purpose (formed c purpose (literals_after literals left.kind.value) None right.place right.kind.value))

abbrev pub choice_formed : Context → Purpose → Literals → Place → RawExpr → RawExpr → RawExpr → Verdict Typed
choice_formed c purpose literals at test one other =
    let yields = lift (tested at) (operand_in c purpose (formed c purpose literals None test.place test.kind.value)) in
    let following = literals_after literals test.kind.value in
    lift3 (chosen_values c at) yields
    (value_in c (purpose_if true purpose yields) (formed c (purpose_if true purpose yields) following None one.place one.kind.value))
    (value_in c (purpose_if false purpose yields)
    (formed c (purpose_if false purpose yields) (literals_after following one.kind.value) None other.place other.kind.value))

abbrev pub store_formed : Context → Purpose → Literals → Place → AssignOp → RawExpr → RawExpr → Verdict Typed
store_formed c purpose literals at operator object value =
    let left = lift (left_side operator at) (done c purpose (formed c purpose literals None object.place object.kind.value)) in
    let right =
    operand_in c purpose (formed c purpose (literals_after literals object.kind.value) (right_target operator left) value.place value.kind.value) in
    lift (stored_to c operator at right) left

abbrev pub cast_formed : Context → Purpose → Literals → Place → WrittenType → ℕ → RawExpr → Verdict Typed
cast_formed c purpose literals at ty bounds e =
    lift2 (cast_to c at) (cast_type at bounds (base_in c at ty))
    (done c purpose (formed c purpose literals (given_shape (cast_type at bounds (base_in c at ty))) e.place e.kind.value))

-- the same for lists: the arguments of a call, and the numbers of bounds
abbrev pub literals_after_list : Literals → List RawExpr → Literals
literals_after_list literals [] = literals
literals_after_list literals (e ∷ rest) = literals_after_list (literals_after literals e.kind.value) rest

abbrev pub arguments_listed : Context → Purpose → Literals → List Shape → List RawExpr → Verdict TypedList
arguments_listed c purpose literals types [] = Fine NoMore
arguments_listed c purpose literals [] (e ∷ rest) = Fine NoMore
arguments_listed c purpose literals (ty ∷ types) (e ∷ rest) =
    lift2 further
    (operand_in c purpose (formed c purpose literals (Some ty) e.place e.kind.value))
    (arguments_listed c purpose (literals_after literals e.kind.value) types rest)

abbrev pub arguments_listed_fault : Context → Purpose → Literals → Place → List Shape → List RawExpr → Option TypeCode
arguments_listed_fault c purpose literals at types [] = None
arguments_listed_fault c purpose literals at [] (e ∷ rest) = None
arguments_listed_fault c purpose literals at (ty ∷ types) (e ∷ rest) =
    let value = operand_in c purpose (formed c purpose literals (Some ty) e.place e.kind.value) in
    least_code (passing_fault c at ty value) (arguments_listed_fault c purpose (literals_past value (literals_after literals e.kind.value)) at types rest)

abbrev pub numbers_listed : Context → Literals → List RawExpr → List ℤ
numbers_listed c literals [] = []
numbers_listed c literals (e ∷ rest) =
    let bound = done c Constant (formed c Constant literals None e.place e.kind.value) in
    bound_number bound ∷ numbers_listed c (literals_past bound (literals_after literals e.kind.value)) rest

abbrev pub bounds_listed : Context → Literals → List RawExpr → Verdict (Unit {0})
bounds_listed c literals [] = Fine tt
bounds_listed c literals (e ∷ rest) =
    lift2 bound_taken
    (done c Constant (formed c Constant literals None e.place e.kind.value))
    (bounds_listed c (literals_after literals e.kind.value) rest)

abbrev pub call_formed : Context → Purpose → Literals → Option Shape → Place → RawExpr → List RawExpr → Verdict Typed
call_formed c purpose literals target at function arguments =
    call_or_not c at target (called c.scope.declarations function.kind.value) (length arguments)
    (operand_in c purpose (formed c purpose literals None function.place function.kind.value))
    (arguments_listed_fault c purpose literals at (parameters_of (called c.scope.declarations function.kind.value)) arguments)
    (arguments_listed c purpose literals (parameters_of (called c.scope.declarations function.kind.value)) arguments)

-- the typing of an expression
abbrev pub judged : Context → Purpose → Literals → Option Shape → RawExpr → Verdict Typed
judged c purpose literals target e = done c purpose (formed c purpose literals target e.place e.kind.value)
