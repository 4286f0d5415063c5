-- The failing positions of expressions (C11 6.5): for each production those of its parts and those of its own rules, in the order of
-- tokens. The types of parts are taken from typing; a rule can't be checked if its parts have no types, or types that it isn't about.
use Rattle.std.specs.Prelude.{ℕ, zero, suc, ℤ, Bool, true, false, ◌||◌, if◌then◌else◌, List, [], ◌∷◌, ◌++◌, Option, Some, None}
use Rattle.std.specs.Prelude.{option_to_list}
use Rattle.cs_types.specs.Shape.{Shape, integer, pointer}
use Rattle.cs_types.specs.Layout.{members_of}
use Rattle.cs_types.specs.declared.structs.StructType.{StructType}
use Rattle.cs_ast.specs.declared.place.Place.{Place}
use Rattle.cs_ast.specs.declared.raw.expression.RawExprKind.{RawExprKind, Row_of-RawExpr, end_of-RawExpr, more_of-RawExpr}
use Rattle.cs_ast.specs.declared.raw.expression.RawExprKind.TheVariants as kind
use Rattle.cs_ast.specs.declared.raw.operator.AssignOp.{AssignOp}
use Rattle.cs_ast.specs.declared.raw.operator.InfixOp.{InfixOp}
use Rattle.cs_ast.specs.declared.raw.operator.InfixOp.TheVariants as infix_op
use Rattle.cs_ast.specs.declared.typed.operator.BinOp.{BinOp}
use Rattle.cs_ast.specs.TypedTree.{Typed, TypedList}
use Rattle.cs_scopes.specs.declared.context.Context.{Context}
use Rattle.cs_scopes.specs.declared.refusal.TypeCode.{TypeCode}
use Rattle.cs_scopes.specs.declared.refusal.TypeCode.TheVariants.{NotLvalue, OperandTypes}
use Rattle.cs_scopes.specs.Meanings.{Signature}
use Rattle.cs_scopes.specs.Scopes.{newest}
use Rattle.cs_scopes.specs.TypeNames.{complete_at}
use Rattle.cs_scopes.specs.Verdicts.{Verdict, Fine, lift}
use Rattle.cs_folding.specs.TypedParts.{type_of, form_of}
use Rattle.cs_expressions.specs.Calls.{called, parameters_of, call_fault}
use Rattle.cs_expressions.specs.Conversions.{converted, recast}
use Rattle.cs_expressions.specs.Objects.{is_object, unless_void, operand, valued}
use Rattle.cs_expressions.specs.Operators.{combined, tested, met, alike}
use Rattle.cs_expressions.specs.Places.{struct_number, struct_after}
use Rattle.cs_scopes.specs.Members.{member_found}
use Rattle.cs_expressions.specs.Primary.{Literals, named, text_at}
use Rattle.cs_expressions.specs.Stores.{is_stored_to, is_additive, updated_fault, step_operator}
use Rattle.cs_consts.specs.declared.purpose.Purpose.{Purpose}
use Rattle.cs_consts.specs.declared.purpose.Purpose.TheVariants.{Run, Constant}
use Rattle.cs_consts.specs.Constants.{finished}
use Rattle.cs_consts.specs.Operands.{left_operand_fault}
use Rattle.cs_consts.specs.Typing.{literals_after, literals_past, row_length, done, value_in, operand_in, purpose_if, purpose_after, is_address, prefixed_value}
use Rattle.cs_consts.specs.Typing.{indexed_values, operator_of, is_plain, left_side, left_fault, stored_by, right_target, castable, cast_type}
use Rattle.cs_consts.specs.Typing.{cast_operand, given_shape, measured_type, base_in, formed, call_with}
use Rattle.cs_consts.specs.Typing.{measured_arrays, arguments_formed, numbers_formed}
use Rattle.cs_first_faults.specs.Failures.{FailingPlace, failing_at, unless, codes_of, failing, if_typed, if_both_typed, fails, fails_on_both}

-- ---- what the use of an expression requires of it, at the expression's own position

-- in a constant expression each expression is a number (15)
abbrev pub done_failures : Context → Purpose → Verdict Typed → List FailingPlace → List FailingPlace
done_failures c purpose v failures = failures ++ fails (finished c.model purpose) v

-- an expression whose value is used has a complete type if it is an object (6)
abbrev pub value_failures : Context → Purpose → Verdict Typed → List FailingPlace → List FailingPlace
value_failures c purpose v failures = done_failures c purpose v failures ++ fails (valued c.table.list) (done c purpose v)

-- an operand also has a value (16)
abbrev pub operand_failures : Context → Purpose → Verdict Typed → List FailingPlace → List FailingPlace
operand_failures c purpose v failures = done_failures c purpose v failures ++ fails (operand c.table.list) (done c purpose v)

-- an expression that has to be an object isn't `void` (16)
abbrev pub something : Typed → Verdict Typed
something e = unless_void e (Fine e)

abbrev pub object_in : Context → Purpose → Verdict Typed → Verdict Typed
object_in c purpose v = lift something (done c purpose v)

abbrev pub object_failures : Context → Purpose → Verdict Typed → List FailingPlace → List FailingPlace
object_failures c purpose v failures = done_failures c purpose v failures ++ fails something (done c purpose v)

-- ---- the rules of operators, at the operator's position unless another one is stated

-- `&`: an lvalue (3)
abbrev pub address_codes : Typed → List TypeCode
address_codes e = unless (is_object (form_of e)) NotLvalue

-- `.`: a struct (4), which is an lvalue (3); at the member's name: a member of the struct (12), which has a body (1)
abbrev pub member_failures : List StructType → Place → Place → List ℕ → Typed → Option ℕ → List FailingPlace
member_failures table at name_at name e (Some number) =
    failing_at at (unless (is_object (form_of e)) NotLvalue) ++ failing (member_found name_at name (members_of table number))
member_failures table at name_at name e None = failing_at at (OperandTypes ∷ [])

-- `->`: a pointer to a struct (4); at the member's name as for `.`
abbrev pub arrow_failures : List StructType → Place → Place → List ℕ → Option ℕ → List FailingPlace
arrow_failures table at name_at name (Some number) = failing (member_found name_at name (members_of table number))
arrow_failures table at name_at name None = failing_at at (OperandTypes ∷ [])

-- a compound assignment or a step works on an integer, and if it adds or subtracts also on a pointer (C11 6.5.16.2)
abbrev pub is_updatable : BinOp → Shape → Bool
is_updatable op (integer ty) = true
is_updatable op (pointer target) = is_additive op
is_updatable op ty = false

-- `++`, `--`: an lvalue (3) of a type that a step works on (4), and if it is a pointer one to a complete type (6)
abbrev pub step_codes : Context → BinOp → Typed → List TypeCode
step_codes c op e =
    unless (is_stored_to e) NotLvalue ++ unless (is_updatable op (type_of e)) OperandTypes ++ option_to_list (updated_fault c.table.list (type_of e))

-- an assignment operator, for its left operand whatever the right one is: an lvalue (3) of a type that a compound one works on (4); the
-- object of `=` is complete (6), of at most 4,096 scalars (18), and a pointer that a compound one moves points to a complete type (6)
abbrev pub left_codes : Context → AssignOp → Typed → List TypeCode
left_codes c op e =
    unless (is_stored_to e) NotLvalue ++ unless (is_plain op || is_updatable (operator_of op) (type_of e)) OperandTypes
    ++ option_to_list (left_fault c op (type_of e))

-- for both operands, if the left one is an object that can be stored to: the right one converts to its type (4, 9), or both suit the operator (4)
abbrev pub store_codes : Context → AssignOp → Place → Typed → Typed → List TypeCode
store_codes c op at object value = codes_of (stored_by c op at object value)

-- an operator with two operands, and `[`, for the left one whatever the right one is: its type (4), complete where pointers move (6)
abbrev pub operand_codes : Context → InfixOp → Typed → List TypeCode
operand_codes c op left = option_to_list (left_operand_fault c.table.list op (type_of left))

-- for both operands: their types suit the operator together (4), and a pointer that moves points to a complete type (6)
abbrev pub combined_codes : Context → InfixOp → Place → Typed → Typed → List TypeCode
combined_codes c op at left right = codes_of (combined c.model c.table.list op at left right)

abbrev pub indexed_codes : Context → Place → Typed → Typed → List TypeCode
indexed_codes c at left right = codes_of (indexed_values c at left right)

-- the two values of `?:` are converted to one type, or are both `void` or of one struct (4)
abbrev pub choice_codes : Context → Place → Typed → Typed → List TypeCode
choice_codes c at one other =
    if alike (type_of one) (type_of other) then [] else codes_of (met c.model at one other (type_of one) (type_of other))

-- the type of a cast is neither an array nor a struct (4)
abbrev pub cast_codes : ℕ → Verdict Shape → Place → List TypeCode
cast_codes zero base at = if_typed (λ ty. codes_of (castable at ty)) base
cast_codes (suc n) base at = OperandTypes ∷ []

-- its operand converts to the type (4, 9)
abbrev pub recast_codes : Context → Place → Shape → Typed → List TypeCode
recast_codes c at target e = if_typed (λ v. codes_of (recast c.model at v target (type_of v))) (cast_operand c target e)

-- each argument that has a type converts to that of its parameter (4, 9)
abbrev pub argument_codes : Context → Purpose → Literals → Place → List Shape → {n : _} → Row_of-RawExpr n → List TypeCode
argument_codes c purpose literals at types end_of-RawExpr = []
argument_codes c purpose literals at [] (more_of-RawExpr place p k rest) = []
argument_codes c purpose literals at (ty ∷ types) (more_of-RawExpr place p k rest) =
    let value = operand_in c purpose (formed c purpose literals (Some ty) place k) in
    if_typed (λ e. codes_of (converted c.model at e ty (type_of e))) value
    ++ argument_codes c purpose (literals_past value (literals_after literals k)) at types rest

-- if none of this is wrong, the library's function accepts the arguments: `free` has one (5)
abbrev pub or_call_codes : Context → Place → Option Shape → Signature → Verdict TypedList → List TypeCode → List TypeCode
or_call_codes c at target f values [] = if_typed (λ all. codes_of (call_with c at target f all)) values
or_call_codes c at target f values (code ∷ others) = code ∷ others

-- the `(` of a call: a function's name before it (4), as many arguments as parameters (5), a pointer as the target of an allocation (8),
-- and arguments as the parameters require
abbrev pub call_codes : Context → Place → Option Shape → Option Signature → ℕ → Verdict Typed → List TypeCode → Verdict TypedList
    → List TypeCode
call_codes c at target None count v arguments values = if_typed (λ e. OperandTypes ∷ []) v
call_codes c at target (Some f) count v arguments values =
    or_call_codes c at target f values (option_to_list (call_fault target count f) ++ arguments)

-- the expression before the `(`, if it isn't a function's name
abbrev pub callee_failures : Option Signature → List FailingPlace → List FailingPlace
callee_failures None function = function
callee_failures (Some f) function = []

-- `sizeof` of a type: complete (6), and with its arrays of a size that objects may have (7)
abbrev pub size_codes : Context → Place → List ℤ → Verdict Shape → List TypeCode
size_codes c at bounds base = if_typed (λ ty. codes_of (lift (measured_arrays c at bounds) (complete_at c.table.list at ty))) base

abbrev mutual
  -- the failing positions of an expression at a position, after some literals; its context may assign or convert its value to a type
  pub failures : Context → Purpose → Literals → Option Shape → Place → RawExprKind → List FailingPlace
  -- C11 6.5.1: a name that is declared (1), and isn't a function's (14); a string literal that is not too long (7)
  failures c purpose literals target at (kind.Name name) = failing (named at (newest name c.scope.declarations))
  failures c purpose literals target at (kind.Number k) = []
  failures c purpose literals target at (kind.Character n) = []
  failures c purpose literals target at (kind.Text bytes) = failing (text_at literals at bytes)
  failures c purpose literals target at (kind.Parenthesis' place p inner) =
      done_failures c purpose (formed c purpose literals target place inner) (failures c purpose literals target place inner)
  -- C11 6.5.2.1: a pointer and an integer (4); the pointer's target is complete (6); of its left operand `[` requires what `+` does
  failures c purpose literals target at (kind.Index' place p left place' q right) =
      let one = formed c purpose literals None place left in
      let other = formed c purpose (literals_after literals left) None place' right in
      operand_failures c purpose one (failures c purpose literals None place left)
      ++ failing_at at
      (if_typed (operand_codes c infix_op.Add) (operand_in c purpose one)
      ++ if_both_typed (indexed_codes c at) (operand_in c purpose one) (operand_in c purpose other))
      ++ operand_failures c purpose other (failures c purpose (literals_after literals left) None place' right)
  -- C11 6.5.2.2
  failures c purpose literals target at (kind.Call' place p function shape row) =
      let f = called c.scope.declarations function in
      let v = formed c purpose literals None place function in
      callee_failures f (operand_failures c purpose v (failures c purpose literals None place function))
      ++ failing_at at
      (call_codes c at target f (row_length row) (operand_in c purpose v) (argument_codes c purpose literals at (parameters_of f) row)
      (arguments_formed c purpose literals (parameters_of f) row))
      ++ argument_failures c purpose literals (parameters_of f) row
  -- C11 6.5.2.3
  failures c purpose literals target at (kind.Member' place p object name) =
      let e = formed c purpose literals None place object in
      object_failures c purpose e (failures c purpose literals None place object)
      ++ if_typed (λ found. member_failures c.table.list at name.place name.name found (struct_number (type_of found))) (object_in c purpose e)
  failures c purpose literals target at (kind.Arrow' place p address name) =
      let e = formed c purpose literals None place address in
      operand_failures c purpose e (failures c purpose literals None place address)
      ++ if_typed (λ found. arrow_failures c.table.list at name.place name.name (struct_after (type_of found))) (operand_in c purpose e)
  -- C11 6.5.2.4
  failures c purpose literals target at (kind.StepAfter' step place p object) =
      let e = formed c purpose literals None place object in
      object_failures c purpose e (failures c purpose literals None place object)
      ++ failing_at at (if_typed (step_codes c (step_operator step)) (object_in c purpose e))
  -- C11 6.5.3.1
  failures c purpose literals target at (kind.StepBefore' step place p object) =
      let e = formed c purpose literals None place object in
      failing_at at (if_typed (step_codes c (step_operator step)) (object_in c purpose e))
      ++ object_failures c purpose e (failures c purpose literals None place object)
  -- C11 6.5.3.2, 6.5.3.3: `*` works on a pointer (4), which doesn't point to `void` (6); the others have types that they work on (4)
  failures c purpose literals target at (kind.Prefix' operator place p inner) =
      let e = formed c purpose literals None place inner in
      if is_address operator
      then failing_at at (if_typed address_codes (object_in c purpose e))
      ++ object_failures c purpose e (failures c purpose literals None place inner)
      else fails (prefixed_value c operator at) (operand_in c purpose e)
      ++ operand_failures c purpose e (failures c purpose literals None place inner)
  -- C11 6.5.3.4: a complete type (6), of a size that an object may have (7)
  failures c purpose literals target at (kind.SizeOf' place p inner) =
      let e = formed c Run literals None place inner in
      fails (measured_type c at) (done c Run e) ++ done_failures c Run e (failures c Run literals None place inner)
  failures c purpose literals target at (kind.SizeOfType' ty shape row) =
      failing_at at (size_codes c at (numbers_formed c literals row) (base_in c at ty))
      ++ failing (base_in c at ty)
      ++ bound_failures c literals row
  -- C11 6.5.4: a tag that is declared (1), and for this keyword (2), at the tag
  failures c purpose literals target at (kind.Cast' ty shape row place p inner) =
      let base = base_in c at ty in
      let cast = cast_type at (row_length row) base in
      let e = done c purpose (formed c purpose literals (given_shape cast) place inner) in
      failing_at at (cast_codes (row_length row) base at ++ if_both_typed (recast_codes c at) cast e)
      ++ failing base
      ++ done_failures c purpose (formed c purpose literals (given_shape cast) place inner)
      (failures c purpose literals (given_shape cast) place inner)
      ++ fails_on_both (cast_operand c) cast e
  -- C11 6.5.5 to 6.5.14
  failures c purpose literals target at (kind.Infix' operator place p left place' q right) =
      let one = operand_in c purpose (formed c purpose literals None place left) in
      let following = purpose_after operator purpose one in
      let other = formed c following (literals_after literals left) None place' right in
      operand_failures c purpose (formed c purpose literals None place left) (failures c purpose literals None place left)
      ++ failing_at at
      (if_typed (operand_codes c operator) one ++ if_both_typed (combined_codes c operator at) one (operand_in c following other))
      ++ operand_failures c following other (failures c following (literals_after literals left) None place' right)
  -- C11 6.5.15: an integer or a pointer is tested (4); the values are converted to one type (4)
  failures c purpose literals target at (kind.Choice' place p test place' q one place'' r other) =
      let asked = operand_in c purpose (formed c purpose literals None place test) in
      let yields = lift (tested at) asked in
      let following = literals_after literals test in
      let on_true = purpose_if true purpose yields in
      let on_false = purpose_if false purpose yields in
      let first = formed c on_true following None place' one in
      let second = formed c on_false (literals_after following one) None place'' other in
      operand_failures c purpose (formed c purpose literals None place test) (failures c purpose literals None place test)
      ++ failing_at at
      (if_typed (λ t. codes_of (tested at t)) asked ++ if_both_typed (choice_codes c at) (value_in c on_true first) (value_in c on_false second))
      ++ value_failures c on_true first (failures c on_true following None place' one)
      ++ value_failures c on_false second (failures c on_false (literals_after following one) None place'' other)
  -- C11 6.5.16
  failures c purpose literals target at (kind.Assign' operator place p object place' q value) =
      let e = formed c purpose literals None place object in
      let left = lift (left_side operator at) (done c purpose e) in
      let right = formed c purpose (literals_after literals object) (right_target operator left) place' value in
      object_failures c purpose e (failures c purpose literals None place object)
      ++ failing_at at
      (if_typed (left_codes c operator) (object_in c purpose e) ++ if_both_typed (store_codes c operator at) left (operand_in c purpose right))
      ++ operand_failures c purpose right (failures c purpose (literals_after literals object) (right_target operator left) place' value)
  -- C11 6.5.17
  failures c purpose literals target at (kind.Comma' place p first place' q second) =
      value_failures c purpose (formed c purpose literals None place first) (failures c purpose literals None place first)
      ++ value_failures c purpose (formed c purpose (literals_after literals first) None place' second)
      (failures c purpose (literals_after literals first) None place' second)

  -- those of the arguments of a call, one for each parameter; further ones make the number of arguments wrong
  pub argument_failures : Context → Purpose → Literals → List Shape → {n : _} → Row_of-RawExpr n → List FailingPlace
  argument_failures c purpose literals types end_of-RawExpr = []
  argument_failures c purpose literals [] (more_of-RawExpr place p k rest) = []
  argument_failures c purpose literals (ty ∷ types) (more_of-RawExpr place p k rest) =
      operand_failures c purpose (formed c purpose literals (Some ty) place k) (failures c purpose literals (Some ty) place k)
      ++ argument_failures c purpose (literals_after literals k) types rest

  -- those of bounds, which have to be constant (15)
  pub bound_failures : Context → Literals → {n : _} → Row_of-RawExpr n → List FailingPlace
  bound_failures c literals end_of-RawExpr = []
  bound_failures c literals (more_of-RawExpr place p k rest) =
      done_failures c Constant (formed c Constant literals None place k) (failures c Constant literals None place k)
      ++ bound_failures c (literals_after literals k) rest
