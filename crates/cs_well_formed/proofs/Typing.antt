-- Typed expressions are well formed, by the productions of their trees.
use Rattle.std.proofs.Common.{◌≡◌, ℕ, suc, Bool, true, false, cond, List, [], ◌∷◌, length, Option, Some, None, refl, subst, arith}
use Rattle.std.specs.Prelude.{ℤ, pos}
use Rattle.cs_types.specs.declared.int_type.IntType.TheVariants.{Int}
use Rattle.cs_types.specs.IntType.{InRange}
use Rattle.cs_types.specs.Shape.{Shape, integer}
use Rattle.cs_ast.specs.declared.place.Place.{Place}
use Rattle.cs_ast.specs.declared.token.IntegerConstant.{IntegerConstant}
use Rattle.cs_ast.specs.declared.raw.expression.RawExprKind.{RawExprKind, Row_of-RawExpr, end_of-RawExpr, more_of-RawExpr}
use Rattle.cs_ast.specs.declared.raw.expression.RawExprKind.TheVariants as kind
use Rattle.cs_ast.specs.declared.raw.operator.AssignOp.{AssignOp}
use Rattle.cs_ast.specs.declared.raw.operator.InfixOp.{InfixOp}
use Rattle.cs_ast.specs.declared.raw.operator.InfixOp.TheVariants as infix_op
use Rattle.cs_ast.specs.declared.raw.operator.PrefixOp.{PrefixOp}
use Rattle.cs_ast.specs.declared.raw.operator.PrefixOp.TheVariants as prefix_op
use Rattle.cs_ast.specs.declared.typed.operator.UnOp.TheVariants as un
use Rattle.cs_ast.specs.declared.typed.operator.Gives.TheVariants.{Old, New}
use Rattle.cs_ast.specs.declared.raw.written_type.WrittenType.{WrittenType}
use Rattle.cs_ast.specs.RawView.{written_kind, written_row}
use Rattle.cs_ast.specs.TypedTree.{Typed, Number, TypedList, NoMore}
use Rattle.cs_scopes.specs.declared.context.Context.{Context}
use Rattle.cs_consts.specs.declared.purpose.Purpose.{Purpose}
use Rattle.cs_scopes.specs.TypeNames.{complete_at}
use Rattle.cs_scopes.specs.Verdicts.{Verdict, Fine, Fault, lift, lift2}
use Rattle.cs_folding.specs.TypedParts.{type_of}
use Rattle.cs_expressions.specs.Integers.{raised}
use Rattle.cs_types.specs.Kinds.{is_void}
use Rattle.cs_expressions.specs.Objects.{valued, operand, measured}
use Rattle.cs_consts.specs.Constants.{finished}
use Rattle.cs_consts.specs.Operands.{left_operand_fault}
use Rattle.cs_expressions.specs.Conversions.{recast}
use Rattle.cs_expressions.specs.Operators.{combined, tested, followed}
use Rattle.cs_expressions.specs.Places.{selected}
use Rattle.cs_expressions.specs.Stores.{steppable, step_operator}
use Rattle.cs_scopes.specs.Scopes.{newest}
use Rattle.cs_expressions.specs.Calls.{called, parameters_of}
use Rattle.cs_expressions.specs.Primary.{Literals, constant_type}
use Rattle.cs_consts.specs.Typing.{literals_after, literals_after_row, row_length, done, value_in, operand_in, purpose_if, purpose_after, is_address}
use Rattle.cs_consts.specs.Typing.{prefixed_value, prefixed, between, indexed_values, arrow_on, stepped_object, is_plain, left_side, type_in, right_target}
use Rattle.cs_consts.specs.Typing.{cast_type, given_shape, cast_operand, cast_to, chosen_values, measured_type, measured_arrays, base_in, further, formed}
use Rattle.cs_consts.specs.Typing.{arguments_formed, arguments_fault, numbers_formed, bounds_formed, size_alone, measured_type_name}
use Rattle.cs_well_formed.specs.Structs.{NamesStructs}
use Rattle.cs_well_formed.specs.Expressions.{Setting, IsWell, IsWellForm, IsValue, IsScalarValue}
use Rattle.cs_ast.specs.HeldTokens.{IsHeldConstant}
use Rattle.cs_well_formed.specs.Constants.{HasConstants, HaveConstants}
use Rattle.cs_well_formed.specs.Agreement.{Agrees, AreFirst}
use Rattle.cs_well_formed.proofs.Verdicts.{IfFine, if_fine-any, if_fine-weaker, lift-then, lift2-then, lift3-then, cond-then, between-then}
use Rattle.cs_well_formed.proofs.Numbers.{constant-InRange, character-InRange}
use Rattle.cs_well_formed.proofs.Constants.{finished-well}
use Rattle.cs_well_formed.proofs.Integers.{raised-well, turned-well}
use Rattle.cs_well_formed.proofs.Objects.{valued-well, operand-well, measured-well}
use Rattle.cs_well_formed.proofs.Conversions.{recast-well}
use Rattle.cs_well_formed.proofs.Operators.{tested-well, denied-well, chosen-well, followed-well, combined-well}
use Rattle.cs_well_formed.proofs.Places.{address_of-well, through-well, indexed-well, selected-well, selected_through-well}
use Rattle.cs_well_formed.proofs.Stores.{IsUpdated, IsLeft, stepped-well, steppable-well, left-named, left_side-well, stored_to-well}
use Rattle.cs_well_formed.specs.Laws.{TargetNames}
use Rattle.cs_well_formed.proofs.Structs.{names-longer, AreNamed}
use Rattle.cs_well_formed.proofs.Naming.{type_of-named}
use Rattle.cs_well_formed.proofs.NamedTypes.{cast_type-named, given_shape-named}
use Rattle.cs_well_formed.proofs.Names.{first-part, literals-begin, literals-begin_row, text-well, newest-there, called-there, named-well}
use Rattle.cs_well_formed.proofs.Calls.{AreGiven, parameters_of-named, call-well}

-- a well-formed value
abbrev pub IsWellValue : Setting → Typed → Type 0
IsWellValue s e = IsWell s e × IsValue e

-- the literals after the left operand are among those after both
both-first : (s : Setting) (literals : Literals) (left right : RawExprKind) → AreFirst s.program (literals_after (literals_after literals left) right)
    → AreFirst s.program (literals_after literals left)
both-first s literals left right texts = first-part s.program (literals_after literals left) _ (literals-begin (literals_after literals left) right) texts

module _ (s : Setting) (c : Context) (agrees : Agrees s c) where
  pub done-well : (purpose : Purpose) (v : Verdict Typed) → IfFine v (IsWell s) → IfFine (done c purpose v) (IsWell s)
  unfolding done
  done-well purpose v well = lift-then (IsWell s) (IsWell s) (finished c.model purpose) v well (λ e w. finished-well s c.model purpose e agrees.model w)

  pub value_in-well : (purpose : Purpose) (v : Verdict Typed) → IfFine v (IsWell s) → IfFine (value_in c purpose v) (IsWellValue s)
  unfolding value_in
  value_in-well purpose v well =
      lift-then (IsWell s) (IsWellValue s) (valued c.table.list) (done c purpose v) (done-well purpose v well) (valued-well s c agrees)

  pub operand_in-well : (purpose : Purpose) (v : Verdict Typed) → IfFine v (IsWell s) → IfFine (operand_in c purpose v) (IsWellValue s)
  unfolding operand_in
  operand_in-well purpose v well =
      lift-then (IsWell s) (IsWellValue s) (operand c.table.list) (done c purpose v) (done-well purpose v well) (operand-well s c agrees)

  -- an integer constant
  number-well : (k : IntegerConstant) → IsHeldConstant k → IsWellForm s (integer (constant_type c.model k)) (Number (pos k.value))
  number-well k fit =
      (constant_type c.model k, refl, subst (λ m. InRange m (constant_type c.model k) (pos k.value)) agrees.model (constant-InRange c.model k fit))

  -- a prefix operator
  prefixed_value-well : (op : PrefixOp) (at : Place) (v : Typed) → IsWellValue s v → IfFine (prefixed_value c op at v) (IsWell s)
  unfolding prefixed_value
  prefixed_value-well prefix_op.Address at v held = address_of-well s at v held.0
  prefixed_value-well prefix_op.Through at v held = through-well s at v (type_of v) held.0 (held.1, refl)
  prefixed_value-well prefix_op.Plus at v held =
      if_fine-weaker _ (IsWell s) (raised c.model at v (type_of v)) (raised-well s c.model at v (type_of v) held.0 (held.1, refl)) (λ _ given. given.0)
  prefixed_value-well prefix_op.Minus at v held = turned-well s c.model at un.Negate v (type_of v) held.0 (held.1, refl)
  prefixed_value-well prefix_op.Complement at v held = turned-well s c.model at un.Complement v (type_of v) held.0 (held.1, refl)
  prefixed_value-well prefix_op.Not at v held = denied-well s at v held.0 held.1

  prefixed-well : (op : PrefixOp) (at : Place) (e : Typed) → IsWell s e → IfFine (prefixed c op at e) (IsWell s)
  unfolding prefixed
  prefixed-well op at e well =
      cond-then (IsWell s) (is_address op) _ _
      (λ _. address_of-well s at e well)
      (λ _.
      lift-then (IsWellValue s) (IsWell s) (prefixed_value c op at) (operand c.table.list e) (operand-well s c agrees e well)
      (λ v held. prefixed_value-well op at v held))

  -- a cast
  cast_operand-well : (target : Shape) (e : Typed) → IsWell s e → IfFine (cast_operand c target e) (IsWellValue s)
  unfolding cast_operand
  cast_operand-well target e well = cond-then (IsWellValue s) (is_void target) _ _ (λ _. valued-well s c agrees e well) (λ _. operand-well s c agrees e well)

  -- the type of a cast
  given_named : (at : Place) (count : ℕ) (ty : WrittenType) → IfFine (cast_type at count (base_in c at ty)) (NamesStructs s.program.table)
  given_named at count ty =
      if_fine-weaker (NamesStructs c.table.list) (NamesStructs s.program.table) (cast_type at count (base_in c at ty))
      (cast_type-named c agrees.named at count ty)
      (λ shape n. names-longer c.table.list s.program.table agrees.table.longer shape n)

  cast_to-well : (at : Place) (target : Shape) (e : Typed) → NamesStructs s.program.table target → IsWell s e → IfFine (cast_to c at target e) (IsWell s)
  unfolding cast_to
  cast_to-well at target e names well =
      lift-then (IsWellValue s) (IsWell s) (λ v. recast c.model at v target (type_of v)) (cast_operand c target e) (cast_operand-well target e well)
      (λ v held. recast-well s c.model at v target (type_of v) names held.0 (held.1, refl))

  -- the type that an assignment operator requires of its right operand
  right_named : (op : AssignOp) (v : Verdict Typed) → IfFine v (IsLeft s (is_plain op)) → TargetNames s (right_target op v)
  right_named op v left = by_plain (is_plain op) v left
    where
      by_plain : (plain : Bool) (v : Verdict Typed) → IfFine v (IsLeft s plain) → TargetNames s (cond plain (type_in v) None)
      by_plain true (Fine e) h = left-named s true e agrees.types h
      by_plain true (Fault code place) h = tt
      by_plain false v h = tt

  -- `++` and `--`
  step-well : (op : _) (gives : _) (at : Place) (v : Verdict Typed) → IfFine v (IsWell s)
      → IfFine (lift (stepped_object c op gives at) (lift (steppable c.table.list op at) v)) (IsWell s)
  step-well op gives at v well =
      lift-then (IsUpdated s) (IsWell s) (stepped_object c op gives at) _
      (lift-then (IsWell s) (IsUpdated s) (steppable c.table.list op at) v well (steppable-well s c agrees op at))
      (λ object left. stepped-well s c.model op gives at object (type_of object) left refl)

  -- `sizeof`
  sized-well : (at : Place) (v : Verdict Typed) → IfFine (lift (measured_type c at) v) (IsWell s)
  sized-well at v = lift-then (λ _. Unit {0}) (IsWell s) (measured_type c at) v (if_fine-any v) (λ e _. measured-well s c agrees at (type_of e))

  sized_type-well : (at : Place) (base : Verdict Shape) (ns : List ℤ) (bounds : Verdict (Unit {0}))
      → IfFine (measured_type_name c at base ns bounds) (IsWell s)
  unfolding measured_arrays
  sized_type-well at base ns bounds =
      lift2-then (IsWell s) (λ _. Unit {0}) (IsWell s) size_alone _ bounds
      (lift-then (λ _. Unit {0}) (IsWell s) (measured_arrays c at ns) (lift (complete_at c.table.list at) base)
      (if_fine-any (lift (complete_at c.table.list at) base))
      (λ ty _. lift-then (λ _. Unit {0}) (IsWell s) (measured c.model c.table.list at) _ (if_fine-any _) (λ whole _. measured-well s c agrees at whole)))
      (if_fine-any bounds) (λ size _ well _. well)

  -- an operator on two operands
  infix-well : (op : InfixOp) (at : Place) (v w : Verdict Typed) → IfFine v (IsWellValue s) → IfFine w (IsWellValue s)
      → IfFine (between at (left_operand_fault c.table.list op) (combined c.model c.table.list op at) v w) (IsWell s)
  infix-well op at v w one other =
      between-then (IsWellValue s) (IsWellValue s) (IsWell s) at (left_operand_fault c.table.list op) (combined c.model c.table.list op at) v w one other
      (λ a b h k. combined-well s c agrees op at a b h.0 h.1 k.0 k.1)

  -- an argument and those after it
  further-given : (ty : Shape) (types : List Shape) (count : ℕ) (v : Verdict Typed) (w : Verdict TypedList) → IfFine v (IsWellValue s)
      → IfFine w (λ vs. length types ≡ count → AreGiven s types vs)
      → IfFine (lift2 further v w) (λ vs. length (ty ∷ types) ≡ suc count → AreGiven s (ty ∷ types) vs)
  further-given ty types count v w one others =
      lift2-then (IsWellValue s) (λ vs. length types ≡ count → AreGiven s types vs)
      (λ vs. length (ty ∷ types) ≡ suc count → AreGiven s (ty ∷ types) vs) further v w one others
      (λ e es h k counted. (h.0, h.1, k (omega (arith, counted))))

  mutual
    -- an expression, for any purpose and any target
    pub formed-well : (purpose : Purpose) (literals : Literals) (target : Option Shape) → TargetNames s target
        → (at : Place) (k : RawExprKind) → HasConstants (written_kind k) → AreFirst s.program (literals_after literals k) →
        IfFine (formed c purpose literals target at k) (IsWell s)
    formed-well purpose literals target names at (kind.Name name) fit texts = named-well s at (newest name c.scope.declarations) (newest-there s c agrees name)
    formed-well purpose literals target names at (kind.Number k) fit texts = number-well k fit
    formed-well purpose literals target names at (kind.Character n) fit texts = (Int, refl, character-InRange s.program.model n fit)
    formed-well purpose literals target names at (kind.Text bytes) fit texts = text-well s literals at bytes texts
    formed-well purpose literals target names at (kind.Parenthesis' place p inner) fit texts =
        done-well purpose _ (formed-well purpose literals target names place inner fit texts)
    formed-well purpose literals target names at (kind.Index' place p left place' q right) fit texts =
        between-then (IsWellValue s) (IsWellValue s) (IsWell s) at (left_operand_fault c.table.list infix_op.Add) (indexed_values c at) _ _
        (operand_in-well purpose _ (formed-well purpose literals None tt place left fit.0 (both-first s literals left right texts)))
        (operand_in-well purpose _ (formed-well purpose (literals_after literals left) None tt place' right fit.1 texts))
        (λ a b h k. indexed-well s c agrees at a b (type_of a) (type_of b) h.0 (h.1, refl) k.0 (k.1, refl))
    formed-well purpose literals target names at (kind.Call' place p function shape row) fit texts =
        call-well s c at target (called c.scope.declarations function) (row_length row)
        (operand_in c purpose (formed c purpose literals None place function))
        (arguments_fault c purpose literals at (parameters_of (called c.scope.declarations function)) row)
        (arguments_formed c purpose literals (parameters_of (called c.scope.declarations function)) row)
        names agrees.types.program (called-there s c agrees function)
        (arguments-given purpose literals (parameters_of (called c.scope.declarations function))
        (parameters_of-named s.program agrees.types.program (called c.scope.declarations function) (called-there s c agrees function)) row fit.1 texts)
    formed-well purpose literals target names at (kind.Member' place p object name) fit texts =
        lift-then (IsWell s) (IsWell s) (selected c.table.list at name.place name.name) _
        (done-well purpose _ (formed-well purpose literals None tt place object fit texts))
        (λ e h. selected-well s c agrees at name.place name.name e h)
    formed-well purpose literals target names at (kind.Arrow' place p e name) fit texts =
        lift-then (IsWellValue s) (IsWell s) (arrow_on c at name.place name.name) _
        (operand_in-well purpose _ (formed-well purpose literals None tt place e fit texts))
        (λ v h. selected_through-well s c agrees at name.place name.name v (type_of v) h.0 (h.1, refl))
    formed-well purpose literals target names at (kind.StepAfter' step place p object) fit texts =
        step-well (step_operator step) Old at _ (done-well purpose _ (formed-well purpose literals None tt place object fit texts))
    formed-well purpose literals target names at (kind.StepBefore' step place p object) fit texts =
        step-well (step_operator step) New at _ (done-well purpose _ (formed-well purpose literals None tt place object fit texts))
    formed-well purpose literals target names at (kind.Prefix' operator place p e) fit texts =
        lift-then (IsWell s) (IsWell s) (prefixed c operator at) _ (done-well purpose _ (formed-well purpose literals None tt place e fit texts))
        (prefixed-well operator at)
    formed-well purpose literals target names at (kind.SizeOf' place p e) fit texts = sized-well at _
    formed-well purpose literals target names at (kind.SizeOfType' ty shape row) fit texts =
        sized_type-well at (base_in c at ty) (numbers_formed c literals row) (bounds_formed c literals row)
    formed-well purpose literals target names at (kind.Cast' ty shape row place p e) fit texts =
        let to = cast_type at (row_length row) (base_in c at ty) in
        let given = given_named at (row_length row) ty in
        let cast_names = given_shape-named (NamesStructs s.program.table) to given in
        lift2-then (NamesStructs s.program.table) (IsWell s) (IsWell s) (cast_to c at) _ _ given
        (done-well purpose _ (formed-well purpose literals (given_shape (cast_type at (row_length row) (base_in c at ty))) cast_names place e fit.1 texts))
        (λ to v n h. cast_to-well at to v n h)
    formed-well purpose literals target names at (kind.Infix' operator place p left place' q right) fit texts =
        let one = operand_in c purpose (formed c purpose literals None place left) in
        infix-well operator at _ _
        (operand_in-well purpose _ (formed-well purpose literals None tt place left fit.0 (both-first s literals left right texts)))
        (operand_in-well (purpose_after operator purpose one) _
        (formed-well (purpose_after operator purpose one) (literals_after literals left) None tt place' right fit.1 texts))
    formed-well purpose literals target names at (kind.Choice' place p test place' q one place'' r other) fit texts =
        let yields = lift (tested at) (operand_in c purpose (formed c purpose literals None place test)) in
        let following = literals_after literals test in
        let before = both-first s following one other texts in
        lift3-then (λ v. IsWell s v × IsScalarValue v) (IsWellValue s) (IsWellValue s) (IsWell s) (chosen_values c at) _ _ _
        (lift-then (IsWellValue s) (λ v. IsWell s v × IsScalarValue v) (tested at) _
        (operand_in-well purpose _ (formed-well purpose literals None tt place test fit.0 (both-first s literals test one before)))
        (λ v h. tested-well s at v h.0 h.1))
        (value_in-well (purpose_if true purpose yields) _ (formed-well (purpose_if true purpose yields) following None tt place' one fit.1 before))
        (value_in-well (purpose_if false purpose yields) _
        (formed-well (purpose_if false purpose yields) (literals_after following one) None tt place'' other fit.2 texts))
        (λ t a b h k l.
        chosen-well s c.model at t a b (type_of a) (type_of b) (type_of-named s agrees.types a k.0) (type_of-named s agrees.types b l.0) h.0 h.1 k.0
        (k.1, refl) l.0 (l.1, refl))
    formed-well purpose literals target names at (kind.Assign' operator place p object place' q value) fit texts =
        let left = lift (left_side operator at) (done c purpose (formed c purpose literals None place object)) in
        let is_left =
        lift-then (IsWell s) (IsLeft s (is_plain operator)) (left_side operator at) _
        (done-well purpose _ (formed-well purpose literals None tt place object fit.0 (both-first s literals object value texts)))
        (left_side-well s c agrees operator at) in
        let right_names = right_named operator left is_left in
        let right = formed-well purpose (literals_after literals object) (right_target operator left) right_names place' value fit.1 texts in
        lift-then (IsLeft s (is_plain operator)) (IsWell s) _ left is_left
        (λ o h. stored_to-well s c agrees operator at _ o h (operand_in-well purpose _ right))
    formed-well purpose literals target names at (kind.Comma' place p first place' q second) fit texts =
        lift2-then (IsWellValue s) (IsWellValue s) (IsWell s) (followed at) _ _
        (value_in-well purpose _ (formed-well purpose literals None tt place first fit.0 (both-first s literals first second texts)))
        (value_in-well purpose _ (formed-well purpose (literals_after literals first) None tt place' second fit.1 texts))
        (λ a b h k. followed-well s at a b h.0 h.1 k.0 k.1)

    -- the values of arguments
    pub arguments-given : (purpose : Purpose) (literals : Literals) (types : List Shape) → AreNamed s.program.table types
        → {n : _} (row : Row_of-RawExpr n) → HaveConstants (written_row row) →
        AreFirst s.program (literals_after_row literals row)
        → IfFine (arguments_formed c purpose literals types row) (λ vs. length types ≡ row_length row → AreGiven s types vs)
    arguments-given purpose literals types names end_of-RawExpr fit texts = none types
      where
        none : (types : List Shape) → length types ≡ 0 → AreGiven s types NoMore
        none [] h = tt
        none (ty ∷ types) h = absurd (omega arith)
    arguments-given purpose literals [] names (more_of-RawExpr place p k rest) fit texts = λ h. absurd (omega (arith, h))
    arguments-given purpose literals (ty ∷ types) names (more_of-RawExpr place p k rest) fit texts =
        further-given ty types (row_length rest) _ _
        (operand_in-well purpose _ (formed-well purpose literals (Some ty) names.0 place k fit.0
        (first-part s.program (literals_after literals k) _ (literals-begin_row (literals_after literals k) rest) texts)))
        (arguments-given purpose (literals_after literals k) types names.1 rest fit.1 texts)
