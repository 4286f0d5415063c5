-- A typed expression has positions of the written one, and at most five nodes for each token and byte of its text: for
-- `typed_nodes_are_bounded`.
use Rattle.std.proofs.Common.{ℕ, ◌+◌, ◌*◌, ◌≤◌, true, false, List, [], ◌∷◌, length, Option, Some, None, arith}
use Rattle.std.specs.Prelude.{ℤ, nat_le}
use Rattle.cs_types.specs.Shape.{Shape}
use Rattle.cs_ast.specs.declared.place.Place.{Place}
use Rattle.cs_ast.specs.declared.raw.expression.RawExprKind.{RawExprKind, Row_of-RawExpr, end_of-RawExpr, more_of-RawExpr}
use Rattle.cs_ast.specs.declared.raw.expression.RawExprKind.TheVariants as kind
use Rattle.cs_ast.specs.declared.raw.operator.InfixOp.TheVariants as infix_op
use Rattle.cs_ast.specs.declared.raw.operator.PrefixOp.{PrefixOp}
use Rattle.cs_ast.specs.declared.raw.operator.PrefixOp.TheVariants as prefix_op
use Rattle.cs_ast.specs.declared.typed.operator.UnOp.TheVariants as un
use Rattle.cs_ast.specs.declared.typed.operator.Gives.{Gives}
use Rattle.cs_ast.specs.declared.typed.operator.Gives.TheVariants.{Old, New}
use Rattle.cs_ast.specs.RawView.{written_kind, written_row}
use Rattle.cs_ast.specs.TypedTree.{Typed, TypedList}
use Rattle.cs_grammar.specs.Text.{after_commas}
use Rattle.cs_scopes.specs.declared.context.Context.{Context}
use Rattle.cs_consts.specs.declared.purpose.Purpose.{Purpose}
use Rattle.cs_scopes.specs.Meanings.{Meaning}
use Rattle.cs_scopes.specs.Meanings as meaning
use Rattle.cs_scopes.specs.Verdicts.{Verdict, lift, lift2}
use Rattle.cs_folding.specs.TypedParts.{type_of}
use Rattle.cs_types.specs.Kinds.{is_void}
use Rattle.cs_expressions.specs.Objects.{valued, operand, measured}
use Rattle.cs_consts.specs.Constants.{finished}
use Rattle.cs_consts.specs.Operands.{left_operand_fault}
use Rattle.cs_expressions.specs.Conversions.{recast}
use Rattle.cs_expressions.specs.Operators.{combined, tested, followed}
use Rattle.cs_expressions.specs.Places.{selected}
use Rattle.cs_expressions.specs.Stores.{steppable, step_operator}
use Rattle.cs_scopes.specs.Scopes.{newest}
use Rattle.cs_scopes.specs.TypeNames.{arrayed, complete_at}
use Rattle.cs_expressions.specs.Calls.{called, parameters_of}
use Rattle.cs_expressions.specs.Primary.{Literals, named, text_at}
use Rattle.cs_consts.specs.Typing.{literals_after, row_length, done, value_in, operand_in, purpose_if, purpose_after, is_address, prefixed_value, prefixed}
use Rattle.cs_consts.specs.Typing.{between, indexed_values, arrow_on, stepped_object, left_side, right_target, cast_type, given_shape, cast_operand, cast_to}
use Rattle.cs_consts.specs.Typing.{chosen_values, measured_type, measured_arrays, base_in, further, formed, arguments_formed}
use Rattle.cs_consts.specs.Typing.{arguments_fault, numbers_formed, bounds_formed, size_alone, measured_type_name}
use Rattle.cs_well_formed.specs.Nodes.{row_nodes}
use Rattle.cs_well_formed.specs.Places.{RowStandsAmong}
use Rattle.cs_well_formed.specs.WrittenPlaces.{WrittenAmong, RowAmong}
use Rattle.cs_well_formed.specs.Sizes.{size_of}
use Rattle.cs_well_formed.proofs.Verdicts.{IfFine, if_fine-any, if_fine-weaker, lift-then, lift2-then, lift3-then, cond-then, between-then}
use Rattle.cs_well_formed.proofs.LiteralsAfter.{sized, sized-Enclosed, sized-Index, sized-Call, sized-Member, sized-Arrow, sized-StepAfter, sized-Infix}
use Rattle.cs_well_formed.proofs.LiteralsAfter.{sized-Choice, sized-Assign, sized-Comma, sized-SizeOfType, sized-Cast, sized-commas, sized-listed}
use Rattle.cs_well_formed.proofs.FittingValues.{Fits, if_fine-more, finished-fits, valued-fits, operand-fits, measured-fits, raised-fits, turned-fits}
use Rattle.cs_well_formed.proofs.FittingValues.{recast-fits, combined-fits, chosen-fits, followed-fits, denied-fits, tested-fits}
use Rattle.cs_well_formed.proofs.FittingObjects.{row_count, address_of-fits, through-fits, indexed-fits, selected-fits, selected_through-fits, stepped-fits}
use Rattle.cs_well_formed.proofs.FittingObjects.{stored_to-fits, call-fits, steppable-fits, left_side-fits}

-- the number of nodes that an expression may have by its text
abbrev pub room_of : RawExprKind → ℕ
room_of k = 5 * sized (written_kind k)

module _ (Is : Place → Type 0) (c : Context) where
  pub done-fits : (room : ℕ) (purpose : Purpose) (v : Verdict Typed) → IfFine v (Fits Is room) → IfFine (done c purpose v) (Fits Is room)
  unfolding done
  done-fits room purpose v h = lift-then (Fits Is room) (Fits Is room) (finished c.model purpose) v h (λ e. finished-fits Is room c.model purpose e)

  pub value_in-fits : (room : ℕ) (purpose : Purpose) (v : Verdict Typed) → IfFine v (Fits Is room) → IfFine (value_in c purpose v) (Fits Is (room + 1))
  unfolding value_in
  value_in-fits room purpose v h =
      lift-then (Fits Is room) (Fits Is (room + 1)) (valued c.table.list) (done c purpose v) (done-fits room purpose v h)
      (λ e. valued-fits Is c.table.list room e)

  pub operand_in-fits : (room : ℕ) (purpose : Purpose) (v : Verdict Typed) → IfFine v (Fits Is room)
      → IfFine (operand_in c purpose v) (Fits Is (room + 1))
  unfolding operand_in
  operand_in-fits room purpose v h =
      lift-then (Fits Is room) (Fits Is (room + 1)) (operand c.table.list) (done c purpose v) (done-fits room purpose v h)
      (λ e. operand-fits Is c.table.list room e)

  -- names and string literals have one node
  module _ (at : Place) (here : Is at) where
    named-fits : (m : Option Meaning) → IfFine (named at m) (Fits Is 1)
    unfolding named
    named-fits (Some (meaning.Constant n)) = record { stands = (here, tt); nodes = omega arith }
    named-fits (Some (meaning.Global number ty)) = record { stands = (here, tt); nodes = omega arith }
    named-fits (Some (meaning.Local number ty)) = record { stands = (here, tt); nodes = omega arith }
    named-fits (Some (meaning.Function f)) = tt
    named-fits (Some (meaning.Typedef ty)) = tt
    named-fits None = tt

    text-fits : (literals : Literals) (bytes : List ℕ) → IfFine (text_at literals at bytes) (Fits Is 1)
    unfolding text_at
    text-fits literals bytes = cond-then (Fits Is 1) (nat_le (length bytes) 65535) _ _ (λ _. record { stands = (here, tt); nodes = omega arith }) (λ _. tt)

    -- a prefix operator
    prefixed_value-fits : (op : PrefixOp) (room : ℕ) (v : Typed) → Fits Is room v → IfFine (prefixed_value c op at v) (Fits Is (room + 2))
    unfolding prefixed_value
    prefixed_value-fits prefix_op.Address room v h = if_fine-more Is (room + 1) (room + 2) _ (address_of-fits Is at here room v h) (omega arith)
    prefixed_value-fits prefix_op.Through room v h = if_fine-more Is (room + 1) (room + 2) _ (through-fits Is at here room v (type_of v) h) (omega arith)
    prefixed_value-fits prefix_op.Plus room v h = if_fine-more Is (room + 1) (room + 2) _ (raised-fits Is at here c.model room v (type_of v) h) (omega arith)
    prefixed_value-fits prefix_op.Minus room v h = turned-fits Is at here c.model un.Negate room v (type_of v) h
    prefixed_value-fits prefix_op.Complement room v h = turned-fits Is at here c.model un.Complement room v (type_of v) h
    prefixed_value-fits prefix_op.Not room v h = if_fine-more Is (room + 1) (room + 2) _ (denied-fits Is at here room v h) (omega arith)

    prefixed-fits : (op : PrefixOp) (room : ℕ) (e : Typed) → Fits Is room e → IfFine (prefixed c op at e) (Fits Is (room + 3))
    unfolding prefixed
    prefixed-fits op room e h =
        cond-then (Fits Is (room + 3)) (is_address op) _ _
        (λ _. if_fine-more Is (room + 1) (room + 3) _ (address_of-fits Is at here room e h) (omega arith))
        (λ _. lift-then (Fits Is (room + 1)) (Fits Is (room + 3)) (prefixed_value c op at) (operand c.table.list e) (operand-fits Is c.table.list room e h)
        (λ v g. if_fine-more Is (room + 1 + 2) (room + 3) _ (prefixed_value-fits op (room + 1) v g) (omega arith)))

    -- a cast
    cast_to-fits : (target : Shape) (room : ℕ) (e : Typed) → Fits Is room e → IfFine (cast_to c at target e) (Fits Is (room + 2))
    unfolding cast_to cast_operand
    cast_to-fits target room e h =
        lift-then (Fits Is (room + 1)) (Fits Is (room + 2)) (λ v. recast c.model at v target (type_of v)) (cast_operand c target e)
        (cond-then (Fits Is (room + 1)) (is_void target) _ _ (λ _. valued-fits Is c.table.list room e h) (λ _. operand-fits Is c.table.list room e h))
        (λ v g. if_fine-more Is (room + 1 + 1) (room + 2) _ (recast-fits Is at here c.model (room + 1) v target (type_of v) g) (omega arith))

    -- `++` and `--`
    step-fits : (op : _) (gives : Gives) (room : ℕ) (v : Verdict Typed) → IfFine v (Fits Is room)
        → IfFine (lift (stepped_object c op gives at) (lift (steppable c.table.list op at) v)) (Fits Is (room + 2))
    step-fits op gives room v h =
        lift-then (Fits Is room) (Fits Is (room + 2)) (stepped_object c op gives at) _
        (lift-then (Fits Is room) (Fits Is room) (steppable c.table.list op at) v h (λ e. steppable-fits Is c.table.list op at room e))
        (λ e. stepped-fits Is at here c.model op gives room e (type_of e))

    -- `sizeof`
    sized-fits : (v : Verdict Typed) → IfFine (lift (measured_type c at) v) (Fits Is 1)
    sized-fits v = lift-then (λ _. Unit {0}) (Fits Is 1) (measured_type c at) v (if_fine-any v)
        (λ e _. measured-fits Is at here c.model c.table.list (type_of e))

    sized_type-fits : (base : Verdict Shape) (ns : List ℤ) (bounds : Verdict (Unit {0})) → IfFine (measured_type_name c at base ns bounds) (Fits Is 1)
    unfolding measured_arrays
    sized_type-fits base ns bounds =
        lift2-then (Fits Is 1) (λ _. Unit {0}) (Fits Is 1) size_alone _ bounds
        (lift-then (λ _. Unit {0}) (Fits Is 1) (measured_arrays c at ns) (lift (complete_at c.table.list at) base)
        (if_fine-any (lift (complete_at c.table.list at) base))
        (λ ty _.
        lift-then (λ _. Unit {0}) (Fits Is 1) (measured c.model c.table.list at) _ (if_fine-any (arrayed c.model c.table.list at ty ns))
        (λ whole _. measured-fits Is at here c.model c.table.list whole)))
        (if_fine-any bounds) (λ size _ fits _. fits)

  -- an argument and those after it
  further-fits : (m n : ℕ) (v : Verdict Typed) (w : Verdict TypedList) → IfFine v (Fits Is m)
      → IfFine w (λ vs. RowStandsAmong Is vs × (row_nodes vs + row_count vs ≤ n))
      → IfFine (lift2 further v w) (λ vs. RowStandsAmong Is vs × (row_nodes vs + row_count vs ≤ m + n + 1))
  further-fits m n v w one others =
      lift2-then (Fits Is m) (λ vs. RowStandsAmong Is vs × (row_nodes vs + row_count vs ≤ n))
      (λ vs. RowStandsAmong Is vs × (row_nodes vs + row_count vs ≤ m + n + 1)) further v w one others
      (λ e es h k. let small : row_nodes es + row_count es ≤ n = k.1 in ((h.stands, k.0), omega (arith, h.nodes, small)))

  mutual
    -- an expression, for any purpose and any target
    pub formed-fits : (purpose : Purpose) (literals : Literals) (target : Option Shape) (at : Place) (k : RawExprKind) → WrittenAmong Is at k
        → IfFine (formed c purpose literals target at k) (Fits Is (room_of k))
    formed-fits purpose literals target at (kind.Name name) h = if_fine-more Is 1 _ _ (named-fits at h (newest name c.scope.declarations)) (omega arith)
    formed-fits purpose literals target at (kind.Number k) h = record { stands = (h, tt); nodes = omega arith }
    formed-fits purpose literals target at (kind.Character n) h = record { stands = (h, tt); nodes = omega arith }
    formed-fits purpose literals target at (kind.Text bytes) h = if_fine-more Is 1 _ _ (text-fits at h literals bytes) (omega arith)
    formed-fits purpose literals target at (kind.Parenthesis' place p inner) h =
        if_fine-more Is (room_of inner) _ _ (done-fits (room_of inner) purpose _ (formed-fits purpose literals target place inner h.1))
        (omega (arith, sized-Enclosed (written_kind inner)))
    formed-fits purpose literals target at (kind.Index' place p left place' q right) h =
        if_fine-more Is (room_of left + 1 + (room_of right + 1) + 1) _ _
        (between-then (Fits Is (room_of left + 1)) (Fits Is (room_of right + 1)) (Fits Is (room_of left + 1 + (room_of right + 1) + 1)) at
        (left_operand_fault c.table.list infix_op.Add) (indexed_values c at) _ _
        (operand_in-fits (room_of left) purpose _ (formed-fits purpose literals None place left h.1))
        (operand_in-fits (room_of right) purpose _ (formed-fits purpose (literals_after literals left) None place' right h.2))
        (λ a b. indexed-fits Is at h.0 c.table.list (room_of left + 1) (room_of right + 1) a b (type_of a) (type_of b)))
        (omega (arith, sized-Index (written_kind left) (written_kind right)))
    formed-fits purpose literals target at (kind.Call' place p function shape row) h =
        let commas = size_of (after_commas (written_row row)) in
        if_fine-more Is (5 * commas + 1) _ _
        (call-fits Is at h.0 c (5 * commas) target (called c.scope.declarations function) (row_length row)
        (operand_in c purpose (formed c purpose literals None place function))
        (arguments_fault c purpose literals at (parameters_of (called c.scope.declarations function)) row)
        (arguments_formed c purpose literals (parameters_of (called c.scope.declarations function)) row)
        (arguments-fit purpose literals (parameters_of (called c.scope.declarations function)) row h.2))
        (omega (arith, sized-Call (written_kind function) (written_row row), sized-listed (written_row row)))
    formed-fits purpose literals target at (kind.Member' place p object name) h =
        if_fine-more Is (room_of object + 1) _ _
        (lift-then (Fits Is (room_of object)) (Fits Is (room_of object + 1)) (selected c.table.list at name.place name.name) _
        (done-fits (room_of object) purpose _ (formed-fits purpose literals None place object h.1))
        (λ e. selected-fits Is at h.0 c.table.list name.place name.name (room_of object) e))
        (omega (arith, sized-Member (written_kind object) name.name))
    formed-fits purpose literals target at (kind.Arrow' place p e name) h =
        if_fine-more Is (room_of e + 1 + 1) _ _
        (lift-then (Fits Is (room_of e + 1)) (Fits Is (room_of e + 1 + 1)) (arrow_on c at name.place name.name) _
        (operand_in-fits (room_of e) purpose _ (formed-fits purpose literals None place e h.1))
        (λ v. selected_through-fits Is at h.0 c.table.list name.place name.name (room_of e + 1) v (type_of v)))
        (omega (arith, sized-Arrow (written_kind e) name.name))
    formed-fits purpose literals target at (kind.StepAfter' step place p object) h =
        if_fine-more Is (room_of object + 2) _ _
        (step-fits at h.0 (step_operator step) Old (room_of object) _
        (done-fits (room_of object) purpose _ (formed-fits purpose literals None place object h.1)))
        (omega (arith, sized-StepAfter step (written_kind object)))
    formed-fits purpose literals target at (kind.StepBefore' step place p object) h =
        if_fine-more Is (room_of object + 2) _ _
        (step-fits at h.0 (step_operator step) New (room_of object) _
        (done-fits (room_of object) purpose _ (formed-fits purpose literals None place object h.1)))
        (omega arith)
    formed-fits purpose literals target at (kind.Prefix' operator place p e) h =
        if_fine-more Is (room_of e + 3) _ _
        (lift-then (Fits Is (room_of e)) (Fits Is (room_of e + 3)) (prefixed c operator at) _
        (done-fits (room_of e) purpose _ (formed-fits purpose literals None place e h.1))
        (λ v. prefixed-fits at h.0 operator (room_of e) v))
        (omega arith)
    formed-fits purpose literals target at (kind.SizeOf' place p e) h = if_fine-more Is 1 _ _ (sized-fits at h.0 _) (omega arith)
    formed-fits purpose literals target at (kind.SizeOfType' ty shape row) h =
        if_fine-more Is 1 _ _ (sized_type-fits at h (base_in c at ty) (numbers_formed c literals row) (bounds_formed c literals row))
        (omega (arith, sized-SizeOfType ty.words.items ty.pointers.items (written_row row)))
    formed-fits purpose literals target at (kind.Cast' ty shape row place p e) h =
        if_fine-more Is (room_of e + 2) _ _
        (lift2-then (λ _. Unit {0}) (Fits Is (room_of e)) (Fits Is (room_of e + 2)) (cast_to c at) _ _
        (if_fine-any (cast_type at (row_length row) (base_in c at ty)))
        (done-fits (room_of e) purpose _ (formed-fits purpose literals (given_shape (cast_type at (row_length row) (base_in c at ty))) place e h.1))
        (λ to v _. cast_to-fits at h.0 to (room_of e) v))
        (omega (arith, sized-Cast ty.words.items ty.pointers.items (written_row row) (written_kind e)))
    formed-fits purpose literals target at (kind.Infix' operator place p left place' q right) h =
        let one = operand_in c purpose (formed c purpose literals None place left) in
        if_fine-more Is (room_of left + 1 + (room_of right + 1) + 3) _ _
        (between-then (Fits Is (room_of left + 1)) (Fits Is (room_of right + 1)) (Fits Is (room_of left + 1 + (room_of right + 1) + 3)) at
        (left_operand_fault c.table.list operator) (combined c.model c.table.list operator at) _ _
        (operand_in-fits (room_of left) purpose _ (formed-fits purpose literals None place left h.1))
        (operand_in-fits (room_of right) (purpose_after operator purpose one) _
        (formed-fits (purpose_after operator purpose one) (literals_after literals left) None place' right h.2))
        (λ a b g k. combined-fits Is at h.0 (room_of left + 1) (room_of right + 1) a b g k c.model c.table.list operator))
        (omega (arith, sized-Infix operator (written_kind left) (written_kind right)))
    formed-fits purpose literals target at (kind.Choice' place p test place' q one place'' r other) h =
        let yields = lift (tested at) (operand_in c purpose (formed c purpose literals None place test)) in
        let following = literals_after literals test in
        if_fine-more Is (room_of test + 1 + (room_of one + 1) + (room_of other + 1) + 3) _ _
        (lift3-then (Fits Is (room_of test + 1)) (Fits Is (room_of one + 1)) (Fits Is (room_of other + 1))
        (Fits Is (room_of test + 1 + (room_of one + 1) + (room_of other + 1) + 3)) (chosen_values c at) _ _ _
        (lift-then (Fits Is (room_of test + 1)) (Fits Is (room_of test + 1)) (tested at) _
        (operand_in-fits (room_of test) purpose _ (formed-fits purpose literals None place test h.1))
        (λ v. tested-fits Is at (room_of test + 1) v))
        (value_in-fits (room_of one) (purpose_if true purpose yields) _ (formed-fits (purpose_if true purpose yields) following None place' one h.2))
        (value_in-fits (room_of other) (purpose_if false purpose yields) _
        (formed-fits (purpose_if false purpose yields) (literals_after following one) None place'' other h.3))
        (λ t a b g k l. chosen-fits Is at h.0 (room_of one + 1) (room_of other + 1) a b k l c.model (room_of test + 1) t (type_of a) (type_of b) g))
        (omega (arith, sized-Choice (written_kind test) (written_kind one) (written_kind other)))
    formed-fits purpose literals target at (kind.Assign' operator place p object place' q value) h =
        let left = lift (left_side operator at) (done c purpose (formed c purpose literals None place object)) in
        let right = formed-fits purpose (literals_after literals object) (right_target operator left) place' value h.2 in
        if_fine-more Is (room_of object + (room_of value + 1) + 2) _ _
        (lift-then (Fits Is (room_of object)) (Fits Is (room_of object + (room_of value + 1) + 2)) _ left
        (lift-then (Fits Is (room_of object)) (Fits Is (room_of object)) (left_side operator at) _
        (done-fits (room_of object) purpose _ (formed-fits purpose literals None place object h.1))
        (λ e. left_side-fits Is operator at (room_of object) e))
        (λ o g. stored_to-fits Is at h.0 c operator (room_of object) (room_of value + 1) _ o g (operand_in-fits (room_of value) purpose _ right)))
        (omega (arith, sized-Assign operator (written_kind object) (written_kind value)))
    formed-fits purpose literals target at (kind.Comma' place p first place' q second) h =
        if_fine-more Is (room_of first + 1 + (room_of second + 1) + 1) _ _
        (lift2-then (Fits Is (room_of first + 1)) (Fits Is (room_of second + 1)) (Fits Is (room_of first + 1 + (room_of second + 1) + 1)) (followed at) _ _
        (value_in-fits (room_of first) purpose _ (formed-fits purpose literals None place first h.1))
        (value_in-fits (room_of second) purpose _ (formed-fits purpose (literals_after literals first) None place' second h.2))
        (λ a b g k. followed-fits Is at h.0 (room_of first + 1) (room_of second + 1) a b g k))
        (omega (arith, sized-Comma (written_kind first) (written_kind second)))

    -- the values of arguments
    arguments-fit : (purpose : Purpose) (literals : Literals) (types : List Shape) {n : _} (row : Row_of-RawExpr n) → RowAmong Is row
        → IfFine (arguments_formed c purpose literals types row)
        (λ vs. RowStandsAmong Is vs × (row_nodes vs + row_count vs ≤ 5 * size_of (after_commas (written_row row))))
    arguments-fit purpose literals types end_of-RawExpr h = (tt, omega arith)
    arguments-fit purpose literals [] (more_of-RawExpr place p k rest) h = (tt, omega arith)
    arguments-fit purpose literals (ty ∷ types) (more_of-RawExpr place p k rest) h =
        let commas = size_of (after_commas (written_row rest)) in
        if_fine-weaker (λ vs. RowStandsAmong Is vs × (row_nodes vs + row_count vs ≤ (room_of k + 1) + 5 * commas + 1))
        (λ vs. RowStandsAmong Is vs × (row_nodes vs + row_count vs ≤ 5 * size_of (after_commas (written_row (more_of-RawExpr place p k rest))))) _
        (further-fits (room_of k + 1) (5 * commas) _ _
        (operand_in-fits (room_of k) purpose _ (formed-fits purpose literals (Some ty) place k h.0))
        (arguments-fit purpose (literals_after literals k) types rest h.1))
        (λ vs g. let small : row_nodes vs + row_count vs ≤ (room_of k + 1) + 5 * commas + 1 = g.1 in
        (g.0, omega (arith, small, sized-commas (written_kind k) (written_row rest))))
