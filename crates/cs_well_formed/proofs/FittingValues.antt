-- The results of the rules on values have positions of their operands, and a few nodes more: for `typed_nodes_are_bounded`.
use Rattle.std.proofs.Common.{ℕ, ◌+◌, ◌≤◌, Bool, true, false, ◌&&◌, ◌||◌, ◌==◌, cond, List, Option, Some, None, arith}
use Rattle.std.specs.Prelude.{ℤ}
use Rattle.cs_types.specs.declared.data_model.DataModel.{DataModel}
use Rattle.cs_types.specs.declared.int_type.IntType.{IntType}
use Rattle.cs_types.specs.declared.structs.StructType.{StructType}
use Rattle.cs_types.specs.Conversions.{promoted, common_type}
use Rattle.cs_types.specs.Shape.{Shape, void, integer, pointer, array, struct, same_shape}
use Rattle.cs_ast.specs.declared.place.Place.{Place}
use Rattle.cs_ast.specs.declared.raw.operator.InfixOp.{InfixOp}
use Rattle.cs_ast.specs.declared.raw.operator.InfixOp.TheVariants as infix_op
use Rattle.cs_ast.specs.declared.typed.operator.BinOp.{BinOp}
use Rattle.cs_ast.specs.declared.typed.operator.BinOp.TheVariants as bin
use Rattle.cs_ast.specs.declared.typed.operator.UnOp.{UnOp}
use Rattle.cs_ast.specs.declared.typed.operator.CmpOp.{CmpOp}
use Rattle.cs_ast.specs.declared.typed.operator.CmpOp.TheVariants as cmp
use Rattle.cs_ast.specs.declared.typed.operator.Direction.{Direction}
use Rattle.cs_ast.specs.declared.typed.operator.Direction.TheVariants.{Forward, Back}
use Rattle.cs_ast.specs.declared.typed.operator.Order.{Order}
use Rattle.cs_ast.specs.declared.typed.operator.Order.TheVariants.{PointerFirst, AmountFirst}
use Rattle.cs_ast.specs.TypedTree.{Typed, Of, Load, Convert, And, Or}
use Rattle.cs_consts.specs.declared.purpose.Purpose.{Purpose}
use Rattle.cs_consts.specs.declared.purpose.Purpose.TheVariants.{Run, Constant, Unneeded}
use Rattle.cs_scopes.specs.declared.refusal.TypeCode.TheVariants as code
use Rattle.cs_scopes.specs.Verdicts.{Verdict, Fine, Fault}
use Rattle.cs_folding.specs.TypedParts.{type_of}
use Rattle.cs_expressions.specs.Integers.{is_integer, in_type, joined, shifted, raised, turned}
use Rattle.cs_expressions.specs.Objects.{is_object, measure_of, measured, held, valued, operand}
use Rattle.cs_types.specs.Kinds.{is_void, is_scalar, is_complete}
use Rattle.cs_scopes.specs.Sizes.{bytes_in}
use Rattle.cs_folding.specs.Folding.{is_null, number_in}
use Rattle.cs_consts.specs.Constants.{constant_at, finished}
use Rattle.cs_expressions.specs.Conversions.{null_at, pointed, pointed_from_integer, converted, pointer_cast, recast, Pair, pointers_met}
use Rattle.cs_expressions.specs.Operators.{met, compared_pair, equated, ordered, moved, added, apart, subtracted, tested, denied, both_tested, combined}
use Rattle.cs_expressions.specs.Operators.{chosen_pair, alike, chosen, followed}
use Rattle.cs_well_formed.specs.Nodes.{expression_nodes}
use Rattle.cs_well_formed.specs.Places.{StandsAmong}
use Rattle.cs_well_formed.proofs.Verdicts.{IfFine, if_fine-weaker, lift-then, cond-then}

-- an expression at these positions, with at most so many nodes
pub record Fits (Is : Place → Type 0) (room : ℕ) (e : Typed) : Type 0 where
  pub stands : StandsAmong Is e
  pub nodes : expression_nodes e ≤ room

-- an expression has at least one node
pub some_nodes : (e : Typed) → 1 ≤ expression_nodes e
some_nodes (Of at ty form) = omega arith

module _ (Is : Place → Type 0) where
  pub fits-more : (m n : ℕ) (e : Typed) → m ≤ n → Fits Is m e → Fits Is n e
  fits-more m n e room h = record { stands = h.stands; nodes = omega (arith, h.nodes) }

  pub if_fine-more : (m n : ℕ) (v : Verdict Typed) → IfFine v (Fits Is m) → m ≤ n → IfFine v (Fits Is n)
  if_fine-more m n v h room = if_fine-weaker (Fits Is m) (Fits Is n) v h (λ e. fits-more m n e room)

  -- an expression, finished for its purpose
  pub finished-fits : (room : ℕ) (model : DataModel) (purpose : Purpose) (e : Typed) → Fits Is room e → IfFine (finished model purpose e) (Fits Is room)
  unfolding finished
  finished-fits room model Run e h = h
  finished-fits room model Constant (Of at ty form) h = number-fits (number_in model true (Of at ty form))
    where
      number-fits : (n : Option ℤ) → IfFine (constant_at at ty n) (Fits Is room)
      number-fits (Some n) = record { stands = (h.stands.0, tt); nodes = omega (arith, h.nodes) }
      number-fits None = tt
  finished-fits room model Unneeded (Of at ty form) h = number-fits (number_in model false (Of at ty form))
    where
      number-fits : (n : Option ℤ) → IfFine (constant_at at ty n) (Fits Is room)
      number-fits (Some n) = record { stands = (h.stands.0, tt); nodes = omega (arith, h.nodes) }
      number-fits None = tt

  -- the value of an object
  load-fits : (table : List StructType) (room : ℕ) (at : Place) (e : Typed) (ty : Shape) → Is at → Fits Is room e
      → IfFine (cond (is_complete table ty) (Fine (Of at ty (Load e))) (Fault code.IncompleteType at)) (Fits Is (room + 1))
  load-fits table room at e ty is h =
      cond-then (Fits Is (room + 1)) (is_complete table ty) _ _ (λ _. record { stands = (is, h.stands); nodes = omega (arith, h.nodes) }) (λ _. tt)

  held-fits : (table : List StructType) (room : ℕ) (at : Place) (e : Typed) (ty : Shape) → Is at → Fits Is room e
      → IfFine (held table at e ty) (Fits Is (room + 1))
  unfolding held
  held-fits table room at e (array element count) is h = record { stands = (is, h.stands); nodes = omega (arith, h.nodes) }
  held-fits table room at e void is h = tt
  held-fits table room at e (integer ty) is h = load-fits table room at e (integer ty) is h
  held-fits table room at e (pointer target) is h = load-fits table room at e (pointer target) is h
  held-fits table room at e (struct number) is h = load-fits table room at e (struct number) is h

  pub valued-fits : (table : List StructType) (room : ℕ) (e : Typed) → Fits Is room e → IfFine (valued table e) (Fits Is (room + 1))
  unfolding valued
  valued-fits table room (Of at ty form) h =
      cond-then (Fits Is (room + 1)) (is_object form) _ _
      (λ _. held-fits table room at (Of at ty form) ty h.stands.0 h)
      (λ _. fits-more room (room + 1) (Of at ty form) (omega arith) h)

  pub operand-fits : (table : List StructType) (room : ℕ) (e : Typed) → Fits Is room e → IfFine (operand table e) (Fits Is (room + 1))
  unfolding operand
  operand-fits table room (Of at ty form) h =
      cond-then (Fits Is (room + 1)) (is_void ty) _ _ (λ _. tt) (λ _. valued-fits table room (Of at ty form) h)

  module _ (at : Place) (here : Is at) where
    -- the size of a type
    pub measured-fits : (model : DataModel) (table : List StructType) (ty : Shape) → IfFine (measured model table at ty) (Fits Is 1)
    unfolding measured
    measured-fits model table ty = cond-then (Fits Is 1) (is_complete table ty) _ _ (λ _. by_size (bytes_in model table ty)) (λ _. tt)
      where
        by_size : (bytes : Option ℕ) → IfFine (measure_of model at bytes) (Fits Is 1)
        by_size (Some n) = record { stands = (here, tt); nodes = omega arith }
        by_size None = tt

    -- a conversion
    converts : (room : ℕ) (e : Typed) (ty : Shape) → Fits Is room e → Fits Is (room + 1) (Of at ty (Convert e))
    converts room e ty h = record { stands = (here, h.stands); nodes = omega (arith, h.nodes) }

    null-fits : (room : ℕ) (target : Shape) → Fits Is (room + 1) (null_at at target)
    null-fits room target = record { stands = (here, tt); nodes = omega arith }

    pub in_type-fits : (room : ℕ) (ty : IntType) (e : Typed) → Fits Is room e → Fits Is (room + 1) (in_type at ty e)
    in_type-fits room ty e h = by_type (is_integer ty (type_of e))
      where
        by_type : (same : Bool) → Fits Is (room + 1) (cond same e (Of at (integer ty) (Convert e)))
        by_type true = fits-more room (room + 1) e (omega arith) h
        by_type false = converts room e (integer ty) h

    pub raised-fits : (model : DataModel) (room : ℕ) (e : Typed) (ty : Shape) → Fits Is room e → IfFine (raised model at e ty) (Fits Is (room + 1))
    unfolding raised
    raised-fits model room e (integer s) h = in_type-fits room (promoted model s) e h
    raised-fits model room e other h = tt

    pub turned-fits : (model : DataModel) (op : UnOp) (room : ℕ) (e : Typed) (ty : Shape) → Fits Is room e
        → IfFine (turned model op at e ty) (Fits Is (room + 2))
    unfolding turned
    turned-fits model op room e (integer s) h = let one = in_type-fits room (promoted model s) e h in
        record { stands = (here, one.stands); nodes = omega (arith, one.nodes) }
    turned-fits model op room e other h = tt

    joined-fits : (model : DataModel) (op : BinOp) (m n : ℕ) (left right : Typed) (t u : Shape) → Fits Is m left → Fits Is n right
        → IfFine (joined model op at left right t u) (Fits Is (m + n + 3))
    unfolding joined
    joined-fits model op m n left right (integer t) (integer u) h k =
        let one = in_type-fits m (common_type model t u) left h in
        let other = in_type-fits n (common_type model t u) right k in
        record { stands = (here, (one.stands, other.stands)); nodes = omega (arith, one.nodes, other.nodes) }
    joined-fits model op m n left right t u h k = tt

    shifted-fits : (model : DataModel) (op : BinOp) (m n : ℕ) (left right : Typed) (t u : Shape) → Fits Is m left → Fits Is n right
        → IfFine (shifted model op at left right t u) (Fits Is (m + n + 3))
    unfolding shifted
    shifted-fits model op m n left right (integer t) (integer u) h k =
        let one = in_type-fits m (promoted model t) left h in
        let other = in_type-fits n (promoted model u) right k in
        record { stands = (here, (one.stands, other.stands)); nodes = omega (arith, one.nodes, other.nodes) }
    shifted-fits model op m n left right t u h k = tt

    pointed-fits : (model : DataModel) (room : ℕ) (e : Typed) (target source : Shape) → Fits Is room e
        → IfFine (pointed model at e target source) (Fits Is (room + 1))
    unfolding pointed
    pointed-fits model room e target source h =
        cond-then (Fits Is (room + 1)) (same_shape target source) _ _
        (λ _. fits-more room (room + 1) e (omega arith) h)
        (λ _. cond-then (Fits Is (room + 1)) (is_null model e) _ _
        (λ _. null-fits room target)
        (λ _. cond-then (Fits Is (room + 1)) (is_void target) _ _ (λ _. converts room e (pointer void) h) (λ _. tt)))

    from_integer-fits : (model : DataModel) (room : ℕ) (e : Typed) (target : Shape) → IfFine (pointed_from_integer model at e target) (Fits Is (room + 1))
    from_integer-fits model room e target = cond-then (Fits Is (room + 1)) (is_null model e) _ _ (λ _. null-fits room target) (λ _. tt)

    -- a value converted as if by assignment
    pub converted-fits : (model : DataModel) (room : ℕ) (e : Typed) (target source : Shape) → Fits Is room e
        → IfFine (converted model at e target source) (Fits Is (room + 1))
    unfolding converted
    converted-fits model room e (integer t) (integer u) h = in_type-fits room t e h
    converted-fits model room e (integer t) (pointer u) h = tt
    converted-fits model room e (pointer t) (integer u) h = from_integer-fits model room e t
    converted-fits model room e (pointer t) (pointer u) h = pointed-fits model room e t u h
    converted-fits model room e (struct n) (struct m) h =
        cond-then (Fits Is (room + 1)) (n == m) _ _ (λ _. fits-more room (room + 1) e (omega arith) h) (λ _. tt)
    converted-fits model room e target source h = tt

    pointer_cast-fits : (model : DataModel) (room : ℕ) (e : Typed) (target source : Shape) → Fits Is room e
        → IfFine (pointer_cast model at e target source) (Fits Is (room + 1))
    unfolding pointer_cast
    pointer_cast-fits model room e target source h =
        cond-then (Fits Is (room + 1)) (same_shape target source || is_void target) _ _
        (λ _. converts room e (pointer target) h)
        (λ _. cond-then (Fits Is (room + 1)) (is_null model e) _ _ (λ _. null-fits room target) (λ _. tt))

    -- a cast
    pub recast-fits : (model : DataModel) (room : ℕ) (e : Typed) (target source : Shape) → Fits Is room e
        → IfFine (recast model at e target source) (Fits Is (room + 1))
    unfolding recast
    recast-fits model room e void source h = converts room e void h
    recast-fits model room e (integer t) (integer u) h = converts room e (integer t) h
    recast-fits model room e (integer t) (pointer u) h = tt
    recast-fits model room e (pointer t) (integer u) h = from_integer-fits model room e t
    recast-fits model room e (pointer t) (pointer u) h = pointer_cast-fits model room e t u h
    recast-fits model room e target source h = tt

    -- two values that an operator converts to one type
    record FitTogether (m n : ℕ) (pair : Pair) : Type 0 where
      left : Fits Is (m + 1) pair.left
      right : Fits Is (n + 1) pair.right

    module _ (m n : ℕ) (left right : Typed) (h : Fits Is m left) (k : Fits Is n right) where
      left-as_is : Fits Is (m + 1) left
      left-as_is = fits-more m (m + 1) left (omega arith) h

      right-as_is : Fits Is (n + 1) right
      right-as_is = fits-more n (n + 1) right (omega arith) k

      pointers_met-fits : (model : DataModel) (t u : Shape) → IfFine (pointers_met model at left right t u) (FitTogether m n)
      unfolding pointers_met
      pointers_met-fits model t u =
          cond-then (FitTogether m n) (same_shape t u) _ _
          (λ _. record { left = left-as_is; right = right-as_is })
          (λ _. cond-then (FitTogether m n) (is_null model right) _ _
          (λ _. record { left = left-as_is; right = null-fits n t })
          (λ _. cond-then (FitTogether m n) (is_null model left) _ _
          (λ _. record { left = null-fits m u; right = right-as_is })
          (λ _. cond-then (FitTogether m n) (is_void t) _ _
          (λ _. record { left = left-as_is; right = converts n right (pointer void) k })
          (λ _. cond-then (FitTogether m n) (is_void u) _ _
          (λ _. record { left = converts m left (pointer void) h; right = right-as_is })
          (λ _. tt)))))

      met-fits : (model : DataModel) (t u : Shape) → IfFine (met model at left right t u) (FitTogether m n)
      unfolding met
      met-fits model (integer t) (integer u) = record {
        left = in_type-fits m (common_type model t u) left h;
        right = in_type-fits n (common_type model t u) right k;
      }
      met-fits model (pointer t) (pointer u) = pointers_met-fits model t u
      met-fits model (pointer t) (integer u) =
          cond-then (FitTogether m n) (is_null model right) _ _ (λ _. record { left = left-as_is; right = null-fits n t }) (λ _. tt)
      met-fits model (integer t) (pointer u) =
          cond-then (FitTogether m n) (is_null model left) _ _ (λ _. record { left = null-fits m u; right = right-as_is }) (λ _. tt)
      met-fits model t u = tt

      equated-fits : (model : DataModel) (op : CmpOp) → IfFine (equated model op at left right) (Fits Is (m + n + 3))
      unfolding equated
      equated-fits model op =
          lift-then (FitTogether m n) (Fits Is (m + n + 3)) (compared_pair op at) (met model at left right (type_of left) (type_of right))
          (met-fits model (type_of left) (type_of right))
          (λ pair both. record { stands = (here, (both.left.stands, both.right.stands)); nodes = omega (arith, both.left.nodes, both.right.nodes) })

      ordered-fits : (model : DataModel) (op : CmpOp) (t u : Shape) → IfFine (ordered model op at left right t u) (Fits Is (m + n + 3))
      unfolding ordered
      ordered-fits model op (integer t) (integer u) =
          let one = in_type-fits m (common_type model t u) left h in
          let other = in_type-fits n (common_type model t u) right k in
          record { stands = (here, (one.stands, other.stands)); nodes = omega (arith, one.nodes, other.nodes) }
      ordered-fits model op (pointer t) (pointer u) =
          cond-then (Fits Is (m + n + 3)) (same_shape t u) _ _ (λ _. record { stands = (here, (h.stands, k.stands)); nodes = omega (arith, h.nodes, k.nodes) })
          (λ _. tt)
      ordered-fits model op t u = tt

      moved-fits : (table : List StructType) (target : Shape) (direction : Direction) (order : Order)
          → IfFine (moved table at left right target direction order) (Fits Is (m + n + 3))
      unfolding moved
      moved-fits table target direction order =
          cond-then (Fits Is (m + n + 3)) (is_complete table target) _ _
          (λ _. record { stands = (here, (h.stands, k.stands)); nodes = omega (arith, h.nodes, k.nodes) }) (λ _. tt)

      moved_back-fits : (table : List StructType) (target : Shape) (direction : Direction) (order : Order)
          → IfFine (moved table at right left target direction order) (Fits Is (m + n + 3))
      unfolding moved
      moved_back-fits table target direction order =
          cond-then (Fits Is (m + n + 3)) (is_complete table target) _ _
          (λ _. record { stands = (here, (k.stands, h.stands)); nodes = omega (arith, h.nodes, k.nodes) }) (λ _. tt)

      added-fits : (model : DataModel) (table : List StructType) (t u : Shape) → IfFine (added model table at left right t u) (Fits Is (m + n + 3))
      unfolding added
      added-fits model table (integer t) (integer u) = joined-fits model bin.Add m n left right (integer t) (integer u) h k
      added-fits model table (pointer t) (integer u) = moved-fits table t Forward PointerFirst
      added-fits model table (integer t) (pointer u) = moved_back-fits table u Forward AmountFirst
      added-fits model table t u = tt

      apart-fits : (model : DataModel) (table : List StructType) (t u : Shape) → IfFine (apart model table at left right t u) (Fits Is (m + n + 3))
      unfolding apart
      apart-fits model table t u =
          cond-then (Fits Is (m + n + 3)) (same_shape t u) _ _
          (λ _.
          cond-then (Fits Is (m + n + 3)) (is_complete table t) _ _
          (λ _. record { stands = (here, (h.stands, k.stands)); nodes = omega (arith, h.nodes, k.nodes) }) (λ _. tt))
          (λ _. tt)

      subtracted-fits : (model : DataModel) (table : List StructType) (t u : Shape) → IfFine (subtracted model table at left right t u) (Fits Is (m + n + 3))
      unfolding subtracted
      subtracted-fits model table (integer t) (integer u) = joined-fits model bin.Sub m n left right (integer t) (integer u) h k
      subtracted-fits model table (pointer t) (integer u) = moved-fits table t Back PointerFirst
      subtracted-fits model table (pointer t) (pointer u) = apart-fits model table t u
      subtracted-fits model table t u = tt

      -- `||` and `&&`
      or-fits : IfFine (both_tested at left right (Or left right)) (Fits Is (m + n + 3))
      unfolding both_tested
      or-fits =
          cond-then (Fits Is (m + n + 3)) (is_scalar (type_of left) && is_scalar (type_of right)) _ _
          (λ _. record { stands = (here, (h.stands, k.stands)); nodes = omega (arith, h.nodes, k.nodes) })
          (λ _. tt)

      and-fits : IfFine (both_tested at left right (And left right)) (Fits Is (m + n + 3))
      unfolding both_tested
      and-fits =
          cond-then (Fits Is (m + n + 3)) (is_scalar (type_of left) && is_scalar (type_of right)) _ _
          (λ _. record { stands = (here, (h.stands, k.stands)); nodes = omega (arith, h.nodes, k.nodes) })
          (λ _. tt)

      -- an operator on two values
      pub combined-fits : (model : DataModel) (table : List StructType) (op : InfixOp) → IfFine (combined model table op at left right) (Fits Is (m + n + 3))
      unfolding combined
      combined-fits model table infix_op.Or = or-fits
      combined-fits model table infix_op.And = and-fits
      combined-fits model table infix_op.BitOr = joined-fits model bin.Or m n left right (type_of left) (type_of right) h k
      combined-fits model table infix_op.BitXor = joined-fits model bin.Xor m n left right (type_of left) (type_of right) h k
      combined-fits model table infix_op.BitAnd = joined-fits model bin.And m n left right (type_of left) (type_of right) h k
      combined-fits model table infix_op.Equal = equated-fits model cmp.Equal
      combined-fits model table infix_op.Differs = equated-fits model cmp.Differs
      combined-fits model table infix_op.Less = ordered-fits model cmp.Less (type_of left) (type_of right)
      combined-fits model table infix_op.AtMost = ordered-fits model cmp.AtMost (type_of left) (type_of right)
      combined-fits model table infix_op.More = ordered-fits model cmp.More (type_of left) (type_of right)
      combined-fits model table infix_op.AtLeast = ordered-fits model cmp.AtLeast (type_of left) (type_of right)
      combined-fits model table infix_op.ShiftLeft = shifted-fits model bin.Shl m n left right (type_of left) (type_of right) h k
      combined-fits model table infix_op.ShiftRight = shifted-fits model bin.Shr m n left right (type_of left) (type_of right) h k
      combined-fits model table infix_op.Add = added-fits model table (type_of left) (type_of right)
      combined-fits model table infix_op.Subtract = subtracted-fits model table (type_of left) (type_of right)
      combined-fits model table infix_op.Multiply = joined-fits model bin.Mul m n left right (type_of left) (type_of right) h k
      combined-fits model table infix_op.Divide = joined-fits model bin.Div m n left right (type_of left) (type_of right) h k
      combined-fits model table infix_op.Remainder = joined-fits model bin.Rem m n left right (type_of left) (type_of right) h k

      -- `?:` and `,`
      pub chosen-fits : (model : DataModel) (room : ℕ) (test : Typed) (t u : Shape) → Fits Is room test
          → IfFine (chosen model at test left right t u) (Fits Is (room + m + n + 3))
      unfolding chosen
      chosen-fits model room test t u tested =
          cond-then (Fits Is (room + m + n + 3)) (alike t u) _ _
          (λ _. record { stands = (here, (tested.stands, h.stands, k.stands)); nodes = omega (arith, tested.nodes, h.nodes, k.nodes) })
          (λ _. lift-then (FitTogether m n) (Fits Is (room + m + n + 3)) (chosen_pair at test) (met model at left right t u) (met-fits model t u)
          (λ pair both.
          record {
            stands = (here, (tested.stands, both.left.stands, both.right.stands));
            nodes = omega (arith, tested.nodes, both.left.nodes, both.right.nodes);
          }))

      pub followed-fits : IfFine (followed at left right) (Fits Is (m + n + 1))
      followed-fits = record { stands = (here, (h.stands, k.stands)); nodes = omega (arith, h.nodes, k.nodes) }

    -- `!`
    pub denied-fits : (room : ℕ) (e : Typed) → Fits Is room e → IfFine (denied at e) (Fits Is (room + 1))
    unfolding denied
    denied-fits room e h =
        cond-then (Fits Is (room + 1)) (is_scalar (type_of e)) _ _ (λ _. record { stands = (here, h.stands); nodes = omega (arith, h.nodes) }) (λ _. tt)

  -- a value that is tested
  pub tested-fits : (at : Place) (room : ℕ) (e : Typed) → Fits Is room e → IfFine (tested at e) (Fits Is room)
  unfolding tested
  tested-fits at room e h = cond-then (Fits Is room) (is_scalar (type_of e)) _ _ (λ _. h) (λ _. tt)
