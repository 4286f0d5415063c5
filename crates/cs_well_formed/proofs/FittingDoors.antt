-- Typed expressions, by the rules of `Roles`, and the literals after them are bounded by their texts: for `typed_nodes_are_bounded`.
use Rattle.std.proofs.Common.{ℕ, ◌+◌, ◌≤◌, Option, Some, None, arith}
use Rattle.cs_types.specs.Shape.{Shape}
use Rattle.cs_ast.specs.declared.place.Place.{Place}
use Rattle.cs_ast.specs.declared.raw.expression.RawExpr.{RawExpr}
use Rattle.cs_ast.specs.declared.raw.expression.RawExprKind.{RawExprKind}
use Rattle.cs_ast.specs.RawTree.{Written, Named, Numeral, Character, Literal, Enclosed, Index, Call, Member, Arrow, StepAfter, StepBefore, Prefix, SizeOf}
use Rattle.cs_ast.specs.RawTree.{SizeOfType, Cast, Infix, Choice, Assign, Comma}
use Rattle.cs_ast.specs.RawView.{written_kind}
use Rattle.cs_ast.specs.TypedTree.{Typed}
use Rattle.cs_scopes.specs.declared.context.Context.{Context}
use Rattle.cs_consts.specs.declared.purpose.Purpose.TheVariants.{Run}
use Rattle.cs_folding.specs.TypedParts.{type_of}
use Rattle.cs_expressions.specs.Integers.{raised}
use Rattle.cs_expressions.specs.Conversions.{converted}
use Rattle.cs_expressions.specs.Operators.{tested}
use Rattle.cs_expressions.specs.Primary.{Literals}
use Rattle.cs_consts.specs.Typing.{literals_after, formed, operand_in}
use Rattle.cs_consts.specs.Roles.{operand_of, assigned_value, test_of, selector_of, discarded_value}
use Rattle.cs_well_formed.specs.WrittenPlaces.{ExpressionAmong}
use Rattle.cs_well_formed.specs.Bounded.{IsBounded, FormedAreBounded, OperandsAreBounded, AssignedAreBounded, TestsAreBounded, SelectorsAreBounded}
use Rattle.cs_well_formed.specs.Bounded.{DiscardedAreBounded}
use Rattle.cs_well_formed.proofs.Verdicts.{IfFine, if_fine-at, lift-then}
use Rattle.cs_well_formed.proofs.LiteralsAfter.{sized, sized-Index, sized-Call, sized-Member, sized-Arrow, sized-StepAfter, sized-Infix, sized-Choice}
use Rattle.cs_well_formed.proofs.LiteralsAfter.{sized-Assign, sized-Comma, literals-grow}
use Rattle.cs_well_formed.proofs.FittingValues.{Fits, converted-fits, raised-fits, tested-fits}
use Rattle.cs_well_formed.proofs.FittingTyping.{room_of, value_in-fits, operand_in-fits, formed-fits}

-- an expression has at least one token
pub sized-some : (e : Written) → 1 ≤ sized e
sized-some (Named name) = omega arith
sized-some (Numeral constant) = omega arith
sized-some (Character value) = omega arith
sized-some (Literal bytes) = omega arith
sized-some (Enclosed e) = omega arith
sized-some (Index a n) = omega (arith, sized-Index a n)
sized-some (Call f es) = omega (arith, sized-Call f es)
sized-some (Member e name) = omega (arith, sized-Member e name)
sized-some (Arrow e name) = omega (arith, sized-Arrow e name)
sized-some (StepAfter step e) = omega (arith, sized-StepAfter step e)
sized-some (StepBefore step e) = omega arith
sized-some (Prefix op e) = omega arith
sized-some (SizeOf e) = omega arith
sized-some (SizeOfType words pointers es) = omega arith
sized-some (Cast words pointers es e) = omega arith
sized-some (Infix op l r) = omega (arith, sized-Infix op l r)
sized-some (Choice t l r) = omega (arith, sized-Choice t l r)
sized-some (Assign op l r) = omega (arith, sized-Assign op l r)
sized-some (Comma l r) = omega (arith, sized-Comma l r)

module _ (Is : Place → Type 0) where
  -- an expression with the literals after it
  pub fits-bounded : (literals : Literals) (k : RawExprKind) (room : ℕ) (e : Typed) → Fits Is room e → room ≤ room_of k + 2
      → IsBounded Is literals (literals_after literals k) (sized (written_kind k)) e
  fits-bounded literals k room e h small = record {
    stands = h.stands;
    nodes = omega (arith, h.nodes, sized-some (written_kind k));
    with_texts = let grown = (literals-grow literals k).no_more in omega (arith, h.nodes, sized-some (written_kind k), grown);
  }

  module _ (c : Context) (literals : Literals) (e : RawExpr) (among : ExpressionAmong Is e) where
    -- an expression that is evaluated
    value-fits : (target : Option Shape) → IfFine (operand_in c Run (formed c Run literals target e.place e.kind.value)) (Fits Is (room_of e.kind.value + 1))
    value-fits target = operand_in-fits Is c (room_of e.kind.value) Run _ (formed-fits Is c Run literals target e.place e.kind.value among)

    pub operand_of-fits : (target : Option Shape) → IfFine (operand_of c literals target e) (Fits Is (room_of e.kind.value + 1))
    unfolding operand_of
    operand_of-fits target = value-fits target

    assigned_value-fits : (at : Place) (target : Shape) → Is at → IfFine (assigned_value c literals at target e) (Fits Is (room_of e.kind.value + 1 + 1))
    unfolding assigned_value
    assigned_value-fits at target here =
        lift-then (Fits Is (room_of e.kind.value + 1)) (Fits Is (room_of e.kind.value + 1 + 1)) (λ v. converted c.model at v target (type_of v)) _
        (value-fits (Some target))
        (λ v h. converted-fits Is at here c.model (room_of e.kind.value + 1) v target (type_of v) h)

    test_of-fits : (at : Place) → IfFine (test_of c literals at e) (Fits Is (room_of e.kind.value + 1))
    unfolding test_of
    test_of-fits at = lift-then (Fits Is (room_of e.kind.value + 1)) (Fits Is (room_of e.kind.value + 1)) (tested at) _ (value-fits None)
        (λ v. tested-fits Is at (room_of e.kind.value + 1) v)

    selector_of-fits : (at : Place) → Is at → IfFine (selector_of c literals at e) (Fits Is (room_of e.kind.value + 1 + 1))
    unfolding selector_of
    selector_of-fits at here =
        lift-then (Fits Is (room_of e.kind.value + 1)) (Fits Is (room_of e.kind.value + 1 + 1)) (λ v. raised c.model at v (type_of v)) _ (value-fits None)
        (λ v h. raised-fits Is at here c.model (room_of e.kind.value + 1) v (type_of v) h)

    discarded_value-fits : IfFine (discarded_value c literals e) (Fits Is (room_of e.kind.value + 1))
    unfolding discarded_value
    discarded_value-fits = value_in-fits Is c (room_of e.kind.value) Run _ (formed-fits Is c Run literals None e.place e.kind.value among)

  pub formed_are_bounded : FormedAreBounded Is
  formed_are_bounded c purpose literals target at k e among is =
      fits-bounded literals k (room_of k) e
      (if_fine-at (Fits Is (room_of k)) (formed c purpose literals target at k) e (formed-fits Is c purpose literals target at k among) is) (omega arith)

  pub operands_are_bounded : OperandsAreBounded Is
  operands_are_bounded c literals target e v among is =
      fits-bounded literals e.kind.value (room_of e.kind.value + 1) v
      (if_fine-at (Fits Is (room_of e.kind.value + 1)) (operand_of c literals target e) v (operand_of-fits c literals e among target) is) (omega arith)

  pub assigned_are_bounded : AssignedAreBounded Is
  assigned_are_bounded c literals at target e v here among is =
      fits-bounded literals e.kind.value (room_of e.kind.value + 1 + 1) v
      (if_fine-at (Fits Is (room_of e.kind.value + 1 + 1)) (assigned_value c literals at target e) v (assigned_value-fits c literals e among at target here)
      is) (omega arith)

  pub tests_are_bounded : TestsAreBounded Is
  tests_are_bounded c literals at e v among is =
      fits-bounded literals e.kind.value (room_of e.kind.value + 1) v
      (if_fine-at (Fits Is (room_of e.kind.value + 1)) (test_of c literals at e) v (test_of-fits c literals e among at) is) (omega arith)

  pub selectors_are_bounded : SelectorsAreBounded Is
  selectors_are_bounded c literals at e v here among is =
      fits-bounded literals e.kind.value (room_of e.kind.value + 1 + 1) v
      (if_fine-at (Fits Is (room_of e.kind.value + 1 + 1)) (selector_of c literals at e) v (selector_of-fits c literals e among at here) is) (omega arith)

  pub discarded_are_bounded : DiscardedAreBounded Is
  discarded_are_bounded c literals e v among is =
      fits-bounded literals e.kind.value (room_of e.kind.value + 1) v
      (if_fine-at (Fits Is (room_of e.kind.value + 1)) (discarded_value c literals e) v (discarded_value-fits c literals e among) is) (omega arith)
