use Rattle.std.proofs.Common.{◌≡◌, ℕ, ◌+◌, drop, inl, inr, rules, refl, sym, ap, subst, ◌∙◌, arith}
use Rattle.cs_types.specs.Shape.{shape_of}
use Rattle.cs_ast.specs.TypedProgram.{typed_program}
use Rattle.cs_ast.specs.TypedTree.{Index, Member, Arrow, Convert, Unary, Binary, Compare, Sum, Difference, And, Or, Choice, Comma, Assign, Update, Move, Call}
use Rattle.cs_ast.specs.TypedTree.{Allocate}
use Rattle.cs_ast.specs.TypedView.{form, typed, typed_list}
use Rattle.cs_ast.proofs.TypedRows.{form-Call, form-Allocate}
use Rattle.cs_lower.specs.Building.{built_of, point_of}
use Rattle.cs_lower.specs.Expressions.{Uses, UsesAll}
use Rattle.cs_lower.proofs.Evaluating.{uses, uses_in, uses_both, uses_further, commas, ands, ors, chooses}
use Rattle.cs_lower.proofs.Forms as forms
use Rattle.cs_lower.proofs.Forms.{if_made}
use Rattle.cs_lower.proofs.Integers.{local_integers}
use Rattle.cs_lower.proofs.context.Lowering.+expressions.Goals as goal

pub lower_used-returns : goal.lower_used-returns
lower_used-returns t c = uses c.in_ok-following.ensures c.in_ok-made.ensures

pub lower_way-returns : goal.lower_way-returns
lower_way-returns t c = uses_in c.in_ok-made.ensures c.in_ok-block.ensures

pub lower_pair-returns : goal.lower_pair-returns
lower_pair-returns t c = uses_both c.in_ok-above.ensures c.in_ok-made.ensures c.in_ok-made-2.ensures

pub lower_comma-returns : goal.lower_comma-returns
lower_comma-returns t c = commas c.in_ok-made.ensures c.in_ok-dropped.ensures c.in_ok-made-2.ensures

pub lower_and-returns : goal.lower_and-returns
lower_and-returns t c = ands c.in_ok-end.ensures c.in_ok-judged.ensures c.in_ok-one.ensures c.in_ok-other.ensures c.branch-test.ensures c.in_ok-made.ensures

pub lower_or-returns : goal.lower_or-returns
lower_or-returns t c = ors c.in_ok-end.ensures c.in_ok-judged.ensures c.in_ok-other.ensures c.in_ok-one.ensures c.branch-test.ensures c.in_ok-made.ensures

pub lower_choice-returns : goal.lower_choice-returns
lower_choice-returns t c =
    chooses c.in_ok-end.ensures c.jump.ensures c.in_ok-one.ensures c.jump-2.ensures c.in_ok-other.ensures c.branch-test_of.ensures c.in_ok-made.ensures

pub lower_expression-returns-in-Through : goal.lower_expression-returns-in-Through
lower_expression-returns-in-Through t c =
    elim c.in-Through.is [
      | inl is ↦ if_made c.lower_used-in-Through.result (λ made h.
          forms.part (ap form (sym c.deref.ensures ∙ is)) (λ flow it. it) (λ args. args) (λ count ints. absurd ints) (λ following. refl)
          c.in_ok-next.ensures h)
          c.lower_used-in-Through.ensures
      | inr is ↦ if_made c.lower_used-in-Through.result (λ made h.
          forms.part (ap form (sym c.deref.ensures ∙ is)) (λ flow it. it) (λ args. args) (λ count ints. local_integers ints) (λ following. refl)
          c.in_ok-next.ensures h)
          c.lower_used-in-Through.ensures
    ]

pub lower_expression-returns-in-Address : goal.lower_expression-returns-in-Address
lower_expression-returns-in-Address t c =
    elim c.in-Address.is [
      | inl is ↦ if_made c.lower_used-in-Address.result (λ made h.
          forms.part (ap form (sym c.deref.ensures ∙ is)) (λ flow it. it) (λ args. args) (λ count ints. absurd ints) (λ following. refl)
          c.in_ok-next.ensures h)
          c.lower_used-in-Address.ensures
      | inr is ↦ if_made c.lower_used-in-Address.result (λ made h.
          forms.part (ap form (sym c.deref.ensures ∙ is)) (λ flow it. it) (λ args. args) (λ count ints. absurd ints) (λ following. refl)
          c.in_ok-next.ensures h)
          c.lower_used-in-Address.ensures
    ]

pub lower_expression-returns-in-Not : goal.lower_expression-returns-in-Not
lower_expression-returns-in-Not t c =
    elim c.in-Not.is [
      | inl is ↦ if_made c.lower_used-in-Not.result (λ made h.
          forms.part (ap form (sym c.deref.ensures ∙ is)) (λ flow it. it) (λ args. args) (λ count ints. ints) (λ following. refl) c.in_ok-next.ensures h)
          c.lower_used-in-Not.ensures
      | inr is ↦ if_made c.lower_used-in-Not.result (λ made h.
          forms.part (ap form (sym c.deref.ensures ∙ is)) (λ flow it. it) (λ args. args) (λ count ints. absurd ints) (λ following. refl)
          c.in_ok-next.ensures h)
          c.lower_used-in-Not.ensures
    ]

pub lower_expression-returns-in-Member : goal.lower_expression-returns-in-Member
lower_expression-returns-in-Member t c =
    let is : form c.args.e.now.kind.value ≡ Member (typed c.in-Member.a) c.in-Member.field-1 = search rules in
    if_made c.lower_used.result (λ made h.
    forms.part is (λ flow it. it) (λ args. args) (λ count ints. absurd ints) (λ following. refl) c.in_ok-next.ensures h) c.lower_used.ensures

pub lower_expression-returns-in-Arrow : goal.lower_expression-returns-in-Arrow
lower_expression-returns-in-Arrow t c =
    let is : form c.args.e.now.kind.value ≡ Arrow (typed c.in-Arrow.a) c.in-Arrow.field-1 = search rules in
    if_made c.lower_used-in-Arrow.result (λ made h.
    forms.part is (λ flow it. it) (λ args. args) (λ count ints. absurd ints) (λ following. refl) c.in_ok-next.ensures h)
    c.lower_used-in-Arrow.ensures

pub lower_expression-returns-in-Unary : goal.lower_expression-returns-in-Unary
lower_expression-returns-in-Unary t c =
    let is : form c.args.e.now.kind.value ≡ Unary c.in-Unary.field-0 (typed c.in-Unary.a) = search rules in
    if_made c.lower_used-in-Unary.result (λ made h.
    forms.part is (λ flow it. it) (λ args. args) (λ count ints. ints) (λ following. refl) c.in_ok-next.ensures h)
    c.lower_used-in-Unary.ensures

pub lower_expression-returns-in-Binary : goal.lower_expression-returns-in-Binary
lower_expression-returns-in-Binary t c =
    let is : form c.args.e.now.kind.value ≡ Binary c.in-Binary.field-0 (typed c.in-Binary.a) (typed c.in-Binary.b) = search rules in
    if_made c.lower_pair.result (λ made h.
    forms.pair is (λ flow r one other. (r, one, other)) (λ args. args) (λ count ints. ints) (λ following. refl) c.in_ok-next.ensures h)
    c.lower_pair.ensures

pub lower_expression-returns-in-Compare : goal.lower_expression-returns-in-Compare
lower_expression-returns-in-Compare t c =
    let is : form c.args.e.now.kind.value ≡ Compare c.in-Compare.field-0 (typed c.in-Compare.a) (typed c.in-Compare.b) = search rules in
    if_made c.lower_pair-in-Compare.result (λ made h.
    forms.pair is (λ flow r one other. (r, one, other)) (λ args. args) (λ count ints. ints) (λ following. refl) c.in_ok-next.ensures h)
    c.lower_pair-in-Compare.ensures

pub lower_expression-returns-in-Difference : goal.lower_expression-returns-in-Difference
lower_expression-returns-in-Difference t c =
    let is : form c.args.e.now.kind.value ≡ Difference (typed c.in-Difference.a) (typed c.in-Difference.b) = search rules in
    if_made c.lower_pair-in-Difference.result (λ made h.
    forms.pair is (λ flow r one other. (r, one, other)) (λ args. args) (λ count ints. absurd ints) (λ following. refl) c.in_ok-next.ensures h)
    c.lower_pair-in-Difference.ensures

pub lower_expression-returns-in-Assign : goal.lower_expression-returns-in-Assign
lower_expression-returns-in-Assign t c =
    let is : form c.args.e.now.kind.value ≡ Assign (typed c.in-Assign.a) (typed c.in-Assign.b) = search rules in
    if_made c.lower_pair-in-Assign.result (λ made h.
    forms.pair is (λ flow r one other. (r, one, other)) (λ args. args) (λ count ints. (local_integers ints.0, ints.1)) (λ following. refl)
    c.in_ok-next.ensures h) c.lower_pair-in-Assign.ensures

pub lower_expression-returns-in-Index : goal.lower_expression-returns-in-Index
lower_expression-returns-in-Index t c =
    let is : form c.args.e.now.kind.value ≡ Index (typed c.in-Index.a) (typed c.in-Index.b) c.in-Index.order = search rules in
    if_made c.lower_sum.result (λ made h. forms.index c.in-Index.order is c.in_ok-next.ensures h) c.lower_sum.ensures

pub lower_expression-returns-in-Sum : goal.lower_expression-returns-in-Sum
lower_expression-returns-in-Sum t c =
    let is : form c.args.e.now.kind.value ≡ Sum (typed c.in-Sum.a) (typed c.in-Sum.b) c.in-Sum.field-2 c.in-Sum.order = search rules in
    if_made c.lower_sum-in-Sum.result (λ made h. forms.sum c.in-Sum.order is c.in_ok-next.ensures h) c.lower_sum-in-Sum.ensures

pub lower_expression-returns-in-Number : goal.lower_expression-returns-in-Number
lower_expression-returns-in-Number t c =
    elim c.in-Number.is [
      | inl h ↦ forms.alone (ap form (sym c.deref.ensures ∙ h.1)) (λ flow. refl) (λ following. refl) c.in_ok-next.ensures
      | inr rest ↦ elim rest [
        | inl h ↦ forms.alone (ap form (sym c.deref.ensures ∙ h)) (λ flow. refl) (λ following. refl) c.in_ok-next.ensures
        | inr h ↦ forms.alone (ap form (sym c.deref.ensures ∙ h.1)) (λ flow. refl) (λ following. refl) c.in_ok-next.ensures
      ]
    ]

pub lower_expression-returns-in-Local : goal.lower_expression-returns-in-Local
lower_expression-returns-in-Local t c =
    elim c.in-Local.is [
      | inl h ↦ forms.alone (ap form (sym c.deref.ensures ∙ h.1)) (λ flow. refl) (λ following. refl) c.in_ok-next.ensures
      | inr h ↦ forms.alone (ap form (sym c.deref.ensures ∙ h.1)) (λ flow. refl) (λ following. refl) c.in_ok-next.ensures
    ]

pub lower_expression-returns-in-Void : goal.lower_expression-returns-in-Void
lower_expression-returns-in-Void t c =
    let is : form c.args.e.now.kind.value ≡ Convert (typed c.in-Convert.a) = search rules in
    if_made c.lower_expression.result (λ made h. forms.convert_away is (ap shape_of c.in-Void.is) c.in_ok-next.ensures h) c.lower_expression.ensures

pub lower_expression-returns-in_default : goal.lower_expression-returns-in_default
lower_expression-returns-in_default t c =
    let is : form c.args.e.now.kind.value ≡ Convert (typed c.in-Convert.a) = search rules in
    if_made c.lower_used-in_default.result (λ made h. forms.convert c.args.e.now.ty c.in_default.not-Void is c.in_ok-next.ensures h)
    c.lower_used-in_default.ensures

pub lower_expression-returns-in-And : goal.lower_expression-returns-in-And
lower_expression-returns-in-And t c =
    let is : form c.args.e.now.kind.value ≡ And (typed c.in-And.a) (typed c.in-And.b) = search rules in
    if_made c.lower_and.result (λ made h. forms.formed is (λ flow it. it) c.in_ok-next.ensures h) c.lower_and.ensures

pub lower_expression-returns-in-Or : goal.lower_expression-returns-in-Or
lower_expression-returns-in-Or t c =
    let is : form c.args.e.now.kind.value ≡ Or (typed c.in-Or.a) (typed c.in-Or.b) = search rules in
    if_made c.lower_or.result (λ made h. forms.formed is (λ flow it. it) c.in_ok-next.ensures h) c.lower_or.ensures

pub lower_expression-returns-in-Choice : goal.lower_expression-returns-in-Choice
lower_expression-returns-in-Choice t c =
    let is : form c.args.e.now.kind.value ≡ Choice (typed c.in-Choice.a) (typed c.in-Choice.b) (typed c.in-Choice.c) = search rules in
    if_made c.lower_choice.result (λ made h. forms.formed is (λ flow it. it) c.in_ok-next.ensures h) c.lower_choice.ensures

pub lower_expression-returns-in-Comma : goal.lower_expression-returns-in-Comma
lower_expression-returns-in-Comma t c =
    let is : form c.args.e.now.kind.value ≡ Comma (typed c.in-Comma.a) (typed c.in-Comma.b) = search rules in
    if_made c.lower_comma.result (λ made h. forms.formed is (λ flow it. it) c.in_ok-next.ensures h) c.lower_comma.ensures

pub lower_expression-returns-in-Update : goal.lower_expression-returns-in-Update
lower_expression-returns-in-Update t c =
    let is : form c.args.e.now.kind.value ≡ Update c.in-Update.field-0 (typed c.in-Update.a) (typed c.in-Update.b) c.in-Update.field-3 c.in-Update.field-4 =
    search rules in
    if_made c.lower_update.result (λ made h. forms.update is c.in_ok-next.ensures h) c.lower_update.ensures

pub lower_expression-returns-in-Move : goal.lower_expression-returns-in-Move
lower_expression-returns-in-Move t c =
    let is : form c.args.e.now.kind.value ≡ Move (typed c.in-Move.a) (typed c.in-Move.b) c.in-Move.field-2 c.in-Move.field-3 = search rules in
    if_made c.lower_update-in-Move.result (λ made h. forms.move is c.in_ok-next.ensures h) c.lower_update-in-Move.ensures

pub lower_expression-returns-in-Call : goal.lower_expression-returns-in-Call
lower_expression-returns-in-Call t c =
    let f = c.in-Call.field-0 in
    let is : form c.args.e.now.kind.value ≡ Call f (typed_list c.deref-in-Call.result.now) =
    ap form (sym c.deref.ensures ∙ c.in-Call.is)
    ∙ (form-Call f c.in-Call.arguments ∙ ap (λ l. Call f (typed_list l)) (sym c.deref-in-Call.ensures.value)) in
    if_made c.lower_row.result (λ made h. forms.call is c.in_ok-next.ensures h) c.lower_row.ensures

pub lower_expression-returns-in-Allocate : goal.lower_expression-returns-in-Allocate
lower_expression-returns-in-Allocate t c =
    let a = c.in-Allocate.field-0 in
    let ty = c.in-Allocate.field-2 in
    let is : form c.args.e.now.kind.value ≡ Allocate a (typed_list c.deref-in-Allocate.result.now) (shape_of ty) =
    ap form (sym c.deref.ensures ∙ c.in-Allocate.is)
    ∙ (form-Allocate a c.in-Allocate.arguments ty ∙ ap (λ l. Allocate a (typed_list l) (shape_of ty)) (sym c.deref-in-Allocate.ensures.value)) in
    if_made c.lower_row-in-Allocate.result (λ made h. forms.allocate is c.in_ok-next.ensures h) c.lower_row-in-Allocate.ensures

pub lower_update-returns : goal.lower_update-returns
lower_update-returns t c =
    let fetched = c.in_ok-fetched.ensures in
    record {
      mid = built_of c.lower_used.new.graph;
      middle = point_of c.in_ok-made.made;
      last =
          subst (λ (n : ℕ).
          Uses (typed_program c.args.self.now.program.now) (typed c.args.right.now) n (built_of c.args.graph.now) (built_of c.lower_used.new.graph)
          (point_of c.in_ok-made.made) (point_of c.args.following)) c.in_ok-above.ensures c.in_ok-made.ensures;
      one =
          subst (λ p.
          Uses (typed_program c.args.self.now.program.now) (typed c.args.object.now) c.args.number (built_of c.lower_used.new.graph)
          (built_of c.lower_used-2.new.graph) (point_of c.in_ok-made-2.made) p) fetched c.in_ok-made-2.ensures;
    }

pub lower_row-loop-left-preserved : goal.lower_row-loop-left-preserved
lower_row-loop-left-preserved t c = record {
  within = omega arith;
  made = uses_further c.args.row.now c.loop-left.left c.args.number c.index-row-left.result (omega arith) c.loop-left.invariant.within c.index-row-left.is
      c.in_ok-above.ensures c.loop-left.invariant.made c.in_ok-made.ensures;
}

pub lower_row-returns : goal.lower_row-returns
lower_row-returns t c =
    let none : c.loop-left.left ≡ 0 = omega arith in
    let P : ℕ → ℕ → Type 0 = λ left number.
    UsesAll (typed_program c.args.self.now.program.now) (typed_list (drop left c.args.row.now)) number (built_of c.args.graph.now)
    (built_of c.loop-left.graph) (point_of c.loop-left.made) (point_of c.args.following) in
    let at : c.loop-left.left + c.args.number ≡ c.args.number = omega arith in
    subst (λ (k : ℕ). P k c.args.number) none (subst (λ (n : ℕ). P c.loop-left.left n) at c.loop-left.invariant.made)
