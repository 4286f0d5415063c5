use Rattle.std.proofs.Common.{◌≡◌, ℕ, ◌+◌, sym, ◌∙◌, subst, arith}
use Rattle.std.specs.Prelude.{IfOk}
use Rattle.cs_ast.specs.TypedView.{statement, statement_list}
use Rattle.cs_meaning.specs.CountedPoints.{counted_points, counted_points_in}
use Rattle.cs_objects.proofs.StatementForms.{block_is, for_is, switch_is}
use Rattle.cs_objects.proofs.counted_points.+counted_points.Goals as goal

pub counted_points-returns-in-Block : goal.counted_points-returns-in-Block
counted_points-returns-in-Block t c =
    let is = block_is c.args.s.now _ (sym c.deref.ensures ∙ c.in-Block.is) in
    rw is (rw c.deref-in-Block.ensures.value at c.counted_points_in.ensures)

pub counted_points-returns-in-Switch : goal.counted_points-returns-in-Switch
counted_points-returns-in-Switch t c =
    let is = switch_is c.args.s.now _ _ _ (sym c.deref.ensures ∙ c.in-Switch.is) in
    rw is (rw c.deref-in-Switch.ensures.value at c.counted_points_in-in-Switch.ensures)

pub counted_points-returns-in_ok-head-in-For : goal.counted_points-returns-in_ok-head-in-For
counted_points-returns-in_ok-head-in-For t c =
    let is = for_is c.args.s.now _ _ _ _ (sym c.deref.ensures ∙ c.in-For.is) in
    let before : c.in_ok-before-in-For.before ≡ counted_points_in (statement_list c.in-For.first.items) =
    rw c.deref-in-For.ensures.value at c.in_ok-before-in-For.ensures in
    let inner : c.in_ok-inner-in-For.inner ≡ counted_points (statement c.in-For.body) = c.in_ok-inner-in-For.ensures in
    let head : c.in_ok-head-in-For.head ≡ 1 + c.in_ok-before-in-For.before = c.in_ok-head-in-For.ensures in
    let all : c.in_ok-head-in-For.head + c.in_ok-inner-in-For.inner
    ≡ 1 + counted_points_in (statement_list c.in-For.first.items) + counted_points (statement c.in-For.body) = omega arith in
    let counts : ℕ → Type 0 = λ n. IfOk c.together-in-For-2.result (λ count. count ≡ n) in
    rw is (subst counts all c.together-in-For-2.ensures)
