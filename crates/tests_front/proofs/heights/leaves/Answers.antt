use Rattle.std.proofs.Common.{◌≡◌, max, List, [], ◌∷◌, ◌++◌, arith}
use Rattle.cs_ast.specs.declared.raw.expression.RawExpr.{RawExpr}
use Rattle.cs_ast.specs.RawView.{written, written_list}
use Rattle.cs_ast.specs.RawHeight.{height, highest}
use Rattle.tests_front.proofs.heights.leaves.Goals as goal

highest-push : (list : List RawExpr) (e : RawExpr) → highest (written_list (list ++ (e ∷ []))) ≡ max (highest (written_list list)) (height (written e))
highest-push [] e = omega arith
highest-push (first ∷ others) e = omega (arith, highest-push others e)

pub loop-preserved : goal.loop-preserved
loop-preserved c =
    let e = highest-push c.loop.list.items c.in_ok-next.next in
    grind arith
