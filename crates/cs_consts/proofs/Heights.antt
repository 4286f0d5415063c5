-- The height of an expression of a list is at most that of the highest one: for the termination of the cycle of typing.
use Rattle.std.proofs.Common.{◌≡◌, ℕ, ◌<◌, ◌≤◌, zero, suc, List, [], ◌∷◌, length, get_or, arith, sym, subst}
use Rattle.std.proofs.Math.Nat.{le_trans, le-max_left, le-max_right}
use Rattle.cs_ast.specs.declared.raw.expression.RawExpr.{RawExpr}
use Rattle.cs_ast.specs.RawView.{written, written_list}
use Rattle.cs_ast.specs.RawHeight.{height, highest}

least_place : (i : ℕ) (xs : List RawExpr) (d : RawExpr) → i < length xs → height (written (get_or xs i d)) ≤ highest (written_list xs)
least_place i [] d h = absurd (omega (arith, h))
least_place zero (x ∷ xs) d h = le-max_left (height (written x)) (highest (written_list xs))
least_place (suc i) (x ∷ xs) d h = le_trans (least_place i xs d (omega (arith, h))) (le-max_right (height (written x)) (highest (written_list xs)))

pub height-among : (xs : List RawExpr) (i : ℕ) (x : RawExpr) → i < length xs → x ≡ get_or xs i x → height (written x) ≤ highest (written_list xs)
height-among xs i x within read = subst (λ y. height (written y) ≤ highest (written_list xs)) (sym read) (least_place i xs x within)
