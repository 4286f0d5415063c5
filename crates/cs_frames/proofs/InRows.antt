-- Lists of statements: for the contracts of `put_from` and `count_of`.
use Rattle.std.proofs.Common.{◌≡◌, ℕ, zero, suc, ◌+◌, ◌<◌, ◌≤◌, List, [], ◌∷◌, drop, take, length, refl, ap, ◌∙◌, arith}
use Rattle.cs_ast.specs.declared.typed.statement.Stmt.{Stmt}
use Rattle.cs_ast.specs.TypedTree.{count_of}
use Rattle.cs_ast.specs.TypedView.{statement, statement_list}
use Rattle.cs_meaning.specs.Machine.{Item}
use Rattle.cs_meaning.specs.CountedPoints.{counted_points, counted_points_in}
use Rattle.cs_meaning.specs.Jumps.{executes}
use Rattle.cs_meaning.specs.Statements.{executes_from}

-- the statements from an index on
pub executes_from-drop : (ss : List Stmt) (n counted_point : ℕ) (following : List Item) → n ≤ length ss
    → executes_from n (statement_list ss) counted_point following
    ≡ executes (statement_list (drop n ss)) (counted_point + counted_points_in (statement_list (take n ss))) following
executes_from-drop [] zero counted_point following h = refl
executes_from-drop [] (suc n) counted_point following h = refl
executes_from-drop (s ∷ ss) zero counted_point following h =
    let same : counted_point ≡ counted_point + 0 = omega arith in
    ap (λ (k : ℕ). executes (statement_list (s ∷ ss)) k following) same
executes_from-drop (s ∷ ss) (suc n) counted_point following h =
    let rest = executes_from-drop ss n (counted_point + counted_points (statement s)) following (omega arith) in
    let same : counted_point + counted_points (statement s) + counted_points_in (statement_list (take n ss))
    ≡ counted_point + (counted_points (statement s) + counted_points_in (statement_list (take n ss))) = omega arith in
    rest ∙ ap (λ (k : ℕ). executes (statement_list (drop n ss)) k following) same

-- none from beyond the end
pub executes_from-past : (ss : List Stmt) (n counted_point : ℕ) (following : List Item) → length ss < n
    → executes_from n (statement_list ss) counted_point following ≡ following
executes_from-past [] n counted_point following h = refl
executes_from-past (s ∷ ss) zero counted_point following h = absurd (omega arith)
executes_from-past (s ∷ ss) (suc n) counted_point following h = executes_from-past ss n (counted_point + counted_points (statement s)) following (omega arith)

-- the count of a list is its length
pub count_of_list : (ss : List Stmt) → count_of (statement_list ss) ≡ length ss
count_of_list [] = refl
count_of_list (s ∷ ss) = omega (arith, count_of_list ss)
