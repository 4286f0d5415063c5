-- The ways out of a `switch`, by the first control points of its statements: for the contract of `switch`.
use Rattle.std.proofs.Common.{◌≡◌, ℕ, zero, suc, ◌+◌, List, [], ◌∷◌, ◌++◌, length, refl, ap, ◌∙◌, arith}
use Rattle.cs_ast.specs.declared.typed.statement.Case.{Case}
use Rattle.cs_ast.specs.declared.typed.statement.Stmt.{Stmt}
use Rattle.cs_ast.specs.TypedTree.{Statements, Empty, Then, count_of}
use Rattle.cs_ast.specs.TypedView.{statement, statement_list}
use Rattle.cs_meaning.specs.Statements.{has_value, default_item}
use Rattle.cs_cfg.specs.ControlPoints.{Targets, Next, with_case, starts, starts_in, starts_from, case_ways}
use Rattle.cs_flow.specs.SwitchView.{all_starts, start_at, ways_before, ways_of_cases}
use Rattle.cs_flow.proofs.RowsFromTheEnd.{starts_in-last}

-- one more statement at the end
pub all_starts-last : (to : Targets) (list : List Stmt) (s : Stmt) (following : Next) (others : List Next)
    → all_starts to (statement_list (list ++ s ∷ [])) following ++ others
    ≡ all_starts to (statement_list list) (starts to (statement s) following) ++ starts to (statement s) following ∷ others
all_starts-last to [] s following others = refl
all_starts-last to (one ∷ list) s following others =
    ap (λ (next : Next). starts to (statement one) next ∷ (all_starts to (statement_list (list ++ s ∷ [])) following ++ others))
    (starts_in-last to list s following)
    ∙ ap (◌∷◌ (starts to (statement one) (starts_in to (statement_list list) (starts to (statement s) following))))
    (all_starts-last to list s following others)

pub length-all_starts : (to : Targets) (statements : Statements) (following : Next) → length (all_starts to statements following) ≡ count_of statements
length-all_starts to Empty following = refl
length-all_starts to (Then one others) following = omega (arith, length-all_starts to others following)

-- the first control point from the statement with a number on
pub start_at-is : (to : Targets) (statements : Statements) (following : Next) (number : ℕ)
    → start_at (all_starts to statements following) following number ≡ starts_from to number statements following
start_at-is to Empty following number = refl
start_at-is to (Then one others) following zero = refl
start_at-is to (Then one others) following (suc number) = start_at-is to others following number

ways_before-are : (to : Targets) (statements : Statements) (following : Next) (cases : List Case) (number : ℕ) (otherwise : Next)
    → ways_before (all_starts to statements following) following cases number otherwise ≡ case_ways to cases number statements following otherwise
ways_before-are to statements following [] number otherwise = refl
ways_before-are to statements following (one ∷ cases) number otherwise =
    ap (λ (next : Next).
    with_case one.value number next (ways_before (all_starts to statements following) following cases (number + has_value one.value) otherwise))
    (start_at-is to statements following one.item)
    ∙ ap (with_case one.value number (starts_from to one.item statements following))
    (ways_before-are to statements following cases (number + has_value one.value) otherwise)

-- all ways
pub ways_of_cases-are : (to : Targets) (statements : Statements) (following : Next) (cases : List Case)
    → ways_of_cases (all_starts to statements following) following cases 0
    ≡ case_ways to cases 0 statements following (starts_from to (default_item cases (count_of statements)) statements following)
ways_of_cases-are to statements following cases =
    ways_before-are to statements following cases 0
    (start_at (all_starts to statements following) following (default_item cases (length (all_starts to statements following))))
    ∙ ap (case_ways to cases 0 statements following)
    (ap (λ (count : ℕ). start_at (all_starts to statements following) following (default_item cases count)) (length-all_starts to statements following)
    ∙ start_at-is to statements following (default_item cases (count_of statements)))
