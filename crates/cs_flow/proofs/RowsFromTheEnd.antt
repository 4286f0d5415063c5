-- Lists of expressions, initializers and statements with one more at the end: for the loops that walk them from the end.
use Rattle.std.proofs.Common.{◌≡◌, List, [], ◌∷◌, ◌++◌, refl, sym, ap, ◌∙◌, append_assoc}
use Rattle.cs_ast.specs.declared.typed.expression.Expr.{Expr}
use Rattle.cs_ast.specs.declared.typed.statement.Initial.{Initial}
use Rattle.cs_ast.specs.declared.typed.statement.Stmt.{Stmt}
use Rattle.cs_ast.specs.TypedView.{typed, typed_list, initial, initial_list, statement, statement_list}
use Rattle.cs_cfg.specs.ControlPoints.{Next, ControlPoint, Targets, first, first_in, points, points_in, first_initial, first_parts, points_initial}
use Rattle.cs_cfg.specs.ControlPoints.{points_parts, starts, starts_in, flows, flows_in}

pub first_in-last : (es : List Expr) (e : Expr) (following : Next)
    → first_in (typed_list (es ++ e ∷ [])) following ≡ first_in (typed_list es) (first (typed e) following)
first_in-last [] e following = refl
first_in-last (one ∷ es) e following = ap (first (typed one)) (first_in-last es e following)

pub points_in-last : (es : List Expr) (e : Expr) (following : Next) (others : List ControlPoint)
    → points_in (typed_list (es ++ e ∷ [])) following ++ others
    ≡ points_in (typed_list es) (first (typed e) following) ++ (points (typed e) following ++ others)
points_in-last [] e following others = append_assoc (points (typed e) following) [] others
points_in-last (one ∷ es) e following others =
    append_assoc (points (typed one) (first_in (typed_list (es ++ e ∷ [])) following)) (points_in (typed_list (es ++ e ∷ [])) following) others
    ∙ (ap (◌++◌ (points (typed one) (first_in (typed_list (es ++ e ∷ [])) following))) (points_in-last es e following others)
    ∙ (ap (λ (next : Next). points (typed one) next ++ (points_in (typed_list es) (first (typed e) following) ++ (points (typed e) following ++ others)))
    (first_in-last es e following)
    ∙ sym (append_assoc (points (typed one) (first_in (typed_list es) (first (typed e) following))) (points_in (typed_list es) (first (typed e) following))
    (points (typed e) following ++ others))))

pub first_parts-last : (es : List Initial) (e : Initial) (following : Next)
    → first_parts (initial_list (es ++ e ∷ [])) following ≡ first_parts (initial_list es) (first_initial (initial e) following)
first_parts-last [] e following = refl
first_parts-last (one ∷ es) e following = ap (first_initial (initial one)) (first_parts-last es e following)

pub points_parts-last : (es : List Initial) (e : Initial) (following : Next) (others : List ControlPoint)
    → points_parts (initial_list (es ++ e ∷ [])) following ++ others
    ≡ points_parts (initial_list es) (first_initial (initial e) following) ++ (points_initial (initial e) following ++ others)
points_parts-last [] e following others = append_assoc (points_initial (initial e) following) [] others
points_parts-last (one ∷ es) e following others =
    append_assoc (points_initial (initial one) (first_parts (initial_list (es ++ e ∷ [])) following)) (points_parts (initial_list (es ++ e ∷ [])) following)
    others
    ∙ (ap (◌++◌ (points_initial (initial one) (first_parts (initial_list (es ++ e ∷ [])) following))) (points_parts-last es e following others)
    ∙ (ap (λ (next : Next).
    points_initial (initial one) next
    ++ (points_parts (initial_list es) (first_initial (initial e) following) ++ (points_initial (initial e) following ++ others)))
    (first_parts-last es e following)
    ∙ sym (append_assoc (points_initial (initial one) (first_parts (initial_list es) (first_initial (initial e) following)))
    (points_parts (initial_list es) (first_initial (initial e) following)) (points_initial (initial e) following ++ others))))

pub starts_in-last : (to : Targets) (es : List Stmt) (e : Stmt) (following : Next)
    → starts_in to (statement_list (es ++ e ∷ [])) following ≡ starts_in to (statement_list es) (starts to (statement e) following)
starts_in-last to [] e following = refl
starts_in-last to (one ∷ es) e following = ap (starts to (statement one)) (starts_in-last to es e following)

pub flows_in-last : (to : Targets) (es : List Stmt) (e : Stmt) (following : Next) (others : List ControlPoint)
    → flows_in to (statement_list (es ++ e ∷ [])) following ++ others
    ≡ flows_in to (statement_list es) (starts to (statement e) following) ++ (flows to (statement e) following ++ others)
flows_in-last to [] e following others = append_assoc (flows to (statement e) following) [] others
flows_in-last to (one ∷ es) e following others =
    append_assoc (flows to (statement one) (starts_in to (statement_list (es ++ e ∷ [])) following)) (flows_in to (statement_list (es ++ e ∷ [])) following)
    others
    ∙ (ap (◌++◌ (flows to (statement one) (starts_in to (statement_list (es ++ e ∷ [])) following))) (flows_in-last to es e following others)
    ∙ (ap (λ (next : Next).
    flows to (statement one) next ++ (flows_in to (statement_list es) (starts to (statement e) following) ++ (flows to (statement e) following ++ others)))
    (starts_in-last to es e following)
    ∙ sym (append_assoc (flows to (statement one) (starts_in to (statement_list es) (starts to (statement e) following)))
    (flows_in to (statement_list es) (starts to (statement e) following)) (flows to (statement e) following ++ others))))
