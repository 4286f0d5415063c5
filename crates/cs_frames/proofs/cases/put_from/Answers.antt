use Rattle.std.proofs.Common.{◌≡◌, ℕ, ◌+◌, List, take, drop, sym, ap, ◌∙◌}
use Rattle.std.proofs.lemmas.List.{take_rest}
use Rattle.cs_ast.specs.TypedView.{statement_list}
use Rattle.cs_meaning.specs.Jumps.{executes}
use Rattle.cs_meaning.specs.Machine.{Item, to_do}
use Rattle.cs_meaning.specs.CountedPoints.{counted_points_in}
use Rattle.cs_run_state.specs.MachineView.{state_of}
use Rattle.cs_frames.proofs.InRows.{executes_from-drop, executes_from-past}
use Rattle.cs_frames.proofs.cases.put_from.Goals as goal

pub returns-in_ok-put_all : goal.returns-in_ok-put_all
returns-in_ok-put_all c =
    let m = state_of c.args.state.now in
    let before : c.in_ok-before.before ≡ counted_points_in (statement_list (take c.args.number c.args.statements.now)) = c.in_ok-before.ensures in
    let counted_point : c.in_ok-together.field-0 ≡ c.args.counted_point + counted_points_in (statement_list (take c.args.number c.args.statements.now)) =
    c.in_ok-together.ensures ∙ ap (λ (n : ℕ). c.args.counted_point + n) before in
    let all = executes_from-drop c.args.statements.now c.args.number c.args.counted_point m.frame.todo c.if-number-statements.true in
    let put = rw (take_rest c.args.statements.now c.args.number) at c.in_ok-put_all.ensures in
    put
    ∙ ap (λ (todo : List Item). to_do todo m)
    (ap (λ (n : ℕ). executes (statement_list (drop c.args.number c.args.statements.now)) n m.frame.todo) counted_point ∙ sym all)

pub returns-else-number-statements : goal.returns-else-number-statements
returns-else-number-statements c =
    let m = state_of c.args.state.now in
    sym (ap (λ (todo : List Item). to_do todo m)
    (executes_from-past c.args.statements.now c.args.number c.args.counted_point m.frame.todo c.if-number-statements.false))
