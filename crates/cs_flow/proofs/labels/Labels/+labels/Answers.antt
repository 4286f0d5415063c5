use Rattle.std.proofs.Common.{◌≡◌, ℕ, ◌+◌, List, ◌∷◌, drop, sym, ap, ◌∙◌}
use Rattle.std.proofs.lemmas.List.{at_drop_more}
use Rattle.cs_ast.specs.declared.typed.statement.Stmt.{Stmt}
use Rattle.cs_ast.specs.TypedView.{typed, some_typed, statement, statement_at, statement_list}
use Rattle.cs_ast.proofs.TypedRows.{statement_at-Block, statement_at-For, statement_at-Switch}
use Rattle.cs_cfg.specs.ControlPoints.{Next, at_label}
use Rattle.cs_flow.specs.LabelView.{labels_of, label_in, label_in_list, one_label}
use Rattle.cs_flow.proofs.LabelsInPlace.{at_label-assoc, label_in-Then, added, added_both, label_in-IfElse, label_in-While, label_in-Do, label_in-For}
use Rattle.cs_flow.proofs.LabelsInPlace.{label_in-Switch, label_in-Label}
use Rattle.cs_flow.proofs.labels.Labels.+labels.Goals as goal

pub find-returns-in-Block : goal.find-returns-in-Block
find-returns-in-Block t c =
    rw (ap (statement_at c.args.s.now.place) (sym c.deref.ensures ∙ c.in-Block.is) ∙ statement_at-Block c.args.s.now.place c.in-Block.list)
    (rw c.deref-in-Block.ensures.value at c.find_in.ensures)

pub find-returns-in_ok-find-in-IfElse : goal.find-returns-in_ok-find-in-IfElse
find-returns-in_ok-find-in-IfElse t c =
    rw (sym c.deref.ensures ∙ c.in-IfElse.is)
    (added_both _ _ _ _ (λ (label : ℕ). label_in label (statement c.in-IfElse.body)) (λ (label : ℕ). label_in label (statement c.in-IfElse.other)) _
    c.in_ok-find-in-IfElse.ensures (λ label.
    label_in-IfElse label c.args.s.now.place (typed c.in-IfElse.field-0) (statement c.in-IfElse.body) (statement c.in-IfElse.other))
    c.find-in-IfElse-2.ensures)

pub find-returns-in-While : goal.find-returns-in-While
find-returns-in-While t c =
    rw (sym c.deref.ensures ∙ c.in-While.is)
    (added _ _ _ (λ (label : ℕ). label_in label (statement c.in-While.body)) _
    (λ label. label_in-While label c.args.s.now.place (typed c.in-While.field-0) (statement c.in-While.body)) c.find-in-While.ensures)

pub find-returns-in-Do : goal.find-returns-in-Do
find-returns-in-Do t c =
    rw (sym c.deref.ensures ∙ c.in-Do.is)
    (added _ _ _ (λ (label : ℕ). label_in label (statement c.in-Do.body)) _
    (λ label. label_in-Do label c.args.s.now.place (typed c.in-Do.field-1) (statement c.in-Do.body)) c.find-in-Do.ensures)

pub find-returns-in-For : goal.find-returns-in-For
find-returns-in-For t c =
    rw (ap (statement_at c.args.s.now.place) (sym c.deref.ensures ∙ c.in-For.is)
    ∙ statement_at-For c.args.s.now.place c.in-For.field-0 c.in-For.field-1 c.in-For.field-2 c.in-For.body)
    (added _ _ _ (λ (label : ℕ). label_in label (statement c.in-For.body)) _
    (λ label.
    label_in-For label c.args.s.now.place (statement_list c.in-For.field-0.items) (some_typed c.in-For.field-1) (some_typed c.in-For.field-2)
    (statement c.in-For.body)) c.find-in-For.ensures)

pub find-returns-in-Switch : goal.find-returns-in-Switch
find-returns-in-Switch t c =
    rw (ap (statement_at c.args.s.now.place) (sym c.deref.ensures ∙ c.in-Switch.is)
    ∙ statement_at-Switch c.args.s.now.place c.in-Switch.field-0 c.in-Switch.field-1 c.in-Switch.list)
    (added _ _ _ (λ (label : ℕ). label_in_list label (statement_list c.in-Switch.list.items)) _
    (λ label. label_in-Switch label c.args.s.now.place (typed c.in-Switch.field-0) c.in-Switch.field-1.items (statement_list c.in-Switch.list.items))
    (rw c.deref-in-Switch.ensures.value at c.find_in-in-Switch.ensures))

pub find-returns-in_ok-add-in-Label : goal.find-returns-in_ok-add-in-Label
find-returns-in_ok-add-in-Label t c =
    rw (sym c.deref.ensures ∙ c.in-Label.is)
    (added_both _ _ _ _ (λ (label : ℕ). one_label c.in-Label.label c.args.s.now.place label)
    (λ (label : ℕ). label_in label (statement c.in-Label.body)) _ c.in_ok-add-in-Label.ensures
    (λ label. label_in-Label label c.args.s.now.place c.in-Label.label (statement c.in-Label.body)) c.find-in-Label.ensures)

pub find_in-loop-s-preserved : goal.find_in-loop-s-preserved
find_in-loop-s-preserved t c = λ label.
    let all = c.args.list.now in
    let rest = drop (c.loop-s.s-index + 1) all in
    let item = c.s-item.result in
    let of_list : List Stmt → Next = λ (list : List Stmt). label_in_list label (statement_list list) in
    let here : of_list (drop c.loop-s.s-index all) ≡ of_list (item ∷ rest) =
    at_drop_more of_list all c.loop-s.s-index item c.loop-s-test.true ∙ ap (λ (s : Stmt). of_list (s ∷ rest)) (sym c.s-item.is) in
    ap (λ (next : Next). at_label next (of_list rest)) (c.in_ok-find.ensures label)
    ∙ (at_label-assoc (labels_of c.loop-s.self label) (label_in label (statement item)) (of_list rest)
    ∙ (ap (at_label (labels_of c.loop-s.self label)) (sym (label_in-Then label (statement item) (statement_list rest)) ∙ sym here)
    ∙ c.loop-s.invariant label))
