-- The counted point of a label doesn't depend on what is to do after the statement: for the contract of `add_labels`.
use Rattle.std.proofs.Common.{◌≡◌, ℕ, suc, ◌+◌, ◌≤◌, ◌==◌, Bool, true, false, List, [], ◌∷◌, length, drop, get_or, drop-cons}
use Rattle.std.proofs.Common.{Option, Some, None, refl, sym, ap, ◌∙◌, arith}
use Rattle.std.specs.Prelude.{Result, Ok, Err, OnOk, option_map, if◌then◌else◌}
use Rattle.std.specs.Option.{option_or}
use Rattle.cs_ast.specs.declared.typed.statement.Stmt.{Stmt}
use Rattle.cs_ast.specs.TypedView.{statement, statement_list}
use Rattle.cs_ast.specs.TypedTree.{Statement, Block, Declare, Run, If, IfElse, While, Do, For, Switch, Goto, Label, Break, Continue, Return, Statements, Empty}
use Rattle.cs_ast.specs.TypedTree.{Then}
use Rattle.cs_meaning.specs.Machine.{Item}
use Rattle.cs_meaning.specs.CountedPoints.{counted_points, counted_points_in}
use Rattle.cs_meaning.specs.Jumps.{Landing, first_of_two, landing, landing_in}
use Rattle.cs_lower.specs.Labels.{label_in, label_among}

abbrev counted_point_of : Option Landing → Option ℕ
counted_point_of found = option_map (λ (l : Landing). l.counted_point) found

first_counted_point : (one other : Option Landing) → counted_point_of (first_of_two one other) ≡ option_or (counted_point_of one) (counted_point_of other)
first_counted_point (Some l) other = refl
first_counted_point None other = refl

if_counted_point : (here : Bool) (l : Landing) (other : Option Landing)
    → counted_point_of (if here then Some l else other) ≡ (if here then Some l.counted_point else counted_point_of other)
if_counted_point true l other = refl
if_counted_point false l other = refl

-- the counted point of either of two is the same
either : (a b c d : Option Landing) → counted_point_of a ≡ counted_point_of c → counted_point_of b ≡ counted_point_of d
    → counted_point_of (first_of_two a b) ≡ counted_point_of (first_of_two c d)
either a b c d one other =
    first_counted_point a b ∙ (ap (λ m. option_or m (counted_point_of b)) one
    ∙ (ap (λ m. option_or (counted_point_of c) m) other ∙ sym (first_counted_point c d)))

mutual
  same_counted_point : (wanted : ℕ) (s : Statement) (counted_point : ℕ) (one other : List Item)
      → counted_point_of (landing wanted s counted_point one) ≡ counted_point_of (landing wanted s counted_point other)
  same_counted_point wanted (Block at statements) counted_point one other = same_counted_points wanted statements counted_point one other
  same_counted_point wanted (Declare at declaration initial) counted_point one other = refl
  same_counted_point wanted (Run at e) counted_point one other = refl
  same_counted_point wanted (If at test body) counted_point one other = same_counted_point wanted body counted_point one other
  same_counted_point wanted (IfElse at test body following) counted_point one other =
      either _ _ _ _ (same_counted_point wanted body counted_point one other)
      (same_counted_point wanted following (counted_point + counted_points body) one other)
  same_counted_point wanted (While at test body) counted_point one other = same_counted_point wanted body (counted_point + 1) _ _
  same_counted_point wanted (Do at body test) counted_point one other = same_counted_point wanted body (counted_point + 1) _ _
  same_counted_point wanted (For at first test last body) counted_point one other =
      same_counted_point wanted body (counted_point + 1 + counted_points_in first) _ _
  same_counted_point wanted (Switch at value cases statements) counted_point one other = same_counted_points wanted statements counted_point _ _
  same_counted_point wanted (Goto at label) counted_point one other = refl
  same_counted_point wanted (Label at label body) counted_point one other =
      if_counted_point (label == wanted) _ _
      ∙ (ap (λ m. if label == wanted then Some counted_point else m) (same_counted_point wanted body (counted_point + 1) one other)
      ∙ sym (if_counted_point (label == wanted) _ _))
  same_counted_point wanted (Break at) counted_point one other = refl
  same_counted_point wanted (Continue at) counted_point one other = refl
  same_counted_point wanted (Return at value) counted_point one other = refl

  same_counted_points : (wanted : ℕ) (statements : Statements) (counted_point : ℕ) (one other : List Item)
      → counted_point_of (landing_in wanted statements counted_point one) ≡ counted_point_of (landing_in wanted statements counted_point other)
  same_counted_points wanted Empty counted_point one other = refl
  same_counted_points wanted (Then first others) counted_point one other =
      either _ _ _ _ (same_counted_point wanted first counted_point _ _) (same_counted_points wanted others (counted_point + counted_points first) one other)

-- the labels of each kind of statement that may have some
pub label_in-Switch : (wanted : ℕ) (at : _) (value : _) (cases : _) (statements : Statements) (counted_point : ℕ)
    → label_in wanted (Switch at value cases statements) counted_point ≡ label_among wanted statements counted_point
label_in-Switch wanted at value cases statements counted_point = same_counted_points wanted statements counted_point _ _

pub label_in-IfElse : (wanted : ℕ) (at : _) (test : _) (body other : Statement) (counted_point : ℕ)
    → label_in wanted (IfElse at test body other) counted_point
    ≡ option_or (label_in wanted body counted_point) (label_in wanted other (counted_point + counted_points body))
label_in-IfElse wanted at test body other counted_point =
    first_counted_point (landing wanted body counted_point []) (landing wanted other (counted_point + counted_points body) [])

pub label_in-While : (wanted : ℕ) (at : _) (test : _) (body : Statement) (counted_point : ℕ)
    → label_in wanted (While at test body) counted_point ≡ label_in wanted body (counted_point + 1)
label_in-While wanted at test body counted_point = same_counted_point wanted body (counted_point + 1) _ _

pub label_in-Do : (wanted : ℕ) (at : _) (body : Statement) (test : _) (counted_point : ℕ)
    → label_in wanted (Do at body test) counted_point ≡ label_in wanted body (counted_point + 1)
label_in-Do wanted at body test counted_point = same_counted_point wanted body (counted_point + 1) _ _

pub label_in-For : (wanted : ℕ) (at : _) (first : Statements) (test last : _) (body : Statement) (counted_point : ℕ)
    → label_in wanted (For at first test last body) counted_point ≡ label_in wanted body (counted_point + 1 + counted_points_in first)
label_in-For wanted at first test last body counted_point = same_counted_point wanted body (counted_point + 1 + counted_points_in first) _ _

pub label_in-Label : (wanted : ℕ) (at : _) (label : ℕ) (body : Statement) (counted_point : ℕ)
    → label_in wanted (Label at label body) counted_point
    ≡ option_or (if label == wanted then Some counted_point else None) (label_in wanted body (counted_point + 1))
label_in-Label wanted at label body counted_point = if_counted_point (label == wanted) _ _ ∙ chosen (label == wanted)
  where
    chosen : (here : Bool) → (if here then Some counted_point else label_in wanted body (counted_point + 1))
        ≡ option_or (if here then Some counted_point else None) (label_in wanted body (counted_point + 1))
    chosen true = refl
    chosen false = refl

pub label_among-Then : (wanted : ℕ) (first : Statement) (others : Statements) (counted_point : ℕ)
    → label_among wanted (Then first others) counted_point
    ≡ option_or (label_in wanted first counted_point) (label_among wanted others (counted_point + counted_points first))
label_among-Then wanted first others counted_point =
    first_counted_point (landing wanted first counted_point _) (landing_in wanted others (counted_point + counted_points first) [])
    ∙ ap (λ m. option_or m (label_among wanted others (counted_point + counted_points first))) (same_counted_point wanted first counted_point _ _)

-- the rest of a list from an index on
next_dropped : {X : Type 0} (row : List X) (i : ℕ) (x : X) → suc i ≤ length row → x ≡ get_or row i x → drop i row ≡ x ∷ drop (i + 1) row
next_dropped row i x within is =
    let next : suc i ≡ i + 1 = omega arith in
    drop-cons row i x within ∙ (ap (λ y. y ∷ drop (suc i) row) (sym is) ∙ ap (λ (n : ℕ). x ∷ drop n row) next)

-- labels that are added to others
pub labels_added : {T E : Type 0} (result : Result T E) (old new added wanted : ℕ → Option ℕ) → ((label : ℕ) → wanted label ≡ added label)
    → OnOk result ((label : ℕ) → new label ≡ option_or (old label) (added label))
    → OnOk result ((label : ℕ) → new label ≡ option_or (old label) (wanted label))
labels_added (Ok made) old new added wanted are h = λ label. h label ∙ ap (option_or (old label)) (sym (are label))
labels_added (Err e) old new added wanted are h = h

or_or : (a b c : Option ℕ) → option_or (option_or a b) c ≡ option_or a (option_or b c)
or_or None b c = refl
or_or (Some n) b c = refl

-- the labels of one more statement of a list
pub one_more_labelled : (row : List Stmt) (i : ℕ) (s : Stmt) → suc i ≤ length row → s ≡ get_or row i s
    → (wanted counted_point next : ℕ) (old new : Option ℕ) → next ≡ counted_point + counted_points (statement s)
    → new ≡ option_or old (label_in wanted (statement s) counted_point)
    → option_or new (label_among wanted (statement_list (drop (i + 1) row)) next)
    ≡ option_or old (label_among wanted (statement_list (drop i row)) counted_point)
one_more_labelled row i s within is wanted counted_point next old new counts labels =
    ap (λ m. option_or m (label_among wanted (statement_list (drop (i + 1) row)) next)) labels
    ∙ (or_or old (label_in wanted (statement s) counted_point) (label_among wanted (statement_list (drop (i + 1) row)) next)
    ∙ ap (option_or old)
    (ap (λ (n : ℕ). option_or (label_in wanted (statement s) counted_point) (label_among wanted (statement_list (drop (i + 1) row)) n)) counts
    ∙ (sym (label_among-Then wanted (statement s) (statement_list (drop (i + 1) row)) counted_point)
    ∙ ap (λ l. label_among wanted (statement_list l) counted_point) (sym (next_dropped row i s within is)))))

-- and its counted points
pub one_more_counted : (row : List Stmt) (i : ℕ) (s : Stmt) → suc i ≤ length row → s ≡ get_or row i s
    → counted_points_in (statement_list (drop i row)) ≡ counted_points (statement s) + counted_points_in (statement_list (drop (i + 1) row))
one_more_counted row i s within is = ap (λ l. counted_points_in (statement_list l)) (next_dropped row i s within is)
