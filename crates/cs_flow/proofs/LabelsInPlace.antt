-- The position of a label in a statement and in those after it: for the contracts of the table of labels.
use Rattle.std.proofs.Common.{◌≡◌, ℕ, ◌+◌, ◌==◌, Bool, true, false, List, [], ◌∷◌, Option, Some, None, Result, Ok, Err, OnOk}
use Rattle.std.proofs.Common.{if◌then◌else◌, refl, sym, ap, ◌∙◌}
use Rattle.cs_ast.specs.declared.place.Place.{Place}
use Rattle.cs_ast.specs.declared.typed.statement.Case.{Case}
use Rattle.cs_ast.specs.TypedTree.{Typed, Statement, Block, Declare, Run, If, IfElse, While, Do, For, Switch, Goto, Label, Break, Continue, Return, Statements}
use Rattle.cs_ast.specs.TypedTree.{Empty, Then}
use Rattle.cs_meaning.specs.Jumps.{Landing, landing, landing_in, first_of_two, executes}
use Rattle.cs_meaning.specs.Machine.{Item, Again, Out}
use Rattle.cs_meaning.specs.CountedPoints.{counted_points, counted_points_in}
use Rattle.cs_cfg.specs.ControlPoints.{Next, at_label, landed}
use Rattle.cs_flow.specs.LabelView.{label_in, label_in_list, one_label}

pub at_label-none : (next : Next) → at_label next None ≡ next
at_label-none None = refl
at_label-none (Some label) = refl

pub at_label-assoc : (a b c : Next) → at_label (at_label a b) c ≡ at_label a (at_label b c)
at_label-assoc None b c = refl
at_label-assoc (Some label) b c = refl

landed-two : (a b : Option Landing) → landed (first_of_two a b) ≡ at_label (landed a) (landed b)
landed-two None b = refl
landed-two (Some landing) b = refl

-- a label that is found here, or elsewhere
landed-here : (here : Bool) (one other : Landing) (a b : Option Landing) → one.at ≡ other.at → landed a ≡ landed b
    → landed (if here then Some one else a) ≡ landed (if here then Some other else b)
landed-here true one other a b at same = ap (λ (p : Place). landed (Some (record one { at = p }))) at
landed-here false one other a b at same = same

mutual
  -- the position of a label depends neither on the counted points nor on what is to be done after the statement
  pub landed-anywhere : (wanted : ℕ) (s : Statement) (m n : ℕ) (a b : List Item) → landed (landing wanted s m a) ≡ landed (landing wanted s n b)
  landed-anywhere wanted (Block at statements) m n a b = landed_in-anywhere wanted statements m n a b
  landed-anywhere wanted (Declare at declaration initial) m n a b = refl
  landed-anywhere wanted (Run at e) m n a b = refl
  landed-anywhere wanted (If at test body) m n a b = landed-anywhere wanted body m n a b
  landed-anywhere wanted (IfElse at test body other) m n a b =
      landed-two (landing wanted body m a) (landing wanted other (m + counted_points body) a)
      ∙ (ap (λ (next : Next). at_label next (landed (landing wanted other (m + counted_points body) a))) (landed-anywhere wanted body m n a b)
      ∙ (ap (at_label (landed (landing wanted body n b))) (landed-anywhere wanted other (m + counted_points body) (n + counted_points body) a b)
      ∙ sym (landed-two (landing wanted body n b) (landing wanted other (n + counted_points body) b))))
  landed-anywhere wanted (While at test body) m n a b =
      landed-anywhere wanted body (m + 1) (n + 1) (Again (While at test body) m ∷ (Out ∷ a)) (Again (While at test body) n ∷ (Out ∷ b))
  landed-anywhere wanted (Do at body test) m n a b =
      landed-anywhere wanted body (m + 1) (n + 1) (Again (Do at body test) m ∷ (Out ∷ a)) (Again (Do at body test) n ∷ (Out ∷ b))
  landed-anywhere wanted (For at first test last body) m n a b =
      landed-anywhere wanted body (m + 1 + counted_points_in first) (n + 1 + counted_points_in first) (Again (For at first test last body) m ∷ (Out ∷ a))
      (Again (For at first test last body) n ∷ (Out ∷ b))
  landed-anywhere wanted (Switch at value cases statements) m n a b = landed_in-anywhere wanted statements m n (Out ∷ a) (Out ∷ b)
  landed-anywhere wanted (Goto at label) m n a b = refl
  landed-anywhere wanted (Label at label body) m n a b =
      landed-here (label == wanted) _ _ _ _ refl (landed-anywhere wanted body (m + 1) (n + 1) a b)
  landed-anywhere wanted (Break at) m n a b = refl
  landed-anywhere wanted (Continue at) m n a b = refl
  landed-anywhere wanted (Return at value) m n a b = refl

  pub landed_in-anywhere : (wanted : ℕ) (statements : Statements) (m n : ℕ) (a b : List Item)
      → landed (landing_in wanted statements m a) ≡ landed (landing_in wanted statements n b)
  landed_in-anywhere wanted Empty m n a b = refl
  landed_in-anywhere wanted (Then first others) m n a b =
      landed-two (landing wanted first m (executes others (m + counted_points first) a)) (landing_in wanted others (m + counted_points first) a)
      ∙ (ap (λ (next : Next). at_label next (landed (landing_in wanted others (m + counted_points first) a)))
      (landed-anywhere wanted first m n (executes others (m + counted_points first) a) (executes others (n + counted_points first) b))
      ∙ (ap (at_label (landed (landing wanted first n (executes others (n + counted_points first) b))))
      (landed_in-anywhere wanted others (m + counted_points first) (n + counted_points first) a b)
      ∙ sym (landed-two (landing wanted first n (executes others (n + counted_points first) b)) (landing_in wanted others (n + counted_points first) b))))

-- the labels of each form of statement that contains others
pub label_in-IfElse : (label : ℕ) (at : Place) (test : Typed) (body other : Statement)
    → at_label (label_in label body) (label_in label other) ≡ label_in label (IfElse at test body other)
label_in-IfElse label at test body other =
    ap (at_label (label_in label body)) (landed-anywhere label other 0 (0 + counted_points body) [] [])
    ∙ sym (landed-two (landing label body 0 []) (landing label other (0 + counted_points body) []))

pub label_in-While : (label : ℕ) (at : Place) (test : Typed) (body : Statement) → label_in label body ≡ label_in label (While at test body)
label_in-While label at test body = landed-anywhere label body 0 1 [] (Again (While at test body) 0 ∷ (Out ∷ []))

pub label_in-Do : (label : ℕ) (at : Place) (test : Typed) (body : Statement) → label_in label body ≡ label_in label (Do at body test)
label_in-Do label at test body = landed-anywhere label body 0 1 [] (Again (Do at body test) 0 ∷ (Out ∷ []))

pub label_in-For : (label : ℕ) (at : Place) (first : Statements) (test last : Option Typed) (body : Statement)
    → label_in label body ≡ label_in label (For at first test last body)
label_in-For label at first test last body =
    landed-anywhere label body 0 (0 + 1 + counted_points_in first) [] (Again (For at first test last body) 0 ∷ (Out ∷ []))

pub label_in-Switch : (label : ℕ) (at : Place) (value : Typed) (cases : List Case) (statements : Statements)
    → label_in_list label statements ≡ label_in label (Switch at value cases statements)
label_in-Switch label at value cases statements = landed_in-anywhere label statements 0 0 [] (Out ∷ [])

here_or : (here : Bool) (one : Landing) (a b : Option Landing) → landed a ≡ landed b
    → at_label (if here then landed (Some one) else None) (landed a) ≡ landed (if here then Some one else b)
here_or true one a b same = refl
here_or false one a b same = same

pub label_in-Label : (label : ℕ) (at : Place) (number : ℕ) (body : Statement)
    → at_label (one_label number at label) (label_in label body) ≡ label_in label (Label at number body)
label_in-Label label at number body = here_or (number == label) _ _ _ (landed-anywhere label body 0 1 [] [])

pub label_in-Then : (label : ℕ) (first : Statement) (others : Statements)
    → label_in_list label (Then first others) ≡ at_label (label_in label first) (label_in_list label others)
label_in-Then label first others =
    landed-two (landing label first 0 (executes others (0 + counted_points first) [])) (landing_in label others (0 + counted_points first) [])
    ∙ (ap (λ (next : Next). at_label next (landed (landing_in label others (0 + counted_points first) [])))
    (landed-anywhere label first 0 0 (executes others (0 + counted_points first) []) [])
    ∙ ap (at_label (label_in label first)) (landed_in-anywhere label others (0 + counted_points first) 0 [] []))

-- added labels are those of the statement that contains them
pub added : {E : Type 0} (r : Result (Unit {0}) E) (old new some whole : ℕ → Next) → ((label : ℕ) → some label ≡ whole label)
    → OnOk r ((label : ℕ) → new label ≡ at_label (old label) (some label))
    → OnOk r ((label : ℕ) → new label ≡ at_label (old label) (whole label))
added (Ok x) old new some whole same are = λ label. are label ∙ ap (at_label (old label)) (same label)
added (Err e) old new some whole same are = tt

-- labels added one after another
pub added_both : {E : Type 0} (r : Result (Unit {0}) E) (old between new first second whole : ℕ → Next)
    → ((label : ℕ) → between label ≡ at_label (old label) (first label)) → ((label : ℕ) → at_label (first label) (second label) ≡ whole label)
    → OnOk r ((label : ℕ) → new label ≡ at_label (between label) (second label))
    → OnOk r ((label : ℕ) → new label ≡ at_label (old label) (whole label))
added_both (Ok x) old between new first second whole one both are = λ label.
    are label
    ∙ (ap (λ (next : Next). at_label next (second label)) (one label)
    ∙ (at_label-assoc (old label) (first label) (second label)
    ∙ ap (at_label (old label)) (both label)))
added_both (Err e) old between new first second whole one both are = tt
