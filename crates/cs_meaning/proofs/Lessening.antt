-- Every silent step of the reference machine lowers the number of turns, or keeps it and lowers the weight.
use Rattle.std.proofs.Common.{◌≡◌, ℕ, ◌+◌, ◌<◌, ◌≤◌, inl, inr, Bool, true, false, List, [], ◌∷◌, Option, Some, None, nat_lt}
use Rattle.std.proofs.Common.{slice_get, if◌then◌else◌, refl, ap, arith}
use Rattle.std.proofs.lemmas.Bool.Decides.{nat_tests}
use Rattle.cs_ast.specs.declared.place.Place.{Place}
use Rattle.cs_ast.specs.TypedTree.{Typed, Initial, Value, Parts, Bytes, Statement, Block, Declare, Run, If, IfElse, While, Do, For, Switch, Goto, Label, Break}
use Rattle.cs_ast.specs.TypedTree.{Continue, Return}
use Rattle.cs_ast.specs.TypedProgram.{TypedProgram}
use Rattle.cs_events.specs.declared.outcome.Outcome.TheVariants.{Over}
use Rattle.cs_events.specs.declared.outcome.Budget.TheVariants.{Visits}
use Rattle.cs_events.specs.declared.outcome.RunBudgets.{RunBudgets}
use Rattle.cs_events.specs.declared.point.PointKind.{PointKind}
use Rattle.cs_events.specs.declared.point.PointKind.TheVariants as point
use Rattle.cs_events.specs.Objects.{LocalObject, UnsetCell}
use Rattle.cs_events.specs.Touches.{Meets, Clears, Stores}
use Rattle.cs_events.specs.Acts.{Act, Goes, Stops, Touches}
use Rattle.cs_events.specs.Silence.{Owes, owes_next, stops, asks, touches, IsBelow, Lessens}
use Rattle.cs_meaning.specs.Memory.{UnsetFill, changed}
use Rattle.cs_meaning.specs.Access.{write_operand}
use Rattle.cs_meaning.specs.Machine.{Operand, Scalar, Item, Evaluate, EvaluateUnused, Act as Acting, Fetch, Choose, Judge, Use, Drop, Store, Spell, Execute}
use Rattle.cs_meaning.specs.Machine.{Decide, Turn, Again, Out, Begin, End, Give, Leave, Frame, State, to_do, pop, with_memory, operand_at, cell_at, routine_of}
use Rattle.cs_meaning.specs.Machine.{body_of}
use Rattle.cs_meaning.specs.CountedPoints.{counted_points, counted_points_in, with_visits, reached_again, reach_counted_point}
use Rattle.cs_meaning.specs.Jumps.{Landing, landing}
use Rattle.cs_meaning.specs.Calls.{leave_to}
use Rattle.cs_meaning.specs.Statements.{local_type, if_scalar, refilled, declare, returns, lands, execute, turned, turn, again, decide}
use Rattle.cs_meaning.specs.Steps.{at_end, do_item, step_with, step}
use Rattle.cs_meaning.proofs.Owing.{owes_branch, owes_touches, owes_wider}
use Rattle.cs_meaning.proofs.Weighing.{executes_weigh, pieces_weigh, broken_light, continued_light, evaluates_light, unused_light}
use Rattle.cs_meaning.proofs.Keeping.{Keeps, act_keeps, fetch_keeps, choose_keeps, judge_keeps, use_keeps}
use Rattle.cs_meaning.proofs.Weights.{weigh, weigh_some_initial, weigh_some, weigh_statement, weigh_again, weigh_item, weigh_items, weigh_frames, weight}
use Rattle.cs_meaning.proofs.Weights.{visits_left, turns_in, turns, one_visit_less}

-- a state below another one with so much more weight
abbrev Under : ℕ → State → ℕ → State → Type 0
Under most m extra next = IsBelow (turns most) weight (turns most m) (extra + weight m) next

-- a state with the same frames and visits, and fewer remaining items
still : (most : ℕ) (m next : State) (extra : ℕ) → next.frame.visits ≡ m.frame.visits → next.callers ≡ m.callers
    → weigh_items next.frame.todo < extra + weigh_items m.frame.todo → Under most m extra next
still most m next extra same_visits same_callers less =
    let a : visits_left most next.frame.visits ≡ visits_left most m.frame.visits = ap (visits_left most) same_visits in
    let b : turns_in most next.callers ≡ turns_in most m.callers = ap (turns_in most) same_callers in
    let c : weigh_frames next.callers ≡ weigh_frames m.callers = ap weigh_frames same_callers in
    inr (omega arith, omega arith)

-- a state that an expression keeps is below, once its item is done
kept_under : (most : ℕ) (m : State) (extra : ℕ) → 0 < extra → (next : State) → Keeps m next → Under most m extra next
kept_under most m extra some next kept =
    let a : weigh_items next.frame.todo ≡ weigh_items m.frame.todo = ap weigh_items kept.todo in
    still most m next extra kept.visits kept.callers (omega arith)

kept_owed : (most : ℕ) (m : State) {act : Act State} → Owes (Keeps m) act → Owes (Under most m 1) act
kept_owed most m owed = owes_wider (Keeps m) (Under most m 1) (kept_under most m 1 (omega arith)) owed

-- one more visit of a counted point lowers the number of turns
visited : (budgets : RunBudgets) (m before : State) (counted_point count extra : ℕ) → m.frame.visits ≡ before.frame.visits
    → m.callers ≡ before.callers → slice_get m.frame.visits counted_point ≡ Some count → nat_lt count budgets.visits ≡ true
    → Under budgets.visits before extra (with_visits counted_point (count + 1) m)
visited budgets m before counted_point count extra same_visits same_callers h room =
    let less = one_visit_less budgets.visits m.frame.visits counted_point count h (grind (arith, nat_tests)) in
    let a : visits_left budgets.visits m.frame.visits ≡ visits_left budgets.visits before.frame.visits = ap (visits_left budgets.visits) same_visits in
    let b : turns_in budgets.visits m.callers ≡ turns_in budgets.visits before.callers = ap (turns_in budgets.visits) same_callers in
    inl (omega arith)

counted_point_again : (budgets : RunBudgets) (at : Place) (kind : PointKind) (m before : State) (counted_point count extra : ℕ) (room : Bool)
    → m.frame.visits ≡ before.frame.visits → m.callers ≡ before.callers → slice_get m.frame.visits counted_point ≡ Some count
    → nat_lt count budgets.visits ≡ room
    → Owes (Under budgets.visits before extra) (if room then Touches (Meets kind at) (Goes (with_visits counted_point (count + 1) m))
    else Stops (Over Visits at))
counted_point_again budgets at kind m before counted_point count extra true same_visits same_callers h room =
    touches (owes_next (visited budgets m before counted_point count extra same_visits same_callers h room))
counted_point_again budgets at kind m before counted_point count extra false same_visits same_callers h room = stops

counted_point_counted : (budgets : RunBudgets) (at : Place) (kind : PointKind) (m before : State) (counted_point extra : ℕ) (count : Option ℕ)
    → m.frame.visits ≡ before.frame.visits → m.callers ≡ before.callers → slice_get m.frame.visits counted_point ≡ count
    → Owes (Under budgets.visits before extra) (reached_again budgets at kind counted_point count m)
counted_point_counted budgets at kind m before counted_point extra None same_visits same_callers h = stops
counted_point_counted budgets at kind m before counted_point extra (Some count) same_visits same_callers h =
    counted_point_again budgets at kind m before counted_point count extra (nat_lt count budgets.visits) same_visits same_callers h refl

owes_counted_point : (budgets : RunBudgets) (at : Place) (kind : PointKind) (counted_point : ℕ) (m before : State) (extra : ℕ)
    → m.frame.visits ≡ before.frame.visits → m.callers ≡ before.callers
    → Owes (Under budgets.visits before extra) (reach_counted_point budgets at kind counted_point m)
owes_counted_point budgets at kind counted_point m before extra same_visits same_callers =
    counted_point_counted budgets at kind m before counted_point extra (slice_get m.frame.visits counted_point) same_visits same_callers refl

-- a state below some weight is below a greater one
as_much : (most : ℕ) (m next : State) (much more : ℕ) → much ≤ more → IsBelow (turns most) weight (turns most m) much next
    → IsBelow (turns most) weight (turns most m) more next
as_much most m next much more h (inl fewer) = inl fewer
as_much most m next much more h (inr light) =
    let as_few = light.0 in
    let lighter = light.1 in
    inr (as_few, omega arith)

-- a step to a state with the same frames and visits, and fewer remaining items
goes_light : (most : ℕ) (m next : State) (extra : ℕ) → next.frame.visits ≡ m.frame.visits → next.callers ≡ m.callers
    → weigh_items next.frame.todo < extra + weigh_items m.frame.todo → Owes (Under most m extra) (Goes next)
goes_light most m next extra same_visits same_callers less = owes_next (still most m next extra same_visits same_callers less)

module _ (program : TypedProgram) (budgets : RunBudgets) where
  declare_owes : (at : Place) (declaration : ℕ) (initial : Option Initial) (m : State)
      → Owes (Under budgets.visits m (1 + weigh_some_initial initial)) (declare program at declaration initial m)
  declare_owes at declaration None m =
      owes_touches (Under budgets.visits m 1) (λ local. Clears m.frame.number local at) (if_scalar (local_type program declaration m) declaration)
      (Goes (refilled UnsetFill declaration m))
      (goes_light budgets.visits m (refilled UnsetFill declaration m) 1 refl refl (omega arith))
  declare_owes at declaration (Some (Value e)) m = goes_light budgets.visits m _ (1 + weigh_some_initial (Some (Value e))) refl refl (omega arith)
  declare_owes at declaration (Some (Bytes bytes)) m = goes_light budgets.visits m _ (1 + weigh_some_initial (Some (Bytes bytes))) refl refl (omega arith)
  declare_owes at declaration (Some (Parts parts)) m =
      let all = pieces_weigh program at declaration (local_type program declaration m) 0 (Parts parts) m.frame.todo in
      goes_light budgets.visits m _ (1 + weigh_some_initial (Some (Parts parts))) refl refl (omega arith)

  lands_owes : (landed : Option Landing) (m : State) → Owes (Under budgets.visits m 1) (lands budgets landed m)
  lands_owes None m = goes_light budgets.visits m m 1 refl refl (omega arith)
  lands_owes (Some landed) m = owes_counted_point budgets landed.at point.Label landed.counted_point (to_do landed.todo m) m 1 refl refl

  returns_owes : (at : Place) (value : Option Typed) (m : State) → Owes (Under budgets.visits m (3 + weigh_some value)) (Goes (returns at value m))
  returns_owes at None m = goes_light budgets.visits m _ (3 + weigh_some None) refl refl (omega arith)
  returns_owes at (Some e) m = goes_light budgets.visits m _ (3 + weigh_some (Some e)) refl refl (omega arith)

  execute_owes : (ending : List Item) (s : Statement) (counted_point : ℕ) (m : State)
      → Owes (Under budgets.visits m (weigh_statement s)) (execute program budgets ending s counted_point m)
  execute_owes ending (Block at statements) counted_point m =
      let all = executes_weigh statements counted_point m.frame.todo in
      goes_light budgets.visits m _ (weigh_statement (Block at statements)) refl refl (omega arith)
  execute_owes ending (Declare at declaration initial) counted_point m = declare_owes at declaration initial m
  execute_owes ending (Run at e) counted_point m = goes_light budgets.visits m _ (weigh_statement (Run at e)) refl refl (omega arith)
  execute_owes ending (If at test body) counted_point m = goes_light budgets.visits m _ (weigh_statement (If at test body)) refl refl (omega arith)
  execute_owes ending (IfElse at test body other) counted_point m =
      goes_light budgets.visits m _ (weigh_statement (IfElse at test body other)) refl refl (omega arith)
  execute_owes ending (While at test body) counted_point m = goes_light budgets.visits m _ 3 refl refl (omega arith)
  execute_owes ending (Do at body test) counted_point m = goes_light budgets.visits m _ 3 refl refl (omega arith)
  execute_owes ending (For at first test last body) counted_point m =
      let all = executes_weigh first (counted_point + 1) (Turn (For at first test last body) counted_point ∷ (Out ∷ m.frame.todo)) in
      goes_light budgets.visits m _ (weigh_statement (For at first test last body)) refl refl (omega arith)
  execute_owes ending (Switch at value cases statements) counted_point m =
      goes_light budgets.visits m _ (weigh_statement (Switch at value cases statements)) refl refl (omega arith)
  execute_owes ending (Goto at wanted) counted_point m = lands_owes (landing wanted (body_of (routine_of program m.frame.function)) 0 ending) m
  execute_owes ending (Label at number body) counted_point m =
      owes_counted_point budgets at point.Label counted_point (to_do (Execute body (counted_point + 1) ∷ m.frame.todo) m) m 1 refl refl
  execute_owes ending (Break at) counted_point m =
      let less = broken_light m.frame.todo in
      goes_light budgets.visits m _ 1 refl refl (omega arith)
  execute_owes ending (Continue at) counted_point m =
      let less = continued_light m.frame.todo in
      goes_light budgets.visits m _ 1 refl refl (omega arith)
  execute_owes ending (Return at value) counted_point m = returns_owes at value m

  turn_owes : (s : Statement) (counted_point : ℕ) (m : State) → Owes (Under budgets.visits m 1) (turn budgets s counted_point m)
  turn_owes (Block at statements) counted_point m = goes_light budgets.visits m m 1 refl refl (omega arith)
  turn_owes (Declare at declaration initial) counted_point m = goes_light budgets.visits m m 1 refl refl (omega arith)
  turn_owes (Run at e) counted_point m = goes_light budgets.visits m m 1 refl refl (omega arith)
  turn_owes (If at test body) counted_point m = goes_light budgets.visits m m 1 refl refl (omega arith)
  turn_owes (IfElse at test body other) counted_point m = goes_light budgets.visits m m 1 refl refl (omega arith)
  turn_owes (While at test body) counted_point m =
      owes_counted_point budgets at point.Head counted_point (to_do (turned (While at test body) counted_point m.frame.todo) m) m 1 refl refl
  turn_owes (Do at body test) counted_point m =
      owes_counted_point budgets at point.Head counted_point (to_do (turned (Do at body test) counted_point m.frame.todo) m) m 1 refl refl
  turn_owes (For at first test last body) counted_point m =
      owes_counted_point budgets at point.Head counted_point (to_do (turned (For at first test last body) counted_point m.frame.todo) m) m 1 refl refl
  turn_owes (Switch at value cases statements) counted_point m = goes_light budgets.visits m m 1 refl refl (omega arith)
  turn_owes (Goto at wanted) counted_point m = goes_light budgets.visits m m 1 refl refl (omega arith)
  turn_owes (Label at number body) counted_point m = goes_light budgets.visits m m 1 refl refl (omega arith)
  turn_owes (Break at) counted_point m = goes_light budgets.visits m m 1 refl refl (omega arith)
  turn_owes (Continue at) counted_point m = goes_light budgets.visits m m 1 refl refl (omega arith)
  turn_owes (Return at value) counted_point m = goes_light budgets.visits m m 1 refl refl (omega arith)

  decide_owes : (s : Statement) (counted_point : ℕ) (m : State) → Owes (Under budgets.visits m 1) (decide s counted_point m)
  decide_owes (If at test body) counted_point m =
      owes_branch (Under budgets.visits m 1) at (cell_at m 0) (λ holds.
      Goes (to_do (if holds then Execute body counted_point ∷ m.frame.todo else m.frame.todo) (pop m)))
  decide_owes (IfElse at test body other) counted_point m =
      owes_branch (Under budgets.visits m 1) at (cell_at m 0) (λ holds.
      Goes (to_do (if holds then Execute body counted_point ∷ m.frame.todo else Execute other (counted_point + counted_points body) ∷ m.frame.todo)
      (pop m)))
  decide_owes (While at test body) counted_point m =
      owes_branch (Under budgets.visits m 1) at (cell_at m 0) (λ holds.
      Goes (to_do (if holds then Execute body (counted_point + 1) ∷ (Again (While at test body) counted_point ∷ m.frame.todo) else m.frame.todo)
      (pop m)))
  decide_owes (Do at body test) counted_point m =
      owes_branch (Under budgets.visits m 1) at (cell_at m 0) (λ holds.
      Goes (to_do (if holds then Turn (Do at body test) counted_point ∷ m.frame.todo else m.frame.todo) (pop m)))
  decide_owes (For at first test last body) counted_point m =
      owes_branch (Under budgets.visits m 1) at (cell_at m 0) (λ holds.
      Goes (to_do (if holds then Execute body (counted_point + 1 + counted_points_in first)
      ∷ (Again (For at first test last body) counted_point ∷ m.frame.todo) else m.frame.todo) (pop m)))
  decide_owes (Switch at value cases statements) counted_point m = touches asks
  decide_owes (Block at statements) counted_point m = goes_light budgets.visits m m 1 refl refl (omega arith)
  decide_owes (Declare at declaration initial) counted_point m = goes_light budgets.visits m m 1 refl refl (omega arith)
  decide_owes (Run at e) counted_point m = goes_light budgets.visits m m 1 refl refl (omega arith)
  decide_owes (Goto at wanted) counted_point m = goes_light budgets.visits m m 1 refl refl (omega arith)
  decide_owes (Label at number body) counted_point m = goes_light budgets.visits m m 1 refl refl (omega arith)
  decide_owes (Break at) counted_point m = goes_light budgets.visits m m 1 refl refl (omega arith)
  decide_owes (Continue at) counted_point m = goes_light budgets.visits m m 1 refl refl (omega arith)
  decide_owes (Return at value) counted_point m = goes_light budgets.visits m m 1 refl refl (omega arith)

  again_owes : (s : Statement) (counted_point : ℕ) (m : State)
      → Owes (Under budgets.visits m (1 + weigh_again s)) (Goes (to_do (again s counted_point m.frame.todo) m))
  again_owes (Block at statements) counted_point m = goes_light budgets.visits m _ (1 + weigh_again (Block at statements)) refl refl (omega arith)
  again_owes (Declare at declaration initial) counted_point m =
      goes_light budgets.visits m _ (1 + weigh_again (Declare at declaration initial)) refl refl (omega arith)
  again_owes (Run at e) counted_point m = goes_light budgets.visits m _ (1 + weigh_again (Run at e)) refl refl (omega arith)
  again_owes (If at test body) counted_point m = goes_light budgets.visits m _ (1 + weigh_again (If at test body)) refl refl (omega arith)
  again_owes (IfElse at test body other) counted_point m = goes_light budgets.visits m _ (1 + weigh_again (IfElse at test body other)) refl refl (omega arith)
  again_owes (While at test body) counted_point m = goes_light budgets.visits m _ (1 + weigh_again (While at test body)) refl refl (omega arith)
  again_owes (Do at body test) counted_point m = goes_light budgets.visits m _ (1 + weigh_again (Do at body test)) refl refl (omega arith)
  again_owes (For at first test None body) counted_point m = goes_light budgets.visits m _ 2 refl refl (omega arith)
  again_owes (For at first test (Some e) body) counted_point m =
      goes_light budgets.visits m _ (1 + weigh_again (For at first test (Some e) body)) refl refl (omega arith)
  again_owes (Switch at value cases statements) counted_point m =
      goes_light budgets.visits m _ (1 + weigh_again (Switch at value cases statements)) refl refl (omega arith)
  again_owes (Goto at wanted) counted_point m = goes_light budgets.visits m _ (1 + weigh_again (Goto at wanted)) refl refl (omega arith)
  again_owes (Label at number body) counted_point m = goes_light budgets.visits m _ (1 + weigh_again (Label at number body)) refl refl (omega arith)
  again_owes (Break at) counted_point m = goes_light budgets.visits m _ (1 + weigh_again (Break at)) refl refl (omega arith)
  again_owes (Continue at) counted_point m = goes_light budgets.visits m _ (1 + weigh_again (Continue at)) refl refl (omega arith)
  again_owes (Return at value) counted_point m = goes_light budgets.visits m _ (1 + weigh_again (Return at value)) refl refl (omega arith)

  leave_owes : (callers : List Frame) (value : Operand) (m : State) (extra : ℕ) → m.callers ≡ callers
      → Owes (Under budgets.visits m extra) (leave_to callers value m)
  leave_owes [] value m extra h = stops
  leave_owes (caller ∷ callers) value m extra h =
      let a : turns_in budgets.visits m.callers ≡ visits_left budgets.visits caller.visits + turns_in budgets.visits callers =
      ap (turns_in budgets.visits) h in
      let b : weigh_frames m.callers ≡ (1 + weigh_items caller.todo) + weigh_frames callers = ap weigh_frames h in
      owes_next (inr (omega arith, omega arith))

  item_owes : (item : Item) (m : State) → Owes (Under budgets.visits m (weigh_item item)) (do_item program budgets item m)
  item_owes (Evaluate e) m =
      let light = evaluates_light e m.frame.todo in
      goes_light budgets.visits m _ (weigh e) refl refl light
  item_owes (EvaluateUnused e) m =
      let light = unused_light e m.frame.todo in
      goes_light budgets.visits m _ (weigh e) refl refl light
  item_owes (Acting e) m = kept_owed budgets.visits m (act_keeps program budgets e m)
  item_owes (Fetch e) m = kept_owed budgets.visits m (fetch_keeps program budgets e m)
  item_owes (Choose e) m = kept_owed budgets.visits m (choose_keeps program budgets e m)
  item_owes (Judge at) m = kept_owed budgets.visits m (judge_keeps program budgets at m)
  item_owes (Use at) m = kept_owed budgets.visits m (use_keeps program budgets at (operand_at m 0) m)
  item_owes Drop m = goes_light budgets.visits m _ 1 refl refl (omega arith)
  item_owes (Store at declaration offset ty) m =
      owes_touches (Under budgets.visits m 1) (λ local. Stores m.frame.number local at) (if_scalar (local_type program declaration m) declaration)
      (Goes (with_memory (changed (write_operand program ty offset (operand_at m 0)) (LocalObject m.frame.number declaration) m.memory) (pop m)))
      (goes_light budgets.visits m _ 1 refl refl (omega arith))
  item_owes (Spell declaration offset bytes) m = goes_light budgets.visits m _ 1 refl refl (omega arith)
  item_owes (Execute s counted_point) m = execute_owes (at_end (routine_of program m.frame.function)) s counted_point m
  item_owes (Decide s counted_point) m = decide_owes s counted_point m
  item_owes (Turn s counted_point) m = turn_owes s counted_point m
  item_owes (Again s counted_point) m = again_owes s counted_point m
  item_owes Out m = goes_light budgets.visits m m 1 refl refl (omega arith)
  item_owes (Begin at) m = touches (goes_light budgets.visits m m 1 refl refl (omega arith))
  item_owes (End at value) m = touches (goes_light budgets.visits m _ 2 refl refl (omega arith))
  item_owes (Give at) m = touches (goes_light budgets.visits m _ 2 refl refl (omega arith))
  item_owes Leave m = leave_owes m.callers (operand_at m 0) m 1 refl

  step_owes : (todo : List Item) (m : State) → m.frame.todo ≡ todo
      → Owes (IsBelow (turns budgets.visits) weight (turns budgets.visits m) (weight m)) (step_with program budgets todo m)
  step_owes [] m h =
      owes_wider (Under budgets.visits m 0) (IsBelow (turns budgets.visits) weight (turns budgets.visits m) (weight m))
      (λ next below. as_much budgets.visits m next (0 + weight m) (weight m) (omega arith) below)
      (leave_owes m.callers (Scalar UnsetCell) m 0 refl)
  step_owes (item ∷ following) m h =
      let a : weigh_items m.frame.todo ≡ weigh_item item + weigh_items following = ap weigh_items h in
      owes_wider (Under budgets.visits (to_do following m) (weigh_item item)) (IsBelow (turns budgets.visits) weight (turns budgets.visits m) (weight m))
      (λ next below. as_much budgets.visits m next (weigh_item item + weight (to_do following m)) (weight m) (omega arith) below)
      (item_owes item (to_do following m))

  -- each silent step lowers the number of turns, or keeps it and lowers the weight
  pub lessens : Lessens (step program budgets) (turns budgets.visits) weight
  lessens m = step_owes m.frame.todo m refl
