-- Steps touch a control point exactly if the run is at one: for the laws `lowered_code_follows_flow` and `programs_follow_flow`.
use Rattle.std.proofs.Common.{◌≡◌, ℕ, true, false, List, [], ◌∷◌, ◌++◌, inl, inr, Option, Some, None, refl, sym, ap, ◌∙◌, subst}
use Rattle.std.specs.Prelude.{option_map}
use Rattle.std.specs.Option.{option_to_list}
use Rattle.std.proofs.lemmas.List.{append-nil}
use Rattle.cs_ast.specs.declared.place.Place.{Place}
use Rattle.cs_ast.specs.TypedProgram.{TypedProgram}
use Rattle.cs_events.specs.declared.outcome.RunBudgets.{RunBudgets}
use Rattle.cs_events.specs.declared.point.PointKind.{PointKind}
use Rattle.cs_events.specs.Touches.{Touch, Meets}
use Rattle.cs_events.specs.Runs.{Setting, Log, Performed, Continues, Finishes, perform}
use Rattle.cs_events.specs.Growth.{log_of}
use Rattle.cs_cfg.specs.declared.touch.Touch as reported
use Rattle.cs_cfg.specs.declared.touch.Touch.TheVariants as touch
use Rattle.cs_cfg.specs.Graph.{Work, Number, Null, Text, Local, Global, Nothing, Sum, Member, Arrow, Load, Convert, Unary, Not, Binary, Compare, Difference}
use Rattle.cs_cfg.specs.Graph.{Judge, Store, FetchNumber, Update, FetchPointer, Move, Call, Allocate, Free, Use, Drop, Clear, Zero, StoreLocal, Spell, Reach}
use Rattle.cs_cfg.specs.Graph.{Meet, Close, Operation, BlockEnd, Jump, Branch, Switch, Return, Finish, Code}
use Rattle.cs_cfg.specs.Working.{CodeState}
use Rattle.cs_cfg.specs.CodeSteps.{code_step}
use Rattle.cs_cfg.specs.Touching.{touch_of_work, touch_first, in_frame, HasTouched}
use Rattle.cs_cfg.specs.ControlPoints.{Met, the_point}
use Rattle.cs_cfg.specs.GraphPoints.{met_in}
use Rattle.cs_cfg.specs.FollowingFlow.{TouchesPoint}
use Rattle.cs_cfg.proofs.Keeping.{met_at, met_of}
use Rattle.cs_cfg.proofs.Returning.{go_on_alike}
use Rattle.cs_cfg.proofs.Touched.{steps_touch}

-- the control point that a touch is, if it is one
abbrev point_touched : Option reported.Touch → Option Met
point_touched None = None
point_touched (Some (touch.Point kind at)) = Some (the_point kind at)
point_touched (Some (touch.Load declaration at)) = None
point_touched (Some (touch.Store declaration at)) = None
point_touched (Some (touch.Clear declaration at)) = None

loads_none : (local : Option ℕ) (at : Place) → point_touched (option_map (λ declaration. touch.Load declaration at) local) ≡ None
loads_none None at = refl
loads_none (Some declaration) at = refl

stores_none : (local : Option ℕ) (at : Place) → point_touched (option_map (λ declaration. touch.Store declaration at) local) ≡ None
stores_none None at = refl
stores_none (Some declaration) at = refl

-- the touch reported for an operation is the control point that the operation is
work_point : (at : Place) (work : Work) → point_touched (touch_of_work at work) ≡ met_in at work
work_point at (Number n) = refl
work_point at Null = refl
work_point at (Text literal) = refl
work_point at (Local declaration) = refl
work_point at (Global global) = refl
work_point at Nothing = refl
work_point at (Sum bytes direction order) = refl
work_point at (Member offset) = refl
work_point at (Arrow offset) = refl
work_point at (Load access) = loads_none access.local access.at
work_point at (Convert from to) = refl
work_point at (Unary operator ty) = refl
work_point at Not = refl
work_point at (Binary operator ty) = refl
work_point at (Compare operator) = refl
work_point at (Difference bytes) = refl
work_point at Judge = refl
work_point at (Store access) = stores_none access.local at
work_point at (FetchNumber access works_in) = loads_none access.local access.at
work_point at (Update operator access works_in gives) = stores_none access.local at
work_point at (FetchPointer access) = loads_none access.local access.at
work_point at (Move access bytes direction gives) = stores_none access.local at
work_point at (Call function count) = refl
work_point at (Allocate allocator element) = refl
work_point at Free = refl
work_point at Use = refl
work_point at Drop = refl
work_point at (Clear declaration true) = refl
work_point at (Clear declaration false) = refl
work_point at (Zero declaration) = refl
work_point at (StoreLocal declaration offset ty true) = refl
work_point at (StoreLocal declaration offset ty false) = refl
work_point at (Spell declaration offset bytes) = refl
work_point at (Reach kind counted_point) = refl
work_point at (Meet kind) = refl
work_point at (Close nothing) = refl

-- and so for what comes first at a point
first_point : (operations : List Operation) (end : BlockEnd) → point_touched (touch_first operations end) ≡ met_at operations end
first_point [] (Jump block) = refl
first_point [] (Branch at temporary one other) = refl
first_point [] (Switch at temporary cases otherwise) = refl
first_point [] (Return temporary) = refl
first_point [] Finish = refl
first_point (operation ∷ operations) end = work_point operation.at operation.work

-- a touch that is a control point is recorded as one, and as no other
noted_as : (what : Option reported.Touch) (frame : ℕ) (one : Met) → point_touched what ≡ Some one
    → option_map (in_frame frame) what ≡ Some (Meets one.kind one.at)
noted_as None frame one e = cc
noted_as (Some (touch.Point kind at)) frame one e =
    let same : the_point kind at ≡ one = cc in
    ap (λ (x : Met). Some (Meets x.kind x.at)) same
noted_as (Some (touch.Load declaration at)) frame one e = cc
noted_as (Some (touch.Store declaration at)) frame one e = cc
noted_as (Some (touch.Clear declaration at)) frame one e = cc

is_noted : (what : Option reported.Touch) (frame : ℕ) (kind : PointKind) (at : Place) → option_map (in_frame frame) what ≡ Some (Meets kind at)
    → point_touched what ≡ Some (the_point kind at)
is_noted None frame kind at e = cc
is_noted (Some (touch.Point one there)) frame kind at e =
    let same_kind : one ≡ kind = cc in
    let same_place : there ≡ at = cc in
    ap (λ k. Some (the_point k there)) same_kind ∙ ap (λ p. Some (the_point kind p)) same_place
is_noted (Some (touch.Load declaration there)) frame kind at e = cc
is_noted (Some (touch.Store declaration there)) frame kind at e = cc
is_noted (Some (touch.Clear declaration there)) frame kind at e = cc

-- the one touch that was added was reported
just_noted : (noted : Option Touch) (one : Touch) → option_to_list noted ≡ one ∷ [] → noted ≡ Some one
just_noted None one e = cc
just_noted (Some other) one e = let same : other ≡ one = cc in ap Some same

pub none_added : (before : List Touch) (one : Touch) → before ≡ before ++ one ∷ [] → ⊥
none_added before one e =
    let none : [] ≡ one ∷ [] = go_on_alike before (append-nil before ∙ e) in
    cc

-- what was reported for a step that added a touch
noted_of : {S : Type 0} (before : List Touch) (noted : Option Touch) (one : Touch) (done : Performed S) → HasTouched before noted done
    → (log_of done).touches ≡ before ++ one ∷ [] → noted ≡ Some one
noted_of before noted one (Continues next log) has e = just_noted noted one (go_on_alike before (sym has ∙ e))
noted_of before noted one (Finishes outcome log) (inl none) e = absurd (none_added before one (sym none ∙ e))
noted_of before noted one (Finishes outcome log) (inr has) e = just_noted noted one (go_on_alike before (sym has ∙ e))

module _ (code : Code) (program : TypedProgram) (budgets : RunBudgets) (setting : Setting) where
  -- a step that touches a control point starts there
  pub stands_at_point : (m : CodeState) (log : Log) (one : Met) → TouchesPoint (code_step code program budgets) setting m log one
      → met_of m.frame.todo ≡ Some one
  stands_at_point m log one e =
      let what = touch_first m.frame.todo.operations m.frame.todo.end in
      let touched = steps_touch code program budgets setting m log in
      let noted = noted_of log.touches (option_map (in_frame m.frame.number) what) (Meets one.kind one.at) _ touched e in
      sym (first_point m.frame.todo.operations m.frame.todo.end) ∙ is_noted what m.frame.number one.kind one.at noted

  -- a step from a control point touches it, if the run continues
  pub touches_there : (m next : CodeState) (log later : Log) (one : Met) → met_of m.frame.todo ≡ Some one
      → perform setting log (code_step code program budgets m) ≡ Continues next later → TouchesPoint (code_step code program budgets) setting m log one
  touches_there m next log later one is e =
      let what = touch_first m.frame.todo.operations m.frame.todo.end in
      let noted = noted_as what m.frame.number one (first_point m.frame.todo.operations m.frame.todo.end ∙ is) in
      let has : later.touches ≡ log.touches ++ option_to_list (option_map (in_frame m.frame.number) what) =
      subst (HasTouched log.touches (option_map (in_frame m.frame.number) what)) e (steps_touch code program budgets setting m log) in
      ap (λ (done : Performed CodeState). (log_of done).touches) e ∙ has ∙ ap (λ t. log.touches ++ option_to_list t) noted
