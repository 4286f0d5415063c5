-- A step that leaves a control point shows the edge, and leaves the running frame where the graph continues by it: for the laws
-- `lowered_code_follows_flow` and `programs_follow_flow`.
use Rattle.std.specs.Prelude.{◌⊎◌}
use Rattle.std.proofs.Common.{◌≡◌, ℕ, suc, ◌+◌, nat_lt, ℤ, Bool, true, false, List, [], ◌∷◌, ◌++◌, length, map, Option, Some, None}
use Rattle.std.proofs.Common.{slice_get, inl, inr}
use Rattle.std.proofs.Common.{unwrap_or, if◌then◌else◌, arith, refl, sym, ap, ◌∙◌, subst}
use Rattle.std.specs.Ordering.{int_eq}
use Rattle.std.proofs.lemmas.List.{append-nil}
use Rattle.cs_ast.specs.declared.place.Place.{Place}
use Rattle.cs_ast.specs.TypedProgram.{TypedProgram}
use Rattle.cs_events.specs.declared.event.Event.{Event}
use Rattle.cs_events.specs.declared.event.Label.TheVariants as label
use Rattle.cs_events.specs.declared.operation.Operation.TheVariants as operation
use Rattle.cs_events.specs.declared.outcome.RunBudgets.{RunBudgets}
use Rattle.cs_events.specs.declared.point.PointKind.{PointKind}
use Rattle.cs_events.specs.declared.point.PointKind.TheVariants as point
use Rattle.cs_events.specs.Operations.{is_true}
use Rattle.cs_events.specs.Objects.{Cell, NumberCell, NullCell, PointerCell, UnsetCell}
use Rattle.cs_events.specs.Touches.{Meets}
use Rattle.cs_events.specs.Acts.{Goes, Stops, Touches}
use Rattle.cs_events.specs.declared.outcome.Outcome.TheVariants.{Over}
use Rattle.cs_events.specs.declared.outcome.Budget.TheVariants.{Visits}
use Rattle.cs_events.specs.Runs.{Setting, Log, Continues, perform, with_operation, with_touch, allows_event}
use Rattle.cs_meaning.specs.Initials.{number_in}
use Rattle.cs_meaning.specs.Access.{shows_then}
use Rattle.cs_meaning.specs.Operators.{branch}
use Rattle.cs_meaning.specs.Machine.{to_do, pop, cell_at}
use Rattle.cs_meaning.specs.CountedPoints.{with_visits, reached_again}
use Rattle.cs_cfg.specs.Graph.{Work, Number, Null, Text, Local, Global, Nothing, Sum, Member, Arrow, Load, Convert, Unary, Not, Binary, Compare, Difference}
use Rattle.cs_cfg.specs.Graph.{Judge, Store, FetchNumber, Update, FetchPointer, Move, Call, Allocate, Free, Use, Drop, Clear, Zero, StoreLocal, Spell, Reach}
use Rattle.cs_cfg.specs.Graph.{Meet, Close, Operation, SwitchCase, BlockEnd, Jump, Branch, Switch, Return, Finish, Point, Flow, no_flow, Code, flow_of}
use Rattle.cs_cfg.specs.Graph.{block_of, block_in}
use Rattle.cs_cfg.specs.Working.{CodeState, cut, takes, do_work}
use Rattle.cs_cfg.specs.CodeSteps.{enters, Way, way_of, do_end, step_at}
use Rattle.cs_cfg.specs.ControlPoints.{Met, the_point, Exit, Onward, TruthOf, CaseOf}
use Rattle.cs_cfg.specs.GraphPoints.{met_in, goes_on, Leads, onward, on_truth, on_case, on_no_case}
use Rattle.cs_cfg.specs.FollowingFlow.{ShowsExit}
use Rattle.cs_cfg.proofs.Keeping.{met_at}
use Rattle.cs_cfg.proofs.FrameSteps.{in_room, stand_of, stands_of}

-- the case that a number selects is one of the list, or there is none
abbrev WayIs : List SwitchCase → ℕ → Way → ℕ → Type 0
WayIs cases otherwise way count = ((number : ℕ) × (taken : SwitchCase) × (slice_get cases number ≡ Some taken) × (way.number ≡ count + number)
    × (way.block ≡ taken.block)) ⊎ ((way.number ≡ count + length cases) × (way.block ≡ otherwise))

way_is : (cases : List SwitchCase) (otherwise : ℕ) (number : ℤ) (count : ℕ) → WayIs cases otherwise (way_of cases otherwise number count) count
way_is [] otherwise number count = inr (omega arith, refl)
way_is (one ∷ cases) otherwise number count = by_value (int_eq one.value number) (way_is cases otherwise number (count + 1))
  where
    by_value : (is : Bool) → WayIs cases otherwise (way_of cases otherwise number (count + 1)) (count + 1)
        → WayIs (one ∷ cases) otherwise (if is then record { number = count; block = one.block } else way_of cases otherwise number (count + 1)) count
    by_value true others = inl (0, one, refl, omega arith, refl)
    by_value false (inl found) =
        let same : (count + 1) + found.0 ≡ count + suc found.0 = omega arith in
        inl (suc found.0, found.1, found.2, found.3 ∙ same, found.4)
    by_value false (inr none) =
        let same : (count + 1) + length cases ≡ count + suc (length cases) = omega arith in
        inr (none.0 ∙ same, none.1)

-- what a step keeps: where the frames are, and what was shown
record Passed (m next : CodeState) (log later : Log) : Type 0 where
  stands : stands_of next ≡ stands_of m
  frames : next.frames ≡ m.frames
  shows : later.events ≡ log.events

passed : (m next s : CodeState) (log later near : Log) → Continues s near ≡ Continues next later → stands_of s ≡ stands_of m → s.frames ≡ m.frames
    → near.events ≡ log.events → Passed m next log later
passed m next s log later near e stands frames shows =
    let same : s ≡ next = cc in
    let same_log : near ≡ later = cc in
    record {
      stands = ap stands_of (sym same) ∙ stands;
      frames = ap (λ (x : CodeState). x.frames) (sym same) ∙ frames;
      shows = ap (λ (l : Log). l.events) (sym same_log) ∙ shows;
    }

no_point_met : {P : Type 0} {one : Met} → None ≡ Some one → P
no_point_met e = cc

-- a test has taken the edge that it shows
record Tested (at : Place) (further : Bool → CodeState) (log later : Log) (next : CodeState) : Type 0 where
  holds : Bool
  goes : further holds ≡ next
  shown : ShowsExit at (TruthOf holds) log later

module _ (setting : Setting) where
  -- reaching a counted point shows nothing
  passed_counted : (budgets : RunBudgets) (at : Place) (kind : PointKind) (counted_point : ℕ) (count : Option ℕ) (m next : CodeState) (log later : Log)
      → perform setting log (reached_again budgets at kind counted_point count m) ≡ Continues next later → Passed m next log later
  unfolding perform
  passed_counted budgets at kind counted_point None m next log later e = cc
  passed_counted budgets at kind counted_point (Some count) m next log later e = within (nat_lt count budgets.visits) e
    where
      within : (may : Bool)
          → perform setting log (if may then Touches (Meets kind at) (Goes (with_visits counted_point (count + 1) m)) else Stops (Over Visits at))
          ≡ Continues next later → Passed m next log later
      within true e = passed m next _ log later _ e refl refl refl
      within false e = cc

  -- the edge that a test takes, after what it has shown about its pointer
  takes_way : (at : Place) (further : Bool → CodeState) (holds : Bool) (looked : List Event) (log near later : Log) (next : CodeState)
      → near.events ≡ log.events ++ looked
      → perform setting near (Touches (Meets point.Branch at) (shows_then at (label.Branch holds) (Goes (further holds)))) ≡ Continues next later
      → Tested at further log later next
  unfolding perform
  takes_way at further holds looked log near later next before e =
      let went : Continues (further holds) (with_operation setting (with_touch near (Meets point.Branch at)) at (operation.Show (label.Branch holds)))
      ≡ Continues next later = in_room (allows_event setting (with_touch near (Meets point.Branch at))) _ _ _ e in
      let same : further holds ≡ next = cc in
      let same_log : with_operation setting (with_touch near (Meets point.Branch at)) at (operation.Show (label.Branch holds)) ≡ later = cc in
      record {
        holds = holds;
        goes = same;
        shown = (
          looked,
          ap (λ (l : Log). l.events) (sym same_log)
              ∙ ap (λ (events : List Event). events ++ record { place = at; label = label.Branch holds } ∷ []) before,
        );
      }

  tested : (at : Place) (further : Bool → CodeState) (cell : Cell) (log later : Log) (next : CodeState)
      → perform setting log (branch at cell (λ holds. Goes (further holds))) ≡ Continues next later → Tested at further log later next
  unfolding perform
  tested at further (NumberCell n) log later next e = takes_way at further (is_true n) [] log log later next (sym (append-nil log.events)) e
  tested at further NullCell log later next e =
      takes_way at further false _ log (with_operation setting log at (operation.Show (label.Look false))) later next refl
      (in_room (allows_event setting log) _ _ _ e)
  tested at further (PointerCell object offset) log later next e =
      takes_way at further true _ log (with_operation setting log at (operation.Show (label.Look true))) later next refl
      (in_room (allows_event setting log) _ _ _ e)
  tested at further UnsetCell log later next e = takes_way at further false [] log log later next (sym (append-nil log.events)) e

  -- the edge that a `switch` takes
  switched : (at : Place) (number : ℕ) (s next : CodeState) (log later : Log)
      → perform setting log (Touches (Meets point.Switch at) (shows_then at (label.Case number) (Goes s))) ≡ Continues next later
      → (s ≡ next) × ShowsExit at (CaseOf number) log later
  unfolding perform
  switched at number s next log later e =
      let went : Continues s (with_operation setting (with_touch log (Meets point.Switch at)) at (operation.Show (label.Case number)))
      ≡ Continues next later = in_room (allows_event setting (with_touch log (Meets point.Switch at))) _ _ _ e in
      let same : s ≡ next = cc in
      let same_log : with_operation setting (with_touch log (Meets point.Switch at)) at (operation.Show (label.Case number)) ≡ later = cc in
      (same, ap (λ (l : Log). l.events) (sym same_log))

module _ (code : Code) (program : TypedProgram) (budgets : RunBudgets) (setting : Setting) where
  -- an operation that is a control point shows nothing
  passed_work : (at : Place) (work : Work) (m next : CodeState) (log later : Log) (one : Met) → met_in at work ≡ Some one
      → perform setting log (do_work code program budgets at work m) ≡ Continues next later → Passed m next log later
  unfolding perform
  passed_work at (Number n) m next log later one is e = no_point_met is
  passed_work at Null m next log later one is e = no_point_met is
  passed_work at (Text literal) m next log later one is e = no_point_met is
  passed_work at (Local declaration) m next log later one is e = no_point_met is
  passed_work at (Global global) m next log later one is e = no_point_met is
  passed_work at Nothing m next log later one is e = no_point_met is
  passed_work at (Sum bytes direction order) m next log later one is e = no_point_met is
  passed_work at (Member offset) m next log later one is e = no_point_met is
  passed_work at (Arrow offset) m next log later one is e = no_point_met is
  passed_work at (Load access) m next log later one is e = no_point_met is
  passed_work at (Convert from to) m next log later one is e = no_point_met is
  passed_work at (Unary operator ty) m next log later one is e = no_point_met is
  passed_work at Not m next log later one is e = no_point_met is
  passed_work at (Binary operator ty) m next log later one is e = no_point_met is
  passed_work at (Compare operator) m next log later one is e = no_point_met is
  passed_work at (Difference bytes) m next log later one is e = no_point_met is
  passed_work at Judge m next log later one is e = no_point_met is
  passed_work at (Store access) m next log later one is e = no_point_met is
  passed_work at (FetchNumber access works_in) m next log later one is e = no_point_met is
  passed_work at (Update operator access works_in gives) m next log later one is e = no_point_met is
  passed_work at (FetchPointer access) m next log later one is e = no_point_met is
  passed_work at (Move access bytes direction gives) m next log later one is e = no_point_met is
  passed_work at (Call function count) m next log later one is e = no_point_met is
  passed_work at (Allocate allocator element) m next log later one is e = no_point_met is
  passed_work at Free m next log later one is e = no_point_met is
  passed_work at Use m next log later one is e = no_point_met is
  passed_work at Drop m next log later one is e = no_point_met is
  passed_work at (Clear declaration scalar) m next log later one is e = no_point_met is
  passed_work at (Zero declaration) m next log later one is e = no_point_met is
  passed_work at (StoreLocal declaration offset ty scalar) m next log later one is e = no_point_met is
  passed_work at (Spell declaration offset bytes) m next log later one is e = no_point_met is
  passed_work at (Reach kind counted_point) m next log later one is e =
      passed_counted setting budgets at kind counted_point (slice_get m.frame.visits counted_point) m next log later e
  passed_work at (Meet kind) m next log later one is e = passed m next _ log later _ e refl refl refl
  passed_work at (Close nothing) m next log later one is e = passed m next _ log later _ e refl refl refl

  -- a step has left a control point: by an edge that it shows, to where the graph continues
  pub record Leaves (flow : Flow) (p : Point) (m next : CodeState) (log later : Log) (one : Met) : Type 0 where
    pub exit : Exit
    pub to : Point
    pub leads : Leads flow p one exit to
    pub shown : ShowsExit one.at exit log later
    pub stands : stands_of next ≡ record { function = m.frame.function; number = m.frame.number; here = to } ∷ map stand_of m.callers
    pub frames : next.frames ≡ m.frames

  module _ (flow : Flow) (m : CodeState) (has_flow : flow_of code m.frame.function ≡ Some flow) where
    same_block : (block : ℕ) → block_in code m.frame.function block ≡ block_of flow block
    same_block block = ap (λ found. block_of (unwrap_or found no_flow) block) has_flow

    at_branch : (at : Place) (temporary one other : ℕ) (next : CodeState) (log later : Log)
        → perform setting log (do_end code (Branch at temporary one other) m) ≡ Continues next later
        → Leaves flow (record { operations = []; end = Branch at temporary one other }) m next log later (the_point point.Branch at)
    at_branch at temporary one other next log later e =
        let went = tested setting at (λ holds. enters code (if holds then one else other) (pop (cut (temporary + 1) m))) _ log later next e in
        let block = if went.holds then one else other in
        record {
          exit = TruthOf went.holds;
          to = block_of flow block;
          leads = on_truth;
          shown = went.shown;
          stands = ap stands_of (sym went.goes)
              ∙ ap (λ p. record { function = m.frame.function; number = m.frame.number; here = p } ∷ map stand_of m.callers) (same_block block);
          frames = ap (λ (x : CodeState). x.frames) (sym went.goes);
        }

    from_zero : (n : ℕ) → 0 + n ≡ n
    from_zero n = omega arith

    case_leads : (at : Place) (temporary otherwise : ℕ) (cases : List SwitchCase) (way : Way) → WayIs cases otherwise way 0
        → Leads flow (record { operations = []; end = Switch at temporary cases otherwise }) (the_point point.Switch at) (CaseOf way.number)
        (block_of flow way.block)
    case_leads at temporary otherwise cases way (inl found) =
        subst (λ n. Leads flow (record { operations = []; end = Switch at temporary cases otherwise }) (the_point point.Switch at) (CaseOf n)
        (block_of flow way.block)) (sym (found.3 ∙ from_zero found.0))
        (subst (λ b. Leads flow (record { operations = []; end = Switch at temporary cases otherwise }) (the_point point.Switch at) (CaseOf found.0)
        (block_of flow b)) (sym found.4) (on_case found.2))
    case_leads at temporary otherwise cases way (inr none) =
        subst (λ n. Leads flow (record { operations = []; end = Switch at temporary cases otherwise }) (the_point point.Switch at) (CaseOf n)
        (block_of flow way.block)) (sym (none.0 ∙ from_zero (length cases)))
        (subst (λ b. Leads flow (record { operations = []; end = Switch at temporary cases otherwise }) (the_point point.Switch at) (CaseOf (length cases))
        (block_of flow b)) (sym none.1) on_no_case)

    at_switch : (at : Place) (temporary otherwise : ℕ) (cases : List SwitchCase) (next : CodeState) (log later : Log)
        → perform setting log (do_end code (Switch at temporary cases otherwise) m) ≡ Continues next later
        → Leaves flow (record { operations = []; end = Switch at temporary cases otherwise }) m next log later (the_point point.Switch at)
    at_switch at temporary otherwise cases next log later e =
        let value = number_in (cell_at (cut (temporary + 1) m) 0) in
        let way = way_of cases otherwise value 0 in
        let went = switched setting at way.number (enters code way.block (pop (cut (temporary + 1) m))) next log later e in
        record {
          exit = CaseOf way.number;
          to = block_of flow way.block;
          leads = case_leads at temporary otherwise cases way (way_is cases otherwise value 0);
          shown = went.1;
          stands = ap stands_of (sym went.0)
              ∙ ap (λ p. record { function = m.frame.function; number = m.frame.number; here = p } ∷ map stand_of m.callers) (same_block way.block);
          frames = ap (λ (x : CodeState). x.frames) (sym went.0);
        }

    pub leaves_from : (operations : List Operation) (end : BlockEnd) (next : CodeState) (log later : Log) (one : Met) → met_at operations end ≡ Some one
        → goes_on one.kind ≡ true → perform setting log (step_at code program budgets operations end m) ≡ Continues next later
        → Leaves flow (record { operations = operations; end = end }) m next log later one
    leaves_from [] (Jump block) next log later one is on e = cc
    leaves_from [] (Branch at temporary first other) next log later one is on e =
        let same : the_point point.Branch at ≡ one = cc in
        subst (Leaves flow (record { operations = []; end = Branch at temporary first other }) m next log later) same
        (at_branch at temporary first other next log later e)
    leaves_from [] (Switch at temporary cases otherwise) next log later one is on e =
        let same : the_point point.Switch at ≡ one = cc in
        subst (Leaves flow (record { operations = []; end = Switch at temporary cases otherwise }) m next log later) same
        (at_switch at temporary otherwise cases next log later e)
    leaves_from [] (Return temporary) next log later one is on e = cc
    leaves_from [] Finish next log later one is on e = cc
    leaves_from (operation ∷ operations) end next log later one is on e =
        let went = passed_work operation.at operation.work
        (cut (operation.temporary + takes operation.work) (to_do (record { operations = operations; end = end }) m)) next log later one is e in
        record {
          exit = Onward;
          to = record { operations = operations; end = end };
          leads = onward {operation = operation} {p = record { operations = operations; end = end }} is on;
          shown = went.shows;
          stands = went.stands;
          frames = went.frames;
        }
