-- Runs of the lowering of a program follow its flow: for the law `lowered_code_follows_flow`. After a control point was left, each frame
-- with its number is where the graph's next control point is the one of the flow; frames that are called in between have other numbers.
use Rattle.std.specs.Prelude.{⊤, ◌<◌, ◌≤◌, ◌⊎◌, Contains}
use Rattle.std.proofs.Common.{◌≡◌, ℕ, true, List, [], ◌∷◌, map, inl, inr, Option, Some, None, unwrap_or, arith, refl, sym, ap, ◌∙◌}
use Rattle.std.proofs.Common.{subst}
use Rattle.cs_ast.specs.TypedTree.{Statement}
use Rattle.cs_ast.specs.TypedProgram.{TypedProgram}
use Rattle.cs_events.specs.declared.outcome.RunBudgets.{RunBudgets}
use Rattle.cs_events.specs.Runs.{Setting, Log, empty, Continues, perform, Leads, stays, goes}
use Rattle.cs_meaning.specs.Machine.{routine_of}
use Rattle.cs_meaning.specs.ProgramRuns.{ProgramRun, setting_of}
use Rattle.cs_cfg.specs.Graph.{Operation, BlockEnd, Jump, Branch, Switch, Return, Finish, Meet, Point, no_point, Flow, no_flow, Code, flow_of, block_of}
use Rattle.cs_cfg.specs.Graph.{block_in}
use Rattle.cs_cfg.specs.Working.{CodeState}
use Rattle.cs_cfg.specs.CodeSteps.{code_step, code_start}
use Rattle.cs_events.specs.declared.point.PointKind.TheVariants as point
use Rattle.cs_cfg.specs.ControlPoints.{Met, the_point, met, Next, control_points}
use Rattle.cs_cfg.specs.GraphPoints.{goes_on, MeetsNext, here, past, past_jump, never, Occurs, HasPoints}
use Rattle.cs_cfg.specs.Lowered.{is_there, HasGraphs, IsLowered, ReadsOff}
use Rattle.cs_cfg.specs.Placed.{IsPlaced}
use Rattle.cs_cfg.specs.Placing.{Joins, there, jumps as joined_by}
use Rattle.cs_cfg.specs.Executing.{leaving}
use Rattle.cs_cfg.specs.FollowingFlow.{LeftBy, TouchesPoint, LeadsPast, stays as stays_past, goes as goes_past, TouchesNext, FollowsFlow, BeginsFlow, ShowsExit}
use Rattle.cs_cfg.proofs.Keeping.{met_of, is_met, whole, rest_past, contains_at}
use Rattle.cs_cfg.proofs.Meeting.{point_meets}
use Rattle.cs_cfg.proofs.Runs.{graph_is_there}
use Rattle.cs_cfg.proofs.PointTouches.{stands_at_point, touches_there}
use Rattle.cs_cfg.proofs.FrameSteps.{Stand, stand_of, stands_of, LeadsTo, Moves, works, calls, jumps, leaves, moves}
use Rattle.cs_cfg.proofs.LeavingPoints.{leaves_from}

module _ {flow : Flow} where
  -- the control point that a point is, is the next one from there
  named : {p : Point} {next : Next} {other : Met} → MeetsNext flow p next → met_of p ≡ Some other → next ≡ Some other
  named (here is) e = sym (is_met is) ∙ e
  named (past silent way) e = absurd (nothing_there (sym silent ∙ e))
    where
      nothing_there : {other : Met} → None ≡ Some other → ⊥
      nothing_there e = cc
  named (past_jump way) e = cc
  named never e = cc

-- the next control point after an operation or end that is none
abbrev Further : Flow → List Operation → BlockEnd → Next → Type 0
Further flow (operation ∷ operations) end next = MeetsNext flow (record { operations = operations; end = end }) next
Further flow [] (Jump block) next = MeetsNext flow (block_of flow block) next
Further flow [] other next = ⊤

further : {flow : Flow} {p : Point} {next : Next} → MeetsNext flow p next → ((one : Met) → met_of p ≡ Some one → ⊥)
    → Further flow p.operations p.end next
further (here {m = m} is) quiet = absurd (quiet m (is_met is))
further (past silent way) quiet = way
further (past_jump way) quiet = way
further never quiet = tt

module _ (code : Code) where
  -- a frame of a run is in the graph of its function, or has left it by a jump to a missing block
  record InGraph (one : Stand) : Type 0 where
    flow : Flow
    has_flow : flow_of code one.function ≡ Some flow
    place : Occurs flow one.here ⊎ (one.here ≡ no_point)

  -- the numbers of frames descend from the running frame to the first, below a bound
  abbrev InOrder : ℕ → List Stand → Type 0
  InOrder bound [] = ⊤
  InOrder bound (one ∷ others) = (one.number < bound) × InGraph one × InOrder one.number others

  weaker : (others : List Stand) (a b : ℕ) → a ≤ b → InOrder a others → InOrder b others
  weaker [] a b l h = tt
  weaker (one ∷ others) a b l h = let below = h.0 in (omega arith, h.1, h.2)

  in_block : (flow : Flow) (block : ℕ) → Occurs flow (block_of flow block) ⊎ (block_of flow block ≡ no_point)
  in_block flow block = found (contains_at flow.blocks block)
    where
      found : Contains flow.blocks (block_of flow block) ⊎ (block_of flow block ≡ no_point)
          → Occurs flow (block_of flow block) ⊎ (block_of flow block ≡ no_point)
      found (inl among) = inl (record { block = block_of flow block; among = among; rest = whole (block_of flow block) })
      found (inr none) = inr none

  next_in_graph : (function number : ℕ) (operation : Operation) (operations : List Operation) (end : BlockEnd)
      → InGraph (record { function = function; number = number; here = record { operations = operation ∷ operations; end = end } })
      → InGraph (record { function = function; number = number; here = record { operations = operations; end = end } })
  next_in_graph function number operation operations end it = record { flow = it.flow; has_flow = it.has_flow; place = found it.place }
    where
      found : Occurs it.flow (record { operations = operation ∷ operations; end = end })
          ⊎ (record { operations = operation ∷ operations; end = end } ≡ no_point)
          → Occurs it.flow (record { operations = operations; end = end }) ⊎ (record { operations = operations; end = end } ≡ no_point)
      found (inl occurs) =
          inl (record {
            block = occurs.block;
            among = occurs.among;
            rest = rest_past occurs.block operation (record { operations = operations; end = end }) occurs.rest;
          })
      found (inr none) = let wrong : operation ∷ operations ≡ [] = ap (λ (p : Point). p.operations) none in absurd cc

  same_block : (function block : ℕ) (flow : Flow) → flow_of code function ≡ Some flow → block_in code function block ≡ block_of flow block
  same_block function block flow e = ap (λ found. block_of (unwrap_or found no_flow) block) e

  block_in_graph : (function number block : ℕ) (flow : Flow) → flow_of code function ≡ Some flow
      → InGraph (record { function = function; number = number; here = block_in code function block })
  block_in_graph function number block flow e = record {
    flow = flow;
    has_flow = e;
    place = subst (λ p. Occurs flow p ⊎ (p ≡ no_point)) (sym (same_block function block flow e)) (in_block flow block);
  }

  moved_in_order : {frames later : ℕ} {stands others : List Stand} → Moves code frames stands later others → InOrder frames stands
      → InOrder later others
  moved_in_order (works {f = f} {n = n} {operation = operation} {operations = operations} {end = end}) h =
      (h.0, next_in_graph f n operation operations end h.1, h.2)
  moved_in_order (calls {f = f} {n = n} {operation = operation} {operations = operations} {end = end} function flow e) h =
      (omega arith, record { flow = flow; has_flow = e; place = in_block flow flow.entry }, (h.0, next_in_graph f n operation operations end h.1, h.2))
  moved_in_order (jumps {f = f} {n = n} block to) h = (h.0, block_in_graph f n block h.1.flow h.1.has_flow, h.2)
  moved_in_order (leaves {frames = frames} {one = one} {others = others}) h = let below = h.0 in weaker others one.number frames (omega arith) h.2

  -- a property of the points of functions that is kept when the run continues from a point that is no control point
  record IsCarried (At : ℕ → Point → Type 0) : Type 0 where
    by_work : (function : ℕ) (operation : Operation) (operations : List Operation) (end : BlockEnd)
        → At function (record { operations = operation ∷ operations; end = end })
        → ((one : Met) → met_of (record { operations = operation ∷ operations; end = end }) ≡ Some one → ⊥)
        → At function (record { operations = operations; end = end })
    by_jump : (function : ℕ) (end : BlockEnd) (block : ℕ) → LeadsTo end block → At function (record { operations = []; end = end })
        → ((one : Met) → met_of (record { operations = []; end = end }) ≡ Some one → ⊥) → At function (block_in code function block)

  module _ (frame : ℕ) (At : ℕ → Point → Type 0) where
    -- it holds for each frame with this number
    abbrev AllWait : List Stand → Type 0
    AllWait [] = ⊤
    AllWait (one ∷ others) = (one.number ≡ frame → At one.function one.here) × AllWait others

    -- the running frame, if it has this number, is at no control point
    abbrev IsQuiet : List Stand → Type 0
    IsQuiet [] = ⊤
    IsQuiet (one ∷ others) = one.number ≡ frame → (met_now : Met) → met_of one.here ≡ Some met_now → ⊥

    -- it holds for a frame that begins, if it has this number
    abbrev Begins : ℕ → Type 0
    Begins frames = (function : ℕ) (flow : Flow) → flow_of code function ≡ Some flow → frames ≡ frame → At function (block_of flow flow.entry)

    -- frames with lesser numbers are different ones
    others_wait : (stands : List Stand) (bound : ℕ) → bound ≤ frame → InOrder bound stands → AllWait stands
    others_wait [] bound l h = tt
    others_wait (one ∷ others) bound l h =
        let below = h.0 in
        ((λ same. absurd (omega arith)), others_wait others one.number (omega arith) h.2)

    moved_waiting : IsCarried At → {frames later : ℕ} {stands others : List Stand} → Moves code frames stands later others → Begins frames
        → IsQuiet stands → AllWait stands → AllWait others
    moved_waiting carried (works {f = f} {operation = operation} {operations = operations} {end = end}) begins quiet h =
        ((λ same. carried.by_work f operation operations end (h.0 same) (quiet same)), h.1)
    moved_waiting carried (calls {f = f} {operation = operation} {operations = operations} {end = end} callee graph e) begins quiet h =
        ((λ same. begins callee graph e same), ((λ same. carried.by_work f operation operations end (h.0 same) (quiet same)), h.1))
    moved_waiting carried (jumps {f = f} {end = end} block to) begins quiet h = ((λ same. carried.by_jump f end block to (h.0 same) (quiet same)), h.1)
    moved_waiting carried leaves begins quiet h = h.1

  module _ (goal : ℕ → Next) where
    -- the next control point from a point in the graph of a function is the goal for the function
    abbrev MeetsGoal : ℕ → Point → Type 0
    MeetsGoal function p = (flow : Flow) × (flow_of code function ≡ Some flow) × MeetsNext flow p (goal function)

    jumps_on : (function : ℕ) (end : BlockEnd) (block : ℕ) → LeadsTo end block → MeetsGoal function (record { operations = []; end = end })
        → ((one : Met) → met_of (record { operations = []; end = end }) ≡ Some one → ⊥) → MeetsGoal function (block_in code function block)
    jumps_on function (Jump target) block to it quiet =
        let same : block_in code function block ≡ block_of it.0 target = same_block function block it.0 it.1 ∙ ap (block_of it.0) (sym to) in
        (it.0, it.1, subst (λ p. MeetsNext it.0 p (goal function)) (sym same) (further it.2 quiet))
    jumps_on function (Branch at temporary one other) block to it quiet = absurd (quiet _ refl)
    jumps_on function (Switch at temporary cases otherwise) block to it quiet = absurd (quiet _ refl)
    jumps_on function (Return temporary) block to it quiet = absurd to
    jumps_on function Finish block to it quiet = absurd to

    goal_carried : IsCarried MeetsGoal
    goal_carried = record {
      by_work = λ function operation operations end it quiet. (it.0, it.1, further it.2 quiet);
      by_jump = jumps_on;
    }

  -- there are never fewer frames later
  later_frames : {frames later : ℕ} {stands others : List Stand} → Moves code frames stands later others → frames ≤ later
  later_frames works = omega arith
  later_frames (calls callee graph e) = omega arith
  later_frames (jumps block to) = omega arith
  later_frames leaves = omega arith

  module _ (program : TypedProgram) (budgets : RunBudgets) (setting : Setting) where
    in_order : {m last : CodeState} {log end : Log} → Leads (code_step code program budgets) setting m log last end
        → InOrder m.frames (stands_of m) → InOrder last.frames (stands_of last)
    in_order (stays e f) h = subst (λ (x : CodeState). InOrder x.frames (stands_of x)) e h
    in_order (goes {m = m} {next = next} {log = log} {later = later} e way) h =
        in_order way (moved_in_order (moves code program budgets setting m next log later e) h)

    module _ (frame : ℕ) (At : ℕ → Point → Type 0) (carried : IsCarried At) where
      -- one step in which the frame with this number touches no control point
      waits_on : (m next : CodeState) (log later : Log) → perform setting log (code_step code program budgets m) ≡ Continues next later
          → (m.frame.number ≡ frame → (one : Met) → TouchesPoint (code_step code program budgets) setting m log one → ⊥)
          → Begins frame At m.frames → AllWait frame At (stands_of m) → AllWait frame At (stands_of next)
      waits_on m next log later e quiet begins h =
          moved_waiting frame At carried (moves code program budgets setting m next log later e) begins
          (λ same one is. quiet same one (touches_there code program budgets setting m next log later one is e)) h

      -- it keeps holding for a frame that has begun until the frame touches one
      waits_until : {m last : CodeState} {log end : Log} → LeadsPast (code_step code program budgets) setting frame m log last end → frame < m.frames
          → AllWait frame At (stands_of m) → AllWait frame At (stands_of last)
      waits_until stays_past l h = h
      waits_until (goes_past {m = m} {next = on} {log = log} {later = later} e quiet way) l h =
          let grows = later_frames (moves code program budgets setting m on log later e) in
          waits_until way (omega arith) (waits_on m on log later e quiet (λ function flow has_flow same. absurd (omega arith)) h)

      -- and for one for which it holds at its beginning
      waits_from : {m last : CodeState} {log end : Log} → ((frames : ℕ) → Begins frame At frames)
          → LeadsPast (code_step code program budgets) setting frame m log last end → AllWait frame At (stands_of m)
          → AllWait frame At (stands_of last)
      waits_from begins stays_past h = h
      waits_from begins (goes_past {m = m} {next = on} {log = log} {later = later} e quiet way) h =
          waits_from begins way (waits_on m on log later e quiet (begins m.frames) h)

    module _ (lowered : IsLowered code program) where
      points_of : (function : ℕ) (flow : Flow) → flow_of code function ≡ Some flow → HasPoints flow (control_points (routine_of program function))
      points_of function flow e = subst (ReadsOff (routine_of program function)) e (lowered.flows function)

      -- the running frame is in the graph, since it is at a control point
      stands_in : (flow : Flow) (p : Point) (one : Met) → met_of p ≡ Some one → Occurs flow p ⊎ (p ≡ no_point) → Occurs flow p
      stands_in flow p one is (inl occurs) = occurs
      stands_in flow p one is (inr none) = let wrong : None ≡ Some one = sym (ap met_of none) ∙ is in absurd cc

      followed : (m next : CodeState) (log later : Log) (one : Met) → InOrder m.frames (stands_of m)
          → TouchesPoint (code_step code program budgets) setting m log one → goes_on one.kind ≡ true
          → perform setting log (code_step code program budgets m) ≡ Continues next later →
          (left : LeftBy (routine_of program m.frame.function) one log later)
          × TouchesNext (code_step code program budgets) setting m.frame.number next later left.way
      followed m next log later one order touches on e =
          let is = stands_at_point code program budgets setting m log one touches in
          let graph = order.1 in
          let has = points_of m.frame.function graph.flow graph.has_flow in
          let occurs = stands_in graph.flow m.frame.todo one is graph.place in
          let went = leaves_from code program budgets setting graph.flow m graph.has_flow m.frame.todo.operations m.frame.todo.end next log later one is on e in
          let named_way = has.leads_only m.frame.todo went.to one went.exit occurs went.leads in
          let left : LeftBy (routine_of program m.frame.function) one log later = record {
            point = named_way.0;
            way = named_way.1;
            listed = named_way.2;
            is = named_way.4;
            among = named_way.3;
            shown = subst (λ x. ShowsExit one.at x log later) (sym named_way.5) went.shown;
          } in
          let below = order.0 in
          let bound : m.frame.number < next.frames = subst (λ n. m.frame.number < n) (sym went.frames) below in
          let goal : ℕ → Next = λ function. named_way.1.next in
          let waiting : AllWait m.frame.number (MeetsGoal goal) (stands_of next) =
          subst (AllWait m.frame.number (MeetsGoal goal)) (sym went.stands) (
            (λ same. (graph.flow, graph.has_flow, named_way.6)),
            others_wait m.frame.number (MeetsGoal goal) (map stand_of m.callers) m.frame.number (omega arith) order.2,
          ) in (
            left,
            λ last end other past_others same touched_next.
                named ((waits_until m.frame.number (MeetsGoal goal) (goal_carried goal) past_others bound waiting).0 same).2
                (stands_at_point code program budgets setting last end other touched_next),
          )

  -- the run of an entry begins with frames in order
  begins_in_order : (program : TypedProgram) (entry : ℕ) (body : Statement) (run : ProgramRun) → HasGraphs code program
      → (routine_of program entry).body ≡ Some body → InOrder 1 (stands_of (code_start code program entry run))
  begins_in_order program entry body run graphs e =
      let found = graph_is_there (flow_of code entry) (routine_of program entry).body (graphs entry) body e in
      let graph = found.0 in (
        omega arith,
        record {
          flow = graph;
          has_flow = found.1;
          place = subst (λ f. Occurs graph (block_of (unwrap_or f no_flow) (unwrap_or f no_flow).entry)
              ⊎ (block_of (unwrap_or f no_flow) (unwrap_or f no_flow).entry ≡ no_point)) (sym found.1) (in_block graph graph.entry);
        },
        tt,
      )

  pub code_follows : (program : TypedProgram) → IsLowered code program → (entry : ℕ) (body : Statement) (run : ProgramRun) (budgets : RunBudgets)
      → (routine_of program entry).body ≡ Some body
      → FollowsFlow (code_step code program budgets) (setting_of program run budgets) program (code_start code program entry run)
  code_follows program lowered entry body run budgets has_body = record {
    follows = λ m next log later one way touches on e.
        followed program budgets (setting_of program run budgets) lowered m next log later one
        (in_order program budgets (setting_of program run budgets) way (begins_in_order program entry body run lowered.graphs has_body)) touches on e;
  }

-- only jumps separate a point from the end of the frame
module _ (code : Code) (program : TypedProgram) where
  abbrev EndsAt : ℕ → Point → Type 0
  EndsAt function p = (flow : Flow) × (flow_of code function ≡ Some flow) × Joins program flow p leaving

  -- what follows such a point
  abbrev Ending : Flow → List Operation → BlockEnd → Type 0
  Ending flow [] (Jump block) = Joins program flow (block_of flow block) leaving
  Ending flow [] (Return temporary) = ⊤
  Ending flow other end = ⊥

  ending : {flow : Flow} {p q : Point} → Joins program flow p q → q ≡ leaving → Ending flow p.operations p.end
  ending {flow = flow} there e = subst (λ (x : Point). Ending flow x.operations x.end) (sym e) tt
  ending {flow = flow} (joined_by {block = block} way) e = subst (Joins program flow (block_of flow block)) e way

  -- no control point is there
  no_point_there : {flow : Flow} {p q : Point} {one : Met} → Joins program flow p q → q ≡ leaving → met_of p ≡ Some one → ⊥
  no_point_there {one = one} there e is = let wrong : None ≡ Some one = sym (ap met_of e) ∙ is in cc
  no_point_there (joined_by way) e is = cc

  end_carried : IsCarried code EndsAt
  end_carried = record {
    by_work = λ function operation operations end it quiet. absurd (ending it.2 refl);
    by_jump = jumps_to_end;
  }
    where
      jumps_to_end : (function : ℕ) (end : BlockEnd) (block : ℕ) → LeadsTo end block → EndsAt function (record { operations = []; end = end })
          → ((one : Met) → met_of (record { operations = []; end = end }) ≡ Some one → ⊥) → EndsAt function (block_in code function block)
      jumps_to_end function (Jump target) block to it quiet =
          let same : block_in code function block ≡ block_of it.0 target = same_block code function block it.0 it.1 ∙ ap (block_of it.0) (sym to) in
          (it.0, it.1, subst (λ p. Joins program it.0 p leaving) (sym same) (ending it.2 refl))
      jumps_to_end function (Branch at temporary one other) block to it quiet = absurd (quiet _ refl)
      jumps_to_end function (Switch at temporary cases otherwise) block to it quiet = absurd (quiet _ refl)
      jumps_to_end function (Return temporary) block to it quiet = absurd to
      jumps_to_end function Finish block to it quiet = absurd to

  -- a frame that has reached its end touches no more control points
  pub code_ends_there : (budgets : RunBudgets) (entry : ℕ) (body : Statement) (run : ProgramRun) → HasGraphs code program
      → (routine_of program entry).body ≡ Some body → (m last : CodeState) (log end : Log) (one : Met) (flow : Flow)
      → Leads (code_step code program budgets) (setting_of program run budgets) (code_start code program entry run) empty m log
      → flow_of code m.frame.function ≡ Some flow → Joins program flow m.frame.todo leaving
      → LeadsPast (code_step code program budgets) (setting_of program run budgets) m.frame.number m log last end
      → last.frame.number ≡ m.frame.number → TouchesPoint (code_step code program budgets) (setting_of program run budgets) last end one → ⊥
  code_ends_there budgets entry body run graphs has_body m last log end one flow way has_flow joins onward same touches =
      let setting = setting_of program run budgets in
      let order = in_order code program budgets setting way (begins_in_order code program entry body run graphs has_body) in
      let waiting : AllWait code m.frame.number EndsAt (stands_of m) =
      ((λ this. (flow, has_flow, joins)), others_wait code m.frame.number EndsAt (map stand_of m.callers) m.frame.number (omega arith) order.2) in
      let at_last = (waits_until code program budgets setting m.frame.number EndsAt end_carried onward order.0 waiting).0 same in
      no_point_there at_last.2 refl (stands_at_point code program budgets setting last end one touches)

-- a function with a graph has a body
body_is_there : (flow : Option Flow) (body : Option Statement) → is_there flow ≡ is_there body → (graph : Flow) → flow ≡ Some graph
    → (s : Statement) × (body ≡ Some s)
body_is_there (Some found) (Some s) e graph f = (s, refl)
body_is_there (Some found) None e graph f = cc
body_is_there None body e graph f = cc

module _ (code : Code) (program : TypedProgram) (placed : IsPlaced code program) where
  -- each graph begins at the beginning of its function
  graph_begins : (function : ℕ) (flow : Flow) → flow_of code function ≡ Some flow
      → MeetsNext flow (block_of flow flow.entry) (met point.Enter (routine_of program function).at)
  graph_begins function flow e =
      let body = body_is_there (flow_of code function) (routine_of program function).body (placed.graphs function) flow e in
      let lowers = placed.bodies function body.0 flow body.1 e in
      subst (λ p. MeetsNext flow p (met point.Enter (routine_of program function).at)) (sym lowers.begins)
      (point_meets (routine_of program function).at 0 (Meet point.Enter) lowers.inside refl)

  pub code_begins : (entry : ℕ) (body : Statement) (run : ProgramRun) (budgets : RunBudgets) → (routine_of program entry).body ≡ Some body
      → BeginsFlow (code_step code program budgets) (setting_of program run budgets) program (code_start code program entry run)
  code_begins entry body run budgets has_body = record { begins = begins }
    where
      goal : ℕ → Next
      goal function = met point.Enter (routine_of program function).at

      begins : (m : CodeState) (log : Log) (one : Met)
          → LeadsPast (code_step code program budgets) (setting_of program run budgets) m.frame.number (code_start code program entry run) empty m log
          → TouchesPoint (code_step code program budgets) (setting_of program run budgets) m log one
          → the_point point.Enter (routine_of program m.frame.function).at ≡ one
      begins m log one way touches =
          let graph = graph_is_there (flow_of code entry) (routine_of program entry).body (placed.graphs entry) body has_body in
          let first : MeetsNext graph.0 (block_of (unwrap_or (flow_of code entry) no_flow) (unwrap_or (flow_of code entry) no_flow).entry) (goal entry) =
          subst (λ f. MeetsNext graph.0 (block_of (unwrap_or f no_flow) (unwrap_or f no_flow).entry) (goal entry)) (sym graph.1)
          (graph_begins entry graph.0 graph.1) in
          let waiting = waits_from code program budgets (setting_of program run budgets) m.frame.number (MeetsGoal code goal) (goal_carried code goal)
          (λ frames function flow e same. (flow, e, graph_begins function flow e)) way ((λ same. (graph.0, graph.1, first)), tt) in
          let now_named : Some (the_point point.Enter (routine_of program m.frame.function).at) ≡ Some one =
          named (waiting.0 refl).2 (stands_at_point code program budgets (setting_of program run budgets) m log one touches) in
          cc
