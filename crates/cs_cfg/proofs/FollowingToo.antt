-- Runs of the reference machine follow the flow of their program, since they touch what those of placed code touch, in the same frames:
-- for the law `programs_follow_flow`.
use Rattle.std.specs.Prelude.{Contains, ◌⊎◌}
use Rattle.std.proofs.Common.{◌≡◌, ℕ, Bool, true, false, List, [], ◌∷◌, ◌++◌, length, inl, inr, Some, if◌then◌else◌, refl, sym, ap}
use Rattle.std.proofs.Common.{◌∙◌, subst}
use Rattle.cs_ast.specs.TypedTree.{Statement}
use Rattle.cs_ast.specs.TypedProgram.{TypedProgram}
use Rattle.cs_events.specs.declared.outcome.Outcome.{Outcome}
use Rattle.cs_events.specs.declared.outcome.RunBudgets.{RunBudgets}
use Rattle.cs_events.specs.Operations.{is_true}
use Rattle.cs_events.specs.declared.point.PointKind.TheVariants as point
use Rattle.cs_events.specs.Touches.{Meets}
use Rattle.cs_events.specs.Acts.{Act, Goes}
use Rattle.cs_events.specs.Runs.{Setting, Log, empty, Performed, Continues, Finishes, perform, with_operation, with_allocation, with_access, with_read}
use Rattle.cs_events.specs.Runs.{with_touch}
use Rattle.cs_events.specs.Runs.{allows_event, number_of, read_cell, Leads, stays, goes}
use Rattle.cs_events.specs.Growth.{log_of}
use Rattle.cs_events.specs.Simulation.{Yields, both_go, both_stop, both_read, both_ask, both_allocate, both_reach, both_touch, Answers, alone, together, first}
use Rattle.cs_events.proofs.RunLaws.{leads_on}
use Rattle.cs_events.specs.Objects.{UnsetCell}
use Rattle.cs_meaning.specs.Machine.{Operand, Scalar, Item, End, Give, Leave, Frame, State, to_do, push, operand_at, routine_of}
use Rattle.cs_meaning.specs.Calls.{leave_to}
use Rattle.cs_meaning.specs.Steps.{do_item, step_with, step}
use Rattle.cs_meaning.specs.ProgramRuns.{ProgramRun, setting_of, start_of}
use Rattle.cs_cfg.specs.Graph.{Code}
use Rattle.cs_cfg.specs.Working.{CodeState}
use Rattle.cs_cfg.specs.CodeSteps.{code_step, code_start}
use Rattle.cs_cfg.specs.ControlPoints.{Met, the_point, Way, control_points}
use Rattle.cs_cfg.specs.GraphPoints.{goes_on}
use Rattle.cs_cfg.specs.Placed.{IsPlaced}
use Rattle.cs_cfg.specs.FollowingFlow.{LeftBy, TouchesPoint, LeadsPast, stays as stays_past, goes as goes_past, TouchesNext, FollowsFlow, BeginsFlow, EndsFlow}
use Rattle.cs_cfg.proofs.Related.{Related, now, soon}
use Rattle.cs_cfg.proofs.Simulating.{placed_simulates}
use Rattle.cs_cfg.proofs.Runs.{begin_related}
use Rattle.cs_cfg.specs.Graph.{flow_of}
use Rattle.cs_cfg.specs.Placing.{Joins}
use Rattle.cs_cfg.specs.Standing.{stands_at}
use Rattle.cs_cfg.proofs.Returning.{NeverReturns, one_midway}
use Rattle.cs_cfg.proofs.Staying.{IsLast, stays_or_leaves}
use Rattle.cs_cfg.proofs.FollowingFlow.{code_ends_there}
use Rattle.cs_cfg.proofs.PointTouches.{none_added}

module _ {S T : Type 0} (R : S → T → Type 0) (setting : Setting) where
  -- if one act continues, so does one that does the same
  abbrev GoesToo : Log → S → Performed T → Type 0
  GoesToo later next done = (t : T) × (done ≡ Continues t later) × R next t

  over_room : (room : Bool) (a : Performed S) (b : Performed T) (outcome : Outcome) (log later : Log) (next : S)
      → (a ≡ Continues next later → GoesToo later next b) → (if room then a else Finishes outcome log) ≡ Continues next later
      → GoesToo later next (if room then b else Finishes outcome log)
  over_room true a b outcome log later next onward e = onward e
  over_room false a b outcome log later next onward e = cc

  goes_too : (log later : Log) (next : S) {a : Act S} {b : Act T} → Yields R a b → perform setting log a ≡ Continues next later
      → GoesToo later next (perform setting log b)
  unfolding perform
  goes_too log later next (both_go {s = s} {t = t} related) e =
      let same : s ≡ next = cc in
      let same_log : log ≡ later = cc in
      (t, ap (Continues t) same_log, subst (λ x. R x t) same related)
  goes_too log later next both_stop e = cc
  goes_too log later next (both_read {path = path} {kind = kind} same) e =
      goes_too (with_read log path kind) later next (same (read_cell setting path kind)) e
  goes_too log later next (both_ask {at = at} {operation = operation} same) e =
      over_room (allows_event setting log) _ _ _ log later next
      (goes_too (with_operation setting log at operation) later next (same (number_of setting log operation))) e
  goes_too log later next (both_allocate {at = at} {path = path} same) e =
      over_room (allows_event setting log) _ _ _ log later next
      (goes_too (with_allocation setting log at path) later next (same (is_true (setting.inputs path)))) e
  goes_too log later next (both_reach {at = at} {object = object} {offset = offset} same) e =
      over_room (allows_event setting log) _ _ _ log later next (goes_too (with_access log at object offset) later next same) e
  goes_too log later next (both_touch {touch = touch} same) e = goes_too (with_touch log touch) later next same e

  -- and the log is the same after both
  logs_if : (room : Bool) (a : Performed S) (b : Performed T) (outcome : Outcome) (log : Log) → log_of b ≡ log_of a
      → log_of (if room then b else Finishes outcome log) ≡ log_of (if room then a else Finishes outcome log)
  logs_if true a b outcome log e = e
  logs_if false a b outcome log e = refl

  same_logs : (log : Log) {a : Act S} {b : Act T} → Yields R a b → log_of (perform setting log b) ≡ log_of (perform setting log a)
  unfolding perform
  same_logs log (both_go related) = refl
  same_logs log both_stop = refl
  same_logs log (both_read {path = path} {kind = kind} same) = same_logs (with_read log path kind) (same (read_cell setting path kind))
  same_logs log (both_ask {at = at} {operation = operation} same) =
      logs_if (allows_event setting log) _ _ _ log (same_logs (with_operation setting log at operation) (same (number_of setting log operation)))
  same_logs log (both_allocate {at = at} {path = path} same) =
      logs_if (allows_event setting log) _ _ _ log (same_logs (with_allocation setting log at path) (same (is_true (setting.inputs path))))
  same_logs log (both_reach {at = at} {object = object} {offset = offset} same) =
      logs_if (allows_event setting log) _ _ _ log (same_logs (with_access log at object offset) same)
  same_logs log (both_touch {touch = touch} same) = same_logs (with_touch log touch) same

-- an act that does nothing but continue touches nothing, and keeps the log
quiet_act : {S : Type 0} (setting : Setting) (log : Log) (act : Act S) (next : S) (one : Met) → act ≡ Goes next
    → (log_of (perform setting log act)).touches ≡ log.touches ++ Meets one.kind one.at ∷ [] → ⊥
unfolding perform
quiet_act setting log act next one e touches =
    none_added log.touches (Meets one.kind one.at) (sym (ap (λ a. (log_of (perform setting log a)).touches) e) ∙ touches)

only_goes : {S : Type 0} (setting : Setting) (log : Log) (act : Act S) (next : S) → act ≡ Goes next → perform setting log act ≡ Continues next log
unfolding perform
only_goes setting log act next e = ap (perform setting log) e

-- leaving a frame touches nothing
leaves_quietly : (setting : Setting) (callers : List Frame) (value : Operand) (m : State) (log : Log) (one : Met)
    → (log_of (perform setting log (leave_to callers value m))).touches ≡ log.touches ++ Meets one.kind one.at ∷ [] → ⊥
unfolding perform
leaves_quietly setting [] value m log one touches = none_added log.touches (Meets one.kind one.at) touches
leaves_quietly setting (caller ∷ callers) value m log one touches = none_added log.touches (Meets one.kind one.at) touches

module _ (code : Code) (program : TypedProgram) (budgets : RunBudgets) (setting : Setting) where
  abbrev R : State → CodeState → Type 0
  R = Related code program budgets

  abbrev ours : State → Act State
  ours = step program budgets

  abbrev theirs : CodeState → Act CodeState
  theirs = code_step code program budgets

  -- if the code's run touches a control point, its running frame is the machine's
  same_frame : {m : State} {t : CodeState} (log : Log) (one : Met) → R m t → TouchesPoint theirs setting t log one
      → (t.frame.number ≡ m.frame.number) × (t.frame.function ≡ m.frame.function)
  same_frame log one (now aligned) touches = (aligned.frame.number, aligned.frame.function)
  same_frame log one (soon {t = t} {next = next} e related) touches = absurd (quiet_act setting log (theirs t) next one e touches)

  -- a step of the machine, and the steps of the code's run that simulate it
  steps_too : {m : State} {t : CodeState} (log later : Log) (next : State) → Answers R ours theirs m t
      → perform setting log (ours m) ≡ Continues next later → (u : CodeState) × Leads theirs setting t log u later × R next u
  steps_too {t = t} log later next (alone {s = m} {next = quiet} e related) went =
      let on : Continues quiet log ≡ Continues next later = sym (only_goes setting log (ours m) quiet e) ∙ went in
      let same : quiet ≡ next = cc in
      let same_log : log ≡ later = cc in
      (t, stays refl same_log, subst (λ x. R x t) same related)
  steps_too log later next (together yields) went =
      let it = goes_too R setting log later next yields went in
      (it.0, goes it.1 (stays refl refl), it.2)
  steps_too log later next (first {t = t} {next = on} e related rest) went =
      let it = steps_too log later next rest went in
      (it.0, goes (only_goes setting log (theirs t) on e) it.1, it.2)

  module _ (placed : IsPlaced code program) where
    answers : {m : State} {t : CodeState} → R m t → Answers R ours theirs m t
    answers {m = m} {t = t} related = placed_simulates code program budgets placed m t related

    way_too : {m last : State} {log end : Log} (t : CodeState) → Leads ours setting m log last end → R m t
        → (u : CodeState) × Leads theirs setting t log u end × R last u
    way_too t (stays e f) related = (t, stays refl f, subst (λ x. R x t) e related)
    way_too t (goes {next = next} {log = log} {later = later} e way) related =
        let on = steps_too log later next (answers related) e in
        let rest = way_too on.0 way on.2 in
        (rest.0, leads_on theirs setting on.1 rest.1, rest.2)

    -- the code's run touches the control point that the machine's does, in the same frame, and the two steps do the same
    record Arrives (frame : ℕ) (m : State) (t : CodeState) (log : Log) (one : Met) : Type 0 where
      last : CodeState
      way : LeadsPast theirs setting frame t log last log
      touches : TouchesPoint theirs setting last log one
      number : last.frame.number ≡ m.frame.number
      function : last.frame.function ≡ m.frame.function
      yields : Yields R (ours m) (theirs last)

    arrives : {m : State} {t : CodeState} (frame : ℕ) (log : Log) (one : Met) → R m t → Answers R ours theirs m t
        → TouchesPoint ours setting m log one → Arrives frame m t log one
    arrives {m = m} frame log one related (alone {next = next} e r) touches = absurd (quiet_act setting log (ours m) next one e touches)
    arrives {m = m} {t = t} frame log one related (together yields) touches =
        let there : TouchesPoint theirs setting t log one = ap (λ (l : Log). l.touches) (same_logs R setting log yields) ∙ touches in
        let same = same_frame log one related there in
        record { last = t; way = stays_past; touches = there; number = same.0; function = same.1; yields = yields }
    arrives {t = t} frame log one related (first {next = next} e r rest) touches =
        let on = arrives frame log one r rest touches in
        record {
          last = on.last;
          way = goes_past (only_goes setting log (theirs t) next e) (λ same other it. quiet_act setting log (theirs t) next other e it) on.way;
          touches = on.touches;
          number = on.number;
          function = on.function;
          yields = on.yields;
        }

    -- two parts of the code's run on which a frame touches nothing, joined
    joined : {frame : ℕ} {t middle last : CodeState} {log between end : Log} → LeadsPast theirs setting frame t log middle between
        → LeadsPast theirs setting frame middle between last end → LeadsPast theirs setting frame t log last end
    joined stays_past way = way
    joined (goes_past e quiet one) way = goes_past e quiet (joined one way)

    as_way : {frame : ℕ} {t last : CodeState} {log end : Log} → LeadsPast theirs setting frame t log last end → Leads theirs setting t log last end
    as_way stays_past = stays refl refl
    as_way (goes_past e quiet way) = goes e (as_way way)

    steps_past : {m : State} {t : CodeState} (frame : ℕ) (log later : Log) (next : State) → R m t → Answers R ours theirs m t
        → perform setting log (ours m) ≡ Continues next later
        → (m.frame.number ≡ frame → (one : Met) → TouchesPoint ours setting m log one → ⊥)
        → (u : CodeState) × LeadsPast theirs setting frame t log u later × R next u
    steps_past {m = m} {t = t} frame log later next related (alone {next = silent} e r) went quiet =
        let on : Continues silent log ≡ Continues next later = sym (only_goes setting log (ours m) silent e) ∙ went in
        let same : silent ≡ next = cc in
        let same_log : log ≡ later = cc in
        (t, subst (λ l. LeadsPast theirs setting frame t log t l) same_log stays_past, subst (λ x. R x t) same r)
    steps_past {t = t} frame log later next related (together yields) went quiet =
        let it = goes_too R setting log later next yields went in (
          it.0,
          goes_past it.1 (λ same one touches.
              quiet (sym (same_frame log one related touches).0 ∙ same) one (sym (ap (λ (l : Log). l.touches) (same_logs R setting log yields)) ∙ touches))
              stays_past,
          it.2,
        )
    steps_past {t = t} frame log later next related (first {next = on} e r rest) went quiet =
        let it = steps_past frame log later next r rest went quiet in (
          it.0,
          goes_past (only_goes setting log (theirs t) on e) (λ same other touches. quiet_act setting log (theirs t) on other e touches) it.1,
          it.2,
        )

    past_too : (frame : ℕ) {m last : State} {log end : Log} (t : CodeState) → LeadsPast ours setting frame m log last end → R m t
        → (u : CodeState) × LeadsPast theirs setting frame t log u end × R last u
    past_too frame t stays_past related = (t, stays_past, related)
    past_too frame t (goes_past {next = next} {log = log} {later = later} e quiet way) related =
        let on = steps_past frame log later next related (answers related) e quiet in
        let rest = past_too frame on.0 way on.2 in
        (rest.0, joined on.1 rest.1, rest.2)

    -- what the code's frame touches next, the machine's does too
    next_too : (frame : ℕ) (next : State) (u : CodeState) (later : Log) (way : Way) → R next u → TouchesNext theirs setting frame u later way
        → TouchesNext ours setting frame next later way
    next_too frame next u later way related touches_next = λ last end other past same touches.
        let along = past_too frame u past related in
        let at = arrives frame end other along.2 (answers along.2) touches in
        touches_next at.last end other (joined along.1 at.way) (at.number ∙ same) at.touches

    followed_too : (start : State) (other : CodeState) → R start other → FollowsFlow theirs setting program other
        → (m next : State) (log later : Log) (one : Met) → Leads ours setting start empty m log → TouchesPoint ours setting m log one
        → goes_on one.kind ≡ true → perform setting log (ours m) ≡ Continues next later →
        (left : LeftBy (routine_of program m.frame.function) one log later) × TouchesNext ours setting m.frame.number next later left.way
    followed_too start other related follows m next log later one way touches on e =
        let along = way_too other way related in
        let at = arrives 0 log one along.2 (answers along.2) touches in
        let went = goes_too R setting log later next at.yields e in
        let it = follows.follows at.last went.0 log later one (leads_on theirs setting along.1 (as_way at.way)) at.touches on went.1 in
        let left : LeftBy (routine_of program m.frame.function) one log later = record {
          point = it.0.point;
          way = it.0.way;
          listed = subst (λ f. Contains (control_points (routine_of program f)) it.0.point) at.function it.0.listed;
          is = it.0.is;
          among = it.0.among;
          shown = it.0.shown;
        } in (
          left,
          next_too m.frame.number next went.0 later it.0.way went.2
              (subst (λ n. TouchesNext theirs setting n went.0 later it.0.way) at.number it.1),
        )

    begun_too : (start : State) (other : CodeState) → R start other → BeginsFlow theirs setting program other
        → (m : State) (log : Log) (one : Met) → LeadsPast ours setting m.frame.number start empty m log → TouchesPoint ours setting m log one
        → the_point point.Enter (routine_of program m.frame.function).at ≡ one
    begun_too start other related begins m log one way touches =
        let along = past_too m.frame.number other way related in
        let at = arrives m.frame.number log one along.2 (answers along.2) touches in
        let past = joined along.1 at.way in
        ap (λ f. the_point point.Enter (routine_of program f).at) (sym at.function)
        ∙ begins.begins at.last log one (subst (λ n. LeadsPast theirs setting n other empty at.last log) (sym at.number) past) at.touches

    -- after a touch that ends a function, the machine has only to leave the frame
    after_item : (item : Item) (items : List Item) (m next : State) (log later : Log) (one : Met) → IsLast program item
        → (log_of (perform setting log (do_item program budgets item (to_do items m)))).touches ≡ log.touches ++ Meets one.kind one.at ∷ []
        → perform setting log (do_item program budgets item (to_do items m)) ≡ Continues next later
        → (next.frame.todo ≡ Leave ∷ []) × (next.frame.number ≡ m.frame.number)
    unfolding perform
    after_item (End at value) items m next log later one last touches e =
        let same : to_do (Leave ∷ []) (push value (to_do items m)) ≡ next = cc in
        (ap (λ (x : State). x.frame.todo) (sym same), ap (λ (x : State). x.frame.number) (sym same))
    after_item (Give at) items m next log later one last touches e =
        let same : to_do (Leave ∷ []) (to_do items m) ≡ next = cc in
        (ap (λ (x : State). x.frame.todo) (sym same), ap (λ (x : State). x.frame.number) (sym same))
    after_item Leave items m next log later one last touches e =
        absurd (leaves_quietly setting m.callers (operand_at (to_do items m) 0) (to_do items m) log one touches)
    after_item item items m next log later one last touches e = absurd last

    after_end : (todo : List Item) (m next : State) (log later : Log) (one : Met)
        → (log_of (perform setting log (step_with program budgets todo m))).touches ≡ log.touches ++ Meets one.kind one.at ∷ []
        → goes_on one.kind ≡ false → perform setting log (step_with program budgets todo m) ≡ Continues next later
        → (next.frame.todo ≡ Leave ∷ []) × (next.frame.number ≡ m.frame.number)
    after_end [] m next log later one touches off e = absurd (leaves_quietly setting m.callers (Scalar UnsetCell) m log one touches)
    after_end (item ∷ items) m next log later one touches off e = decided (stays_or_leaves program budgets item (to_do items m))
      where
        decided : IsLast program item ⊎ NeverReturns (do_item program budgets item (to_do items m))
            → (next.frame.todo ≡ Leave ∷ []) × (next.frame.number ≡ m.frame.number)
        decided (inl last) = after_item item items m next log later one last touches e
        decided (inr never) =
            let wrong : true ≡ false = sym (one_midway setting log (Meets one.kind one.at) never touches) ∙ off in
            absurd cc

    -- the code's run is there, or gets there silently, and touches no more control points of the frame
    ended : (entry : ℕ) (body : Statement) (run : ProgramRun) → setting ≡ setting_of program run budgets → (routine_of program entry).body ≡ Some body
        → (frame : ℕ) (next : State) {u : CodeState} (later : Log) (v : CodeState) (end : Log) (other : Met) → R next u
        → next.frame.todo ≡ Leave ∷ [] → next.frame.number ≡ frame → Leads theirs setting (code_start code program entry run) empty u later
        → LeadsPast theirs setting frame u later v end → v.frame.number ≡ frame → TouchesPoint theirs setting v end other → ⊥
    ended entry body run is has_body frame next {u = u} later v end other (now aligned) todo number way past same touches =
        let stands = subst (λ items. stands_at program aligned.frame.flow (routine_of program next.frame.function) aligned.frame.lowers.labels items
        aligned.frame.out aligned.frame.again (length next.frame.stack) aligned.frame.here) todo aligned.frame.stands in
        let joins = subst (Joins program aligned.frame.flow u.frame.todo) stands.1 aligned.frame.joins in
        let has_flow = ap (flow_of code) aligned.frame.function ∙ aligned.frame.has_flow in
        let here = aligned.frame.number ∙ number in
        code_ends_there code program budgets entry body run placed.graphs has_body u v later end other aligned.frame.flow
        (subst (λ s. Leads theirs s (code_start code program entry run) empty u later) is way) has_flow joins
        (subst (λ n. LeadsPast theirs (setting_of program run budgets) n u later v end) (sym here)
        (subst (λ s. LeadsPast theirs s frame u later v end) is past)) (same ∙ sym here)
        (subst (λ s. TouchesPoint theirs s v end other) is touches)
    ended entry body run is has_body frame next later v end other (soon {t = t} {next = after} e r) todo number way stays_past same touches =
        quiet_act setting later (theirs t) after other e touches
    ended entry body run is has_body frame next later v end other (soon {t = t} {next = after} e r) todo number way
        (goes_past {next = on} {later = later_on} went quiet past) same touches =
        let both : Continues after later ≡ Continues on later_on = sym (only_goes setting later (theirs t) after e) ∙ went in
        let same_state : after ≡ on = cc in
        ended entry body run is has_body frame next later_on v end other (subst (R next) same_state r) todo number
        (leads_on theirs setting way (goes went (stays refl refl))) past same touches

pub program_follows : (code : Code) (program : TypedProgram) → IsPlaced code program → (entry : ℕ) (body : Statement) (run : ProgramRun)
    (budgets : RunBudgets) → (routine_of program entry).body ≡ Some body
    → FollowsFlow (code_step code program budgets) (setting_of program run budgets) program (code_start code program entry run)
    → FollowsFlow (step program budgets) (setting_of program run budgets) program (start_of program entry run)
program_follows code program placed entry body run budgets has_body follows = record {
  follows = λ m next log later one way touches on e.
      followed_too code program budgets (setting_of program run budgets) placed (start_of program entry run) (code_start code program entry run)
      (begin_related code program placed entry body run budgets has_body) follows m next log later one way touches on e;
}

pub program_begins : (code : Code) (program : TypedProgram) → IsPlaced code program → (entry : ℕ) (body : Statement) (run : ProgramRun)
    (budgets : RunBudgets) → (routine_of program entry).body ≡ Some body
    → BeginsFlow (code_step code program budgets) (setting_of program run budgets) program (code_start code program entry run)
    → BeginsFlow (step program budgets) (setting_of program run budgets) program (start_of program entry run)
program_begins code program placed entry body run budgets has_body begins = record {
  begins = λ m log one way touches.
      begun_too code program budgets (setting_of program run budgets) placed (start_of program entry run) (code_start code program entry run)
      (begin_related code program placed entry body run budgets has_body) begins m log one way touches;
}

pub program_ends : (code : Code) (program : TypedProgram) → IsPlaced code program → (entry : ℕ) (body : Statement) (run : ProgramRun)
    (budgets : RunBudgets) → (routine_of program entry).body ≡ Some body
    → EndsFlow (step program budgets) (setting_of program run budgets) (start_of program entry run)
program_ends code program placed entry body run budgets has_body = record { ends = ends }
  where
    ends : (m next : State) (log later : Log) (one : Met)
        → Leads (step program budgets) (setting_of program run budgets) (start_of program entry run) empty m log
        → TouchesPoint (step program budgets) (setting_of program run budgets) m log one → goes_on one.kind ≡ false
        → perform (setting_of program run budgets) log (step program budgets m) ≡ Continues next later → (last : State) (end : Log) (other : Met)
        → LeadsPast (step program budgets) (setting_of program run budgets) m.frame.number next later last end
        → last.frame.number ≡ m.frame.number → TouchesPoint (step program budgets) (setting_of program run budgets) last end other → ⊥
    ends m next log later one way touches off e last end other past same touched_next =
        let setting = setting_of program run budgets in
        let along = way_too code program budgets setting placed (code_start code program entry run) way
        (begin_related code program placed entry body run budgets has_body) in
        let at = arrives code program budgets setting placed 0 log one along.2 (answers code program budgets setting placed along.2) touches in
        let went = goes_too (Related code program budgets) setting log later next at.yields e in
        let known = after_end code program budgets setting placed m.frame.todo m next log later one touches off e in
        let on = past_too code program budgets setting placed m.frame.number went.0 past went.2 in
        let there = arrives code program budgets setting placed m.frame.number end other on.2 (answers code program budgets setting placed on.2) touched_next in
        let code_way = leads_on (code_step code program budgets) setting
        (leads_on (code_step code program budgets) setting along.1 (as_way code program budgets setting placed at.way)) (goes went.1 (stays refl refl)) in
        ended code program budgets setting placed entry body run refl has_body m.frame.number next later there.last end other went.2 known.0 known.1 code_way
        (joined code program budgets setting placed on.1 there.way) (there.number ∙ same) there.touches
