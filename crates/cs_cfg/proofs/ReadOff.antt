-- The graph of a function has exactly the control points of its statements, if it executes the function's body and its blocks fit them.
-- For the law on placed code whose blocks fit.
use Rattle.std.specs.Prelude.{Contains}
use Rattle.std.proofs.Common.{◌≡◌, ℕ, [], Option, Some, None, refl, sym, ap, ◌∙◌, subst}
use Rattle.std.proofs.lemmas.List.Elements.{All-contains}
use Rattle.cs_ast.specs.TypedTree.{Statement}
use Rattle.cs_ast.specs.TypedProgram.{TypedProgram, Routine}
use Rattle.cs_events.specs.declared.point.PointKind.TheVariants as point
use Rattle.cs_meaning.specs.Machine.{body_of, routine_of}
use Rattle.cs_meaning.specs.Jumps.{Landing, landing}
use Rattle.cs_meaning.specs.Steps.{at_end}
use Rattle.cs_cfg.specs.Graph as graph
use Rattle.cs_cfg.specs.Graph.{Point, Flow, Code, block_of, flow_of}
use Rattle.cs_cfg.specs.ControlPoints.{Met, Next, the_point, met, Exit, way, Way, ControlPoint, at_label, starts, end_of, landed, body_targets, control_points}
use Rattle.cs_cfg.specs.GraphPoints.{IsMet, Leads, onward, on_truth, on_case, on_no_case, by_operation, by_branch, by_switch, MeetsNext, never, Occurs}
use Rattle.cs_cfg.specs.GraphPoints.{HasPoints}
use Rattle.cs_cfg.specs.Fitting.{FitsSome, BlockFits, AllFit, GraphFits, CodeFits}
use Rattle.cs_cfg.specs.Placing.{does, there}
use Rattle.cs_cfg.specs.Executing.{leaving, finishing, goes_to, executes_at}
use Rattle.cs_cfg.specs.Placed.{LowersBody, IsPlaced}
use Rattle.cs_cfg.specs.Lowered.{is_there, ReadsOff}
use Rattle.cs_cfg.proofs.Entered.{executed}
use Rattle.cs_cfg.proofs.Arriving.{Arrives}
use Rattle.cs_cfg.proofs.Landings.{place_of, placed_alike, goto_lands}
use Rattle.cs_cfg.proofs.Meeting.{joins_meet, point_meets, same_meets}
use Rattle.cs_cfg.proofs.Keeping.{kept_block, kept_same, kept_past, kept_joins}
use Rattle.cs_cfg.proofs.Showing.{GoesOn, Shows, Shown, shown_none, shown_more, shown_both, shows_passed, shows_last}
use Rattle.cs_cfg.proofs.Starting.{Aims, starts_meet}
use Rattle.cs_cfg.proofs.ShownStatements as statements

-- a point with an edge out of it is a control point
met_there : {flow : Flow} {p q : Point} {m : Met} {exit : Exit} → Leads flow p m exit q → IsMet p m
met_there (onward {operation = operation} {p = p} is further) = by_operation {operation = operation} {p = p} is
met_there on_truth = by_branch
met_there (on_case taken) = by_switch
met_there on_no_case = by_switch

module _ (program : TypedProgram) (flow : Flow) (routine : Routine) (body : Statement) (has_body : routine.body ≡ Some body)
    (lowers : LowersBody program routine body flow) where
  -- the graph executes the body of the function
  executes_body : executes_at program flow routine lowers.labels (body_of routine) 0 finishing finishing lowers.inside lowers.following
  executes_body = subst (λ b. executes_at program flow routine lowers.labels b 0 finishing finishing lowers.inside lowers.following)
      (sym (executed routine body has_body)) lowers.executes

  -- what is to be done at the end of the body follows the body
  ends_arrive : Arrives program flow routine lowers.labels (at_end routine) finishing finishing 0 lowers.following
  ends_arrive = (
    does routine.closes 0 (graph.Close lowers.nothing) leaving,
    lowers.ends,
    (refl, (lowers.nothing, sym lowers.gives, refl), (finishing, there, (refl, there, there))),
  )

  -- an existing label is the next control point where its `goto`s lead
  label_met : (label : ℕ) (l : Landing) (found : Option Landing) → landing label (body_of routine) 0 (at_end routine) ≡ found
      → place_of (Some l) ≡ place_of found → MeetsNext flow (lowers.labels label) (met point.Label l.at)
  label_met label l None e same = cc
  label_met label l (Some l') e same =
      let land = goto_lands program flow routine lowers.labels label (at_end routine) l' finishing finishing lowers.inside lowers.following executes_body
      ends_arrive e in
      let place : l'.at ≡ l.at = cc in
      subst (λ at. MeetsNext flow (lowers.labels label) (met point.Label at)) place
      (same_meets land.reaches (point_meets l'.at 0 (graph.Reach point.Label l'.counted_point) land.inside refl))

  goto_meets : (label : ℕ) (found : Option Landing) → landing label (body_of routine) 0 [] ≡ found
      → (p q : Point) (following : Next) → goes_to program flow routine lowers.labels found (lowers.labels label) p q →
      MeetsNext flow q following → MeetsNext flow p (at_label (landed found) following)
  goto_meets label None e p q following it m = joins_meet it m
  goto_meets label (Some l) e p q following it m =
      joins_meet it.0 (label_met label l (landing label (body_of routine) 0 (at_end routine)) refl (ap place_of (sym e)
      ∙ placed_alike label (body_of routine) 0 [] (at_end routine)))

  -- jumps lead to the targets of the body
  pub aims : Aims program flow routine lowers.labels (body_targets routine) finishing finishing
  aims = record {
    out_meets = never;
    again_meets = never;
    labels_meet = λ label p q following it m. goto_meets label (landing label (body_of routine) 0 []) refl p q following it m;
  }

  -- the next control point after the body, and at its beginning
  end_met : MeetsNext flow lowers.following (end_of routine)
  end_met = joins_meet lowers.ends (point_meets routine.closes 0 (graph.Close lowers.nothing) leaving refl)

  pub body_meets : MeetsNext flow lowers.inside (starts (body_targets routine) (body_of routine) (end_of routine))
  body_meets = starts_meet program flow routine lowers.labels (body_of routine) 0 finishing finishing lowers.inside lowers.following aims executes_body end_met

  -- each control point is in the graph, with all of its edges
  all_shown : Shown flow (control_points routine)
  all_shown =
      let enters = graph.Meet point.Enter in
      let closes = graph.Close lowers.nothing in
      let begins = kept_same lowers.begins (kept_block flow.entry) in
      let inside = statements.executed program flow routine lowers.labels (body_of routine) 0 finishing finishing lowers.inside lowers.following aims
      executes_body end_met (kept_past routine.at 0 enters lowers.inside begins) in
      let ends = kept_joins lowers.ends inside.kept in
      shown_more (shows_passed 0 enters lowers.inside begins refl refl body_meets)
      (shown_both inside.shown (shown_more (shows_last 0 closes leaving ends refl) shown_none))

  module _ (fit : AllFit flow (control_points routine) flow.blocks) where
    -- each control point of the graph fits one of them
    fits_some : (p : Point) (m : Met) → Occurs flow p → IsMet p m → FitsSome flow (control_points routine) p m
    fits_some p m occurs is = (All-contains (BlockFits flow (control_points routine)) flow.blocks occurs.block fit.all occurs.among).each p m occurs.rest is

    pub has_points : HasPoints flow (control_points routine)
    has_points = record {
      has = λ one among. let shows = All-contains (Shows flow) (control_points routine) one all_shown.all among in (shows.there, shows.occurs, shows.meets);
      has_only = λ p m occurs is. let some = fits_some p m occurs is in (some.0, some.1, some.2);
      leads = shown_leads;
      leads_only = only_leads;
    }
      where
        shown_leads : (one : ControlPoint) (w : Way) → Contains (control_points routine) one → Contains one.ways w →
            (p q : Point) × Occurs flow p × Leads flow p (the_point one.kind one.at) w.exit q × MeetsNext flow q w.next
        shown_leads one w among of_it =
            let shows = All-contains (Shows flow) (control_points routine) one all_shown.all among in
            let goes = All-contains (GoesOn flow shows.there one) one.ways w shows.ways of_it in
            (shows.there, goes.0, shows.occurs, goes.1, goes.2)

        only_leads : (p q : Point) (m : Met) (exit : Exit) → Occurs flow p → Leads flow p m exit q →
            (one : ControlPoint) × (w : Way) × Contains (control_points routine) one × Contains one.ways w × (the_point one.kind one.at ≡ m)
            × (w.exit ≡ exit) × MeetsNext flow q w.next
        only_leads p q m exit occurs leads =
            let some = fits_some p m occurs (met_there leads) in
            let goes = some.3.leads exit q (subst (λ x. Leads flow p x exit q) (sym some.2) leads) in
            (some.0, way exit goes.0, some.1, goes.1, some.2, refl, goes.2)

module _ (code : Code) (program : TypedProgram) (placed : IsPlaced code program) (fit : CodeFits code program) where
  -- the same for a function, if it has a graph
  reads : (function : ℕ) (body : Option Statement) (flow : Option Flow) → (routine_of program function).body ≡ body → flow_of code function ≡ flow
      → is_there flow ≡ is_there body →
      GraphFits (routine_of program function) flow → ReadsOff (routine_of program function) flow
  reads function body None has_body has_flow same fits = tt
  reads function None (Some flow) has_body has_flow same fits = cc
  reads function (Some body) (Some flow) has_body has_flow same fits =
      has_points program flow (routine_of program function) body has_body (placed.bodies function body flow has_body has_flow) fits

  pub reads_off : (function : ℕ) → ReadsOff (routine_of program function) (flow_of code function)
  reads_off function = reads function (routine_of program function).body (flow_of code function) refl refl (placed.graphs function) (fit function)
