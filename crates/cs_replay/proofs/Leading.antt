-- Acts of the code's run continue or end the run as those of the reference machine do: for the contracts of steps.
use Rattle.std.proofs.Common.{◌≡◌, ℕ, Bool, List, [], ◌∷◌, refl, sym, ap, ◌∙◌}
use Rattle.cs_ast.specs.declared.place.Place.{Place}
use Rattle.cs_events.specs.declared.event.Label.{Label}
use Rattle.cs_events.specs.declared.outcome.Outcome.{Outcome}
use Rattle.cs_events.specs.Objects.{Cell}
use Rattle.cs_events.specs.Touches.{Touch}
use Rattle.cs_events.specs.Acts.{Act, Goes, Stops, Touches}
use Rattle.cs_events.specs.Runs.{Setting, Log, Continues, Finishes, perform}
use Rattle.cs_events.specs.Simulation.{Yields}
use Rattle.cs_meaning.specs.Access.{shows_then}
use Rattle.cs_meaning.specs.Operators.{branch}
use Rattle.cs_meaning.specs.Calls.{leave}
use Rattle.cs_meaning.specs.Machine.{Operand, CallFrame, State, with_stack}
use Rattle.cs_run_log.specs.declared.logs.Stop.{Stop}
use Rattle.cs_run_log.specs.declared.logs.Stop.TheVariants as stop
use Rattle.cs_run_log.specs.Pieces.{finished}
use Rattle.cs_run_log.proofs.Performing.{perform-Goes}
use Rattle.cs_cfg.specs.Graph.{Point}
use Rattle.cs_cfg.specs.Working.{CodeState}
use Rattle.cs_replay.specs.CodeStates.{code_state}
use Rattle.cs_replay.specs.ReplayerView.{ended}
use Rattle.cs_replay.proofs.Performs.{Seen, leads_so, finishes_so}
use Rattle.cs_replay.proofs.Reported.{shown_reported, touched_reported, with_truth, way_seen, with_truth_so, branch_reported}

module _ (setting : Setting) (log later : Log) where
  -- an act of the code's run ends the run as that of the machine does
  pub ends_so : (seen : State → CodeState) (a : Act State) (b : Act CodeState) (stop : Stop) → Yields (Seen seen) a b
      → perform setting log a ≡ finished stop later (perform setting log a) → perform setting log b ≡ ended stop later (perform setting log b)
  ends_so seen a b (stop.Outcome outcome) same ends = finishes_so seen setting log later a b outcome same ends
  ends_so seen a b stop.Memory same ends = refl

  -- a label is shown
  pub shows_so : (at : Place) (what : Label) (m : State) (t : CodeState)
      → perform setting log (shows_then at what (Goes m)) ≡ perform setting later (Goes m)
      → perform setting log (shows_then at what (Goes t)) ≡ Continues t later
  shows_so at what m t leads = leads_so (λ (s : State). t) setting log later (shows_then at what (Goes m)) (shows_then at what (Goes t)) m
      (shown_reported at what m t) (leads ∙ perform-Goes setting later m)

  pub no_show : (at : Place) (what : Label) (m : State) (t : CodeState) (stop : Stop)
      → perform setting log (shows_then at what (Goes m)) ≡ finished stop later (perform setting log (shows_then at what (Goes m)))
      → perform setting log (shows_then at what (Goes t)) ≡ ended stop later (perform setting log (shows_then at what (Goes t)))
  no_show at what m t stop ends = ends_so (λ (s : State). t) (shows_then at what (Goes m)) (shows_then at what (Goes t)) stop (shown_reported at what m t) ends

  -- a control point is visited, and a label is shown
  pub meets_so : (touch : Touch) (at : Place) (what : Label) (m : State) (t : CodeState)
      → perform setting log (Touches touch (shows_then at what (Goes m))) ≡ perform setting later (Goes m)
      → perform setting log (Touches touch (shows_then at what (Goes t))) ≡ Continues t later
  meets_so touch at what m t leads =
      leads_so (λ (s : State). t) setting log later (Touches touch (shows_then at what (Goes m))) (Touches touch (shows_then at what (Goes t))) m
      (touched_reported touch at what m t) (leads ∙ perform-Goes setting later m)

  pub no_meeting : (touch : Touch) (at : Place) (what : Label) (m : State) (t : CodeState) (stop : Stop)
      → perform setting log (Touches touch (shows_then at what (Goes m)))
      ≡ finished stop later (perform setting log (Touches touch (shows_then at what (Goes m))))
      → perform setting log (Touches touch (shows_then at what (Goes t)))
      ≡ ended stop later (perform setting log (Touches touch (shows_then at what (Goes t))))
  no_meeting touch at what m t stop ends =
      ends_so (λ (s : State). t) (Touches touch (shows_then at what (Goes m))) (Touches touch (shows_then at what (Goes t))) stop
      (touched_reported touch at what m t) ends

  -- a test takes a branch
  pub branches_so : (at : Place) (cell : Cell) (m : State) (ways : Bool → CodeState) (holds : Bool)
      → ((onward : Bool → Act State) → perform setting log (branch at cell onward) ≡ perform setting later (onward holds))
      → perform setting log (branch at cell (λ b. Goes (ways b))) ≡ Continues (ways holds) later
  branches_so at cell m ways holds leads =
      leads_so (way_seen ways) setting log later (branch at cell (λ b. Goes (with_truth m b))) (branch at cell (λ b. Goes (ways b))) (with_truth m holds)
      (branch_reported at cell m ways) (leads (λ b. Goes (with_truth m b)) ∙ perform-Goes setting later (with_truth m holds))
      ∙ ap (λ (t : CodeState). Continues t later) (sym (with_truth_so ways m holds))

  pub no_branch : (at : Place) (cell : Cell) (m : State) (ways : Bool → CodeState) (stop : Stop)
      → ((onward : Bool → Act State) → perform setting log (branch at cell onward) ≡ finished stop later (perform setting log (branch at cell onward)))
      → perform setting log (branch at cell (λ b. Goes (ways b))) ≡ ended stop later (perform setting log (branch at cell (λ b. Goes (ways b))))
  no_branch at cell m ways stop ends =
      ends_so (way_seen ways) (branch at cell (λ b. Goes (with_truth m b))) (branch at cell (λ b. Goes (ways b))) stop (branch_reported at cell m ways)
      (ends (λ b. Goes (with_truth m b)))

module _ (setting : Setting) (log : Log) where
  -- an act leads to a state that is described in another way
  pub arrives : (act : Act CodeState) (t last : CodeState) (later end : Log) → perform setting log act ≡ Continues t later → last ≡ t → end ≡ later
      → perform setting log act ≡ Continues last end
  arrives act t last later end leads same same_log = leads
      ∙ (ap (λ (s : CodeState). Continues s later) (sym same) ∙ ap (λ (l : Log). Continues last l) (sym same_log))

-- the end of a frame doesn't depend on its temporaries
pub leaves_alike : (value : Operand) (stack : List Operand) (points : ℕ → Point) (callers : List (CallFrame Point)) (m : State)
    → leave value (code_state points callers (with_stack stack m)) ≡ leave value (code_state points callers m)
leaves_alike value stack points [] m = refl
leaves_alike value stack points (caller ∷ callers) m = refl

-- an act that only ends the run
pub stops_so : (setting : Setting) (log : Log) (outcome : Outcome) → perform {State = CodeState} setting log (Stops outcome) ≡ Finishes outcome log
unfolding perform
stops_so setting log outcome = refl

-- an act of the code's run that only continues
pub goes_so : (setting : Setting) (log : Log) (t : CodeState) → perform setting log (Goes t) ≡ Continues t log
unfolding perform
goes_so setting log t = refl
