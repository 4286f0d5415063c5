use Rattle.std.proofs.Common.{◌≡◌, ◌+◌, ℕ, Err, FitsSigned, map, ap, ◌∙◌, rules}
use Rattle.std.specs.Int.{w128}
use Rattle.std.proofs.lemmas.Int.{to_z-of_z}
use Rattle.cs_events.specs.declared.event.Label.TheVariants.{Case}
use Rattle.cs_events.specs.declared.point.PointKind.TheVariants.{Switch as AtSwitch}
use Rattle.cs_events.specs.Objects.{Cell}
use Rattle.cs_events.specs.Touches.{Meets}
use Rattle.cs_events.specs.Acts.{Act, Goes}
use Rattle.cs_meaning.specs.Access.{shows_then}
use Rattle.cs_meaning.specs.Initials.{number_in}
use Rattle.cs_meaning.specs.Machine.{State, cell_at, pop}
use Rattle.cs_run_log.specs.LogView.{setting_of, log_of}
use Rattle.cs_run_state.specs.MachineView.{state_of}
use Rattle.cs_run_log.proofs.Chains.{ends_following}
use Rattle.cs_cfg.specs.CodeSteps.{Way, way_of, enters, goes_way}
use Rattle.cs_cfg.specs.GraphView as view
use Rattle.cs_cfg.specs.Working as working
use Rattle.cs_cfg.specs.Working.{CodeState}
use Rattle.cs_replay.specs.CodeStates.{code_state}
use Rattle.cs_positions.specs.Points.{point_of}
use Rattle.cs_replay.specs.ReplayerView.{code_of, callers_of, state_in}
use Rattle.cs_replay.specs.Ways.{way_seen}
use Rattle.cs_replay.specs.Works.{cut_to}
use Rattle.cs_replay.proofs.Leading.{meets_so, no_meeting, arrives}
use Rattle.cs_replay.proofs.replayer.Replayer.switch.Goals as goal

pub returns-in_err-show : goal.returns-in_err-show
returns-in_err-show c = record {
  ok = search rules;
  err =
      let run = c.args.self.now in
      let m = cut_to (c.args.temporary + 1) (state_of run.runner.machine) in
      let wanted : Way = way_of (map view.switch_case c.args.cases.now) c.args.otherwise (number_in (cell_at m 0)) 0 in
      let there : c.from_residual-in_err-show.result ≡ Err c.in_err-show.field-0.0 = search rules in
      let cut = rw c.from.ensures at c.cut.ensures in
      let number : c.number-number.result ≡ number_in (cell_at m 0) = c.number-number.ensures
      ∙ ap (λ (cell : Cell). number_in cell) (c.pop_cell.ensures.cell ∙ ap (λ (n : State). cell_at n 0) cut) in
      let fits : FitsSigned w128 c.number-number.result = search rules in
      let plain = to_z-of_z w128 c.number-number.result fits in
      let is : way_seen c.in_ok-way.way ≡ wanted = rw (plain, number) at c.in_ok-way.ensures in
      let shown = ap (λ (way : Way). way.number) is in
      let last : Act State = Goes m in
      let one = c.in_ok-touch.ensures run.runner.setting.now (shows_then c.args.place (Case wanted.number) last) in
      let two = rw shown at c.in_err-show.ensures.err in
      rw there (no_meeting (setting_of run.runner.setting.now) (log_of run.runner.log) (log_of c.show.new.self) (Meets AtSwitch c.args.place) c.args.place
      (Case wanted.number) m (enters (code_of run) wanted.block (pop (working.cut (c.args.temporary + 1) (state_in run)))) c.in_err-show.field-0.0
      (ends_following _ _ one (two last)));
  kept = search rules;
}

pub returns : goal.returns
returns c = record {
  ok =
      let run = c.args.self.now in
      let m = cut_to (c.args.temporary + 1) (state_of run.runner.machine) in
      let points = point_of run.code.now run.position in
      let callers = callers_of run.code.now run.callers.items in
      let wanted : Way = way_of (map view.switch_case c.args.cases.now) c.args.otherwise (number_in (cell_at m 0)) 0 in
      let cut = rw c.from.ensures at c.cut.ensures in
      let number : c.number-number.result ≡ number_in (cell_at m 0) = c.number-number.ensures
      ∙ ap (λ (cell : Cell). number_in cell) (c.pop_cell.ensures.cell ∙ ap (λ (n : State). cell_at n 0) cut) in
      let fits : FitsSigned w128 c.number-number.result = search rules in
      let plain = to_z-of_z w128 c.number-number.result fits in
      let is : way_seen c.in_ok-way.way ≡ wanted = rw (plain, number) at c.in_ok-way.ensures in
      let shown = ap (λ (way : Way). way.number) is in
      let led = ap (λ (way : Way). way.block) is in
      let last : Act State = Goes m in
      let target : CodeState = enters (code_of run) wanted.block (pop (working.cut (c.args.temporary + 1) (state_in run))) in
      let one = c.in_ok-touch.ensures run.runner.setting.now (shows_then c.args.place (Case wanted.number) last) in
      let two = rw shown at c.in_ok-show.ensures.ok in
      let leads = meets_so (setting_of run.runner.setting.now) (log_of run.runner.log) (log_of c.show.new.self) (Meets AtSwitch c.args.place) c.args.place
      (Case wanted.number) m target (one ∙ two last) in
      let popped : state_of c.pop_cell.new.self ≡ pop m = c.pop_cell.ensures.state ∙ ap (λ (n : State). pop n) cut in
      let state : state_in c.enter_block.new.self ≡ target =
      c.enter_block.ensures.state
      ∙ (ap (λ (n : State). enters (code_of run) c.in_ok-way.way.block (code_state points callers n)) popped
      ∙ ap (λ (block : ℕ). enters (code_of run) block (code_state points callers (pop m))) led) in
      arrives (setting_of run.runner.setting.now) (log_of run.runner.log)
      (goes_way (code_of run) c.args.place wanted (pop (working.cut (c.args.temporary + 1) (state_in run)))) target (state_in c.enter_block.new.self)
      (log_of c.show.new.self) (log_of c.enter_block.new.self.runner.log) leads state (ap log_of c.enter_block.ensures.log);
  err = search rules;
  kept = search rules;
}
