use Rattle.std.proofs.Common.{◌≡◌, Err, sym, ap, ◌∙◌, rules}
use Rattle.cs_events.specs.Objects.{Cell}
use Rattle.cs_events.specs.Acts.{Act, Goes}
use Rattle.cs_events.specs.Runs.{Continues}
use Rattle.cs_meaning.specs.Machine.{State, push_cell, pop, cell_at}
use Rattle.cs_values.specs.View.{cell_of}
use Rattle.cs_run_log.specs.LogView.{log_of}
use Rattle.cs_run_state.specs.MachineView.{state_of}
use Rattle.cs_run_log.proofs.Performing.{perform-Goes}
use Rattle.cs_replay.proofs.values.arrow.Goals as goal

-- the address of the member replaces the pointer
abbrev leaves : State → Cell → Act State
leaves m cell = Goes (push_cell cell (pop m))

pub returns-in_err-member : goal.returns-in_err-member
returns-in_err-member c =
    let m = state_of c.args.run.now.machine in
    let there : c.from_residual.result ≡ Err c.in_err-member.field-0.0 = search rules in
    let cell : cell_of c.pop_cell-pointer.result ≡ cell_at m 0 = c.pop_cell-pointer.ensures.cell in
    let ends = rw cell at c.in_err-member.ensures.err in
    record { ok = search rules; err = rw there (ends (leaves m)); kept = search rules }

pub returns : goal.returns
returns c =
    let m = state_of c.args.run.now.machine in
    let cell : cell_of c.pop_cell-pointer.result ≡ cell_at m 0 = c.pop_cell-pointer.ensures.cell in
    let gives = rw cell at c.in_ok-member.ensures.ok in
    let state : state_of c.push_cell.new.self ≡ push_cell (cell_of c.in_ok-member.member) (pop m) = c.in_ok-push_cell.ensures
    ∙ ap (push_cell (cell_of c.in_ok-member.member)) c.pop_cell-pointer.ensures.state in
    record {
      ok = gives (leaves m) ∙ (perform-Goes _ _ _ ∙ ap (λ (n : State). Continues n (log_of c.arrow.new.self)) (sym state));
      err = search rules;
      kept = search rules;
    }
