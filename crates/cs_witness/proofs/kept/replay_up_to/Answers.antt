use Rattle.std.proofs.Common.{◌≤◌, refl, rules, arith}
use Rattle.cs_ast.specs.TypedProgram.{typed_program}
use Rattle.cs_findings.specs.Runs.{run_of}
use Rattle.cs_run_log.specs.LogView.{log_of}
use Rattle.cs_witness.proofs.Keepings.{kept_of_log, kept_up_to}
use Rattle.cs_witness.proofs.kept.replay_up_to.Goals as goal

pub returns-clause-kept : goal.returns-clause-kept
returns-clause-kept c passed at operation noted enough =
    let entry = c.args.entry.now in
    let log = log_of c.in_ok-replayed.replayed.log in
    let fewer : c.min-events.result ≤ entry.budgets.events = search rules in
    let notes = c.in_ok-kept.kept.items in
    kept_up_to (typed_program entry.program.now) entry.function entry.budgets c.min-events.result (run_of c.args.run) c.in_ok-replayed.replayed.outcome log
    notes (rw c.as_slice.ensures.value at c.in_ok-replayed.ensures) fewer
    (kept_of_log notes log.pending (rw c.as_slice-2.ensures.value at c.in_ok-kept.ensures)) passed at operation noted enough

pub returns-clause-replayed : goal.returns-clause-replayed
returns-clause-replayed c = record {
  events = c.min-events.result;
  enough = λ number before within. omega (arith, c.min-events.ensures);
  outcome = c.in_ok-replayed.replayed.outcome;
  log = log_of c.in_ok-replayed.replayed.log;
  gives = rw c.as_slice.ensures.value at c.in_ok-replayed.ensures;
  passed = refl;
  kept = rw c.as_slice-2.ensures.value at c.in_ok-kept.ensures;
}
