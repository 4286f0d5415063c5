use Rattle.std.proofs.Common.{◌≡◌, ◌≤◌, List, length, take, sym, ◌∙◌, subst, arith}
use Rattle.cs_ast.specs.TypedProgram.{typed_program}
use Rattle.cs_events.specs.declared.event.Event.{Event}
use Rattle.cs_events.specs.PendingEvents.{Operates}
use Rattle.cs_meaning.specs.ProgramRuns.{ProgramRun}
use Rattle.cs_findings.specs.Runs.{run_of, run_budgets}
use Rattle.cs_findings.specs.RealGuesses.{Comes}
use Rattle.cs_run_log.specs.LogView.{log_of}
use Rattle.cs_witness.specs.Entries.{Gives}
use Rattle.cs_witness.proofs.Keepings.{kept_of_log, kept_up_to}
use Rattle.cs_witness.proofs.grounds.shown_replay.Goals as goal

pub returns-clause-kept : goal.returns-clause-kept
returns-clause-kept c passed at operation noted enough =
    let entry = c.args.entry.now in
    let program = typed_program entry.program.now in
    let budgets = run_budgets entry.budgets in
    let log = log_of c.args.replayed.now.log in
    let notes = c.in_ok-kept.kept.items in
    let events : c.in_ok-events.events.items ≡ log.events = c.in_ok-events.ensures.items ∙ c.as_slice.ensures.value in
    let all : entry.budgets.events ≤ entry.budgets.events = omega arith in
    let base = kept_up_to program entry.function entry.budgets entry.budgets.events (run_of c.args.run.now) c.args.replayed.now.outcome log
    notes c.requires.replayed all (kept_of_log notes log.pending (rw c.as_slice-2.ensures.value at c.in_ok-kept.ensures)) passed at operation noted
    (subst (λ (l : List Event). passed ≤ length l) events enough) in
    subst (λ (r : ProgramRun). Comes program entry.function budgets r (take passed c.in_ok-events.events.items) (Operates at operation))
    (sym c.in_ok-run.ensures)
    (subst (λ (l : List Event). Comes program entry.function budgets (run_of c.args.run.now) (take passed l) (Operates at operation)) (sym events) base)

pub returns-clause-shown : goal.returns-clause-shown
returns-clause-shown c =
    let entry = c.args.entry.now in
    record {
      same = c.in_ok-run.ensures;
      replayed = record {
        events = entry.budgets.events;
        enough = λ number before within. within;
        outcome = c.args.replayed.now.outcome;
        log = log_of c.args.replayed.now.log;
        gives = subst (λ (r : ProgramRun). Gives entry r c.args.replayed.now) (sym c.in_ok-run.ensures) c.requires.replayed;
        passed = c.in_ok-events.ensures.items ∙ c.as_slice.ensures.value;
        kept = rw c.as_slice-2.ensures.value at c.in_ok-kept.ensures;
      };
    }
