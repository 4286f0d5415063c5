-- What a run reaches under one budget of events, it reaches under each budget that allows that event. For the runs of corners.
use Rattle.std.proofs.Common.{◌≡◌, ℕ, suc, ◌≤◌, List, length, refl, subst, ◌∙◌, arith}
use Rattle.std.proofs.lemmas.List.{length-map}
use Rattle.cs_ast.specs.TypedProgram.{TypedProgram}
use Rattle.cs_events.specs.declared.event.Event.{Event}
use Rattle.cs_events.specs.declared.outcome.RunBudgets.{RunBudgets}
use Rattle.cs_events.specs.Runs.{Passes, empty}
use Rattle.cs_events.specs.Pending.{IsPending}
use Rattle.cs_events.specs.PendingEvents.{Pending}
use Rattle.cs_event_runs.specs.Settings.{AlikeBefore}
use Rattle.cs_event_runs.proofs.Pendings.{pending_is_shown}
use Rattle.cs_event_runs.proofs.LaterGuesses.{shows_too, pending_before_guesses}
use Rattle.cs_meaning.specs.Steps.{step}
use Rattle.cs_meaning.specs.ProgramRuns.{ProgramRun, setting_of, start_of}
use Rattle.cs_meaning.proofs.ProgramEndings.{run_ends}
use Rattle.cs_findings.specs.RealGuesses.{Comes}
use Rattle.cs_findings.proofs.Passing.{events_of, shown_passes, passes_one}
use Rattle.cs_witness.proofs.StepBudgets.{same_steps}

module _ (program : TypedProgram) (entry visits depth one other : ℕ) where
  abbrev First : RunBudgets
  First = record { visits = visits; depth = depth; events = one }

  abbrev Second : RunBudgets
  Second = record { visits = visits; depth = depth; events = other }

  pub comes_within : (run : ProgramRun) (events : List Event) (pending : Pending) → Comes program entry First run events pending
      → suc (length events) ≤ other → Comes program entry Second run events pending
  comes_within run events pending comes enough =
      let setting = setting_of program run First in
      let start = start_of program entry run in
      let event = suc (length events) in
      let later = setting_of program run Second in
      let alike : AlikeBefore setting run.guesses Second event = record { same = λ earlier before. refl; budget = enough } in
      let shown = pending_is_shown (step program First) setting start comes.pends in
      let number = shown.number in
      let too = shows_too setting run.guesses Second event alike (step program First) shown.shows empty (step program First start) refl (omega arith) in
      let passes = shown_passes (step program First) setting start shown.shows in
      let count : length (events_of shown.steps) ≡ length events = length-map shown.steps (λ s. s.event) ∙ omega arith in
      let ended = run_ends program entry run First in
      let same : events_of shown.steps ≡ events =
      passes_one (step program First) setting ended.2 (events_of shown.steps) events passes comes.passes count in
      let steps = same_steps program visits depth one other in
      record {
        passes = subst (λ s. Passes s later start events) steps
            (subst (Passes (step program First) later start) same (shown_passes (step program First) later start too.shows));
        pends = subst (λ s. IsPending s later start event pending) steps
            (pending_before_guesses setting run.guesses Second event alike (step program First) start pending comes.pends);
      }
