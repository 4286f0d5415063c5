-- A run reaches an event in the same way without its guesses at that event and later.
use Rattle.std.proofs.Common.{◌≡◌, ℕ, suc, ◌<◌, ◌==◌, nat_lt, Bool, true, false, List, [], ◌∷◌, filter, length, if◌then◌else◌}
use Rattle.std.proofs.Common.{Some, refl, sym, ap, ◌∙◌, subst, arith}
use Rattle.std.proofs.lemmas.Bool.Decides.{nat_tests}
use Rattle.std.proofs.lemmas.List.{length-map}
use Rattle.cs_ast.specs.TypedProgram.{TypedProgram}
use Rattle.cs_events.specs.declared.event.Event.{Event}
use Rattle.cs_events.specs.declared.guess.Guess.{Guess}
use Rattle.cs_events.specs.declared.outcome.RunBudgets.{RunBudgets}
use Rattle.cs_events.specs.Runs.{guess_at, empty}
use Rattle.cs_events.specs.PendingEvents.{Pending}
use Rattle.cs_event_runs.specs.Settings.{AlikeBefore}
use Rattle.cs_event_runs.proofs.Pendings.{pending_is_shown}
use Rattle.cs_event_runs.proofs.LaterGuesses.{shows_too, pending_before_guesses}
use Rattle.cs_meaning.specs.Steps.{step}
use Rattle.cs_meaning.specs.ProgramRuns.{ProgramRun, setting_of, start_of, RunPasses}
use Rattle.cs_meaning.proofs.ProgramEndings.{run_ends}
use Rattle.cs_findings.specs.Runs.{before}
use Rattle.cs_findings.specs.RealGuesses.{Comes}
use Rattle.cs_findings.proofs.Passing.{events_of, shown_passes, passes_one, pends_in_budget}

-- a guess that was kept, or dropped
kept_or_not : (guess : Guess) (rest : List Guess) (event earlier : ℕ) (kept : Bool) → nat_lt guess.event event ≡ kept → earlier < event
    → guess_at (filter (λ g. nat_lt g.event event) rest) earlier ≡ guess_at rest earlier
    → guess_at (if kept then guess ∷ filter (λ g. nat_lt g.event event) rest else filter (λ g. nat_lt g.event event) rest) earlier
    ≡ guess_at (guess ∷ rest) earlier
kept_or_not guess rest event earlier true k before h = ap (λ o. if guess.event == earlier then Some guess.number else o) h
kept_or_not guess rest event earlier false k before h =
    let other : (guess.event == earlier) ≡ false = grind (arith, nat_tests) in
    h ∙ sym (ap (λ b. if b then Some guess.number else guess_at rest earlier) other)

-- the guesses before an event are kept
pub guesses_kept : (guesses : List Guess) (event earlier : ℕ) → earlier < event
    → guess_at (filter (λ g. nat_lt g.event event) guesses) earlier ≡ guess_at guesses earlier
guesses_kept [] event earlier before = refl
guesses_kept (guess ∷ guesses) event earlier before =
    kept_or_not guess guesses event earlier (nat_lt guess.event event) refl before (guesses_kept guesses event earlier before)

module _ (program : TypedProgram) (entry : ℕ) (budgets : RunBudgets) where
  pub comes_before : (run : ProgramRun) (events : List Event) (pending : Pending) → Comes program entry budgets run events pending
      → Comes program entry budgets (before (suc (length events)) run) events pending
  comes_before run events pending comes =
      let setting = setting_of program run budgets in
      let start = start_of program entry run in
      let event = suc (length events) in
      let guesses = (before event run).guesses in
      let other = setting_of program (before event run) budgets in
      let alike : AlikeBefore setting guesses budgets event =
      record { same = guesses_kept run.guesses event; budget = pends_in_budget (step program budgets) setting comes.pends } in
      let shown = pending_is_shown (step program budgets) setting start comes.pends in
      let number = shown.number in
      let too = shows_too setting guesses budgets event alike (step program budgets) shown.shows empty (step program budgets start) refl (omega arith) in
      let passes = shown_passes (step program budgets) setting start shown.shows in
      let count : length (events_of shown.steps) ≡ length events = length-map shown.steps (λ s. s.event) ∙ omega arith in
      let ended = run_ends program entry run budgets in
      let same : events_of shown.steps ≡ events =
      passes_one (step program budgets) setting ended.2 (events_of shown.steps) events passes comes.passes count in
      record {
        passes = subst (RunPasses program entry (before event run) budgets) same (shown_passes (step program budgets) other start too.shows);
        pends = pending_before_guesses setting guesses budgets event alike (step program budgets) start pending comes.pends;
      }
