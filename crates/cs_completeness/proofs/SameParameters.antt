-- Runs of an integer entry with the same numbers of its parameters and the same guesses are alike: for `IsEvident`.
use Rattle.std.proofs.Common.{◌≡◌, ℕ, suc, List, [], ◌++◌, map, length, Some, slice_get, get_or, inl, inr}
use Rattle.std.proofs.Common.{sym, ap, ◌∙◌, subst, append_assoc, arith}
use Rattle.std.specs.Prelude.{Contains}
use Rattle.std.proofs.lemmas.Option.{slice_get-get_or}
use Rattle.cs_inputs.specs.declared.path.Path.{Path}
use Rattle.cs_inputs.specs.Inputs.{number_at}
use Rattle.cs_ast.specs.TypedProgram.{TypedProgram}
use Rattle.cs_events.specs.declared.event.Event.{Event}
use Rattle.cs_events.specs.declared.guess.Guess.{Guess}
use Rattle.cs_events.specs.declared.input.Lookup.{Lookup}
use Rattle.cs_events.specs.declared.outcome.Outcome.{Outcome}
use Rattle.cs_events.specs.declared.outcome.RunBudgets.{RunBudgets}
use Rattle.cs_events.specs.PendingEvents.{Pending}
use Rattle.cs_events.specs.Runs.{Log, Setting}
use Rattle.cs_events.proofs.PendingKept.{all_kept, kept_is_pending}
use Rattle.cs_events.proofs.PendingLaws.{one_pending, passed_at_end}
use Rattle.cs_events.proofs.RunLaws.{left_after}
use Rattle.cs_meaning.specs.Machine.{State}
use Rattle.cs_meaning.specs.ProgramRuns.{ProgramRun, setting_of, start_of, RunGives}
use Rattle.cs_meaning.specs.Steps.{step}
use Rattle.cs_meaning.proofs.ProgramEndings.{run_ends}
use Rattle.cs_cfg.specs.Graph.{Code}
use Rattle.cs_findings.specs.RealGuesses.{Comes}
use Rattle.cs_findings.proofs.Passing.{passed_first}
use Rattle.cs_coverage.specs.IntegerEntries.{IsIntegerEntry}
use Rattle.cs_guesses.specs.Real.{IsLoweredEntry}
use Rattle.cs_witness.specs.Evidence.{IsParameter}
use Rattle.cs_witness.specs.Listing.{path_read}
use Rattle.cs_witness.proofs.SameRuns.{same_run}
use Rattle.cs_completeness.proofs.ReadsNothing.{reads_nothing}

no_path : (read : List Lookup) → read ≡ [] → (path : Path) → ¬ Contains (map path_read read) path
no_path read none path there =
    let found = subst (λ (all : List Lookup). Contains (map path_read all) path) none there in
    let within = found.1 in
    omega (arith, within)

module _ (code : Code) (program : TypedProgram) (entry : ℕ) (budgets : RunBudgets) (lowered : IsLoweredEntry code program entry)
    (works : IsIntegerEntry code program entry) where
  -- a run reads only its parameters
  pub reads_none : (run : ProgramRun) (outcome : Outcome) (log : Log) → RunGives program entry run budgets outcome log → log.read ≡ []
  reads_none run outcome log given =
      reads_nothing code program entry works run budgets outcome log
      (lowered.lowered.runs.ends entry lowered.body run budgets outcome log lowered.has_body given)

  -- the same numbers for the parameters, and the same guesses
  pub record AreAlike (one other : ProgramRun) : Type 0 where
    pub inputs : (path : Path) → IsParameter program entry path → number_at one.inputs path ≡ number_at other.inputs path
    pub guesses : one.guesses ≡ other.guesses

  -- so they end alike, with the same log
  pub gives_alike : (one other : ProgramRun) → AreAlike one other → (outcome : Outcome) (log : Log) → RunGives program entry one budgets outcome log
      → RunGives program entry other budgets outcome log
  gives_alike one other same outcome log given =
      subst (λ (guesses : List Guess). RunGives program entry (record { inputs = other.inputs; guesses = guesses }) budgets outcome log) same.guesses
      (same_run program one.inputs other.inputs entry one.guesses budgets outcome log given
      (λ path there. elim there [
        | inl parameter ↦ same.inputs path parameter
        | inr read ↦ absurd (no_path log.read (reads_none one outcome log given) path read)
      ]))

  -- and reach the same positions
  pub comes_alike : (one other : ProgramRun) → AreAlike one other
      → (events : List Event) (pending : Pending) → Comes program entry budgets one events pending
      → Comes program entry budgets other events pending
  comes_alike one other same events pending comes =
      let setting : Setting = setting_of program one budgets in
      let start : State = start_of program entry one in
      let ended = run_ends program entry one budgets in
      let log : Log = ended.1 in
      let too : RunGives program entry other budgets ended.0 log = gives_alike one other same ended.0 ended.1 ended.2 in
      let passes = comes.passes in
      let rest = passed_first (step program budgets) setting ended.2 passes.2 in
      let pends = comes.pends in
      let late = passed_at_end setting (suc (length events)) (step program budgets) pending pends.pends
      (left_after (step program budgets) setting pends.leads ended.2.leads ended.2.finishes) in
      let even = all_kept setting (step program budgets) (inr (ended.0, ended.2)) in
      let here : Pending = get_or log.pending (length events) pending in
      let kept : slice_get log.pending (length events) ≡ Some here = slice_get-get_or log.pending (length events) pending (omega (arith, late, even)) in
      let found = kept_is_pending setting (step program budgets) (length events) here (inr (ended.0, ended.2)) kept in
      let is : pending ≡ here = one_pending setting (suc (length events)) (step program budgets) start here pending found pends in
      record {
        passes = (
          log,
          passes.1 ++ rest.0,
          inr (ended.0, too),
          rest.1 ∙ ap (λ (l : List Event). l ++ rest.0) passes.3 ∙ append_assoc events passes.1 rest.0,
        );
        pends = kept_is_pending (setting_of program other budgets) (step program budgets) (length events) pending (inr (ended.0, too))
            (kept ∙ ap (λ (p : Pending). Some p) (sym is));
      }
