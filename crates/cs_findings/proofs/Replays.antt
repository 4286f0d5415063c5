-- What a run's log keeps: the run reaches each event with what was pending there.
use Rattle.std.proofs.Common.{◌≡◌, ℕ, suc, ◌≤◌, length, take, drop, Some, slice_get, inr, sym, ◌∙◌, subst, arith}
use Rattle.std.proofs.lemmas.List.{length-take, take-append-drop}
use Rattle.cs_ast.specs.TypedProgram.{TypedProgram}
use Rattle.cs_events.specs.declared.outcome.Outcome.{Outcome}
use Rattle.cs_events.specs.declared.outcome.RunBudgets.{RunBudgets}
use Rattle.cs_events.specs.PendingEvents.{Pending}
use Rattle.cs_events.specs.Runs.{Log}
use Rattle.cs_events.proofs.PendingKept.{kept_is_pending}
use Rattle.cs_meaning.specs.Steps.{step}
use Rattle.cs_meaning.specs.ProgramRuns.{ProgramRun, setting_of, RunGives, RunIsPending}
use Rattle.cs_findings.specs.RealGuesses.{Comes}

module _ (program : TypedProgram) (entry : ℕ) (budgets : RunBudgets) where
  pub kept_comes : (run : ProgramRun) (outcome : Outcome) (log : Log) → RunGives program entry run budgets outcome log
      → (passed : ℕ) (here : Pending) → slice_get log.pending passed ≡ Some here → passed ≤ length log.events
      → Comes program entry budgets run (take passed log.events) here
  kept_comes run outcome log ended passed here kept enough =
      let count : length (take passed log.events) ≡ passed = length-take passed log.events ∙ omega arith in
      let pends = kept_is_pending (setting_of program run budgets) (step program budgets) passed here (inr (outcome, ended)) kept in
      record {
        passes = (log, drop passed log.events, inr (outcome, ended), sym (take-append-drop passed log.events));
        pends = subst (λ n. RunIsPending program entry run budgets (suc n) here) (sym count) pends;
      }
