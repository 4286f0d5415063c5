-- A replay passes the events before a guess and keeps the operation there, if its run reaches it.
use Rattle.std.proofs.Common.{◌≡◌, ℕ, suc, ◌≤◌, List, length, take, drop, Some, slice_get, inr, sym, ap, ◌∙◌, subst, arith}
use Rattle.std.proofs.lemmas.List.{length-take, take-append-drop}
use Rattle.cs_ast.specs.declared.place.Place.{Place}
use Rattle.cs_ast.specs.TypedProgram.{typed_program}
use Rattle.cs_events.specs.declared.event.Event.{Event}
use Rattle.cs_events.specs.declared.operation.Operation.{Operation}
use Rattle.cs_events.specs.PendingEvents as pending
use Rattle.cs_events.specs.Runs.{ComesTo}
use Rattle.cs_events.proofs.RunLaws.{left_after}
use Rattle.cs_events.proofs.PendingKept.{all_kept, kept_is_pending}
use Rattle.cs_events.proofs.PendingLaws.{one_pending, passed_at_end}
use Rattle.cs_meaning.specs.Steps.{step}
use Rattle.cs_meaning.specs.ProgramRuns.{setting_of, start_of}
use Rattle.cs_findings.specs.Runs.{run_of, run_budgets}
use Rattle.cs_findings.specs.RealGuesses.{Comes}
use Rattle.cs_findings.proofs.Passing.{passes_one, pends_in_budget}
use Rattle.cs_judge.specs.declared.pool.Kept.TheVariants as kept
use Rattle.cs_judge.specs.declared.pool.Replay.{Replay}
use Rattle.cs_witness.specs.declared.entry.Entry.{Entry}
use Rattle.cs_witness.specs.Entries.{up_to}
use Rattle.cs_witness.specs.Pooling.{IsReplayUpTo}
use Rattle.cs_witness.proofs.Keepings.{log_is_kept}
use Rattle.cs_witness.proofs.Namings.{there_is}
use Rattle.cs_witness.proofs.SmallerBudgets.{comes_within}

-- a replay passes these events first, and then keeps this operation
pub record StandsAt (replay : Replay) (before : List Event) (at : Place) (operation : Operation) : Type 0 where
  pub enough : length before ≤ length replay.events.items
  pub first : take (length before) replay.events.items ≡ before
  pub kept : slice_get replay.kept.items (length before) ≡ Some (kept.Operates at operation)

module _ (entry : Entry) (event : ℕ) (replay : Replay) (before : List Event) (at : Place) (operation : Operation)
    (is : IsReplayUpTo entry event replay)
    (comes : Comes (typed_program entry.program.now) entry.function (run_budgets entry.budgets) (run_of replay.run) before (pending.Operates at operation))
    (early : suc (length before) ≤ event) where
  pub stands : StandsAt replay before at operation
  stands =
      let program = typed_program entry.program.now in
      let all = run_budgets entry.budgets in
      let run = run_of replay.run in
      let budgets = entry.budgets in
      let here = pending.Operates at operation in
      let n = length before in
      let within = pends_in_budget (step program all) (setting_of program run all) comes.pends in
      let small = up_to is.events budgets in
      let lets = is.enough (suc n) early within in
      let too = comes_within program entry.function budgets.visits budgets.depth budgets.events is.events run before here comes lets in
      let stepped = step program small in
      let setting = setting_of program run small in
      let start = start_of program entry.function run in
      let pends = too.pends in
      let left = left_after stepped setting pends.leads is.gives.leads is.gives.finishes in
      let passed : suc n ≤ length is.log.events = passed_at_end setting (suc n) stepped here pends.pends left in
      let ended : ComesTo stepped setting start is.log = inr (is.outcome, is.gives) in
      let count : length (take n is.log.events) ≡ length before = length-take n is.log.events ∙ omega arith in
      let same : take n is.log.events ≡ before = passes_one stepped setting is.gives (take n is.log.events) before
      (is.log, drop n is.log.events, ended, sym (take-append-drop n is.log.events)) too.passes count in
      let even = all_kept setting stepped ended in
      let it = there_is is.log.pending n (omega arith) in
      let pending_there = kept_is_pending setting stepped n it.0 ended it.1 in
      let one = one_pending setting (suc n) stepped start here it.0 pends pending_there in
      let kept_there : slice_get is.log.pending n ≡ Some here = it.1 ∙ ap Some one in
      record {
        enough = subst (λ (l : List Event). n ≤ length l) (sym is.passed) (omega arith);
        first = ap (take n) is.passed ∙ same;
        kept = log_is_kept replay.kept.items is.log.pending is.kept n at operation kept_there;
      }
