-- What the judge keeps of a replay is true. For the contracts of `kept` and `grounds`.
use Rattle.std.proofs.Common.{◌≡◌, ℕ, zero, suc, ◌≤◌, List, [], ◌∷◌, ◌++◌, map, take, length, Some, slice_get}
use Rattle.std.proofs.Common.{sym, ap, ◌∙◌, arith}
use Rattle.std.specs.Prelude.{option_map}
use Rattle.std.proofs.lemmas.Option.{slice_get-map}
use Rattle.cs_ast.specs.declared.place.Place.{Place}
use Rattle.cs_ast.specs.TypedProgram.{TypedProgram}
use Rattle.cs_events.specs.declared.operation.Operation.{Operation}
use Rattle.cs_events.specs.declared.outcome.Outcome.{Outcome}
use Rattle.cs_events.specs.PendingEvents as pending
use Rattle.cs_events.specs.Runs.{Log}
use Rattle.cs_meaning.specs.Steps.{step}
use Rattle.cs_meaning.specs.ProgramRuns.{ProgramRun, RunGives, setting_of}
use Rattle.cs_results.specs.declared.budgets.Budgets.{Budgets}
use Rattle.cs_findings.specs.Runs.{run_budgets}
use Rattle.cs_findings.specs.GoodFindings.{IsEach}
use Rattle.cs_findings.specs.RealGuesses.{Comes}
use Rattle.cs_findings.proofs.Passing.{pends_in_budget}
use Rattle.cs_findings.proofs.Replays.{kept_comes}
use Rattle.cs_judge.specs.declared.pool.Kept.{Kept}
use Rattle.cs_judge.specs.declared.pool.Kept.TheVariants as kept
use Rattle.cs_witness.specs.Entries.{up_to}
use Rattle.cs_witness.specs.Keeping.{noted}
use Rattle.cs_witness.proofs.SmallerBudgets.{comes_within}

-- one more item on both sides
pub each_more : {A B : Type 0} (R : A → B → Type 0) (xs : List A) (ys : List B) (x : A) (y : B) → IsEach R xs ys → R x y
    → IsEach R (xs ++ x ∷ []) (ys ++ y ∷ [])
each_more R [] [] x y each one = (one, tt)
each_more R [] (b ∷ ys) x y each one = absurd each
each_more R (a ∷ xs) [] x y each one = absurd each
each_more R (a ∷ xs) (b ∷ ys) x y each one = (each.0, each_more R xs ys x y each.1 one)

-- the operation that is kept at an event was pending there
kept_places : (log : List pending.Pending) (passed : ℕ) (at : Place) (operation : Operation)
    → slice_get (map noted log) passed ≡ Some (kept.Operates at operation) → slice_get log passed ≡ Some (pending.Operates at operation)
kept_places [] passed at operation e = let no : ⊥ = cc in absurd no
kept_places (pending.Operates a o ∷ log) zero at operation e =
    let places : a ≡ at = cc in
    let operations : o ≡ operation = cc in
    λ i. Some (pending.Operates (places i) (operations i))
kept_places (pending.Tries a path ∷ log) zero at operation e = let no : ⊥ = cc in absurd no
kept_places (pending.Accesses a object offset ∷ log) zero at operation e = let no : ⊥ = cc in absurd no
kept_places (x ∷ log) (suc passed) at operation e = kept_places log passed at operation e

pub kept_of_log : (notes : List Kept) (log : List pending.Pending) → notes ≡ map noted log → (passed : ℕ) (at : Place) (operation : Operation)
    → slice_get notes passed ≡ Some (kept.Operates at operation) → slice_get log passed ≡ Some (pending.Operates at operation)
kept_of_log notes log are passed at operation e = kept_places log passed at operation (sym (ap (λ l. slice_get l passed) are) ∙ e)

-- and each pending operation is kept
pub log_is_kept : (notes : List Kept) (log : List pending.Pending) → notes ≡ map noted log → (passed : ℕ) (at : Place) (operation : Operation)
    → slice_get log passed ≡ Some (pending.Operates at operation) → slice_get notes passed ≡ Some (kept.Operates at operation)
log_is_kept notes log are passed at operation e =
    ap (λ l. slice_get l passed) are ∙ slice_get-map noted log passed ∙ ap (option_map noted) e

module _ (program : TypedProgram) (entry : ℕ) (budgets : Budgets) where
  -- what is kept of a run under a budget of at most the entry's events
  pub kept_up_to : (events : ℕ) (run : ProgramRun) (outcome : Outcome) (log : Log) (notes : List Kept)
      → RunGives program entry run (up_to events budgets) outcome log → events ≤ budgets.events
      → ((passed : ℕ) (at : Place) (operation : Operation) → slice_get notes passed ≡ Some (kept.Operates at operation)
      → slice_get log.pending passed ≡ Some (pending.Operates at operation))
      → (passed : ℕ) (at : Place) (operation : Operation) → slice_get notes passed ≡ Some (kept.Operates at operation) → passed ≤ length log.events
      → Comes program entry (run_budgets budgets) run (take passed log.events) (pending.Operates at operation)
  kept_up_to events run outcome log notes gives fewer so passed at operation noted enough =
      let small = up_to events budgets in
      let comes = kept_comes program entry small run outcome log gives passed (pending.Operates at operation) (so passed at operation noted) enough in
      let within = pends_in_budget (step program small) (setting_of program run small) comes.pends in
      comes_within program entry budgets.visits budgets.depth events budgets.events run (take passed log.events) (pending.Operates at operation) comes
      (omega arith)
