-- Each end whose outcome is a fault or a budget has a finding: a suspect of its outcome is evident, and the outcome of each evident suspect is listed.
use Rattle.std.proofs.Common.{◌≡◌, ℕ, List, [], All, Some, slice_get, sym, ap, ◌∙◌, subst}
use Rattle.std.specs.Prelude.{Contains}
use Rattle.std.proofs.lemmas.List.Elements.{All-weaker, All-contains_itself}
use Rattle.std.proofs.lemmas.Option.{slice_get-get_or}
use Rattle.cs_ast.specs.TypedProgram.{TypedProgram}
use Rattle.cs_terms.specs.Table.{HasEachOnce}
use Rattle.cs_events.specs.declared.outcome.Outcome.{Outcome}
use Rattle.cs_events.specs.declared.outcome.Outcome.TheVariants.{Done, Fault, Over}
use Rattle.cs_cfg.specs.Graph.{Code}
use Rattle.cs_results.specs.declared.budgets.Budgets.{Budgets}
use Rattle.cs_results.specs.declared.result.Cut.{Cut}
use Rattle.cs_results.specs.declared.result.EntryResult.{EntryResult}
use Rattle.cs_state.specs.Naming.{naming}
use Rattle.cs_explored.specs.declared.explored.End.{End}
use Rattle.cs_explored.specs.declared.explored.Explored.{Explored}
use Rattle.cs_coverage.specs.IntegerEntries.{IsIntegerEntry}
use Rattle.cs_suspect_types.specs.declared.suspect.Suspect.{Suspect}
use Rattle.cs_suspects.specs.Suspected.{IsSuspectOf, AreSuspectsOf, AreAllSuspected}
use Rattle.cs_findings.specs.EveryRun.{HasFinding}
use Rattle.cs_findings.specs.GoodFindings.{IsFinding}
use Rattle.cs_findings.specs.Runs.{run_budgets}
use Rattle.cs_guesses.specs.Real.{IsLoweredEntry}
use Rattle.cs_witness.specs.Evidence.{IsEvident}
use Rattle.cs_completeness.specs.Laws.{SuspectsAreEvident}
use Rattle.cs_completeness.specs.Shown.{ShowsAllEnds}
use Rattle.cs_completeness.specs.Ends.{HasExactEnds}
use Rattle.cs_completeness.proofs.EvidentSuspects.{suspect_evident}

pub suspects_evident : SuspectsAreEvident
suspects_evident code program entry budgets explored end suspect lowered works once exact among is finding =
    let there : slice_get explored.ends.items among.0 ≡ Some end
    = slice_get-get_or explored.ends.items among.0 end among.1 ∙ ap (λ (found : End). Some found) among.2 in
    suspect_evident code program entry (run_budgets budgets) (naming explored.tables) [] explored.rows.items explored.ends.items lowered works once
    exact.exact exact.noted exact.guesses among.0 end there suspect is finding

module _ (code : Code) (program : TypedProgram) (entry : ℕ) (budgets : Budgets) (explored : Explored) (given : EntryResult)
    (lowered : IsLoweredEntry code program entry) (works : IsIntegerEntry code program entry) (once : HasEachOnce (naming explored.tables).syms)
    (exact : HasExactEnds code program entry budgets explored) (suspects : List Suspect)
    (each : AreSuspectsOf (naming explored.tables) explored.ends.items suspects) (all : AreAllSuspected explored.ends.items suspects)
    (shown : (suspect : Suspect) → Contains suspects suspect → IsFinding suspect.what → IsEvident program entry (run_budgets budgets) suspect
    → HasFinding given suspect.what) where
  abbrev ends : List End
  ends = explored.ends.items

  has_finding : (end : End) → Contains ends end → IsFinding end.outcome → HasFinding given end.outcome
  has_finding end among finding =
      let one = all end among finding in
      let of = each one.0 one.1 in
      let is_finding : IsFinding one.0.what = subst IsFinding (sym one.2) finding in
      let its_finding : IsFinding of.0.outcome = subst IsFinding of.2.what is_finding in
      subst (HasFinding given) one.2
      (shown one.0 one.1 is_finding
      (suspects_evident code program entry budgets explored of.0 one.0 lowered works once exact of.1 of.2 its_finding))

  of_outcome : (outcome : Outcome) → (IsFinding outcome → HasFinding given outcome) → HasFinding given outcome
  of_outcome (Done returned) found = tt
  of_outcome (Fault kind at) found = found tt
  of_outcome (Over budget at) found = found tt

  all_shown : All (λ (end : End). HasFinding given end.outcome) ends
  all_shown =
      All-weaker (Contains ends) (λ (end : End). HasFinding given end.outcome) (λ end among. of_outcome end.outcome (has_finding end among)) ends
      (All-contains_itself ends)

  -- if no cut is listed, nothing was cut
  pub all_of : (cuts : List Cut) → given.cuts.items ≡ cuts → (cuts ≡ [] → explored.cuts.items ≡ []) → ShowsAllEnds explored given
  all_of cuts same some = record { ends = all_shown; cuts = λ none. some (sym same ∙ none) }
