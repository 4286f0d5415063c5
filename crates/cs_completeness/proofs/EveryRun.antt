-- An exploration that covers the runs of an entry, and whose ends all have findings, misses no run: for `analyze`.
use Rattle.std.proofs.Common.{◌≡◌, ℕ, List, [], ◌∷◌, refl, subst, arith}
use Rattle.std.proofs.lemmas.Option.{slice_get_within, get_or_from_slice_get}
use Rattle.std.specs.Prelude.{Contains}
use Rattle.cs_inputs.specs.Inputs.{number_at}
use Rattle.cs_ast.specs.declared.place.Place.{Place}
use Rattle.cs_ast.specs.TypedProgram.{TypedProgram}
use Rattle.cs_events.specs.declared.outcome.Outcome.{Outcome}
use Rattle.cs_events.specs.declared.outcome.Outcome.TheVariants.{Done, Fault, Over}
use Rattle.cs_events.specs.PendingEvents.{Pending, Operates, Tries, Accesses}
use Rattle.cs_event_runs.specs.First.{Step}
use Rattle.cs_event_runs.specs.ByEvents.{silently}
use Rattle.cs_event_runs.proofs.EventLaws.{events_by_end}
use Rattle.cs_meaning.specs.ProgramRuns.{ProgramRun, setting_of}
use Rattle.cs_cfg.specs.Graph.{Code}
use Rattle.cs_cfg.specs.CodeSteps.{code_step}
use Rattle.cs_cfg.specs.Lowered.{IsLowered}
use Rattle.cs_results.specs.declared.budgets.Budgets.{Budgets}
use Rattle.cs_results.specs.declared.result.Cut.{Cut}
use Rattle.cs_results.specs.declared.result.Cut.TheVariants.{Nodes, Splits}
use Rattle.cs_results.specs.declared.result.EntryResult.{EntryResult}
use Rattle.cs_explored.specs.declared.explored.End.{End}
use Rattle.cs_explored.specs.declared.explored.Explored.{Explored}
use Rattle.cs_progress.specs.Stepping.{end_of}
use Rattle.cs_coverage.specs.Covering.{PassesNone, IsElsewhere, IsCutAt, HasAllNodes}
use Rattle.cs_coverage.specs.IntegerEntries.{IsIntegerEntry}
use Rattle.cs_coverage.specs.Positions.{CoversPositions}
use Rattle.cs_cfg.specs.IntegerCode.{HasIntegerCode}
use Rattle.cs_integer_functions.specs.IntegerFunctions.{IsIntegerFunction}
use Rattle.cs_integer_functions.proofs.Parameters.{integer_parameters, has_body}
use Rattle.cs_guesses.specs.Real.{IsLoweredEntry}
use Rattle.cs_findings.specs.Runs.{run_budgets}
use Rattle.cs_completeness.specs.Shown.{ShowsAllEnds}
use Rattle.cs_findings.specs.EveryRun.{HasFinding, ReportsEveryRun}

no_cut : (cut : Cut) → Contains [] cut → ⊥
no_cut cut (k, within, at) = omega (arith, within)

-- if nothing is cut, no access is
nothing_is_cut : (cuts : List Cut) → cuts ≡ [] → (at : Place) → ¬ IsCutAt cuts at
nothing_is_cut cuts none at = λ cut. no_cut (Splits at cut.0) (subst (λ (all : List Cut). Contains all (Splits at cut.0)) none cut.1)

elsewhere : (cuts : List Cut) → cuts ≡ [] → (pending : Pending) → IsElsewhere (IsCutAt cuts) pending
elsewhere cuts none (Operates at operation) = tt
elsewhere cuts none (Tries at path) = tt
elsewhere cuts none (Accesses at object offset) = nothing_is_cut cuts none at

passes_none : (cuts : List Cut) → cuts ≡ [] → (steps : List Step) → PassesNone (IsCutAt cuts) steps
passes_none cuts none [] = tt
passes_none cuts none (one ∷ steps) = (elsewhere cuts none one.pending, passes_none cuts none steps)

all_nodes : (cuts : List Cut) → cuts ≡ [] → HasAllNodes cuts
all_nodes cuts none nodes = λ cut. no_cut (Nodes nodes) (subst (λ (all : List Cut). Contains all (Nodes nodes)) none cut)

-- an end has the same fault or budget as the run
found_by_end : (given : EntryResult) (outcome ended : Outcome) → ended ≡ end_of outcome → HasFinding given ended → HasFinding given outcome
found_by_end given (Done returned) ended is found = tt
found_by_end given (Fault kind at) ended is found = subst (HasFinding given) is found
found_by_end given (Over budget at) ended is found = subst (HasFinding given) is found

-- an integer function with integer code is an integer entry
pub integer_entry : (code : Code) (program : TypedProgram) (function : ℕ) → IsIntegerFunction program function
    → HasIntegerCode code program function → IsIntegerEntry code program function
integer_entry code program function is has =
    record { integers = has; parameters = λ number v there. integer_parameters program function number v is there }

pub lowered_entry : (code : Code) (program : TypedProgram) (function : ℕ) → IsLowered code program → IsIntegerFunction program function
    → IsLoweredEntry code program function
lowered_entry code program function lowered is =
    let body = has_body program function is in
    record { lowered = lowered; body = body.0; has_body = body.1 }

pub misses_none : (code : Code) (program : TypedProgram) (budgets : Budgets) (explored : Explored) (given : EntryResult)
    → IsLowered code program → IsIntegerFunction program given.entry → CoversPositions code program given.entry (run_budgets budgets) explored
    → ShowsAllEnds explored given → ReportsEveryRun program budgets given
misses_none code program budgets explored given lowered integer covers all none inputs outcome log gives =
    let body = has_body program given.entry integer in let clear = all.cuts none in
    let run : ProgramRun = record { inputs = inputs; guesses = [] } in
    let ends = lowered.runs.ends given.entry body.0 run (run_budgets budgets) outcome log body.1 gives in
    let found = events_by_end (code_step code program (run_budgets budgets)) (setting_of program run (run_budgets budgets)) ends in
    let covered = covers.endings (all_nodes explored.cuts.items clear) (number_at inputs) found.steps outcome log (silently refl found.runs)
    (passes_none explored.cuts.items clear found.steps) in
    let within = slice_get_within explored.ends.items covered.number covered.end covered.there in
    let is = get_or_from_slice_get explored.ends.items covered.number covered.end covered.end covered.there in
    found_by_end given outcome covered.end.outcome covered.ended
    (subst (λ (end : End). HasFinding given end.outcome) is (all.ends covered.number covered.end within))
