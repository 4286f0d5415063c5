-- The suspect of an end of an exploration is evident, if the entry is an integer entry and its code is the lowering of the program.
use Rattle.std.proofs.Common.{◌≡◌, ◌≤◌, ℕ, ℤ, List, [], ◌∷◌, map, length, Some, All, slice_get}
use Rattle.std.proofs.Common.{refl, sym, ap, ◌∙◌, subst, arith}
use Rattle.std.specs.Prelude.{Contains}
use Rattle.std.specs.FinMap as finite
use Rattle.std.specs.List.Sorted.{IsStrictlySortedBy}
use Rattle.std.specs.Ordering.{nat_cmp}
use Rattle.std.proofs.lemmas.Int.{ints}
use Rattle.std.proofs.lemmas.List.{length-append}
use Rattle.std.proofs.lemmas.List.Elements.{All-map, All-weaker, All-contains_itself}
use Rattle.std.proofs.lemmas.Option.{same_Some}
use Rattle.cs_ast.specs.TypedProgram.{TypedProgram}
use Rattle.cs_ranges.specs.declared.range_set.Interval.{Interval}
use Rattle.cs_ranges.specs.RangeSet.{IsLeast, IsGreatest}
use Rattle.cs_terms.specs.Table.{HasEachOnce}
use Rattle.cs_terms.specs.Term.{Valuation}
use Rattle.cs_constraints.specs.Constraints.{Sets, Fits}
use Rattle.cs_events.specs.declared.guess.Guess.{Guess}
use Rattle.cs_events.specs.declared.outcome.Outcome.{Outcome}
use Rattle.cs_events.specs.declared.outcome.Outcome.TheVariants.{Done, Fault, Over}
use Rattle.cs_events.specs.declared.outcome.RunBudgets.{RunBudgets}
use Rattle.cs_events.specs.Acts.{Act}
use Rattle.cs_events.specs.Runs.{Setting, Log, Ends, empty}
use Rattle.cs_events.proofs.RunLaws.{one_end}
use Rattle.cs_event_runs.specs.First.{Step, Ended, first_of}
use Rattle.cs_event_runs.specs.ByEvents.{RunsTo, ends, shows, silently}
use Rattle.cs_event_runs.proofs.Firsts.{HasEvents, adds_first}
use Rattle.cs_event_runs.proofs.EventLaws.{ends_by_events, events_shown}
use Rattle.cs_meaning.specs.Machine.{routine_of}
use Rattle.cs_meaning.specs.ProgramRuns.{ProgramRun, setting_of, RunGives}
use Rattle.cs_meaning.specs.Steps.{step}
use Rattle.cs_cfg.specs.Graph.{Code}
use Rattle.cs_cfg.specs.CodeSteps.{code_step, code_started}
use Rattle.cs_state.specs.declared.asked.Asked.{Asked}
use Rattle.cs_state.specs.declared.state.State.{State}
use Rattle.cs_state.specs.Meaning.{setting_of as valued}
use Rattle.cs_state.specs.Naming.{Naming}
use Rattle.cs_state.specs.Valuations.{guess_of, guesses_of}
use Rattle.cs_explored.specs.declared.explored.End.{End}
use Rattle.cs_explored.specs.declared.explored.Row.{Row}
use Rattle.cs_explored.specs.declared.watch.Rule.{Rule}
use Rattle.cs_progress.specs.Stepping.{end_of}
use Rattle.cs_successors.specs.EntryRuns.{Proceeds, stays, silently as goes_on, shows as shows_one}
use Rattle.cs_coverage.specs.IntegerEntries.{IsIntegerEntry}
use Rattle.cs_exactness.specs.Exact.{IsExact, IsExactEnd, ComesToEnd}
use Rattle.cs_exactness.specs.Noted.{EachNotesEvents, IsInEventOrder}
use Rattle.cs_suspect_types.specs.declared.suspect.Suspect.{Suspect}
use Rattle.cs_suspect_types.specs.declared.suspect.SuspectedGuess.{SuspectedGuess}
use Rattle.cs_suspects.specs.Suspected.{IsSuspectOf, IsSolution, suspected}
use Rattle.cs_findings.specs.GoodFindings.{IsFinding, Ascend}
use Rattle.cs_guesses.specs.Asking.{IsAskedAlong}
use Rattle.cs_guesses.specs.Graphs.{IsGuessedGraph}
use Rattle.cs_guesses.specs.Inexact.{AreRanges}
use Rattle.cs_guesses.specs.Real.{run_at, IsLoweredEntry}
use Rattle.cs_guesses.proofs.ProgramRuns.{same_inputs}
use Rattle.cs_witness.specs.Evidence.{IsRunOf, IsEvident, IsEvidentGuess}
use Rattle.cs_completeness.proofs.CornerMoves.{HasOneRange}
use Rattle.cs_completeness.proofs.EvidentGuesses.{alike, suspected_guesses, guess_evident, from_place, maps_once}
use Rattle.cs_completeness.proofs.GuessOrder.{event_of, events_ascend}
use Rattle.cs_completeness.proofs.SameParameters.{reads_none, gives_alike}

-- a solution fits
solution_fits : (sets : Sets) (v : Valuation) → IsSolution sets v → Fits v sets
solution_fits sets v solution symbol set is = (solution.declared symbol set is).member

-- two ranges of one symbol in the same sets are equal
one_least : (set : List Interval) (one other : ℤ) → IsLeast set one → IsLeast set other → one ≡ other
one_least set one other first second =
    let upper = first.least other second.member in
    let lower = second.least one first.member in
    grind (arith, ints)

one_greatest : (set : List Interval) (one other : ℤ) → IsGreatest set one → IsGreatest set other → one ≡ other
one_greatest set one other first second =
    let upper = first.greatest other second.member in
    let lower = second.greatest one first.member in
    grind (arith, ints)

pub one_range : (asked : Asked) (sets : Sets) → AreRanges asked sets → HasOneRange asked
one_range asked sets ranges own left right =
    let one = ranges.left own left in
    let other = ranges.right own right in
    let same : one.0 ≡ other.0 = same_Some one.0 other.0 (sym one.1 ∙ other.1) in
    let low = one_least other.0 asked.ends.left.low asked.ends.right.low
    (subst (λ (set : List Interval). IsLeast set asked.ends.left.low) same one.2) other.2 in
    let high = one_greatest other.0 asked.ends.left.high asked.ends.right.high
    (subst (λ (set : List Interval). IsGreatest set asked.ends.left.high) same one.3) other.3 in
    λ i. record { low = low i; high = high i }

-- steps of a run, and then its end, are a whole run
module _ {M : Type 0} (step : M → Act M) (setting : Setting) where
  runs_to : {left last : Act M} {log before : Log} {steps : List Step} → Proceeds step setting left log steps last before → (outcome : Outcome) (end : Log)
      → first_of setting before last ≡ Ended outcome end → RunsTo step setting (first_of setting log left) steps outcome end
  runs_to (stays same same_log) outcome end is = ends ((λ i. first_of setting (same_log i) (same i)) ∙ is)
  runs_to (goes_on silent rest) outcome end is = silently silent (runs_to rest outcome end is)
  runs_to (shows_one shown rest) outcome end is = shows shown (runs_to rest outcome end is)

-- the outcome of a run is that of its end, if this is a fault or a budget
found : (outcome : Outcome) → IsFinding (end_of outcome) → end_of outcome ≡ outcome
found (Done returned) finding = absurd finding
found (Fault kind at) finding = refl
found (Over budget at) finding = refl

module _ (code : Code) (program : TypedProgram) (entry : ℕ) (budgets : RunBudgets) (names : Naming) (rules : List Rule) (rows : List Row) (given : List End)
    (lowered : IsLoweredEntry code program entry) (works : IsIntegerEntry code program entry) (once : HasEachOnce names.syms)
    (exact : IsExact code program entry budgets names rows given) (noted : EachNotesEvents rules rows given)
    (guessed : IsGuessedGraph code program entry budgets names rows given) where
  module _ (number : ℕ) (end : End) (there : slice_get given number ≡ Some end) (suspect : Suspect) (is : IsSuspectOf names end suspect)
      (finding : IsFinding end.outcome) where
    abbrev state : State
    state = end.state.value

    abbrev v : Valuation
    v = is.v

    abbrev all : List Asked
    all = finite.values state.asked

    fits : Fits v state.constraints
    fits = solution_fits state.constraints v is.solution

    own : IsExactEnd code program entry budgets names rows end
    own = exact.of_ends number end there

    comes : ComesToEnd code program entry budgets names end own.chain v
    comes = own.comes v fits

    abbrev run : ProgramRun
    run = run_at names state v

    abbrev setting : Setting
    setting = valued names budgets state v

    setting_is : setting ≡ setting_of program run budgets
    setting_is =
        λ i. record {
          model = own.model i;
          inputs = sym (same_inputs names.syms v) i;
          guesses = guesses_of v state.asked;
          budgets = budgets;
        }

    runs : RunsTo (code_step code program budgets) setting
        (first_of setting empty (code_step code program budgets (code_started code program setting.inputs entry (routine_of program entry))))
        comes.steps comes.outcome comes.log
    runs = runs_to (code_step code program budgets) setting comes.ends.proceeds comes.outcome comes.log comes.ends.ends

    -- the run of the valuation has the end's outcome, after as many events as its state counts
    gives : RunGives program entry run budgets comes.outcome comes.log
    gives =
        lowered.lowered.runs.ends_only entry lowered.body run budgets comes.outcome comes.log lowered.has_body
        (subst (λ (s : Setting). Ends (code_step code program budgets) s (code_started code program s.inputs entry (routine_of program entry)) comes.outcome
        comes.log) setting_is (ends_by_events (code_step code program budgets) setting runs))

    count : length comes.log.events ≡ state.counters.events
    count =
        ap length (subst (HasEvents setting comes.before.events) comes.ends.ends (adds_first setting comes.before comes.last)) ∙ comes.stands.passed

    passes : comes.log.events ≡ own.chain
    passes =
        events_shown (code_step code program budgets) setting (code_started code program setting.inputs entry (routine_of program entry)) empty runs
        ∙ comes.passes

    as_suspected : (other : ProgramRun) (outcome : Outcome) (log : Log) → IsRunOf program entry suspect other
        → RunGives program entry other budgets outcome log → (outcome ≡ suspect.what) × (length log.events ≡ suspect.events) × (log.read ≡ [])
    as_suspected other outcome log of ended =
        let same = alike code program entry budgets names lowered works once state v suspect is.inputs is.guesses other of in
        let mine = gives_alike code program entry budgets lowered works run other same comes.outcome comes.log gives in
        let one = one_end (step program budgets) (setting_of program other budgets) mine ended in (
          one.0 ∙ sym (found comes.outcome (subst IsFinding comes.ended finding)) ∙ sym comes.ended ∙ sym is.what,
          ap (λ (l : Log). length l.events) one.1 ∙ count ∙ sym is.events,
          reads_none code program entry budgets lowered works other outcome log ended,
        )

    -- what is noted about its guesses is true
    asked_along : (asked : Asked) → Contains all asked → IsAskedAlong code program entry budgets names rows state own.chain asked
    asked_along = guessed.asked.of_ends number end own.chain there own.leads

    in_order : IsInEventOrder state
    in_order = (noted.of_ends number end own.chain there own.leads).in_order

    ascending : Ascend (map (λ (guess : SuspectedGuess). guess.guess) suspect.guesses.items)
    ascending =
        subst (λ (guesses : List Guess). Ascend guesses)
        (sym (suspected_guesses code program entry budgets names lowered works once state v suspect is.inputs is.guesses))
        (subst (IsStrictlySortedBy nat_cmp) (sym (maps_once (guess_of v) (λ (guess : Guess). guess.event) event_of (λ asked. refl) all))
        (events_ascend state in_order))

    before_end : (asked : Asked) → Contains all asked → asked.event ≤ suspect.events
    before_end asked among =
        let along = asked_along asked among in
        let one = along.number in
        let long = ap length along.along ∙ length-append along.before (along.event ∷ along.later) in
        let whole = ap length passes in
        let counted = count in
        let last = is.events in
        omega (arith, one, long, whole, counted, last)

    passed : All (λ (guess : SuspectedGuess). guess.guess.event ≤ suspect.events) suspect.guesses.items
    passed =
        subst (All (λ (guess : SuspectedGuess). guess.guess.event ≤ suspect.events)) (sym is.guesses)
        (All-map (λ (guess : SuspectedGuess). guess.guess.event ≤ suspect.events) (suspected names v) all
        (All-weaker (Contains all) (λ (asked : Asked). asked.event ≤ suspect.events) before_end all (All-contains_itself all)))

    guesses_evident : (place : ℕ) (guess : SuspectedGuess) → slice_get suspect.guesses.items place ≡ Some guess
        → IsEvidentGuess program entry budgets suspect place guess
    guesses_evident place guess here =
        let one = from_place (suspected names v) all place guess
        (subst (λ (list : List SuspectedGuess). slice_get list place ≡ Some guess) is.guesses here) in
        subst (IsEvidentGuess program entry budgets suspect place) (sym one.2)
        (guess_evident code program entry budgets names lowered works once state v suspect is.inputs is.guesses
        (λ asked among. (asked_along asked among).named)
        (λ asked among. (guessed.corners lowered).of_ends number end own.chain there own.leads v asked fits among)
        (λ asked among. let ranges = (asked_along asked among).has_ranges in one_range asked ranges.0 ranges.1) in_order place one.0 one.1)

    pub suspect_evident : IsEvident program entry budgets suspect
    suspect_evident = record { ends = as_suspected; ascending = ascending; passed = passed; guesses = guesses_evident }
