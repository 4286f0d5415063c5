-- The runs of a program that pass the chains of an exact graph's rows: for `PassesAlong`.
use Rattle.std.proofs.Common.{◌≡◌, ◌≤◌, inr, ℕ, List, ◌∷◌, ◌++◌, length, Some}
use Rattle.std.proofs.Common.{refl, sym, ap, ◌∙◌, subst, get_or}
use Rattle.std.specs.FinMap as finite
use Rattle.std.proofs.lemmas.List.{map-append}
use Rattle.std.proofs.lemmas.List.Elements.{All-map, All-contains_itself}
use Rattle.cs_inputs.specs.Inputs.{number_at}
use Rattle.cs_ast.specs.TypedProgram.{TypedProgram}
use Rattle.cs_ast.specs.TypedTree.{Statement}
use Rattle.cs_terms.specs.Term.{Valuation}
use Rattle.cs_events.specs.declared.guess.Guess.{Guess}
use Rattle.cs_events.specs.declared.outcome.Outcome.{Outcome}
use Rattle.cs_events.specs.declared.outcome.RunBudgets.{RunBudgets}
use Rattle.cs_events.specs.Acts.{Act}
use Rattle.cs_events.specs.Runs.{Setting, Log, empty}
use Rattle.cs_event_runs.specs.First.{Step, First, Silent, first_of}
use Rattle.cs_event_runs.specs.ByEvents.{RunsTo, ends, shows, silently}
use Rattle.cs_event_runs.proofs.EventLaws.{events_by_end, events_shown}
use Rattle.cs_meaning.specs.Machine.{routine_of}
use Rattle.cs_meaning.specs.ProgramRuns.{ProgramRun, setting_of, RunPasses}
use Rattle.cs_meaning.proofs.ProgramEndings.{run_ends}
use Rattle.cs_cfg.specs.Graph.{Code}
use Rattle.cs_cfg.specs.Working.{CodeState}
use Rattle.cs_cfg.specs.CodeSteps.{code_step, code_started}
use Rattle.cs_cfg.specs.Lowered.{IsLowered}
use Rattle.cs_state.specs.declared.state.State.{State}
use Rattle.cs_state.specs.Meaning.{setting_of as valued}
use Rattle.cs_state.specs.Naming.{Naming}
use Rattle.cs_state.specs.Valuations.{guess_of, guesses_of}
use Rattle.cs_explored.specs.declared.explored.Row.{Row}
use Rattle.cs_successors.specs.EntryRuns.{events_of, LeavesAfter, now, later, unseen, HasLeft, begins, passes}
use Rattle.cs_exactness.specs.Exact.{IsExactRow}
use Rattle.cs_exactness.specs.Noted.{RecordsGuesses}
use Rattle.cs_findings.specs.OutOfNodes.{PassesAlong}
use Rattle.cs_guesses.specs.Real.{run_at}
use Rattle.cs_guesses.proofs.ProgramRuns.{same_inputs}
use Rattle.cs_completeness.proofs.PrefixTrees.{guessed_within}

module _ {M : Type 0} (step : M → Act M) (setting : Setting) where
  -- the steps of a run that ends begin with those that it has passed before
  passed_first : {first : First M} {steps all : List Step} {left : Act M} {log end : Log} {outcome : Outcome} → LeavesAfter step setting first steps left log
      → RunsTo step setting first all outcome end → (more : List Step) × (all ≡ steps ++ more)
  passed_first (now e) (ends f) = cc
  passed_first (now {one = one} {left = left} {log = log} e) (shows {shown = other} {left = rest} {log = end} {steps = steps} f onward) =
      let same : other ≡ one = cc in
      (steps, λ i. same i ∷ steps)
  passed_first (now e) (silently f onward) = cc
  passed_first (later e rest) (ends f) = cc
  passed_first (later {one = one} {between = left} {before = log} e rest)
      (shows {shown = other} {left = left'} {log = log'} {steps = steps} {outcome = outcome} {end = end} f onward) =
      let same : other ≡ one = cc in
      let lefts : left' ≡ left = cc in
      let logs : log' ≡ log = cc in
      let more = passed_first rest
      (subst (λ (first : First M). RunsTo step setting first steps outcome end) (λ i. first_of setting (logs i) (lefts i)) onward) in
      (more.0, λ i. same i ∷ more.1 i)
  passed_first (later e rest) (silently f onward) = cc
  passed_first (unseen e rest) (ends f) = cc
  passed_first (unseen e rest) (shows f onward) = cc
  passed_first (unseen {next = next} {before = log} e rest) (silently {next = next'} {log = log'} {steps = steps} {outcome = outcome} {end = end} f onward) =
      let nexts : next' ≡ next = cc in
      let logs : log' ≡ log = cc in
      passed_first rest (subst (λ (first : First M). RunsTo step setting first steps outcome end) (λ i. first_of setting (logs i) (step (nexts i))) onward)

module _ (code : Code) (program : TypedProgram) (entry : ℕ) (budgets : RunBudgets) (names : Naming) (rows : List Row)
    (lowered : IsLowered code program) (body : Statement) (has_body : (routine_of program entry).body ≡ Some body) where
  -- the steps of the code's run that ends, after those that it has passed before
  ends_after : (run : ProgramRun) (steps all : List Step) (left : Act CodeState) (log end : Log) (outcome : Outcome)
      → HasLeft code program entry budgets (setting_of program run budgets) steps left log
      → RunsTo (code_step code program budgets) (setting_of program run budgets)
      (Silent (code_started code program (number_at run.inputs) entry (routine_of program entry)) empty) all outcome end
      → (more : List Step) × (all ≡ steps ++ more)
  ends_after run steps all left log end outcome (begins same none) runs = (all, refl)
  ends_after run steps all left log end outcome (passes leaves) runs =
      passed_first (code_step code program budgets) (setting_of program run budgets) leaves runs

  pub run_passes : (run : ProgramRun) (steps : List Step) (left : Act CodeState) (log : Log)
      → HasLeft code program entry budgets (setting_of program run budgets) steps left log → RunPasses program entry run budgets (events_of steps)
  run_passes run steps left log has =
      let ended = run_ends program entry run budgets in
      let found = events_by_end (code_step code program budgets) (setting_of program run budgets)
      (lowered.runs.ends entry body run budgets ended.0 ended.1 has_body ended.2) in
      let more = ends_after run steps found.steps left log ended.1 ended.0 has (silently refl found.runs) in
      let events = events_shown (code_step code program budgets) (setting_of program run budgets)
      (code_started code program (number_at run.inputs) entry (routine_of program entry)) empty found.runs in (
        ended.1,
        events_of more.0,
        inr (ended.0, ended.2),
        events ∙ ap events_of more.1 ∙ map-append (λ (one : Step). one.event) steps more.0,
      )

  setting_is : (state : State) (valuation : Valuation) → state.model ≡ program.model
      → valued names budgets state valuation ≡ setting_of program (run_at names state valuation) budgets
  setting_is state valuation model = λ i. record {
    model = model i;
    inputs = sym (same_inputs names.syms valuation) i;
    guesses = guesses_of valuation state.asked;
    budgets = budgets;
  }

  -- the run of a valuation that fits a row passes the row's chain, and guesses nothing after it
  pub passes_along : (number : ℕ) (row : Row) (exact : IsExactRow code program entry budgets names rows number row)
      → RecordsGuesses rows number row.state.value
      → PassesAlong program entry budgets (run_at names row.state.value exact.possible.0) exact.chain
  passes_along number row exact notes =
      let state = row.state.value in
      let valuation = exact.possible.0 in
      let comes = exact.comes valuation exact.possible.1 in
      record {
        passes = subst (RunPasses program entry (run_at names state valuation) budgets) comes.passes
            (run_passes (run_at names state valuation) comes.steps comes.left comes.log
            (subst (λ (setting : Setting). HasLeft code program entry budgets setting comes.steps comes.left comes.log)
            (setting_is state valuation exact.model) comes.has_left));
        within = All-map (λ (guess : Guess). guess.event ≤ length exact.chain) (guess_of valuation) (finite.values state.asked)
            (λ place default inside.
            let asked = get_or (finite.values state.asked) place default in
            let among = All-contains_itself (finite.values state.asked) place default inside in
            guessed_within rows ((notes asked.event asked.guess).1 (asked, among, refl, refl)) exact.chain exact.leads);
      }
