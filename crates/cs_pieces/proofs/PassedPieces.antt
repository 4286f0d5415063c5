-- A run passes its next event and reaches the child of a piece of the label that it shows: for the contract of `find`.
use Rattle.std.proofs.Common.{◌≡◌, ℕ, suc, ◌+◌, ◌<◌, ◌≤◌, ℤ, Bool, true, false, [], ◌∷◌, ◌++◌, Option, length, map}
use Rattle.std.proofs.Common.{if◌then◌else◌, refl, sym, ap, ◌∙◌, arith}
use Rattle.std.proofs.lemmas.Bool.Decides.{nat_tests}
use Rattle.std.proofs.lemmas.List.{length-append, map-append}
use Rattle.cs_inputs.specs.declared.path.Path.{Path}
use Rattle.cs_types.specs.declared.data_model.DataModel.{DataModel}
use Rattle.cs_ast.specs.declared.place.Place.{Place}
use Rattle.cs_ast.specs.TypedProgram.{TypedProgram}
use Rattle.cs_terms.specs.declared.term.Lin.{Lin}
use Rattle.cs_terms.specs.Term.{Valuation, value_of}
use Rattle.cs_constraints.specs.Constraints.{Fits}
use Rattle.cs_events.specs.declared.event.Event.{Event}
use Rattle.cs_events.specs.declared.input.InputKind.{InputKind}
use Rattle.cs_events.specs.declared.operation.Operation.{Operation}
use Rattle.cs_events.specs.declared.outcome.Outcome.TheVariants.{Over}
use Rattle.cs_events.specs.declared.outcome.Budget.TheVariants.{Events}
use Rattle.cs_events.specs.declared.outcome.RunBudgets.{RunBudgets}
use Rattle.cs_events.specs.Objects.{Cell}
use Rattle.cs_events.specs.Operations.{guess_range, result_with, shows}
use Rattle.cs_events.specs.PendingEvents.{Operates}
use Rattle.cs_events.specs.Acts.{Act, Asks}
use Rattle.cs_events.specs.Runs.{Setting, Log, guess_at, read_cell, used, used_guess, with_event, allows_event}
use Rattle.cs_event_runs.specs.ByEvents.{ShowsAfter, now as comes}
use Rattle.cs_event_runs.specs.First.{Step, First, Shown, Ended, first_of}
use Rattle.cs_event_runs.specs.Left.{left_of}
use Rattle.cs_cfg.specs.Graph.{Code}
use Rattle.cs_cfg.specs.Working.{CodeState}
use Rattle.cs_cfg.specs.CodeSteps.{code_step}
use Rattle.cs_state.specs.declared.state.State.{State}
use Rattle.cs_state.specs.Meaning.{meaning}
use Rattle.cs_state.specs.Naming.{Naming}
use Rattle.cs_progress.specs.Stepping.{next_act, next_left}
use Rattle.cs_successors.specs.EntryRuns.{LeavesAfter, now}
use Rattle.cs_successors.specs.Coming.{is_declared, IsIntegerState, GoesBy, IsAt, PassesTo}
use Rattle.cs_successors.proofs.Agreeing.{values_agree, means_alike}
use Rattle.cs_successors.proofs.Passing.{one_alone}
use Rattle.cs_pieces.proofs.OneMoreAnswer.{left_of_one}
use Rattle.cs_pieces.proofs.StandingFirst.{StandsFirst, stands_first}

-- the event of an operation, with or without a guess
abbrev pub event_with : DataModel → Place → Operation → Option ℤ → Event
event_with model at operation given = record { place = at; label = shows model operation given }

abbrev pub step_with : DataModel → Place → Operation → Option ℤ → Step
step_with model at operation given = record {
  pending = Operates at operation;
  event = event_with model at operation given;
  answer = result_with model operation given;
}

module _ (code : Code) (program : TypedProgram) (budgets : RunBudgets) (names : Naming) (state : State)
    (is : IsIntegerState code program budgets names state) (at : Place) where
  module _ (setting : Setting) (v : Valuation) (left : Act CodeState) (log : Log) (goes : GoesBy code program budgets names setting)
      (here : IsAt code program budgets names state setting v left log) (operation : Operation) (onward : ℤ → Act CodeState)
      (asks : next_left code names program budgets (read_cell setting) state v ≡ Asks at operation onward) where
    -- the log after the reads and touches before the event
    stands : StandsFirst setting log.events (first_of setting log left) (Asks at operation onward)
    stands = stands_first setting log left (Asks at operation onward) (here.same ∙ asks)

    abbrev later : Log
    later = stands.0

    many : length later.events ≡ state.counters.events
    many = ap length stands.1 ∙ here.passed

    abbrev found : DataModel → Bool → Option ℤ → First CodeState
    found model room given =
        if room
        then Shown (step_with model at operation given) (onward (result_with model operation given))
        (with_event later (Operates at operation) (event_with model at operation given))
        else Ended (Over Events at) later

    -- if the budget of events is used up, the run ends
    pub asks_over : budgets.events ≤ state.counters.events → (end : Log) × (first_of setting log left ≡ Ended (Over Events at) end)
    asks_over full = (later, stands.2 ∙ ap (λ (room : Bool). found setting.model room (used_guess setting later operation)) none)
      where
        limit : setting.budgets.events ≡ budgets.events
        limit = ap (λ (b : RunBudgets). b.events) goes.limits

        none : allows_event setting later ≡ false
        none = let l = limit in let m = many in grind (arith, nat_tests)

    module _ (room : state.counters.events < budgets.events) (given : Option ℤ)
        (uses : used (guess_range program.model operation) (guess_at setting.guesses (suc state.counters.events)) ≡ given) where
      -- within the budget, it shows the event
      asks_shows : first_of setting log left ≡ found program.model true given
      asks_shows = stands.2 ∙ (λ i. found (goes.model i) (some i) (used_is i))
        where
          limit : setting.budgets.events ≡ budgets.events
          limit = ap (λ (b : RunBudgets). b.events) goes.limits

          some : allows_event setting later ≡ true
          some = let l = limit in let m = many in grind (arith, nat_tests)

          used_is : used (guess_range setting.model operation) (guess_at setting.guesses (suc (length later.events))) ≡ given
          used_is =
              (λ i. used (guess_range (goes.model i) operation) (guess_at setting.guesses (suc (many i))))
              ∙ uses

      -- so the run reaches this step
      pub comes_to_step : ShowsAfter (code_step code program budgets) setting (first_of setting log left) [] (step_with program.model at operation given)
      comes_to_step = comes asks_shows

      -- and no other step can be next
      pub only_step : (one : Step) (rest : Act CodeState) (end : Log)
          → LeavesAfter (code_step code program budgets) setting (first_of setting log left) (one ∷ []) rest end
          → step_with program.model at operation given ≡ one
      only_step one rest end leaves = (one_alone (code_step code program budgets) setting (now asks_shows) leaves).0

      -- the state directly after the event, under a valuation that agrees on what the state mentions
      module _ (after : State) (answer : Lin) (other : Valuation)
          (answers : after.answers ≡ state.answers ++ answer ∷ [])
          (means : meaning code names program after other ≡ meaning code names program state other)
          (number : after.counters.events ≡ state.counters.events + 1)
          (agree : (symbol : ℕ) → is_declared state.constraints symbol ≡ true → other symbol ≡ v symbol)
          (value : value_of other answer ≡ result_with program.model operation given)
          (fits : Fits other after.constraints) where
        abbrev cells : Path → InputKind → Cell
        cells = read_cell setting

        all_answers : map (value_of other) after.answers ≡ map (value_of v) state.answers ++ result_with program.model operation given ∷ []
        all_answers =
            ap (map (value_of other)) answers ∙ map-append (value_of other) state.answers (answer ∷ [])
            ∙ (λ i. values_agree (is_declared state.constraints) v other agree state.answers is.locals.answers i ++ value i ∷ [])

        same_act : next_act code names program budgets after other ≡ next_act code names program budgets state v
        same_act =
            ap (code_step code program budgets)
            (means ∙ means_alike (is_declared state.constraints) v other agree code names program state is.locals is.blocks)

        comes_after : left_of cells [] (onward (result_with program.model operation given)) ≡ next_left code names program budgets cells after other
        comes_after =
            sym ((λ i. left_of cells (all_answers i) (same_act i))
            ∙ left_of_one cells (map (value_of v) state.answers) (result_with program.model operation given)
            (next_act code names program budgets state v) at operation onward asks)

        pub passes_piece : (to : PassesTo code program budgets names after setting other left log)
            × (to.one.event ≡ event_with program.model at operation given) × (to.one.answer ≡ result_with program.model operation given)
        passes_piece = (
          record {
            one = step_with program.model at operation given;
            rest = onward (result_with program.model operation given);
            later = with_event later (Operates at operation) (event_with program.model at operation given);
            leaves = now asks_shows;
            comes = record {
              fits = fits;
              same = comes_after;
              passed =
                  (let all = length-append later.events (event_with program.model at operation given ∷ []) in
                  let m = many in
                  let n = number in
                  omega (arith, all, m, n));
            };
          },
          refl,
          refl,
        )
