-- What is noted about each guess of a row's or an end's state is true: for `AreAskedAlong`.
use Rattle.std.proofs.Common.{◌≡◌, ◌<◌, ◌≤◌, inl, inr, ℕ, suc, ℤ, List, [], ◌∷◌, ◌++◌, Some, slice_get, refl, sym, ap, ◌∙◌}
use Rattle.std.proofs.Common.{subst, arith}
use Rattle.std.specs.Prelude.{Contains}
use Rattle.std.specs.FinMap as finite
use Rattle.std.proofs.lemmas.List.{append-nil}
use Rattle.std.proofs.lemmas.Option.{same_Some}
use Rattle.cs_inputs.specs.declared.path.Path.{Path}
use Rattle.cs_ast.specs.TypedProgram.{TypedProgram}
use Rattle.cs_terms.specs.Term.{Valuation}
use Rattle.cs_constraints.specs.Constraints.{Sets, Fits}
use Rattle.cs_events.specs.declared.event.Event.{Event}
use Rattle.cs_events.specs.declared.guess.Guess.{Guess}
use Rattle.cs_events.specs.declared.operation.Operation.{Operation}
use Rattle.cs_events.specs.declared.outcome.RunBudgets.{RunBudgets}
use Rattle.cs_events.specs.Acts.{Act}
use Rattle.cs_events.specs.PendingEvents.{Operates}
use Rattle.cs_events.specs.Runs.{Setting, Log, guess_at}
use Rattle.cs_event_runs.specs.First.{Step, first_of}
use Rattle.cs_cfg.specs.Graph.{Code}
use Rattle.cs_cfg.specs.Working.{CodeState}
use Rattle.cs_state.specs.declared.asked.Asked.{Asked}
use Rattle.cs_state.specs.declared.state.State.{State}
use Rattle.cs_state.specs.Meaning.{setting_of}
use Rattle.cs_state.specs.Naming.{Naming}
use Rattle.cs_state.specs.Valuations.{Guessed as Guesses, guesses_of}
use Rattle.cs_eval.specs.declared.question.Question.{Question}
use Rattle.cs_eval.specs.Followed.{IsFollowed, IsGuess}
use Rattle.cs_eval.specs.Questions.{operation_of}
use Rattle.cs_explored.specs.declared.explored.End.{End}
use Rattle.cs_explored.specs.declared.explored.Row.{Row}
use Rattle.cs_explored.specs.declared.watch.Rule.{Rule}
use Rattle.cs_findings.proofs.EarlierGuesses.{guesses_kept}
use Rattle.cs_corners.specs.Operands.{HasOperands}
use Rattle.cs_successors.specs.EntryRuns.{events_of, setting_with, step_of, LeavesAfter, HasLeft, PassesTo}
use Rattle.cs_successors.specs.Coming.{IsAskedByIntegers, GoesBy, IsAt, IsEndOf}
use Rattle.cs_successors.proofs.Passing.{one_alone}
use Rattle.cs_coverage.specs.OwnNumbers.{own_valuation, ListsOwn}
use Rattle.cs_coverage.proofs.Coverage.{element}
use Rattle.cs_exactness.specs.Chains.{IsChain}
use Rattle.cs_exactness.specs.Noted.{EachState}
use Rattle.cs_exactness.specs.Sources.{HasSource, IsOfRow, AreSourced}
use Rattle.cs_exactness.proofs.DifferentRows.{are_distinct}
use Rattle.cs_exactness.proofs.NotedEvents.{passed}
use Rattle.cs_exactness.proofs.OwnRuns.{ListsSoFar, left_before, along}
use Rattle.cs_exactness.proofs.Walking.{integer_row}
use Rattle.cs_guesses.specs.Asking.{IsMoved, HasGround, IsUsable, before_event, pending_for, IsStepOf, IsAskedAlong, AreAskedAlong}
use Rattle.cs_guesses.specs.Inexact.{AreRanges, IsInexact}
use Rattle.cs_guesses.proofs.Moved.{moved_fits}
use Rattle.cs_guesses.proofs.Corners.{has_ground_moved, usable_moved}
use Rattle.cs_guesses.proofs.Operands.{operands_of, divisor_of, no_product}
use Rattle.cs_guesses.proofs.Origins.{IsMadeAt, comes_to_question, made_along, shown_passes_on}
use Rattle.cs_guesses.proofs.SameEnds.{followed_here, guessed_there}

module _ (code : Code) (program : TypedProgram) (entry : ℕ) (budgets : RunBudgets) (names : Naming) (rules : List Rule) (rows : List Row)
    (ends : List End) (Are : ℕ → Type 0) (sourced : AreSourced code program entry budgets names rules rows ends Are) where
  abbrev pub come : (number : ℕ) (row : Row) → slice_get rows number ≡ Some row → HasSource code program entry budgets names rules rows number row
  come = sourced.rows_come

  -- a state at the end of a chain, and one of its guesses
  module _ (state : State) (chain : List Event) (asked : Asked)
      (made : IsMadeAt code program entry budgets names rules rows come state chain asked) where
    abbrev sets : Sets
    sets = made.noted.sets

    abbrev event : Event
    event = made.child.event

    pub ranges : AreRanges asked sets
    ranges = record { inhabited = made.noted.inhabited; left = made.noted.noted.left_range; right = made.noted.noted.right_range }

    pub fits_sets : (v : Valuation) → Fits v state.constraints → Fits v sets
    fits_sets v fits = made.noted.kept v (made.fits v fits)

    pub moved_in : (v w : Valuation) → Fits v state.constraints → IsMoved asked v w → Fits w sets
    moved_in v w fits moved = moved_fits sets asked v w ranges.left ranges.right (fits_sets v fits) moved

    -- what is pending
    pends_same : (v : Valuation) → Fits v sets → Operates event.place (operation_of v made.noted.given) ≡ pending_for event made.noted.noted.meant v
    pends_same v fits = ap (λ (operation : Operation). Operates event.place operation) (sym (made.noted.noted.same v fits))

    -- before the guess all runs list what the row's runs do
    below : (w : Valuation) (at : ℕ) → at ≤ made.row.state.value.counters.events
        → guess_at (before_event asked.event (setting_of names budgets state w)).guesses at ≡ guess_at (guesses_of w made.row.state.value.asked) at
    below w at early =
        let count = passed code program entry budgets names rules rows come made.leads made.row made.there in
        let number = made.event in
        guesses_kept (guesses_of w state.asked) asked.event at (omega (arith, early, count, number)) ∙ made.lists w at (omega (arith, early, count, number))

    comes_moved : state.model ≡ program.model → (v w : Valuation) → Fits v state.constraints → IsMoved asked v w
        → PassesTo code program entry budgets (before_event asked.event (setting_of names budgets state w)) made.before
        (pending_for event made.noted.noted.meant w)
    comes_moved model v w fits moved =
        let fitted = moved_in v w fits moved in
        subst (PassesTo code program entry budgets (before_event asked.event (setting_of names budgets state w)) made.before) (pends_same w fitted)
        (comes_to_question code program entry budgets names rules rows come made (before_event asked.event (setting_of names budgets state w)) w fitted
        (record { goes = record { model = model; limits = refl }; inputs = refl }) (below w))

    -- a run that lists no guess, or before this guess the truths of the state's guesses, lists those of the row's
    lists_there : (guesses : List Guess) → ListsOwn state made.before (λ earlier. earlier < asked.event) guesses
        → ListsSoFar made.row.state.value made.before guesses
    lists_there guesses (inl none) = inl none
    lists_there guesses (inr lists) =
        let count = passed code program entry budgets names rules rows come made.leads made.row made.there in
        let number = made.event in
        inr (record {
          truths = λ at shown there early has. lists.truths at shown there (omega (arith, early, count, number)) (made.kept (suc at) has);
          listed = λ at early has. lists.listed at (omega (arith, early, count, number)) (made.kept at has);
          elsewhere = λ at early not. lists.elsewhere at (omega (arith, early, count, number))
              (λ has. not (made.guessed at (omega (arith, early, count, number)) has));
        })

    -- a run that has reached the row and passes one more event shows the operation
    comes_next : (setting : Setting) (v : Valuation) (left rest : Act CodeState) (log later : Log) (one : Step)
        → GoesBy code program budgets names setting → IsAt code program budgets names made.row.state.value setting v left log
        → LeavesAfter (step_of code program entry budgets) setting (first_of setting log left) (one ∷ []) rest later
        → IsStepOf program.model asked made.noted.noted.meant event one v
    comes_next setting v left rest log later one goes here leaves =
        let fitted = made.noted.own setting v left rest log later one goes here leaves in
        let asks = made.noted.comes setting v left log goes here fitted in
        let onward = shown_passes_on (step_of code program entry budgets) setting {one = asks.one} asks.shows refl in
        let same = one_alone (step_of code program entry budgets) setting {left = onward.rest} {log = onward.end} {other = asks.one} leaves onward.leaves in
        record { pends = ap (λ (s : Step). s.pending) same.0 ∙ asks.pends ∙ pends_same v fitted; determines = made.noted.noted.determines v fitted }

    comes_own : (inputs : Path → ℤ) (guesses : List Guess) (steps : List Step) (one : Step) (left : Act CodeState) (log : Log)
        → ListsOwn state made.before (λ earlier. earlier < asked.event) guesses
        → HasLeft code program entry budgets (setting_with program budgets inputs guesses) (steps ++ one ∷ []) left log → events_of steps ≡ made.before
        → IsStepOf program.model asked made.noted.noted.meant event one
        (own_valuation program entry names (setting_with program budgets inputs guesses) steps log)
    comes_own inputs guesses steps one left log lists has shown =
        let split = left_before code program entry budgets (setting_with program budgets inputs guesses) steps one left log has in
        comes_next (setting_with program budgets inputs guesses)
        (own_valuation program entry names (setting_with program budgets inputs guesses) steps log) split.between left split.before log one
        (record { model = refl; limits = refl })
        (along code program entry budgets names rules rows come inputs guesses steps log made.leads made.row made.there (lists_there guesses lists) steps []
        split.between split.before (sym (append-nil steps)) split.has_left shown) split.leaves

    -- the operands under a valuation that fits the state
    module _ (v : Valuation) (fits : Fits v state.constraints) where
      abbrev meant : Question
      meant = made.noted.noted.meant

      pub integers : IsAskedByIntegers (operation_of v meant)
      integers = subst IsAskedByIntegers (sym (made.noted.noted.same v (fits_sets v fits))) (made.noted.divides v (fits_sets v fits))

      pub operands : HasOperands sets v meant
      operands = operands_of sets v meant (no_product sets v meant integers) made.noted.noted.operands

      -- the operation isn't followed exactly, and the number may be guessed
      pub not_followed : ¬ IsFollowed program.model sets meant v
      not_followed followed = (made.noted.inexact v (made.fits v fits)).0 (made.noted.noted.followed v (fits_sets v fits) followed)

      pub may_be : IsGuess program.model sets meant v (v asked.guess.0)
      may_be = made.noted.noted.guesses v (v asked.guess.0) (fits_sets v fits) (made.noted.inexact v (made.fits v fits)).1

      is_inexact : IsInexact program.model asked meant v
      is_inexact others there = (
        λ followed. not_followed
            (followed_here sets others made.noted.inhabited there.inhabited asked.left asked.right asked.ends.left asked.ends.right
            ranges.left there.left ranges.right there.right program.model v asked.asks meant made.noted.noted.asked (no_product sets v meant integers) operands
            followed),
        guessed_there sets others made.noted.inhabited there.inhabited asked.left asked.right asked.ends.left asked.ends.right
            ranges.left there.left ranges.right there.right program.model v (v asked.guess.0) asked.asks meant made.noted.noted.asked may_be,
      )

      pub ground : HasGround program.model asked meant v
      ground = has_ground_moved program.model asked meant made.noted.noted.asked sets ranges v operands not_followed

      pub is_usable : IsUsable program.model asked meant v
      is_usable = usable_moved program.model asked meant made.noted.noted.asked sets ranges v operands (divisor_of sets v meant integers) may_be

    is_asked : state.model ≡ program.model → IsAskedAlong code program entry budgets names rows state chain asked
    is_asked model = record {
      before = made.before;
      event = event;
      later = made.more;
      along = made.along;
      number = made.event;
      named = made.named;
      meant = made.noted.noted.meant;
      asks = made.noted.noted.asked;
      has_fact = made.noted.noted.has_fact;
      left_ends = made.noted.noted.left_ends;
      right_ends = made.noted.noted.right_ends;
      earlier = λ number row v w there leads fits moved.
          let same = (are_distinct code program entry budgets names rules rows ends Are sourced).chains_differ number made.number made.before leads
          made.leads in
          let row_is : made.row ≡ row = same_Some made.row row (sym made.there ∙ ap (slice_get rows) (sym same) ∙ there) in
          subst (λ (r : Row). Fits w r.state.value.constraints) row_is (made.noted.within w (moved_in v w fits moved));
      moved = λ v w fits moved. (comes_moved model v w fits moved, made.noted.noted.determines w (moved_in v w fits moved));
      own = comes_own;
      has_ranges = (sets, ranges);
      inexact = is_inexact;
      grounds = ground;
      usable = is_usable;
    }

  -- each guess of an end's state was made along the chain of its row
  pub made_at_end : (end : End) (of : IsOfRow code program entry budgets names rules rows end) (chain : List Event) → IsChain rows end.row chain
      → (asked : Asked) → Contains (finite.values end.state.value.asked) asked
      → IsMadeAt code program entry budgets names rules rows come end.state.value chain asked
  made_at_end end of chain leads asked among =
      let row = of.from.row.state.value in
      let is = element (IsEndOf code program budgets names row) of.endings of.place of.one of.at of.from.all.endings in
      let state_is : end.state.value ≡ of.one.1.value = ap (λ (e : End). e.state.value) of.same in
      let asked_is : end.state.value.asked ≡ row.asked = ap (λ (s : State). s.asked) state_is ∙ is.asked in
      let made = made_along code program entry budgets names rules rows come leads of.from.row of.from.there asked
      (subst (λ (m : Guesses). Contains (finite.values m) asked) asked_is among) in
      record {
        number = made.number;
        row = made.row;
        there = made.there;
        before = made.before;
        leads = made.leads;
        child = made.child;
        more = made.more;
        along = made.along;
        event = made.event;
        named = made.named;
        noted = made.noted;
        fits = λ v fits. made.fits v (is.fits v (subst (λ (s : State). Fits v s.constraints) state_is fits));
        lists = λ v at early. ap (λ (m : Guesses). guess_at (guesses_of v m) at) asked_is ∙ made.lists v at early;
        kept = λ at guessed. let has = made.kept at guessed in (has.0, subst (λ (m : Guesses). Contains (finite.values m) has.0) (sym asked_is) has.1, has.2);
        guessed = λ at early has. made.guessed at early (has.0, subst (λ (m : Guesses). Contains (finite.values m) has.0) asked_is has.1, has.2);
        among = λ one early has. made.among one early (subst (λ (m : Guesses). Contains (finite.values m) one) asked_is has);
      }

  -- rows and ends have the program's model
  pub model_of_end : (end : End) → IsOfRow code program entry budgets names rules rows end → end.state.value.model ≡ program.model
  model_of_end end of =
      ap (λ (e : End). e.state.value.model) of.same
      ∙ (element (IsEndOf code program budgets names of.from.row.state.value) of.endings of.place of.one of.at of.from.all.endings).model

  -- so all that states note about guesses is true
  pub are_asked : EachState rows ends (λ number state chain. AreAskedAlong code program entry budgets names rows state chain)
  are_asked = record {
    of_rows = λ number row chain there leads asked among.
        is_asked row.state.value chain asked (made_along code program entry budgets names rules rows come leads row there asked among)
        (integer_row code program entry budgets names rules rows come number row there).model;
    of_ends = λ number end chain there leads asked among.
        let of = sourced.ends_come number end there in
        is_asked end.state.value chain asked (made_at_end end of chain leads asked among) (model_of_end end of);
  }
