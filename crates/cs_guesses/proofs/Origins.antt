-- The origin of each guess of a row's state: a child of a row of its chain, whose runs reach the question. For `IsAskedAlong` and for real guesses.
use Rattle.std.proofs.Common.{◌≡◌, ◌⊎◌, ◌<◌, ◌≤◌, inl, inr, ℕ, suc, List, [], ◌∷◌, ◌++◌, length, map, Option, None, Some}
use Rattle.std.proofs.Common.{slice_get, refl}
use Rattle.std.proofs.Common.{sym, ap, ◌∙◌, subst, arith}
use Rattle.std.specs.Prelude.{Contains}
use Rattle.std.specs.FinMap as finite
use Rattle.std.proofs.lemmas.List.{append-nil, append_assoc}
use Rattle.std.proofs.lemmas.List.Elements.{Contains-push_cases}
use Rattle.std.proofs.lemmas.Option.{same_Some}
use Rattle.cs_ast.specs.TypedProgram.{TypedProgram}
use Rattle.cs_store.proofs.Keys.{get_here}
use Rattle.cs_terms.specs.declared.symbol.Sym.{Sym}
use Rattle.cs_terms.specs.declared.symbol.SymName.TheVariants.{Guess as GuessAt}
use Rattle.cs_terms.specs.Term.{Valuation}
use Rattle.cs_constraints.specs.Constraints.{Fits}
use Rattle.cs_events.specs.declared.event.Event.{Event}
use Rattle.cs_events.specs.declared.outcome.RunBudgets.{RunBudgets}
use Rattle.cs_events.specs.Acts.{Act}
use Rattle.cs_events.specs.PendingEvents.{Operates}
use Rattle.cs_events.specs.Runs.{Setting, Log, empty, guess_at}
use Rattle.cs_event_runs.specs.First.{Step, First, first_of}
use Rattle.cs_event_runs.specs.ByEvents.{ShowsAfter, now as shows_now, later as shows_later, unseen as shows_unseen}
use Rattle.cs_cfg.specs.Graph.{Code}
use Rattle.cs_cfg.specs.Working.{CodeState}
use Rattle.cs_state.specs.declared.asked.Asked.{Asked}
use Rattle.cs_state.specs.declared.state.State.{State}
use Rattle.cs_state.specs.Naming.{Naming}
use Rattle.cs_state.specs.Valuations.{Guessed as Guesses, guesses_of}
use Rattle.cs_eval.specs.Questions.{operation_of}
use Rattle.cs_explored.specs.declared.child.Child.{Child}
use Rattle.cs_explored.specs.declared.explored.Row.{Row}
use Rattle.cs_explored.specs.declared.watch.Rule.{Rule}
use Rattle.cs_successors.specs.EntryRuns.{events_of, step_of, first_in, LeavesAfter, now, later, unseen, HasLeft, begins, passes, PassesTo}
use Rattle.cs_successors.specs.Coming.{AreGuessesAfter, IsNotedAt, IsChildOf}
use Rattle.cs_coverage.specs.OwnNumbers.{IsGuessedAt}
use Rattle.cs_coverage.proofs.LiveMeaning.{none_there}
use Rattle.cs_exactness.specs.Chains.{IsChain, first, further}
use Rattle.cs_exactness.specs.Sources.{HasSource, IsOfParent}
use Rattle.cs_exactness.proofs.Guesses.{AreNumbered, listed_before}
use Rattle.cs_exactness.proofs.NotedEvents.{values_after, passed, early, guess_kept, of_row, parent_there}
use Rattle.cs_exactness.proofs.Walking.{IsRunOf, ListsAs, child_is, first_is, integer_row, numbered, walk}

nobody : (asked : Asked) → Contains [] asked → ⊥
nobody asked (k, within, at) = omega (arith, within)

module _ {M : Type 0} (step : M → Act M) (setting : Setting) where
  -- after some steps a run shows the next one
  shows_then : {begin : First M} {left : Act M} {log : Log} {steps more : List Step} {one : Step} → LeavesAfter step setting begin steps left log
      → ShowsAfter step setting (first_of setting log left) more one → ShowsAfter step setting begin (steps ++ more) one
  shows_then (now e) onward = shows_later e onward
  shows_then (later e rest) onward = shows_later e (shows_then rest onward)
  shows_then (unseen e rest) onward = shows_unseen e (shows_then rest onward)

  -- a step that is shown next is passed, and something remains after it
  pub record PassesNext (begin : First M) (one : Step) : Type 0 where
    pub rest : Act M
    pub end : Log
    pub leaves : LeavesAfter step setting begin (one ∷ []) rest end

  pub shown_passes_on : {begin : First M} {none : List Step} {one : Step} → ShowsAfter step setting begin none one → none ≡ [] → PassesNext begin one
  shown_passes_on (shows_now {left = left} {log = log} e) is = record { rest = left; end = log; leaves = now e }
  shown_passes_on (shows_later e rest) is = cc
  shown_passes_on (shows_unseen e rest) is =
      let onward = shown_passes_on rest is in
      record { rest = onward.rest; end = onward.end; leaves = unseen e onward.leaves }

module _ (code : Code) (program : TypedProgram) (entry : ℕ) (budgets : RunBudgets) where
  abbrev step : CodeState → Act CodeState
  step = step_of code program entry budgets

  shows_in : (setting : Setting) {left : Act CodeState} {log : Log} {steps more : List Step} {one : Step}
      → HasLeft code program entry budgets setting steps left log → ShowsAfter step setting (first_of setting log left) more one
      → ShowsAfter step setting (first_in code program entry budgets setting) (steps ++ more) one
  shows_in setting {more = more} {one = one} (begins {left = left} {log = log} is none) onward =
      shows_unseen refl (subst (λ act. ShowsAfter step setting (first_of setting empty act) more one) is
      (subst (λ l. ShowsAfter step setting (first_of setting l left) more one) none onward))
  shows_in setting (passes leaves) onward = shows_then step setting leaves onward

module _ (code : Code) (program : TypedProgram) (entry : ℕ) (budgets : RunBudgets) (names : Naming) (rules : List Rule) (rows : List Row)
    (come : (number : ℕ) (row : Row) → slice_get rows number ≡ Some row → HasSource code program entry budgets names rules rows number row) where
  -- a guess of a state at the end of a chain was made at a child of a row on the chain. The state's valuations fit the child's constraints, and its guesses
  -- before are those of the row
  pub record IsMadeAt (state : State) (chain : List Event) (asked : Asked) : Type 0 where
    pub number : ℕ
    pub row : Row
    pub there : slice_get rows number ≡ Some row
    pub before : List Event
    pub leads : IsChain rows number before
    pub child : Child
    pub more : List Event
    pub along : chain ≡ before ++ child.event ∷ more
    pub event : asked.event ≡ suc (length before)
    pub named : slice_get names.syms asked.guess.0 ≡ Some (GuessAt asked.event)
    pub noted : IsNotedAt code program budgets names row.state.value child asked
    pub fits : (v : Valuation) → Fits v state.constraints → Fits v child.state.value.constraints
    pub lists : (v : Valuation) (at : ℕ) → at < asked.event → guess_at (guesses_of v state.asked) at ≡ guess_at (guesses_of v row.state.value.asked) at
    pub kept : (at : ℕ) → IsGuessedAt row.state.value at → IsGuessedAt state at
    pub guessed : (at : ℕ) → at < asked.event → IsGuessedAt state at → IsGuessedAt row.state.value at
    pub among : (one : Asked) → one.event < asked.event → Contains (finite.values state.asked) one → Contains (finite.values row.state.value.asked) one

  -- a run whose inputs are those of a valuation that fits the sets of the question, and which lists what the row's state has guessed, reaches it
  pub comes_to_question : {state : State} {chain : List Event} {asked : Asked} (made : IsMadeAt state chain asked) (setting : Setting) (w : Valuation)
      → Fits w made.noted.sets → IsRunOf code program entry budgets names rules setting w
      → ListsAs code program entry budgets names rules setting w made.row.state.value
      → PassesTo code program entry budgets setting made.before (Operates made.child.event.place (operation_of w made.noted.given))
  comes_to_question made setting w fits run lists =
      let along = walk code program entry budgets names rules rows come made.leads made.row made.there w (made.noted.within w fits) setting run lists in
      let asks = made.noted.comes setting w along.left along.log run.goes along.at fits in
      record {
        steps = along.steps ++ [];
        one = asks.one;
        passes = ap events_of (append-nil along.steps) ∙ along.shown;
        shows = shows_in code program entry budgets setting along.has_left asks.shows;
        pends = asks.pends;
      }

  module _ {number : ℕ} {events : List Event} (row : Row) (of : IsOfParent code program entry budgets names rules rows number row)
      (chain : IsChain rows row.parent events) where
    abbrev parent : State
    parent = of.parent.row.state.value

    abbrev state : State
    state = of.child.state.value

    is : IsChildOf code program budgets names rules parent of.child
    is = child_is code program entry budgets names rules rows come number row of

    numbers : AreNumbered (finite.entries parent.asked)
    numbers = numbered code program entry budgets names rules rows come chain of.parent.row of.parent.there

    at_event : state.counters.events ≡ suc (length events)
    at_event = is.number ∙ ap suc (passed code program entry budgets names rules rows come chain of.parent.row of.parent.there)

    before_all : (asked : Asked) → Contains (finite.values parent.asked) asked → asked.event ≤ parent.counters.events
    before_all = (integer_row code program entry budgets names rules rows come row.parent of.parent.row of.parent.there).guessed

    -- a guess of the child's state is one of its parent's, or the child's own
    asked_split : (asked : Asked) → Contains (finite.values state.asked) asked
        → Contains (finite.values parent.asked) asked
        ⊎ ((of.child.guess ≡ Some asked.guess) × (asked.event ≡ state.counters.events)
        × (finite.get state.asked (state.counters.events, 0) ≡ Some asked))
    asked_split asked among = by of.child.guess refl is.asked
      where
        by : (guess : Option Sym) → of.child.guess ≡ guess → AreGuessesAfter state.counters.events guess parent.asked state.asked
            → Contains (finite.values parent.asked) asked
            ⊎ ((of.child.guess ≡ Some asked.guess) × (asked.event ≡ state.counters.events)
            × (finite.get state.asked (state.counters.events, 0) ≡ Some asked))
        by None guess same = inl (subst (λ (m : Guesses). Contains (finite.values m) asked) same among)
        by (Some symbol) guess (one, at, mark, same) =
            let values = values_after state.counters.events one parent.asked state.asked numbers
            (early code program entry budgets names rules rows come number row of numbers) same in
            elim (Contains-push_cases (finite.values parent.asked) one asked (subst (λ (l : List Asked). Contains l asked) values among)) [
              | inl before ↦ inl before
              | inr last ↦
                  let is_one : one ≡ asked = last in
                  inr (
                    guess ∙ ap Some (sym mark ∙ ap (λ (a : Asked). a.guess) is_one),
                    ap (λ (a : Asked). a.event) (sym is_one) ∙ at,
                    ap (λ (m : Guesses). finite.get m (state.counters.events, 0)) same ∙ get_here parent.asked state.counters.events one
                        ∙ ap Some is_one,
                  )
            ]

    -- earlier guesses are kept, and there are no others before the child's event
    still_guessed : (at : ℕ) → IsGuessedAt parent at → IsGuessedAt state at
    still_guessed at (asked, among, there) =
        let has = guess_kept code program entry budgets names rules rows come number row of numbers at asked.guess (asked, among, there, refl) in
        (has.0, has.1, has.2)

    was_guessed : (at : ℕ) → at < state.counters.events → IsGuessedAt state at → IsGuessedAt parent at
    was_guessed at below (asked, among, there) = elim (asked_split asked among) [
      | inl before ↦ (asked, before, there)
      | inr own ↦ let late = own.1 in absurd (omega (arith, late, below, there))
    ]

    was_among : (one : Asked) → one.event < state.counters.events → Contains (finite.values state.asked) one → Contains (finite.values parent.asked) one
    was_among one below has = elim (asked_split one has) [
      | inl before ↦ before
      | inr own ↦ let late = own.1 in absurd (omega (arith, late, below))
    ]

    same_lists : (v : Valuation) (at : ℕ) → at ≤ parent.counters.events
        → guess_at (guesses_of v state.asked) at ≡ guess_at (guesses_of v parent.asked) at
    same_lists v at below =
        listed_before state.counters.events v parent.counters.events is.number of.child.guess parent.asked state.asked is.asked numbers at below

    -- a guess of the parent
    made_before : (asked : Asked) → Contains (finite.values parent.asked) asked → IsMadeAt parent events asked
        → IsMadeAt state (events ++ of.child.event ∷ []) asked
    made_before asked among made =
        let bound = before_all asked among in
        let next = is.number in
        record {
          number = made.number;
          row = made.row;
          there = made.there;
          before = made.before;
          leads = made.leads;
          child = made.child;
          more = made.more ++ of.child.event ∷ [];
          along = ap (λ (l : List Event). l ++ of.child.event ∷ []) made.along
              ∙ append_assoc made.before (made.child.event ∷ made.more) (of.child.event ∷ []);
          event = made.event;
          named = made.named;
          noted = made.noted;
          fits = λ v fits. made.fits v (is.fits v fits);
          lists = λ v at below. same_lists v at (omega (arith, below, bound)) ∙ made.lists v at below;
          kept = λ at guessed. still_guessed at (made.kept at guessed);
          guessed = λ at below guessed. made.guessed at below (was_guessed at (omega (arith, below, bound, next)) guessed);
          among = λ one below has. made.among one below (was_among one (omega (arith, below, bound, next)) has);
        }

    -- the child's own guess
    made_here : (asked : Asked) → of.child.guess ≡ Some asked.guess → asked.event ≡ state.counters.events
        → finite.get state.asked (state.counters.events, 0) ≡ Some asked → IsMadeAt state (events ++ of.child.event ∷ []) asked
    made_here asked guess at found =
        let next = is.number in
        record {
          number = row.parent;
          row = of.parent.row;
          there = of.parent.there;
          before = events;
          leads = chain;
          child = of.child;
          more = [];
          along = refl;
          event = at ∙ at_event;
          named = is.named asked.guess guess ∙ ap (λ (n : ℕ). Some (GuessAt n)) (sym at);
          noted = is.notes asked.guess asked guess found;
          fits = λ v fits. fits;
          lists = λ v event below. same_lists v event (omega (arith, below, at, next));
          kept = still_guessed;
          guessed = λ event below guessed. was_guessed event (omega (arith, below, at)) guessed;
          among = λ one below has. was_among one (omega (arith, below, at)) has;
        }

  -- each guess of a row's state was made along its chain
  pub made_along : {number : ℕ} {chain : List Event} → IsChain rows number chain → (row : Row) → slice_get rows number ≡ Some row
      → (asked : Asked) → Contains (finite.values row.state.value.asked) asked → IsMadeAt row.state.value chain asked
  made_along (first at none) row there asked among =
      let starts = (first_is code program entry budgets names rules rows come row there).first.starts in
      let values : finite.values row.state.value.asked ≡ []
      = ap finite.values starts.guesses ∙ ap (map (λ (e : (ℕ × ℕ) × Asked). e.1)) (none_there {V = Asked}) in
      absurd (nobody asked (subst (λ (l : List Asked). Contains l asked) values among))
  made_along (further {number = number} {row = found} {event = event} {events = events} at before leads chain) row there asked among =
      let same : found ≡ row = same_Some found row (sym at ∙ there) in
      let of = of_row code program entry budgets names rules rows come number found row same there event leads in
      let earlier = parent_there code program entry budgets names rules rows come number found row same of in
      let event_is : of.child.event ≡ event
      = same_Some of.child.event event (ap (λ (r : Row). r.event) (sym of.same) ∙ ap (λ (r : Row). r.event) (sym same) ∙ leads) in
      let parents_chain : IsChain rows row.parent events = subst (λ (r : Row). IsChain rows r.parent events) same chain in
      let state : row.state.value ≡ of.child.state.value = ap (λ (r : Row). r.state.value) of.same in
      let child_among = subst (λ (s : State). Contains (finite.values s.asked) asked) state among in
      subst (λ (s : State). IsMadeAt s (events ++ event ∷ []) asked) (sym state)
      (subst (λ (e : Event). IsMadeAt of.child.state.value (events ++ e ∷ []) asked) event_is
      (elim (asked_split row of parents_chain asked child_among) [
        | inl before_it ↦ made_before row of parents_chain asked before_it (made_along chain of.parent.row earlier asked before_it)
        | inr own ↦ made_here row of parents_chain asked own.0 own.1 own.2
      ]))
