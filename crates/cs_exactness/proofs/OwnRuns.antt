-- Runs without guesses, and those that guess only truths, fit the rows whose chains they pass, under their own numbers: by induction over the chain, from
-- what a run that passes a child's event has reached. For `HasOwnRuns`.
use Rattle.std.proofs.Common.{◌≡◌, ◌<◌, ◌≤◌, inl, inr, ℕ, zero, suc, ℤ, pos, List, [], ◌∷◌, ◌++◌, map, length, Option, None, Some}
use Rattle.std.proofs.Common.{slice_get}
use Rattle.std.proofs.Common.{refl, sym, ap, ◌∙◌, subst, arith}
use Rattle.std.specs.Prelude.{is_some, option_map, unwrap_or, Contains}
use Rattle.std.specs.FinMap as finite
use Rattle.std.proofs.lemmas.List.{append-nil, append_assoc, length-map}
use Rattle.std.proofs.lemmas.Option.{same_Some}
use Rattle.cs_inputs.specs.declared.path.Path.{Path}
use Rattle.cs_ast.specs.TypedProgram.{TypedProgram}
use Rattle.cs_terms.specs.declared.symbol.Sym.{Sym}
use Rattle.cs_terms.specs.declared.symbol.SymName.TheVariants.{Guess as GuessAt}
use Rattle.cs_terms.specs.Term.{Valuation, value_of}
use Rattle.cs_events.specs.declared.event.Event.{Event}
use Rattle.cs_events.specs.declared.guess.Guess.{Guess}
use Rattle.cs_events.specs.declared.outcome.Outcome.{Outcome}
use Rattle.cs_events.specs.declared.outcome.RunBudgets.{RunBudgets}
use Rattle.cs_events.specs.Acts.{Act}
use Rattle.cs_events.specs.Runs.{Setting, Log, empty, guess_at, read_cell}
use Rattle.cs_event_runs.specs.First.{Step, First, Ended, first_of}
use Rattle.cs_event_runs.specs.ByEvents.{RunsTo, ends as run_ends, shows as run_shows, silently as run_silently}
use Rattle.cs_event_runs.specs.Left.{left_of}
use Rattle.cs_cfg.specs.Graph.{Code}
use Rattle.cs_cfg.specs.Working.{CodeState}
use Rattle.cs_state.specs.declared.asked.Asked.{Asked}
use Rattle.cs_state.specs.declared.state.State.{State}
use Rattle.cs_state.specs.Naming.{Naming}
use Rattle.cs_state.specs.Valuations.{Guessed as Guesses}
use Rattle.cs_explored.specs.declared.child.Child.{Child}
use Rattle.cs_explored.specs.declared.explored.End.{End}
use Rattle.cs_explored.specs.declared.explored.Row.{Row}
use Rattle.cs_explored.specs.declared.watch.Rule.{Rule}
use Rattle.cs_progress.specs.Stepping.{end_of, result_in, HasReturned}
use Rattle.cs_successors.specs.EntryRuns.{events_of, setting_with, step_of, start_of, first_in, LeavesAfter, now, later, unseen, Proceeds, stays, HasLeft}
use Rattle.cs_successors.specs.EntryRuns.{begins, passes, EndsAfter}
use Rattle.cs_successors.specs.Coming.{StateEnd, IsTruth, ListsTruth, IsAt, IsEndOf, ListsNoneOrTruth, ComesToEnd}
use Rattle.cs_successors.proofs.Passing.{passes_some, as_proceeds, ends_after_one, ends_alone}
use Rattle.cs_successors.proofs.Proceeding.{proceeds_on}
use Rattle.cs_coverage.specs.OwnNumbers.{own_valuation, IsGuessedAt, ListsTruths, ListsOwn}
use Rattle.cs_coverage.proofs.AgreeingRuns.{gives_own}
use Rattle.cs_coverage.proofs.Coverage.{element}
use Rattle.cs_coverage.proofs.Positions.{stands_for}
use Rattle.cs_exactness.specs.Chains.{IsChain, first, further}
use Rattle.cs_exactness.specs.OwnRuns.{IsAny, EndsOwn, FitsAfter, HasOwnRuns}
use Rattle.cs_exactness.specs.Sources.{HasSource, IsOfParent, ComesOfRow, IsOfRow, AreSourced}
use Rattle.cs_exactness.proofs.Guesses.{AreNumbered}
use Rattle.cs_exactness.proofs.NotedEvents.{passed, early, guess_kept, guess_new, guess_split, of_row, parent_there}
use Rattle.cs_exactness.proofs.Walking.{child_is, first_is, integer_row, numbered}

-- the last one of some steps, by their events
pub record EndsByStep (steps : List Step) (events : List Event) (event : Event) : Type 0 where
  pub earlier : List Step
  pub one : Step
  pub steps_are : steps ≡ earlier ++ one ∷ []
  pub events_are : events_of earlier ≡ events
  pub event_is : one.event ≡ event

last_step : (steps : List Step) (events : List Event) (event : Event) → events_of steps ≡ events ++ event ∷ [] → EndsByStep steps events event
last_step [] [] event shown = cc
last_step [] (other ∷ events) event shown = cc
last_step (one ∷ []) [] event shown =
    record { earlier = []; one = one; steps_are = refl; events_are = refl; event_is = head one.event event [] [] shown }
  where
    head : (x y : Event) (xs ys : List Event) → x ∷ xs ≡ y ∷ ys → x ≡ y
    head x y xs ys e = cc
last_step (one ∷ two ∷ steps) [] event shown = cc
last_step (one ∷ steps) (other ∷ events) event shown =
    let rest = last_step steps events event (tail one.event other (events_of steps) (events ++ event ∷ []) shown) in
    record {
      earlier = one ∷ rest.earlier;
      one = rest.one;
      steps_are = ap (λ (xs : List Step). one ∷ xs) rest.steps_are;
      events_are = both one.event other (events_of rest.earlier) events (head one.event other (events_of steps) (events ++ event ∷ []) shown) rest.events_are;
      event_is = rest.event_is;
    }
  where
    head : (x y : Event) (xs ys : List Event) → x ∷ xs ≡ y ∷ ys → x ≡ y
    head x y xs ys e = cc

    tail : (x y : Event) (xs ys : List Event) → x ∷ xs ≡ y ∷ ys → xs ≡ ys
    tail x y xs ys e = cc

    both : (x y : Event) (xs ys : List Event) → x ≡ y → xs ≡ ys → x ∷ xs ≡ y ∷ ys
    both x y xs ys e f = λ i. e i ∷ f i

-- the item after the first part of a list
item_after : {A : Type 0} (xs : List A) (x : A) (ys : List A) → slice_get (xs ++ x ∷ ys) (length xs) ≡ Some x
item_after [] x ys = refl
item_after (y ∷ xs) x ys = item_after xs x ys

item_before : {A : Type 0} (xs ys : List A) (k : ℕ) (x : A) → slice_get xs k ≡ Some x → slice_get (xs ++ ys) k ≡ Some x
item_before [] ys k x there = cc
item_before (y ∷ xs) ys zero x there = there
item_before (y ∷ xs) ys (suc k) x there = item_before xs ys k x there

module _ {M : Type 0} (step : M → Act M) (setting : Setting) where
  -- the position of a run before its last step
  pub record LeavesBefore (begin : First M) (earlier : List Step) (one : Step) (left : Act M) (log : Log) : Type 0 where
    pub between : Act M
    pub before : Log
    pub first_part : LeavesAfter step setting begin earlier between before
    pub last_part : LeavesAfter step setting (first_of setting before between) (one ∷ []) left log

  split_leaves : {begin : First M} {steps : List Step} {left : Act M} {log : Log} (x : Step) (earlier : List Step) (one : Step)
      → LeavesAfter step setting begin steps left log → steps ≡ x ∷ earlier ++ one ∷ [] → LeavesBefore begin (x ∷ earlier) one left log
  split_leaves x [] one (now {one = it} e) is = cc
  split_leaves x (y ∷ earlier) one (now {one = it} e) is = cc
  split_leaves {begin = begin} {left = left} {log = log} x [] one (later {one = it} {between = between} {before = before} {steps = steps} e rest) is =
      let head : it ≡ x = cc in
      let tail : steps ≡ one ∷ [] = cc in
      subst (λ (s : Step). LeavesBefore begin (s ∷ []) one left log) head (record {
        between = between;
        before = before;
        first_part = now e;
        last_part = subst (λ (l : List Step). LeavesAfter step setting (first_of setting before between) l left log) tail rest;
      })
  split_leaves {begin = begin} {left = left} {log = log} x (y ∷ earlier) one
      (later {one = it} {between = between} {before = before} {steps = steps} e rest) is =
      let head : it ≡ x = cc in
      let tail : steps ≡ y ∷ earlier ++ one ∷ [] = cc in
      let further_on = split_leaves y earlier one rest tail in
      subst (λ (s : Step). LeavesBefore begin (s ∷ y ∷ earlier) one left log) head (record {
        between = further_on.between;
        before = further_on.before;
        first_part = later e further_on.first_part;
        last_part = further_on.last_part;
      })
  split_leaves x earlier one (unseen e rest) is =
      let further_on = split_leaves x earlier one rest is in
      record {
        between = further_on.between;
        before = further_on.before;
        first_part = unseen e further_on.first_part;
        last_part = further_on.last_part;
      }

  -- the position of a run after its last step, before it ends
  pub record LeavesLast (begin : First M) (steps : List Step) (outcome : Outcome) (end : Log) : Type 0 where
    pub left : Act M
    pub log : Log
    pub leaves : LeavesAfter step setting begin steps left log
    pub rest : RunsTo step setting (first_of setting log left) [] outcome end

  split_runs : {begin : First M} {all : List Step} {outcome : Outcome} {end : Log} (x : Step) (steps : List Step) → RunsTo step setting begin all outcome end
      → all ≡ x ∷ steps → LeavesLast begin (x ∷ steps) outcome end
  split_runs x steps (run_ends e) is = cc
  split_runs {begin = begin} {outcome = outcome} {end = end} x [] (run_shows {shown = it} {left = left} {log = log} {steps = more} e rest) is =
      let head : it ≡ x = cc in
      let tail : more ≡ [] = cc in
      subst (λ (s : Step). LeavesLast begin (s ∷ []) outcome end) head (record {
        left = left;
        log = log;
        leaves = now e;
        rest = subst (λ (l : List Step). RunsTo step setting (first_of setting log left) l outcome end) tail rest;
      })
  split_runs {begin = begin} {outcome = outcome} {end = end} x (y ∷ steps) (run_shows {shown = it} {steps = more} e rest) is =
      let head : it ≡ x = cc in
      let tail : more ≡ y ∷ steps = cc in
      let further_on = split_runs y steps rest tail in
      subst (λ (s : Step). LeavesLast begin (s ∷ y ∷ steps) outcome end) head
      (record { left = further_on.left; log = further_on.log; leaves = later e further_on.leaves; rest = further_on.rest })
  split_runs x steps (run_silently e rest) is =
      let further_on = split_runs x steps rest is in
      record { left = further_on.left; log = further_on.log; leaves = unseen e further_on.leaves; rest = further_on.rest }

module _ (code : Code) (program : TypedProgram) (entry : ℕ) (budgets : RunBudgets) where
  abbrev step : CodeState → Act CodeState
  step = step_of code program entry budgets

  -- a run before its last step
  pub record HasLeftBefore (setting : Setting) (earlier : List Step) (one : Step) (left : Act CodeState) (log : Log) : Type 0 where
    pub between : Act CodeState
    pub before : Log
    pub has_left : HasLeft code program entry budgets setting earlier between before
    pub leaves : LeavesAfter step setting (first_of setting before between) (one ∷ []) left log

  pub left_before : (setting : Setting) (earlier : List Step) (one : Step) (left : Act CodeState) (log : Log)
      → HasLeft code program entry budgets setting (earlier ++ one ∷ []) left log → HasLeftBefore setting earlier one left log
  left_before setting earlier one left log has = by earlier (earlier ++ one ∷ []) refl has
    where
      after_start : {steps : List Step} → LeavesAfter step setting (first_in code program entry budgets setting) steps left log → steps ≡ one ∷ []
          → LeavesAfter step setting (first_of setting empty (step (start_of code program entry budgets setting))) (one ∷ []) left log
      after_start (now e) is = cc
      after_start (later e rest) is = cc
      after_start (unseen {next = next} {before = before} {steps = steps} e rest) is =
          let nexts : next ≡ start_of code program entry budgets setting = cc in
          let logs : before ≡ empty = cc in
          subst (λ (l : List Step). LeavesAfter step setting (first_of setting empty (step (start_of code program entry budgets setting))) l left log) is
          (subst (λ (m : CodeState). LeavesAfter step setting (first_of setting empty (step m)) steps left log) nexts
          (subst (λ (l : Log). LeavesAfter step setting (first_of setting l (step next)) steps left log) logs rest))

      by : (earlier all : List Step) → all ≡ earlier ++ one ∷ [] → HasLeft code program entry budgets setting all left log
          → HasLeftBefore setting earlier one left log
      by [] all is (begins same none) = cc
      by (x ∷ earlier) all is (begins same none) = cc
      by [] all is (passes leaves) = record {
        between = step (start_of code program entry budgets setting);
        before = empty;
        has_left = begins refl refl;
        leaves = after_start leaves is;
      }
      by (x ∷ earlier) all is (passes leaves) =
          let parts = split_leaves step setting x earlier one leaves is in
          record { between = parts.between; before = parts.before; has_left = passes parts.first_part; leaves = parts.last_part }

  -- a run after its last step, before it ends
  pub record HasLeftLast (setting : Setting) (steps : List Step) (outcome : Outcome) (end : Log) : Type 0 where
    pub left : Act CodeState
    pub log : Log
    pub has_left : HasLeft code program entry budgets setting steps left log
    pub rest : RunsTo step setting (first_of setting log left) [] outcome end

  pub left_last : (setting : Setting) (steps : List Step) (outcome : Outcome) (end : Log) → EndsAfter code program entry budgets setting steps outcome end
      → HasLeftLast setting steps outcome end
  left_last setting [] outcome end runs = by runs refl
    where
      by : {steps : List Step} → RunsTo step setting (first_in code program entry budgets setting) steps outcome end → steps ≡ []
          → HasLeftLast setting [] outcome end
      by (run_ends e) is = cc
      by (run_shows e rest) is = cc
      by (run_silently {next = next} {log = before} {steps = steps} e rest) is =
          let nexts : next ≡ start_of code program entry budgets setting = cc in
          let logs : before ≡ empty = cc in
          record {
            left = step (start_of code program entry budgets setting);
            log = empty;
            has_left = begins refl refl;
            rest =
                subst (λ (l : List Step). RunsTo step setting (first_of setting empty (step (start_of code program entry budgets setting))) l outcome end) is
                (subst (λ (m : CodeState). RunsTo step setting (first_of setting empty (step m)) steps outcome end) nexts
                (subst (λ (l : Log). RunsTo step setting (first_of setting l (step next)) steps outcome end) logs rest));
          }
  left_last setting (x ∷ steps) outcome end runs =
      let parts = split_runs step setting x steps runs refl in
      record { left = parts.left; log = parts.log; has_left = passes parts.leaves; rest = parts.rest }

  -- the path of a run from its beginning
  leads_there : (setting : Setting) (steps : List Step) (left : Act CodeState) (log : Log) → HasLeft code program entry budgets setting steps left log
      → Proceeds step setting (step (start_of code program entry budgets setting)) empty steps left log
  leads_there setting steps left log (begins is none) = stays (sym is) (sym none)
  leads_there setting steps left log (passes (now e)) = cc
  leads_there setting steps left log (passes (later e rest)) = cc
  leads_there setting steps left log (passes (unseen {next = next} {before = before} e rest)) =
      let nexts : next ≡ start_of code program entry budgets setting = cc in
      let logs : before ≡ empty = cc in
      as_proceeds step setting
      (subst (λ (m : CodeState). LeavesAfter step setting (first_of setting empty (step m)) steps left log) nexts
      (subst (λ (l : Log). LeavesAfter step setting (first_of setting l (step next)) steps left log) logs rest))

-- a run lists no guess, or truths at exactly the guesses of a state so far
abbrev pub ListsSoFar : State → List Event → List Guess → Type 0
ListsSoFar state chain guesses = ListsOwn state chain (λ event. event ≤ state.counters.events) guesses

so_far : (state : State) (chain : List Event) (guesses : List Guess) → ListsOwn state chain IsAny guesses → ListsSoFar state chain guesses
so_far state chain guesses (inl none) = inl none
so_far state chain guesses (inr lists) = inr (record {
  truths = λ at shown there before has. lists.truths at shown there tt has;
  listed = λ at before has. lists.listed at tt has;
  elsewhere = λ at before not. lists.elsewhere at tt not;
})

module _ (code : Code) (program : TypedProgram) (entry : ℕ) (budgets : RunBudgets) (names : Naming) (rules : List Rule) (rows : List Row)
    (come : (number : ℕ) (row : Row) → slice_get rows number ≡ Some row → HasSource code program entry budgets names rules rows number row) where
  abbrev OfParent : ℕ → Row → Type 0
  OfParent number row = IsOfParent code program entry budgets names rules rows number row

  -- what a run lists at a child's event, and at those before it
  module _ (guesses : List Guess) {number : ℕ} {events : List Event} (row : Row) (of : OfParent number row) (chain : IsChain rows row.parent events)
      (event : Event) (event_is : of.child.event ≡ event) where
    abbrev parent : State
    parent = of.parent.row.state.value

    abbrev state : State
    state = of.child.state.value

    next : state.counters.events ≡ suc parent.counters.events
    next = (child_is code program entry budgets names rules rows come number row of).number

    many : parent.counters.events ≡ length events
    many = passed code program entry budgets names rules rows come chain of.parent.row of.parent.there

    numbers : AreNumbered (finite.entries parent.asked)
    numbers = numbered code program entry budgets names rules rows come chain of.parent.row of.parent.there

    kept : (at : ℕ) → IsGuessedAt parent at → IsGuessedAt state at
    kept at (asked, among, there) =
        let has = guess_kept code program entry budgets names rules rows come number row of numbers at asked.guess (asked, among, there, refl) in
        (has.0, has.1, has.2)

    was_guessed : (at : ℕ) → at ≤ parent.counters.events → IsGuessedAt state at → IsGuessedAt parent at
    was_guessed at before (asked, among, there) =
        elim (guess_split code program entry budgets names rules rows come number row of numbers at asked.guess (asked, among, there, refl)) [
          | inl has ↦ (has.0, has.1, has.2)
          | inr last ↦ let late = last.0 in absurd (omega (arith, before, late, next))
        ]

    lists_before : ListsSoFar state (events ++ event ∷ []) guesses → ListsSoFar parent events guesses
    lists_before (inl none) = inl none
    lists_before (inr lists) = inr (record {
      truths = λ at shown there before has.
          lists.truths at shown (item_before events (event ∷ []) at shown there) (omega (arith, before, next)) (kept (suc at) has);
      listed = λ at before has. lists.listed at (omega (arith, before, next)) (kept at has);
      elsewhere = λ at before not. lists.elsewhere at (omega (arith, before, next)) (λ has. not (was_guessed at before has));
    })

    -- nothing is guessed at the child's event, if the child has no guess
    none_guessed : of.child.guess ≡ None → ¬ IsGuessedAt state state.counters.events
    none_guessed none (asked, among, there) =
        elim (guess_split code program entry budgets names rules rows come number row of numbers state.counters.events asked.guess
        (asked, among, there, refl)) [
          | inl has ↦
              let before = early code program entry budgets names rules rows come number row of numbers has.0 has.1 in
              let at = has.2 in
              omega (arith, before, at)
          | inr last ↦ let wrong : None ≡ Some asked.guess = sym none ∙ last.1 in cc
        ]

    lists_here : (setting : Setting) → setting.guesses ≡ guesses → ListsSoFar state (events ++ event ∷ []) guesses → ListsNoneOrTruth setting of.child
    lists_here setting same (inl none) = inl (ap (λ (l : List Guess). guess_at l state.counters.events) (same ∙ none))
    lists_here setting same (inr lists) = by of.child.guess refl
      where
        by : (guess : Option Sym) → of.child.guess ≡ guess → ListsNoneOrTruth setting of.child
        by None none = inl
            (ap (λ (l : List Guess). guess_at l state.counters.events) same
            ∙ lists.elsewhere state.counters.events (omega arith) (none_guessed none))
        by (Some symbol) some =
            let has = guess_new code program entry budgets names rules rows come number row of numbers symbol some in
            let guessed : IsGuessedAt state state.counters.events = (has.0, has.1, has.2) in
            let at : state.counters.events ≡ suc (length events) = next ∙ ap suc many in
            let last = lists.truths (length events) event (item_after events event []) (omega (arith, at)) (subst (IsGuessedAt state) at guessed) in
            inr (
              ap is_some some,
              subst (λ (e : Event). IsTruth e.label) (sym event_is) last,
              subst (λ (l : List Guess). ListsTruth l state.counters.events) (sym same) (lists.listed state.counters.events (omega arith) guessed),
            )

  -- one run, and the numbers that symbols have at its end
  module _ (inputs : Path → ℤ) (guesses : List Guess) (all : List Step) (last : Log) where
    abbrev setting : Setting
    setting = setting_with program budgets inputs guesses

    abbrev own : Valuation
    own = own_valuation program entry names setting all last

    -- along a chain, the run reaches each row
    pub along : {number : ℕ} {chain : List Event} → IsChain rows number chain → (row : Row) → slice_get rows number ≡ Some row
        → ListsSoFar row.state.value chain guesses → (steps more : List Step) (left : Act CodeState) (log : Log) → all ≡ steps ++ more
        → HasLeft code program entry budgets setting steps left log → events_of steps ≡ chain
        → IsAt code program budgets names row.state.value setting own left log
    along (first at none) row there lists (one ∷ steps) more left log is has shown = cc
    along (first at none) row there lists [] more left log is (passes leaves) shown =
        absurd (passes_some (step_of code program entry budgets) setting leaves refl)
    along (first at none) row there lists [] more left log is (begins same nothing) shown =
        let begin = (first_is code program entry budgets names rules rows come row there).first in
        let means = begin.own budgets inputs guesses all last in
        record {
          fits = means.0;
          same =
              ap (left_of (read_cell setting) []) same
              ∙ (λ i. left_of (read_cell setting) (map (value_of own) (sym begin.starts.answers i)) (step_of code program entry budgets (sym means.1 i)));
          passed = ap (λ (l : Log). length l.events) nothing ∙ sym begin.starts.events;
        }
    along (further {number = number} {row = found} {event = event} {events = events} at before leads chain) row there lists steps more left log is has shown =
        let same : found ≡ row = same_Some found row (sym at ∙ there) in
        let of = of_row code program entry budgets names rules rows come number found row same there event leads in
        let earlier_there = parent_there code program entry budgets names rules rows come number found row same of in
        let event_is : of.child.event ≡ event
        = same_Some of.child.event event (ap (λ (r : Row). r.event) (sym of.same) ∙ ap (λ (r : Row). r.event) (sym same) ∙ leads) in
        let parents_chain : IsChain rows row.parent events = subst (λ (r : Row). IsChain rows r.parent events) same chain in
        let state : row.state.value ≡ of.child.state.value = ap (λ (r : Row). r.state.value) of.same in
        let lists_child = subst (λ (s : State). ListsSoFar s (events ++ event ∷ []) guesses) state lists in
        let parts = last_step steps events event shown in
        let split = left_before code program entry budgets setting parts.earlier parts.one left log
        (subst (λ (l : List Step). HasLeft code program entry budgets setting l left log) parts.steps_are has) in
        let all_are : all ≡ parts.earlier ++ parts.one ∷ more
        = is ∙ ap (λ (l : List Step). l ++ more) parts.steps_are ∙ append_assoc parts.earlier (parts.one ∷ []) more in
        let here = along chain of.parent.row earlier_there (lists_before guesses row of parents_chain event event_is lists_child) parts.earlier
        (parts.one ∷ more) split.between split.before all_are split.has_left parts.events_are in
        let is_child = child_is code program entry budgets names rules rows come number row of in
        let count : of.child.state.value.counters.events ≡ suc (length parts.earlier)
        = next guesses row of parents_chain event event_is
        ∙ ap suc (many guesses row of parents_chain event event_is ∙ ap length (sym parts.events_are)
        ∙ length-map parts.earlier (λ (s : Step). s.event)) in
        subst (λ (s : State). IsAt code program budgets names s setting own left log) (sym state)
        (is_child.back setting own split.between left split.before log parts.one (record { model = refl; limits = refl }) here split.leaves
        (parts.event_is ∙ sym event_is) (lists_here guesses row of parents_chain event event_is setting refl lists_child)
        (λ symbol guess.
        gives_own program entry budgets names inputs guesses all last of.child.state.value.counters.events symbol (is_child.named symbol guess) parts.earlier
        more parts.one all_are count))

  -- so it fits each row, which represents it
  own_row : (number : ℕ) (row : Row) (chain : List Event) → slice_get rows number ≡ Some row → IsChain rows number chain
      → FitsAfter code program entry budgets names row.state.value chain
  own_row number row chain there leads inputs guesses steps left log lists has shown =
      let setting : Setting = setting_with program budgets inputs guesses in
      let integer = integer_row code program entry budgets names rules rows come number row there in
      stands_for code program budgets names row.state.value integer.locals integer.integers setting
      (own_valuation program entry names setting steps log) left log
      (along inputs guesses steps log leads row there (so_far row.state.value chain guesses lists) steps [] left log (sym (append-nil steps)) has shown)

  -- a run that ends directly after the events of a row's chain reaches an end of the row
  pub comes_to_end : (number : ℕ) (made : List Child) (endings : List StateEnd)
      (from : ComesOfRow code program entry budgets names rules rows number made endings) (chain : List Event) → IsChain rows number chain
      → (guesses : List Guess) → ListsSoFar from.row.state.value chain guesses
      → guess_at guesses (suc from.row.state.value.counters.events) ≡ None → (inputs : Path → ℤ) (steps : List Step) (outcome : Outcome) (log : Log)
      → (runs : EndsAfter code program entry budgets (setting_with program budgets inputs guesses) steps outcome log) → events_of steps ≡ chain
      → let parts = left_last code program entry budgets (setting_with program budgets inputs guesses) steps outcome log runs in
      ComesToEnd code program budgets names endings (setting_with program budgets inputs guesses)
      (own_valuation program entry names (setting_with program budgets inputs guesses) steps log) parts.left parts.log
  comes_to_end number made endings from chain leads guesses lists none inputs steps outcome log runs shown =
      let setting : Setting = setting_with program budgets inputs guesses in
      let parts = left_last code program entry budgets setting steps outcome log runs in
      let here = along inputs guesses steps log leads from.row from.there lists steps [] parts.left parts.log (sym (append-nil steps)) parts.has_left shown in
      elim (from.all.covers setting (own_valuation program entry names setting steps log) parts.left parts.log (record { model = refl; limits = refl }) here
      none) [
        | inl child ↦
            let more = ends_after_one (step_of code program entry budgets) setting child.to.leaves parts.rest in
            absurd (nothing child.to.one more.0 more.1)
        | inr comes ↦ comes
      ]
    where
      nothing : (one : Step) (more : List Step) → [] ≡ one ∷ more → ⊥
      nothing one more e = cc

  -- the end that it reaches
  module _ (end : End) (chain : List Event) (of : IsOfRow code program entry budgets names rules rows end) (leads : IsChain rows end.row chain)
      (guesses : List Guess) (lists : ListsOwn end.state.value chain IsAny guesses) where
    abbrev last_row : Row
    last_row = of.from.row

    end_is : IsEndOf code program budgets names last_row.state.value of.one
    end_is = element (IsEndOf code program budgets names last_row.state.value) of.endings of.place of.one of.at of.from.all.endings

    state_is : end.state.value ≡ of.one.1.value
    state_is = ap (λ (e : End). e.state.value) of.same

    asked_is : end.state.value.asked ≡ last_row.state.value.asked
    asked_is = ap (λ (s : State). s.asked) state_is ∙ end_is.asked

    in_end : (at : ℕ) → IsGuessedAt last_row.state.value at → IsGuessedAt end.state.value at
    in_end at (asked, among, there) = (asked, subst (λ (m : Guesses). Contains (finite.values m) asked) (sym asked_is) among, there)

    in_row : (at : ℕ) → IsGuessedAt end.state.value at → IsGuessedAt last_row.state.value at
    in_row at (asked, among, there) = (asked, subst (λ (m : Guesses). Contains (finite.values m) asked) asked_is among, there)

    lists_in_row : ListsSoFar last_row.state.value chain guesses
    lists_in_row = elim lists [
      | inl none ↦ inl none
      | inr truths ↦ inr (record {
        truths = λ at shown there before has. truths.truths at shown there tt (in_end (suc at) has);
        listed = λ at before has. truths.listed at tt (in_end at has);
        elsewhere = λ at before not. truths.elsewhere at tt (λ has. not (in_row at has));
      })
    ]

    none_next : guess_at guesses (suc last_row.state.value.counters.events) ≡ None
    none_next = elim lists [
      | inl none ↦ ap (λ (l : List Guess). guess_at l (suc last_row.state.value.counters.events)) none
      | inr truths ↦ truths.elsewhere (suc last_row.state.value.counters.events) tt not_guessed
    ]
      where
        not_guessed : ¬ IsGuessedAt end.state.value (suc last_row.state.value.counters.events)
        not_guessed has =
            let (asked, among, there) = in_row (suc last_row.state.value.counters.events) has in
            let before = (integer_row code program entry budgets names rules rows come end.row last_row of.from.there).guessed asked among in
            omega (arith, before, there)

    own_end : (inputs : Path → ℤ) (steps : List Step) (outcome : Outcome) (log : Log)
        → EndsAfter code program entry budgets (setting_with program budgets inputs guesses) steps outcome log → events_of steps ≡ chain
        → end.outcome ≡ end_of outcome
        → EndsOwn code program entry budgets names end.state.value (setting_with program budgets inputs guesses) steps outcome log
    own_end inputs steps outcome log runs shown ended =
        let setting : Setting = setting_with program budgets inputs guesses in
        let numbers : Valuation = own_valuation program entry names setting steps log in
        let parts = left_last code program entry budgets setting steps outcome log runs in
        let comes = comes_to_end end.row of.made of.endings of.from chain leads guesses lists_in_row none_next inputs steps outcome log runs shown in
        let that = ends_alone (step_of code program entry budgets) setting comes.ending.proceeds comes.ending.ends parts.rest in
        let outcome_is : comes.end.0 ≡ of.one.0
        = comes.ending.same ∙ ap end_of (sym that.outcome_is) ∙ sym ended ∙ ap (λ (e : End). e.outcome) of.same in
        let place = of.from.all.outcomes_differ comes.place of.place comes.end of.one comes.there of.at outcome_is in
        let one_is : comes.end ≡ of.one = same_Some comes.end of.one (sym comes.there ∙ ap (slice_get of.endings) place ∙ of.at) in
        let way = leads_there code program entry budgets setting steps parts.left parts.log parts.has_left in
        let state = comes.end.1.value in
        let end_state : state ≡ end.state.value = ap (λ (e : StateEnd). e.1.value) one_is ∙ sym state_is in
        let is : IsEndOf code program budgets names last_row.state.value comes.end
        = subst (IsEndOf code program budgets names last_row.state.value) (sym one_is) end_is in
        subst (λ (s : State). EndsOwn code program entry budgets names s setting steps outcome log) end_state (record {
          last = comes.ending.last;
          before = comes.ending.before;
          ends_with = record {
            proceeds =
                subst (λ (l : List Step). Proceeds (step_of code program entry budgets) setting
                (step_of code program entry budgets (start_of code program entry budgets setting)) empty l comes.ending.last comes.ending.before)
                (append-nil steps) (proceeds_on (step_of code program entry budgets) setting way comes.ending.proceeds);
            ends =
                subst (λ o. first_of setting comes.ending.before comes.ending.last ≡ Ended o log) (sym that.outcome_is)
                (subst (λ l. first_of setting comes.ending.before comes.ending.last ≡ Ended comes.ending.ended l) (sym that.log_is) comes.ending.ends);
          };
          stands = stands_for code program budgets names state is.locals is.integers setting numbers comes.ending.last comes.ending.before
              comes.ending.comes;
          returned =
              subst (λ o. HasReturned o (result_in names.bases state.blocks numbers state.result)) (sym that.outcome_is) comes.ending.returned;
        })

  pub has_own_runs : (ends : List End) (Are : ℕ → Type 0) → AreSourced code program entry budgets names rules rows ends Are
      → HasOwnRuns code program entry budgets names rows ends
  has_own_runs ends Are sourced = record {
    of_rows = own_row;
    of_ends = λ number end chain there leads inputs guesses steps outcome log lists.
        own_end end chain (sourced.ends_come number end there) leads guesses lists inputs steps outcome log;
  }
