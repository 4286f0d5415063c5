-- The run of each valuation that fits a row passes the row's chain and reaches the row: by induction over the chain, since each row is a child of its
-- parent. For `IsExactRow`.
use Rattle.std.proofs.Common.{◌≡◌, ◌<◌, ◌≤◌, inl, inr, ℕ, List, [], ◌∷◌, ◌++◌, map, None, Some, slice_get, refl, sym, ap, ◌∙◌}
use Rattle.std.proofs.Common.{subst}
use Rattle.std.proofs.Common.{arith}
use Rattle.std.specs.FinMap as finite
use Rattle.std.proofs.lemmas.List.{map-append}
use Rattle.std.proofs.lemmas.Option.{same_Some}
use Rattle.cs_ast.specs.TypedProgram.{TypedProgram}
use Rattle.cs_terms.specs.Term.{Valuation, value_of}
use Rattle.cs_constraints.specs.Constraints.{Fits}
use Rattle.cs_events.specs.declared.event.Event.{Event}
use Rattle.cs_events.specs.declared.outcome.RunBudgets.{RunBudgets}
use Rattle.cs_events.specs.Acts.{Act}
use Rattle.cs_events.specs.Runs.{Setting, Log, empty, guess_at, read_cell}
use Rattle.cs_event_runs.specs.First.{Step, First, first_of}
use Rattle.cs_event_runs.specs.Left.{left_of}
use Rattle.cs_meaning.specs.Machine.{routine_of}
use Rattle.cs_cfg.specs.Graph.{Code}
use Rattle.cs_cfg.specs.Working.{CodeState}
use Rattle.cs_cfg.specs.CodeSteps.{code_step, code_started}
use Rattle.cs_state.specs.declared.asked.Asked.{Asked}
use Rattle.cs_state.specs.declared.state.State.{State}
use Rattle.cs_state.specs.Naming.{Naming}
use Rattle.cs_state.specs.Starting.{StartsFrom}
use Rattle.cs_state.specs.Valuations.{input_of, guesses_of}
use Rattle.cs_explored.specs.declared.child.Child.{Child}
use Rattle.cs_explored.specs.declared.explored.Row.{Row}
use Rattle.cs_explored.specs.declared.watch.Rule.{Rule}
use Rattle.cs_successors.specs.EntryRuns.{events_of, step_of, start_of, LeavesAfter, now, later, unseen, Proceeds, stays, HasLeft, begins, passes}
use Rattle.cs_successors.specs.Coming.{IsIntegerState, GoesBy, IsAt, GuessesAs, IsChildOf}
use Rattle.cs_successors.proofs.Proceeding.{proceeds_on}
use Rattle.cs_coverage.proofs.Coverage.{element}
use Rattle.cs_coverage.proofs.LiveMeaning.{none_there}
use Rattle.cs_successors.proofs.Passing.{as_proceeds}
use Rattle.cs_exactness.specs.Chains.{IsChain, first, further}
use Rattle.cs_exactness.specs.Sources.{HasSource, IsFirstRow, IsOfParent}
use Rattle.cs_exactness.proofs.Guesses.{AreNumbered, numbered_after, listed_before, listed_here}

-- more steps after some
leaves_then : {M : Type 0} (step : M → Act M) (setting : Setting) {first : First M} {left last : Act M} {log end : Log} {steps more : List Step}
    → LeavesAfter step setting first steps left log → LeavesAfter step setting (first_of setting log left) more last end
    → LeavesAfter step setting first (steps ++ more) last end
leaves_then step setting (now e) onward = later e onward
leaves_then step setting (later e rest) onward = later e (leaves_then step setting rest onward)
leaves_then step setting (unseen e rest) onward = unseen e (leaves_then step setting rest onward)

-- the first row has no parent, and no row is before it
none_below : (number : ℕ) → number < 0 → ⊥
none_below number below = omega (arith, below)

module _ (code : Code) (program : TypedProgram) (entry : ℕ) (budgets : RunBudgets) where
  abbrev step : CodeState → Act CodeState
  step = step_of code program entry budgets

  left_then : (setting : Setting) {left last : Act CodeState} {log end : Log} {steps more : List Step}
      → HasLeft code program entry budgets setting steps left log → LeavesAfter step setting (first_of setting log left) more last end
      → HasLeft code program entry budgets setting (steps ++ more) last end
  left_then setting {last = last} {end = end} {more = more} (begins {left = left} {log = log} is none) onward =
      passes (unseen refl (subst (λ act. LeavesAfter step setting (first_of setting empty act) more last end) is
      (subst (λ l. LeavesAfter step setting (first_of setting l left) more last end) none onward)))
  left_then setting (passes leaves) onward = passes (leaves_then step setting leaves onward)

  module _ (names : Naming) (rules : List Rule) where
    -- a run passes these events first and has reached a state under a valuation
    pub record IsAlong (state : State) (chain : List Event) (v : Valuation) (setting : Setting) : Type 0 where
      pub steps : List Step
      pub shown : events_of steps ≡ chain
      pub left : Act CodeState
      pub log : Log
      pub has_left : HasLeft code program entry budgets setting steps left log
      pub proceeds : Proceeds step setting (step (start_of code program entry budgets setting)) empty steps left log
      pub at : IsAt code program budgets names state setting v left log

    -- up to this event, a run lists what the state has guessed
    abbrev pub ListsAs : Setting → Valuation → State → Type 0
    ListsAs setting v state = (event : ℕ) → event ≤ state.counters.events → guess_at setting.guesses event ≡ guess_at (guesses_of v state.asked) event

    -- what holds for the run of a valuation
    pub record IsRunOf (setting : Setting) (v : Valuation) : Type 0 where
      pub goes : GoesBy code program budgets names setting
      pub inputs : setting.inputs ≡ input_of names.syms v

    -- at its beginning
    along_first : (state : State) → StartsFrom code program entry names state → (v : Valuation) → Fits v state.constraints → (setting : Setting)
        → IsRunOf setting v → IsAlong state [] v setting
    along_first state starts v fits setting run = record {
      steps = [];
      shown = refl;
      left = step (start_of code program entry budgets setting);
      log = empty;
      has_left = begins refl refl;
      proceeds = stays refl refl;
      at = record {
        fits = fits;
        same =
            ap (λ inputs. left_of (read_cell setting) [] (step (code_started code program inputs entry (routine_of program entry)))) run.inputs
            ∙ (λ i. left_of (read_cell setting) (map (value_of v) (sym starts.answers i)) (code_step code program budgets (sym (starts.means v fits) i)));
        passed = sym starts.events;
      };
    }

    -- after one more event
    along_next : (before : State) (child : Child) (events : List Event) → IsChildOf code program budgets names rules before child
        → (v : Valuation) → Fits v child.state.value.constraints → (setting : Setting) → GoesBy code program budgets names setting
        → GuessesAs code program budgets names setting child v → IsAlong before events v setting
        → IsAlong child.state.value (events ++ child.event ∷ []) v setting
    along_next before child events is v fits setting goes guesses along =
        let passed = is.passes setting v along.left along.log goes along.at fits guesses in
        record {
          steps = along.steps ++ passed.0.one ∷ [];
          shown = map-append (λ (one : Step). one.event) along.steps (passed.0.one ∷ []) ∙ (λ i. along.shown i ++ passed.1 i ∷ []);
          left = passed.0.rest;
          log = passed.0.later;
          has_left = left_then setting along.has_left passed.0.leaves;
          proceeds = proceeds_on step setting along.proceeds (as_proceeds step setting passed.0.leaves);
          at = passed.0.comes;
        }

    module _ (rows : List Row)
        (come : (number : ℕ) (row : Row) → slice_get rows number ≡ Some row → HasSource code program entry budgets names rules rows number row) where
      abbrev OfParent : ℕ → Row → Type 0
      OfParent number row = IsOfParent code program entry budgets names rules rows number row

      -- a row's state is that of a child of its parent
      pub child_is : (number : ℕ) (row : Row) (of : OfParent number row) → IsChildOf code program budgets names rules of.parent.row.state.value of.child
      child_is number row of =
          element (IsChildOf code program budgets names rules of.parent.row.state.value) of.made of.place of.child of.at of.parent.all.children

      -- each row's state is one of integer code
      pub integer_row : (number : ℕ) (row : Row) → slice_get rows number ≡ Some row → IsIntegerState code program budgets names row.state.value
      integer_row number row there = elim (come number row there) [
        | inl first_row ↦ first_row.1.first.integer
        | inr of ↦ subst (λ (r : Row). IsIntegerState code program budgets names r.state.value) (sym of.same) (child_is number row of).integer
      ]

      -- the first row of a chain
      pub first_is : (row : Row) → slice_get rows 0 ≡ Some row → IsFirstRow code program entry budgets names rules row
      first_is row there = elim (come 0 row there) [
        | inl first_row ↦ first_row.1
        | inr of ↦ absurd (none_below row.parent of.before)
      ]

      -- and one that an event leads to
      pub next_is : (number : ℕ) (row : Row) → slice_get rows number ≡ Some row → (event : Event) → row.event ≡ Some event → OfParent number row
      next_is number row there event leads = elim (come number row there) [
        | inl first_row ↦ absurd (no_event first_row.1.no_event)
        | inr of ↦ of
      ]
        where
          no_event : row.event ≡ None → ⊥
          no_event none = let wrong : Some event ≡ None = sym leads ∙ none in cc

      -- the guesses of each row's state have the numbers of their events as keys
      pub numbered : {number : ℕ} {chain : List Event} → IsChain rows number chain → (row : Row) → slice_get rows number ≡ Some row
          → AreNumbered (finite.entries row.state.value.asked)
      numbered (first {row = found} at none) row there =
          let is = first_is row there in
          subst AreNumbered (sym (ap (λ m. finite.entries m) is.first.starts.guesses ∙ none_there {V = Asked})) tt
      numbered (further {number = number} {row = found} {event = event} at before leads chain) row there =
          let same : found ≡ row = same_Some found row (sym at ∙ there) in
          let of = next_is number row there event (ap (λ (r : Row). r.event) (sym same) ∙ leads) in
          let earlier = numbered chain of.parent.row
          (subst (λ (r : Row). slice_get rows r.parent ≡ Some of.parent.row) (sym same) of.parent.there) in
          let is = child_is number row of in
          subst (λ (r : Row). AreNumbered (finite.entries r.state.value.asked)) (sym of.same)
          (numbered_after of.child.state.value.counters.events of.child.guess of.parent.row.state.value.asked of.child.state.value.asked is.asked earlier)

      -- each such run reaches the row
      pub walk : {number : ℕ} {chain : List Event} → IsChain rows number chain → (row : Row) → slice_get rows number ≡ Some row → (v : Valuation)
          → Fits v row.state.value.constraints → (setting : Setting) → IsRunOf setting v → ListsAs setting v row.state.value
          → IsAlong row.state.value chain v setting
      walk (first {row = found} at none) row there v fits setting run lists =
          let is = first_is row there in
          along_first row.state.value is.first.starts v fits setting run
      walk (further {number = number} {row = found} {event = event} {events = events} at before leads chain) row there v fits setting run lists =
          let same : found ≡ row = same_Some found row (sym at ∙ there) in
          let of = next_is number row there event (ap (λ (r : Row). r.event) (sym same) ∙ leads) in
          let earlier : slice_get rows found.parent ≡ Some of.parent.row
          = subst (λ (r : Row). slice_get rows r.parent ≡ Some of.parent.row) (sym same) of.parent.there in
          let is = child_is number row of in
          let before_state = of.parent.row.state.value in
          let after = of.child.state.value in
          let state : row.state.value ≡ after = ap (λ (r : Row). r.state.value) of.same in
          let fitted = subst (λ (s : State). Fits v s.constraints) state fits in
          let listed = subst (ListsAs setting v) state lists in
          let numbers = numbered chain of.parent.row earlier in
          let leads_by : of.child.event ≡ event
          = same_Some of.child.event event (ap (λ (r : Row). r.event) (sym of.same) ∙ ap (λ (r : Row). r.event) (sym same) ∙ leads) in
          let along = walk chain of.parent.row earlier v (is.fits v fitted) setting run (λ e early.
          listed e (let n = is.number in omega (arith, early, n))
          ∙ listed_before after.counters.events v before_state.counters.events is.number of.child.guess before_state.asked after.asked is.asked numbers e
          early) in
          let guesses = listed after.counters.events (omega arith)
          ∙ listed_here after.counters.events v before_state.counters.events is.number of.child.guess before_state.asked after.asked is.asked numbers
          (integer_row found.parent of.parent.row earlier).guessed in
          subst (λ (s : State). IsAlong s (events ++ event ∷ []) v setting) (sym state)
          (subst (λ (e : Event). IsAlong after (events ++ e ∷ []) v setting) leads_by
          (along_next before_state of.child events is v fitted setting run.goes guesses along))
