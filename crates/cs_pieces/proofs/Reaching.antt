-- The successors of a state that runs reach silently from another one are successors of that one too: for the contract of `find`.
use Rattle.std.proofs.Common.{◌≡◌, ℕ, zero, suc, List, [], ◌∷◌, ◌++◌, None, Some, All, inl, inr, refl, ap, ◌∙◌, subst}
use Rattle.std.specs.Prelude.{◌⊎◌, slice_get}
use Rattle.std.proofs.lemmas.List.Elements.{All-nil, All-cons, All-append, All-weaker}
use Rattle.std.specs.Global.{Box}
use Rattle.cs_ast.specs.TypedProgram.{TypedProgram}
use Rattle.cs_terms.specs.Term.{Valuation}
use Rattle.cs_events.specs.declared.outcome.Outcome.{Outcome}
use Rattle.cs_events.specs.declared.outcome.RunBudgets.{RunBudgets}
use Rattle.cs_events.specs.Acts.{Act}
use Rattle.cs_events.specs.Runs.{Setting, Log, guess_at}
use Rattle.cs_event_runs.specs.First.{Step, first_of}
use Rattle.cs_cfg.specs.Graph.{Code}
use Rattle.cs_cfg.specs.Working.{CodeState}
use Rattle.cs_cfg.specs.CodeSteps.{code_step}
use Rattle.cs_state.specs.declared.asked.Asked.{Asked}
use Rattle.cs_state.specs.declared.state.State.{State}
use Rattle.cs_state.specs.Naming.{Naming}
use Rattle.cs_state.specs.Valuations.{Guessed as Guesses}
use Rattle.cs_explored.specs.declared.child.Child.{Child}
use Rattle.cs_explored.specs.declared.watch.Rule.{Rule}
use Rattle.cs_explored.specs.Watching.{IsPhaseAfter}
use Rattle.cs_successors.specs.EntryRuns.{LeavesAfter, Proceeds, stays}
use Rattle.cs_successors.specs.Coming.{IsIntegerState, StateEnd, OutcomesDiffer, GoesBy, IsAt, ComesSilently, PassesTo, EndsIn, IsNotedAt, IsChildOf, IsEndOf}
use Rattle.cs_successors.specs.Coming.{AreGuessesAfter, ListsNoneOrTruth, GivesOwn, ComesToChild, ComesToEnd, ComesOfState, IsReachedFrom}
use Rattle.cs_successors.proofs.Passing.{after_silent_steps, leaves_no_end}
use Rattle.cs_successors.proofs.Proceeding.{proceeds_on, leaves_on, shows_on}

-- items of a list keep their indices if others come after it, and are there too if others come before it
pub item_first : {X : Type 0} (xs ys : List X) (k : ℕ) (x : X) → slice_get xs k ≡ Some x → slice_get (xs ++ ys) k ≡ Some x
item_first [] ys k x is = cc
item_first (y ∷ xs) ys zero x is = is
item_first (y ∷ xs) ys (suc k) x is = item_first xs ys k x is

item_last : {X : Type 0} (xs ys : List X) (k : ℕ) (x : X) → slice_get ys k ≡ Some x → (place : ℕ) × (slice_get (xs ++ ys) place ≡ Some x)
item_last [] ys k x is = (k, is)
item_last (y ∷ xs) ys k x is = let there = item_last xs ys k x is in (suc there.0, there.1)

module _ (code : Code) (program : TypedProgram) (budgets : RunBudgets) (names : Naming) where
  abbrev step : CodeState → Act CodeState
  step = code_step code program budgets

  -- paths that begin with a silent one
  module _ (setting : Setting) (valuation : Valuation) (left rest : Act CodeState) (log later : Log) (way : Proceeds step setting left log [] rest later) where
    passes_after : (state : State) → PassesTo code program budgets names state setting valuation rest later
        → PassesTo code program budgets names state setting valuation left log
    passes_after state to = record {
      one = to.one;
      rest = to.rest;
      later = to.later;
      leaves = leaves_on step setting way to.leaves;
      comes = to.comes;
    }

    ends_after : (outcome : Outcome) (state : State) → EndsIn code program budgets names outcome state setting valuation rest later
        → EndsIn code program budgets names outcome state setting valuation left log
    ends_after outcome state ending = record {
      last = ending.last;
      before = ending.before;
      ended = ending.ended;
      after = ending.after;
      proceeds = proceeds_on step setting way ending.proceeds;
      comes = ending.comes;
      ends = ending.ends;
      same = ending.same;
      returned = ending.returned;
    }

    child_after : (made : List Child) → ComesToChild code program budgets names made setting valuation rest later
        → ComesToChild code program budgets names made setting valuation left log
    child_after made comes = record {
      place = comes.place;
      child = comes.child;
      there = comes.there;
      after = comes.after;
      to = record {
        one = comes.to.one;
        rest = comes.to.rest;
        later = comes.to.later;
        leaves = leaves_on step setting way comes.to.leaves;
        comes = comes.to.comes;
      };
      others = comes.others;
      guess = comes.guess;
      shown = comes.shown;
      phases = comes.phases;
    }

    end_after : (ends : List StateEnd) → ComesToEnd code program budgets names ends setting valuation rest later
        → ComesToEnd code program budgets names ends setting valuation left log
    end_after ends comes = record {
      place = comes.place;
      end = comes.end;
      there = comes.there;
      ending = ends_after comes.end.0 comes.end.1.value comes.ending;
    }

  -- an end in a longer list of ends
  module _ (setting : Setting) (valuation : Valuation) (left : Act CodeState) (log : Log) (ends more : List StateEnd) where
    first_end : ComesToEnd code program budgets names ends setting valuation left log
        → ComesToEnd code program budgets names (ends ++ more) setting valuation left log
    first_end comes =
        record { place = comes.place; end = comes.end; there = item_first ends more comes.place comes.end comes.there; ending = comes.ending }

    last_end : ComesToEnd code program budgets names more setting valuation left log
        → ComesToEnd code program budgets names (ends ++ more) setting valuation left log
    last_end comes =
        let there = item_last ends more comes.place comes.end comes.there in
        record { place = there.0; end = comes.end; there = there.1; ending = comes.ending }

  -- a state is reached from itself
  pub reached_itself : (state : State) → IsIntegerState code program budgets names state → IsReachedFrom code program budgets names state state []
  reached_itself state is = record {
    integer = is;
    events = refl;
    phase = refl;
    asked = refl;
    blocks = refl;
    mentions = λ known mentioned. mentioned;
    fits = λ valuation fits. fits;
    endings = All-nil (IsEndOf code program budgets names state);
    comes = λ setting valuation left log goes at fits. record { rest = left; later = log; proceeds = stays refl refl; comes = at };
    covers = λ setting valuation left log goes at. inl at.fits;
  }

  module _ (before one : State) (ends : List StateEnd) (reached : IsReachedFrom code program budgets names before one ends) where
    -- the ends of the state that was reached
    end_of_first : (end : StateEnd) → IsEndOf code program budgets names one end → IsEndOf code program budgets names before end
    end_of_first end is = record {
      model = is.model;
      possible = is.possible;
      fits = λ valuation fits. reached.fits valuation (is.fits valuation fits);
      phase = is.phase ∙ reached.phase;
      asked = is.asked ∙ reached.asked;
      blocks = is.blocks ∙ reached.blocks;
      mentions = λ known mentioned. is.mentions known (reached.mentions known mentioned);
      locals = is.locals;
      integers = is.integers;
      ends = λ setting valuation left log goes at fits.
          let way = reached.comes setting valuation left log goes at (is.fits valuation fits) in
          ends_after setting valuation left way.rest log way.later way.proceeds end.0 end.1.value
          (is.ends setting valuation way.rest way.later goes way.comes fits);
    }

    ends_of_first : (more : List StateEnd) → All (IsEndOf code program budgets names one) more
        → All (IsEndOf code program budgets names before) (ends ++ more)
    ends_of_first more are =
        All-append (IsEndOf code program budgets names before) ends more reached.endings
        (All-weaker (IsEndOf code program budgets names one) (IsEndOf code program budgets names before) end_of_first more are)

    -- runs reach one state from another, and from there a third one
    pub reached_on : (two : State) (more : List StateEnd) → IsReachedFrom code program budgets names one two more
        → IsReachedFrom code program budgets names before two (ends ++ more)
    reached_on two more next = record {
      integer = next.integer;
      events = next.events ∙ reached.events;
      phase = next.phase ∙ reached.phase;
      asked = next.asked ∙ reached.asked;
      blocks = next.blocks ∙ reached.blocks;
      mentions = λ known mentioned. next.mentions known (reached.mentions known mentioned);
      fits = λ valuation fits. reached.fits valuation (next.fits valuation fits);
      endings = ends_of_first more next.endings;
      comes = λ setting valuation left log goes at fits.
          let way = reached.comes setting valuation left log goes at (next.fits valuation fits) in
          let further = next.comes setting valuation way.rest way.later goes way.comes fits in
          record {
            rest = further.rest;
            later = further.later;
            proceeds = proceeds_on step setting way.proceeds further.proceeds;
            comes = further.comes;
          };
      covers = λ setting valuation left log goes at. elim (reached.covers setting valuation left log goes at) [
        | inl fits ↦
            let way = reached.comes setting valuation left log goes at fits in
            elim (next.covers setting valuation way.rest way.later goes way.comes) [
              | inl further ↦ inl further
              | inr end ↦ inr (last_end setting valuation left log ends more (end_after setting valuation left way.rest log way.later way.proceeds more end))
            ]
        | inr end ↦ inr (first_end setting valuation left log ends more end)
      ];
    }

  -- all successors of a state, whose ends may be alike
  pub record Comes (rules : List Rule) (before : State) (made : List Child) (ends : List StateEnd) : Type 0 where
    pub children : All (IsChildOf code program budgets names rules before) made
    pub endings : All (IsEndOf code program budgets names before) ends
    pub covers : (setting : Setting) (valuation : Valuation) (left : Act CodeState) (log : Log) → GoesBy code program budgets names setting
        → IsAt code program budgets names before setting valuation left log → guess_at setting.guesses (suc before.counters.events) ≡ None
        → ComesToChild code program budgets names made setting valuation left log
        ⊎ ComesToEnd code program budgets names ends setting valuation left log
    pub labels_differ : (one other : ℕ) (first second : Child) → slice_get made one ≡ Some first → slice_get made other ≡ Some second
        → first.event.label ≡ second.event.label → one ≡ other

  -- if no run passes an event, the ends are the only successors
  pub ends_come : (rules : List Rule) (before : State) (ends : List StateEnd) → All (IsEndOf code program budgets names before) ends
      → ((setting : Setting) (valuation : Valuation) (left : Act CodeState) (log : Log) → GoesBy code program budgets names setting
      → IsAt code program budgets names before setting valuation left log
      → ComesToEnd code program budgets names ends setting valuation left log) → Comes rules before [] ends
  ends_come rules before ends endings covers = record {
    children = All-nil (IsChildOf code program budgets names rules before);
    endings = endings;
    covers = λ setting valuation left log goes here none. inr (covers setting valuation left log goes here);
    labels_differ = λ one other first second here there. cc;
  }

  -- and so is one end, if all runs end in it
  pub one_end_comes : (rules : List Rule) (box : Box State) → IsIntegerState code program budgets names box.value → (outcome : Outcome)
      → ((setting : Setting) (valuation : Valuation) (left : Act CodeState) (log : Log) → GoesBy code program budgets names setting
      → IsAt code program budgets names box.value setting valuation left log
      → EndsIn code program budgets names outcome box.value setting valuation left log) → Comes rules box.value [] ((outcome, box) ∷ [])
  one_end_comes rules box is outcome ends_so =
      ends_come rules box.value ((outcome, box) ∷ []) (All-cons (IsEndOf code program budgets names box.value) (outcome, box) [] (record {
        model = is.model;
        possible = is.possible;
        fits = λ valuation fits. fits;
        phase = refl;
        asked = refl;
        blocks = refl;
        mentions = λ known mentioned. mentioned;
        locals = is.locals;
        integers = is.integers;
        ends = λ setting valuation left log goes here fits. ends_so setting valuation left log goes here;
      }) (All-nil (IsEndOf code program budgets names box.value)))
      (λ setting valuation left log goes here. record {
        place = 0;
        end = (outcome, box);
        there = refl;
        ending = ends_so setting valuation left log goes here;
      })

  module _ (rules : List Rule) (before one : State) (ends : List StateEnd) (reached : IsReachedFrom code program budgets names before one ends) where
    -- a run that passes an event reaches the intermediate state first, and passes the event from there
    pub record ComesFirst (setting : Setting) (valuation : Valuation) (left rest : Act CodeState) (log later : Log) (shown : Step) : Type 0 where
      pub way : ComesSilently code program budgets names one setting valuation left log
      pub leaves : LeavesAfter step setting (first_of setting way.later way.rest) (shown ∷ []) rest later

    comes_first : (setting : Setting) (valuation : Valuation) (left rest : Act CodeState) (log later : Log) (shown : Step)
        → GoesBy code program budgets names setting → IsAt code program budgets names before setting valuation left log
        → LeavesAfter step setting (first_of setting log left) (shown ∷ []) rest later → ComesFirst setting valuation left rest log later shown
    comes_first setting valuation left rest log later shown goes at leaves = elim (reached.covers setting valuation left log goes at) [
      | inl fits ↦
          let way = reached.comes setting valuation left log goes at fits in
          record { way = way; leaves = after_silent_steps step setting way.proceeds leaves }
      | inr end ↦ absurd (leaves_no_end step setting end.ending.proceeds end.ending.ends leaves)
    ]

    -- what is noted after the intermediate state was asked after the one before, too
    noted_before : (child : Child) (asked : Asked) → IsNotedAt code program budgets names one child asked
        → IsNotedAt code program budgets names before child asked
    noted_before child asked at_one = record {
      sets = at_one.sets;
      inhabited = at_one.inhabited;
      given = at_one.given;
      noted = at_one.noted;
      within = λ valuation fits. reached.fits valuation (at_one.within valuation fits);
      kept = at_one.kept;
      divides = at_one.divides;
      comes = λ setting valuation left log goes at fits.
          let way = reached.comes setting valuation left log goes at (at_one.within valuation fits) in
          let there = at_one.comes setting valuation way.rest way.later goes way.comes fits in
          record { one = there.one; shows = shows_on step setting way.proceeds there.shows; pends = there.pends };
      inexact = at_one.inexact;
      own = λ setting valuation left rest log later shown goes at leaves.
          let first = comes_first setting valuation left rest log later shown goes at leaves in
          at_one.own setting valuation first.way.rest rest first.way.later later shown goes first.way.comes first.leaves;
    }

    -- a run that passes the event of a child has reached it
    came_back : (child : Child) → IsChildOf code program budgets names rules one child → (setting : Setting) (valuation : Valuation)
        (left rest : Act CodeState) (log later : Log) (shown : Step) → GoesBy code program budgets names setting
        → IsAt code program budgets names before setting valuation left log
        → LeavesAfter step setting (first_of setting log left) (shown ∷ []) rest later → shown.event ≡ child.event
        → ListsNoneOrTruth setting child → GivesOwn setting child shown.answer valuation
        → IsAt code program budgets names child.state.value setting valuation rest later
    came_back child is setting valuation left rest log later shown goes at leaves same lists gives =
        let first = comes_first setting valuation left rest log later shown goes at leaves in
        is.back setting valuation first.way.rest rest first.way.later later shown goes first.way.comes first.leaves same lists gives

    child_of_first : (child : Child) → IsChildOf code program budgets names rules one child → IsChildOf code program budgets names rules before child
    unfolding passes_after
    child_of_first child is = record {
      integer = is.integer;
      number = is.number ∙ ap suc reached.events;
      phase = subst (λ (phase : ℕ). IsPhaseAfter rules phase child.event child.state.value.phase) reached.phase is.phase;
      named = is.named;
      asked = subst (λ (guesses : Guesses). AreGuessesAfter child.state.value.counters.events child.guess guesses child.state.value.asked) reached.asked
          is.asked;
      notes = λ symbol asked has found. noted_before child asked (is.notes symbol asked has found);
      blocks = is.blocks ∙ reached.blocks;
      fits = λ valuation fits. reached.fits valuation (is.fits valuation fits);
      passes = λ setting valuation left log goes at fits guesses.
          let way = reached.comes setting valuation left log goes at (is.fits valuation fits) in
          let there = is.passes setting valuation way.rest way.later goes way.comes fits guesses in
          (passes_after setting valuation left way.rest log way.later way.proceeds child.state.value there.0, there.1);
      back = came_back child is;
      mentions = λ known more mentioned includes with_guess. is.mentions known more (reached.mentions known mentioned) includes with_guess;
    }

    -- the successors of the intermediate state, and the ends on the way to it
    pub comes_of : (made : List Child) (more : List StateEnd) → Comes rules one made more → OutcomesDiffer (ends ++ more)
        → ComesOfState code program budgets names rules before made (ends ++ more)
    comes_of made more comes differ = record {
      children = All-weaker (IsChildOf code program budgets names rules one) (IsChildOf code program budgets names rules before) child_of_first made
          comes.children;
      endings = ends_of_first before one ends reached more comes.endings;
      covers = λ setting valuation left log goes at none. elim (reached.covers setting valuation left log goes at) [
        | inl fits ↦
            let way = reached.comes setting valuation left log goes at fits in
            let without : guess_at setting.guesses (suc one.counters.events) ≡ None =
            ap (λ (events : ℕ). guess_at setting.guesses (suc events)) reached.events ∙ none in
            elim (comes.covers setting valuation way.rest way.later goes way.comes without) [
              | inl child ↦ inl (child_after setting valuation left way.rest log way.later way.proceeds made child)
              | inr end ↦ inr (last_end setting valuation left log ends more (end_after setting valuation left way.rest log way.later way.proceeds more end))
            ]
        | inr end ↦ inr (first_end setting valuation left log ends more end)
      ];
      labels_differ = comes.labels_differ;
      outcomes_differ = differ;
    }
