-- The guesses of the run of each valuation that fits a row or an end are real: by induction over the chain, since the other runs are those of valuations with
-- noted ends, and these fit the row before the question. For `HasRealGuesses`.
use Rattle.std.proofs.Common.{◌≡◌, ◌<◌, ◌≤◌, inl, inr, ℕ, zero, suc, Bool, true, false, List, ◌∷◌, length, All, None, Some}
use Rattle.std.proofs.Common.{slice_get, refl, sym, ap, ◌∙◌, subst, arith}
use Rattle.std.specs.Prelude.{◌&&◌, is_some, nat_lt, Contains}
use Rattle.std.specs.FinMap as finite
use Rattle.std.proofs.lemmas.Bool.Decides.{nat_tests}
use Rattle.std.proofs.lemmas.List.{length-append}
use Rattle.std.proofs.lemmas.List.Elements.{Contains-get_or}
use Rattle.cs_ast.specs.TypedProgram.{TypedProgram}
use Rattle.cs_terms.specs.Term.{Valuation}
use Rattle.cs_constraints.specs.Constraints.{Fits}
use Rattle.cs_events.specs.declared.event.Event.{Event}
use Rattle.cs_events.specs.declared.guess.Guess.{Guess}
use Rattle.cs_events.specs.declared.operation.Operation.{Operation}
use Rattle.cs_events.specs.declared.outcome.RunBudgets.{RunBudgets}
use Rattle.cs_events.specs.PendingEvents.{Operates}
use Rattle.cs_events.specs.Runs.{guess_at}
use Rattle.cs_meaning.specs.ProgramRuns.{ProgramRun}
use Rattle.cs_cfg.specs.Graph.{Code}
use Rattle.cs_state.specs.declared.asked.Asked.{Asked}
use Rattle.cs_state.specs.declared.state.State.{State}
use Rattle.cs_state.specs.Naming.{Naming}
use Rattle.cs_state.specs.Valuations.{guess_of, guesses_of}
use Rattle.cs_eval.specs.declared.question.Question.{Question}
use Rattle.cs_eval.specs.Followed.{IsFollowed}
use Rattle.cs_eval.specs.Questions.{operation_of}
use Rattle.cs_explored.specs.declared.explored.End.{End}
use Rattle.cs_explored.specs.declared.explored.Row.{Row}
use Rattle.cs_explored.specs.declared.watch.Rule.{Rule}
use Rattle.cs_results.specs.declared.run.Others.{Others}
use Rattle.cs_results.specs.declared.run.Others.TheVariants.{One, Two}
use Rattle.cs_findings.specs.Grounds.{Pair}
use Rattle.cs_findings.specs.RealGuesses.{Comes, ComesToo, IsRealIf, AreRealBelow, AreReal}
use Rattle.cs_findings.specs.Runs.{before, lists, each_other, AllRelated}
use Rattle.cs_findings.proofs.EarlierGuesses.{guesses_kept}
use Rattle.cs_corners.specs.Corners.{EachIs, operands_under}
use Rattle.cs_corners.proofs.Questions.{same_operation}
use Rattle.cs_exactness.specs.Chains.{IsChain}
use Rattle.cs_exactness.specs.Noted.{EachState}
use Rattle.cs_exactness.specs.Sources.{HasSource, AreSourced}
use Rattle.cs_exactness.proofs.Guesses.{none_listed}
use Rattle.cs_exactness.proofs.NotedEvents.{passed}
use Rattle.cs_exactness.proofs.Walking.{integer_row}
use Rattle.cs_guesses.specs.Asking.{IsMoved, HasGround, IsUsable}
use Rattle.cs_guesses.specs.Real.{inputs_of, run_at, HasRealGuesses, IsLoweredEntry}
use Rattle.cs_guesses.proofs.Asked.{come, fits_sets, moved_in, not_followed, ground, is_usable, made_at_end}
use Rattle.cs_guesses.proofs.Coming.{comes_too}
use Rattle.cs_guesses.proofs.Origins.{IsMadeAt, made_along}
use Rattle.cs_guesses.proofs.ProgramRuns.{listed_alike, from_mapped}

-- a conjunction with a test that fails, and one with a test that holds
and_false : (a b : Bool) → b ≡ false → (a && b) ≡ false
and_false true b is = is
and_false false b is = refl

and_true : (a b : Bool) → b ≡ true → (a && b) ≡ a
and_true true b is = is
and_true false b is = refl

module _ (code : Code) (program : TypedProgram) (entry : ℕ) (budgets : RunBudgets) (names : Naming) (rules : List Rule) (rows : List Row)
    (ends : List End) (Are : ℕ → Type 0) (sourced : AreSourced code program entry budgets names rules rows ends Are)
    (lowered : IsLoweredEntry code program entry) where
  abbrev sources : (number : ℕ) (row : Row) → slice_get rows number ≡ Some row → HasSource code program entry budgets names rules rows number row
  sources = come code program entry budgets names rules rows ends Are sourced

  -- a guess of a state, if the guesses of the runs of the row before it are real
  module _ (state : State) (chain : List Event) (asked : Asked) (made : IsMadeAt code program entry budgets names rules rows sources state chain asked)
      (earlier : (w : Valuation) → Fits w made.row.state.value.constraints → AreReal program entry budgets (run_at names made.row.state.value w))
      (v : Valuation) (fits : Fits v state.constraints) where
    abbrev event : ℕ
    event = asked.event

    abbrev run : ProgramRun
    run = run_at names state v

    abbrev meant : Question
    meant = made.noted.noted.meant

    abbrev row : State
    row = made.row.state.value

    fitted : Fits v made.noted.sets
    fitted = fits_sets code program entry budgets names rules rows ends Are sourced state chain asked made v fits

    count : row.counters.events ≡ length made.before
    count = passed code program entry budgets names rules rows sources made.leads made.row made.there

    inexact : ¬ IsFollowed program.model made.noted.sets meant v
    inexact = not_followed code program entry budgets names rules rows ends Are sourced state chain asked made v fits

    -- runs that list what the row's state has guessed reach the question
    come_too : (other : ProgramRun) (w : Valuation) → Fits w made.noted.sets → other.inputs ≡ inputs_of names.syms w
        → ((at : ℕ) → at ≤ row.counters.events → guess_at other.guesses at ≡ guess_at (guesses_of w row.asked) at)
        → Comes program entry budgets other made.before (Operates made.child.event.place (operation_of w meant))
    come_too = comes_too code program entry budgets names rules rows sources lowered state chain asked made

    -- the run of a valuation with noted ends
    abbrev IsOther : ProgramRun → Pair → Type 0
    IsOther = ComesToo program entry budgets (AreRealBelow program entry budgets event) run (guess_of v asked) made.before made.child.event.place
        (operation_of v meant)

    -- it lists guesses at exactly the events before this one at which the run does
    none_late : (w : Valuation) (at : ℕ) → row.counters.events < at → guess_at (guesses_of w row.asked) at ≡ None
    none_late w at late = none_listed w at (finite.values row.asked) all_before
      where
        all_before : All (λ (one : Asked). one.event < at) (finite.values row.asked)
        all_before = λ k d within.
            let integer = integer_row code program entry budgets names rules rows sources made.number made.row made.there in
            let bound = integer.guessed _ (Contains-get_or (finite.values row.asked) k d within) in
            omega (arith, bound, late)

    listed : (w : Valuation) (at : ℕ) → lists (run_at names row w) at ≡ (lists run at && nat_lt at event)
    listed w at = by (nat_lt at event) refl
      where
        number : asked.event ≡ suc (length made.before)
        number = made.event

        by : (early : Bool) → nat_lt at event ≡ early → lists (run_at names row w) at ≡ (lists run at && nat_lt at event)
        by true early =
            let under : at < event = grind (arith, nat_tests) in
            listed_alike v w at (finite.values row.asked) ∙ ap is_some (sym (made.lists v at under)) ∙ sym (and_true (lists run at) (nat_lt at event) early)
        by false late =
            let above : event ≤ at = grind (arith, nat_tests) in
            ap is_some (none_late w at (omega (arith, above, count, number))) ∙ sym (and_false (lists run at) (nat_lt at event) late)

    is_other : (w : Valuation) → IsMoved asked v w → IsOther (run_at names row w) (operands_under meant w)
    is_other w moved =
        let there = moved_in code program entry budgets names rules rows ends Are sourced state chain asked made v w fits moved in
        record {
          listed = listed w;
          earlier = earlier w (made.noted.within w there) event;
          comes =
              subst (λ (operation : Operation). Comes program entry budgets (run_at names row w) made.before (Operates made.child.event.place operation))
              (sym (same_operation program.model made.noted.sets meant v w inexact)) (come_too (run_at names row w) w there refl (λ at early. refl));
        }

    are_others : (others : Others Valuation) → EachIs (IsMoved asked v) others
        → AllRelated IsOther (each_other (run_at names row) others) (each_other (operands_under meant) others)
    are_others (One w) moved = is_other w moved
    are_others (Two w x) moved = (is_other w moved.0, is_other x moved.1)

    reason : HasGround program.model asked meant v
    reason = ground code program entry budgets names rules rows ends Are sourced state chain asked made v fits

    may_be : IsUsable program.model asked meant v
    may_be = is_usable code program entry budgets names rules rows ends Are sourced state chain asked made v fits

    is_real : IsRealIf program entry budgets (AreRealBelow program entry budgets event) run (guess_of v asked)
    is_real = record {
      at = made.child.event.place;
      others = each_other (run_at names row) reason.others;
      real = record {
        events = made.before;
        number = made.event;
        operation = operation_of v meant;
        pairs = each_other (operands_under meant) reason.others;
        comes = come_too (before event run) v fitted refl (λ at early. let number = made.event in
            guesses_kept (guesses_of v state.asked) event at (omega (arith, early, count, number))
            ∙ made.lists v at (omega (arith, early, count, number)));
        come = are_others reason.others reason.moved;
        has_reason = reason.has_reason;
        used = may_be.used;
        left = elim may_be.left [
          | inl fit ↦ inl fit
          | inr (w, moved, differs) ↦
              inr (record { other = run_at names row w; pair = operands_under meant w; comes = is_other w moved; differs = differs })
        ];
        right = elim may_be.right [
          | inl fit ↦ inl fit
          | inr (w, moved, differs) ↦
              inr (record { other = run_at names row w; pair = operands_under meant w; comes = is_other w moved; differs = differs })
        ];
      };
    }

  -- all rows with shorter chains
  abbrev AreRealUnder : ℕ → Type 0
  AreRealUnder bound = (number : ℕ) (row : Row) (chain : List Event) → slice_get rows number ≡ Some row → IsChain rows number chain
      → length chain < bound → HasRealGuesses program entry budgets names row.state.value

  -- a state whose guesses were made along its chain
  real_state : (state : State) (chain : List Event) → ((asked : Asked) → Contains (finite.values state.asked) asked
      → IsMadeAt code program entry budgets names rules rows sources state chain asked)
      → AreRealUnder (length chain) → HasRealGuesses program entry budgets names state
  unfolding AreRealBelow
  real_state state chain made under v fits zero = tt
  real_state state chain made under v fits (suc n) = (
    real_state state chain made under v fits n,
    λ guess among at.
        let found = from_mapped (guess_of v) (finite.values state.asked) guess among in
        let here = made found.0 found.1 in
        let shorter = ap length here.along ∙ length-append here.before (here.child.event ∷ here.more) in
        let real = is_real state chain found.0 here
        (λ w fits. under here.number here.row here.before here.there here.leads (omega (arith, shorter)) w fits) v fits in
        subst (λ (m : ℕ). IsRealIf program entry budgets (AreRealBelow program entry budgets m) (run_at names state v) guess)
        (ap (λ (g : Guess). g.event) found.2 ∙ at)
        (subst (IsRealIf program entry budgets (AreRealBelow program entry budgets found.0.event) (run_at names state v)) found.2 real),
  )

  rows_under : (bound : ℕ) → AreRealUnder bound
  rows_under zero number row chain there leads short = absurd (omega (arith, short))
  rows_under (suc bound) number row chain there leads short =
      real_state row.state.value chain (made_along code program entry budgets names rules rows sources leads row there)
      (λ other found events at leads_there shorter. rows_under bound other found events at leads_there (omega (arith, shorter, short)))

  -- the guesses of all rows and ends are real
  pub are_real : EachState rows ends (λ number state chain. HasRealGuesses program entry budgets names state)
  are_real = record {
    of_rows = λ number row chain there leads. rows_under (suc (length chain)) number row chain there leads (omega arith);
    of_ends = λ number end chain there leads.
        real_state end.state.value chain
        (made_at_end code program entry budgets names rules rows ends Are sourced end (sourced.ends_come number end there) chain leads)
        (rows_under (length chain));
  }
