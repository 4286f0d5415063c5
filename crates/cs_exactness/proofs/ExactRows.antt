-- Rows and ends that have sources represent the runs of exactly the valuations that fit them: for `IsExact`.
use Rattle.std.proofs.Common.{◌≡◌, inl, inr, ◌<◌, ℕ, zero, suc, List, [], ◌∷◌, ◌++◌, Some, slice_get, refl, sym, ap, subst, arith}
use Rattle.std.proofs.lemmas.List.{append-nil}
use Rattle.cs_ast.specs.TypedProgram.{TypedProgram}
use Rattle.cs_terms.specs.Term.{Valuation}
use Rattle.cs_constraints.specs.Constraints.{Fits}
use Rattle.cs_events.specs.declared.event.Event.{Event}
use Rattle.cs_events.specs.declared.outcome.RunBudgets.{RunBudgets}
use Rattle.cs_events.specs.Runs.{Setting, empty, guess_at}
use Rattle.cs_event_runs.specs.First.{Step}
use Rattle.cs_cfg.specs.Graph.{Code}
use Rattle.cs_state.specs.declared.state.State.{State}
use Rattle.cs_state.specs.Meaning.{setting_of}
use Rattle.cs_state.specs.Naming.{Naming}
use Rattle.cs_state.specs.Valuations.{Guessed as Guesses, guesses_of}
use Rattle.cs_explored.specs.declared.child.Child.{Child}
use Rattle.cs_explored.specs.declared.explored.End.{End}
use Rattle.cs_explored.specs.declared.explored.Row.{Row}
use Rattle.cs_explored.specs.declared.watch.Rule.{Rule}
use Rattle.cs_explored.specs.Placing.{end_of_row}
use Rattle.cs_successors.specs.EntryRuns.{step_of, start_of, Proceeds}
use Rattle.cs_successors.specs.Coming.{StateEnd, IsEndOf}
use Rattle.cs_successors.proofs.Proceeding.{proceeds_on}
use Rattle.cs_coverage.proofs.Coverage.{element}
use Rattle.cs_coverage.proofs.Positions.{stands_for}
use Rattle.cs_exactness.specs.Chains.{IsChain, first, further}
use Rattle.cs_exactness.specs.Exact.{ComesToEnd, IsExactRow, IsExactEnd, IsExact}
use Rattle.cs_exactness.specs.Sources.{HasSource, ComesOfRow, AreSourced}
use Rattle.cs_exactness.proofs.Walking.{IsAlong, integer_row, walk}

module _ (code : Code) (program : TypedProgram) (entry : ℕ) (budgets : RunBudgets) (names : Naming) (rules : List Rule) (rows : List Row)
    (come : (number : ℕ) (row : Row) → slice_get rows number ≡ Some row → HasSource code program entry budgets names rules rows number row) where
  -- each row has a chain
  chain_under : (bound number : ℕ) → number < bound → (row : Row) → slice_get rows number ≡ Some row
      → (chain : List Event) × IsChain rows number chain
  chain_under zero number under row there = absurd (omega (arith, under))
  chain_under (suc bound) number under row there = elim (come number row there) [
    | inl first_row ↦ (
      [],
      subst (λ (n : ℕ). IsChain rows n []) (sym first_row.0)
          (first (subst (λ (n : ℕ). slice_get rows n ≡ Some row) first_row.0 there) first_row.1.no_event),
    )
    | inr of ↦
        let before = of.before in
        let earlier = chain_under bound row.parent (omega (arith, before, under)) of.parent.row of.parent.there in
        (earlier.0 ++ of.child.event ∷ [], further there of.before (ap (λ (r : Row). r.event) of.same) earlier.1)
  ]

  chain_of : (number : ℕ) (row : Row) → slice_get rows number ≡ Some row → (chain : List Event) × IsChain rows number chain
  chain_of number row there = chain_under (suc number) number (omega arith) row there

  -- runs reach a row
  comes_to : (state : State) (chain : List Event) (v : Valuation) (number : ℕ) (row : Row) → slice_get rows number ≡ Some row
      → IsChain rows number chain → Fits v row.state.value.constraints → state.model ≡ program.model → state.asked ≡ row.state.value.asked
      → IsAlong code program entry budgets names rules row.state.value chain v (setting_of names budgets state v)
  comes_to state chain v number row there leads fits model asked =
      walk code program entry budgets names rules rows come leads row there v fits (setting_of names budgets state v)
      (record { goes = record { model = model; limits = refl }; inputs = refl })
      (λ event early. ap (λ (guesses : Guesses). guess_at (guesses_of v guesses) event) asked)

  exact_row : (number : ℕ) (row : Row) → slice_get rows number ≡ Some row → IsExactRow code program entry budgets names rows number row
  exact_row number row there =
      let chain = chain_of number row there in
      let integer = integer_row code program entry budgets names rules rows come number row there in
      record {
        model = integer.model;
        chain = chain.0;
        leads = chain.1;
        possible = integer.possible;
        comes = λ v fits.
            let along = comes_to row.state.value chain.0 v number row there chain.1 fits integer.model refl in
            record {
              steps = along.steps;
              passes = along.shown;
              left = along.left;
              log = along.log;
              has_left = along.has_left;
              stands = stands_for code program budgets names row.state.value integer.locals integer.integers (setting_of names budgets row.state.value v) v
                  along.left along.log along.at;
            };
      }

  -- the run of a valuation that fits an end of a row reaches the row, and ends from there
  module _ (number : ℕ) (made : List Child) (endings : List StateEnd) (from : ComesOfRow code program entry budgets names rules rows number made endings)
      (one : StateEnd)
      (is : IsEndOf code program budgets names from.row.state.value one) (chain : List Event) (leads : IsChain rows number chain) where
    abbrev state : State
    state = one.1.value

    ends_so : (v : Valuation) → Fits v state.constraints → ComesToEnd code program entry budgets names (end_of_row number one) chain v
    ends_so v fits =
        let setting : Setting = setting_of names budgets state v in
        let along = comes_to state chain v number from.row from.there leads (is.fits v fits) is.model is.asked in
        let ending = is.ends setting v along.left along.log (record { model = is.model; limits = refl }) along.at fits in
        record {
          steps = along.steps;
          passes = along.shown;
          last = ending.last;
          before = ending.before;
          outcome = ending.ended;
          log = ending.after;
          ends = record {
            proceeds =
                subst (λ (steps : List Step). Proceeds (step_of code program entry budgets) setting
                (step_of code program entry budgets (start_of code program entry budgets setting)) empty steps ending.last ending.before)
                (append-nil along.steps) (proceeds_on (step_of code program entry budgets) setting along.proceeds ending.proceeds);
            ends = ending.ends;
          };
          ended = ending.same;
          returned = ending.returned;
          stands = stands_for code program budgets names state is.locals is.integers setting v ending.last ending.before ending.comes;
        }

    exact_one : IsExactEnd code program entry budgets names rows (end_of_row number one)
    exact_one = record { model = is.model; chain = chain; leads = leads; possible = is.possible; comes = ends_so }

  module _ (ends : List End) (Are : ℕ → Type 0) (sourced : AreSourced code program entry budgets names rules rows ends Are) where
    pub is_exact : IsExact code program entry budgets names rows ends
    is_exact = record {
      of_rows = exact_row;
      of_ends = λ number end there.
          let of = sourced.ends_come number end there in
          let chain = chain_of end.row of.from.row of.from.there in
          let is = element (IsEndOf code program budgets names of.from.row.state.value) of.endings of.place of.one of.at of.from.all.endings in
          subst (IsExactEnd code program entry budgets names rows) (sym of.same) (exact_one end.row of.made of.endings of.from of.one is chain.0 chain.1);
    }
