-- A counted point is visited once more, or its budget of visits is used up: for the contract of `reach_counted_point`.
use Rattle.std.proofs.Common.{◌≡◌, ℕ, ◌+◌, ◌<◌, ◌≤◌, nat_lt, Bool, true, false, Option, Some, None, Result, Ok, Err, IfErr, OnOk}
use Rattle.std.proofs.Common.{if◌then◌else◌, refl, sym, ap, ◌∙◌, subst}
use Rattle.std.proofs.Common.{arith}
use Rattle.std.specs.Prelude.{slice_get, slice_set}
use Rattle.std.proofs.lemmas.Bool.Decides.{nat_tests}
use Rattle.cs_inputs.specs.declared.path.Path.{Path}
use Rattle.cs_ast.specs.declared.place.Place.{Place}
use Rattle.cs_ast.specs.TypedProgram.{TypedProgram}
use Rattle.cs_terms.specs.Term.{Valuation}
use Rattle.cs_events.specs.declared.input.InputKind.{InputKind}
use Rattle.cs_events.specs.declared.outcome.Budget.TheVariants.{Visits}
use Rattle.cs_events.specs.declared.outcome.Outcome.TheVariants.{Over}
use Rattle.cs_events.specs.declared.outcome.RunBudgets.{RunBudgets}
use Rattle.cs_events.specs.declared.point.PointKind.{PointKind}
use Rattle.cs_events.specs.Objects.{Cell}
use Rattle.cs_events.specs.Touches.{Meets}
use Rattle.cs_events.specs.Acts.{Act, Goes, Stops, Touches}
use Rattle.cs_event_runs.specs.Left.{left_of}
use Rattle.cs_meaning.specs.CountedPoints.{with_visits, reached_again}
use Rattle.cs_meaning.specs.Machine.{to_do}
use Rattle.cs_cfg.specs.Graph.{Reach, Point, Code}
use Rattle.cs_cfg.specs.Working.{CodeState, do_work}
use Rattle.cs_state.specs.declared.state.State.{State}
use Rattle.cs_state.specs.Meaning.{meaning}
use Rattle.cs_state.specs.MeaningOfWrites.{MeansVisited}
use Rattle.cs_state.specs.Naming.{Naming}
use Rattle.cs_state.specs.Writes as writes
use Rattle.cs_progress.specs.declared.next.Next.{Next}
use Rattle.cs_progress.specs.declared.next.Next.TheVariants as next
use Rattle.cs_progress.specs.declared.pause.Pause.{Pause}
use Rattle.cs_progress.specs.declared.pause.Pause.TheVariants as pause
use Rattle.cs_progress.specs.declared.progress.Progress.{Progress}
use Rattle.cs_progress.specs.Acting.{UsesAll, Leads, BeginsWith}
use Rattle.cs_progress.specs.Answering.{answers_left}
use Rattle.cs_progress.specs.Locals.{HasLocalsAlone}
use Rattle.cs_progress.specs.Stepping.{StaysInFrame, IsMovedOn, WorksOn}
use Rattle.cs_progress.proofs.Carrying.{no_wait}

module _ (code : Code) (names : Naming) (program : TypedProgram) (known : ℕ → Bool) (budgets : RunBudgets) (at : Place) (kind : PointKind)
    (counted_point : ℕ) (before : State) where
  abbrev run : Point → Valuation → CodeState
  run todo v = to_do todo (meaning code names program before v)

  abbrev reaches : CodeState → Act CodeState
  reaches m = do_work code program budgets at (Reach kind counted_point) m

  found_so : (todo : Point) (v : Valuation) (found : Option ℕ) → slice_get before.frame.visits counted_point ≡ found
      → reaches (run todo v) ≡ reached_again budgets at kind counted_point found (run todo v)
  found_so todo v found is = ap (λ (count : Option ℕ). reached_again budgets at kind counted_point count (run todo v)) is

  within : (todo : Point) (v : Valuation) (count : ℕ) (less : Bool) → slice_get before.frame.visits counted_point ≡ Some count
      → nat_lt count budgets.visits ≡ less
      → reaches (run todo v)
      ≡ (if less then Touches (Meets kind at) (Goes (with_visits counted_point (count + 1) (run todo v))) else Stops (Over Visits at))
  within todo v count less is so =
      found_so todo v (Some count) is
      ∙ ap (λ (less : Bool). if less then Touches (Meets kind at) (Goes (with_visits counted_point (count + 1) (run todo v))) else Stops (Over Visits at)) so

  -- a counted point without a count is over its budget
  pub none_over : slice_get before.frame.visits counted_point ≡ None → (todo : Point) (v : Valuation) → reaches (run todo v) ≡ Stops (Over Visits at)
  none_over is todo v = found_so todo v None is

  -- and so is one that was reached as often as it may be
  pub full_over : (count : ℕ) → slice_get before.frame.visits counted_point ≡ Some count → budgets.visits ≤ count
      → (todo : Point) (v : Valuation) → reaches (run todo v) ≡ Stops (Over Visits at)
  full_over count is full todo v =
      let over : nat_lt count budgets.visits ≡ false = grind (arith, nat_tests) in
      within todo v count false is over

  stops_left : (cells : Path → InputKind → Cell) (todo : Point) (v : Valuation) (used : ℕ) → reaches (run todo v) ≡ Stops (Over Visits at)
      → left_of cells (answers_left before used v) (reaches (run todo v)) ≡ Stops (Over Visits at)
  unfolding left_of
  stops_left cells todo v used over = ap (left_of cells (answers_left before used v)) over

  -- the end of the run is waited for
  pub waits_over : {T : Type 0} (why : Pause) (earlier later : Progress) → later.first ≡ next.Ends (Over Visits at)
      → ((todo : Point) (v : Valuation) → reaches (run todo v) ≡ Stops (Over Visits at))
      → WorksOn {T = T} code names program known before before earlier later (Err why) reaches
  waits_over why earlier later first over = record {
    middle = before;
    works = record {
      computes = record {
        done = tt;
        waits = λ so todo cells v fits uses.
            subst (λ (first : Next). BeginsWith names.bases before v first (left_of cells (answers_left before earlier.used v) (reaches (run todo v))))
            (sym first) (tt, stops_left cells todo v earlier.used (over todo v));
      };
      stays = tt;
      locals = tt;
      unchanged = λ so. refl;
    };
    moved_on = tt;
    unchanged = λ so. refl;
  }

  module _ (middle : State) (count : ℕ) (is : slice_get before.frame.visits counted_point ≡ Some count) (less : count < budgets.visits)
      (made : middle ≡ writes.with_visits (slice_set before.frame.visits counted_point (count + 1)) before)
      (means : MeansVisited counted_point (count + 1) before middle) where
    point_leads : (used : ℕ) (todo : Point) (cells : Path → InputKind → Cell) (v : Valuation)
        → Leads cells (answers_left before used v) (answers_left before used v) (reaches (run todo v))
        (Goes (to_do todo (meaning code names program middle v)))
    unfolding left_of UsesAll
    point_leads used todo cells v uses =
        let one_more : nat_lt count budgets.visits ≡ true = grind (arith, nat_tests) in
        let answers = answers_left before used v in
        let act = within todo v count true is one_more in
        let same = ap (λ m. Goes (to_do todo m)) (sym (means code names program v)) in
        (ap (left_of cells answers) act ∙ ap (left_of cells answers) same, subst (UsesAll cells answers) same (subst (UsesAll cells answers) act uses))

    stays_there : StaysInFrame before middle
    stays_there = subst (StaysInFrame before) (sym made) (record {
      known = record { model = refl; constraints = refl; counters = refl; asked = refl; phase = refl; blocks = refl };
      answers = refl;
      callers = refl;
      number = refl;
      spot = refl;
    })

    locals_there : HasLocalsAlone program names.bases known before → HasLocalsAlone program names.bases known middle
    locals_there have = subst (HasLocalsAlone program names.bases known) (sym made) (record {
      callers = have.callers;
      answers = have.answers;
      temporaries = have.temporaries;
      stored = have.stored;
      filled = have.filled;
      result = have.result;
      read = have.read;
    })

    -- the counted point is reached, and the frame continues
    pub point_reached : {T : Type 0} (progress : Progress) (final : State) (answer : Result T Pause) → HasLocalsAlone program names.bases known before
        → OnOk answer (IsMovedOn code middle final) → IfErr answer (λ why. why ≡ pause.Memory)
        → WorksOn code names program known before final progress progress answer reaches
    point_reached progress final (Ok done) have moved memory = record {
      middle = middle;
      works = record {
        computes = record { done = λ todo cells v fits. point_leads progress.used todo cells v; waits = tt };
        stays = stays_there;
        locals = locals_there have;
        unchanged = tt;
      };
      moved_on = moved;
      unchanged = tt;
    }
    point_reached progress final (Err why) have moved memory = record {
      middle = before;
      works = record { computes = record { done = tt; waits = no_wait why memory }; stays = tt; locals = tt; unchanged = λ so. refl };
      moved_on = tt;
      unchanged = no_wait why memory;
    }
