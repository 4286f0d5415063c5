-- A step by the instruction at the spot of a state, after dropping the temporaries that it doesn't need: for the contracts of `next`.
use Rattle.std.proofs.Common.{◌≡◌, ℕ, ◌+◌, ℤ, Bool, List, [], map, Some, Result, Ok, Err, refl, sym, ap, ◌∙◌, subst}
use Rattle.cs_inputs.specs.declared.path.Path.{Path}
use Rattle.cs_ast.specs.TypedProgram.{TypedProgram}
use Rattle.cs_terms.specs.Term.{Valuation, value_of}
use Rattle.cs_constraints.specs.Constraints.{Fits}
use Rattle.cs_events.specs.declared.input.InputKind.{InputKind}
use Rattle.cs_events.specs.declared.outcome.RunBudgets.{RunBudgets}
use Rattle.cs_events.specs.Objects.{Cell}
use Rattle.cs_events.specs.Acts.{Act, Goes}
use Rattle.cs_event_runs.specs.Left.{left_of}
use Rattle.cs_meaning.specs.Machine.{to_do}
use Rattle.cs_cfg.specs.declared.code.Spot.{Spot}
use Rattle.cs_cfg.specs.Graph.{Operation, BlockEnd, Point, Code}
use Rattle.cs_cfg.specs.Spots as spots
use Rattle.cs_cfg.specs.Spots.{point_of}
use Rattle.cs_cfg.specs.Instructions.{JumpsTo, IsNext}
use Rattle.cs_cfg.specs.Working.{CodeState, takes, cut, do_work}
use Rattle.cs_cfg.specs.CodeSteps.{step_at, do_end}
use Rattle.cs_state.specs.declared.state.State.{State}
use Rattle.cs_state.specs.declared.temporary.Temporary.{Temporary}
use Rattle.cs_state.specs.Meaning.{meaning}
use Rattle.cs_state.specs.Naming.{Naming}
use Rattle.cs_state.specs.Writes.{at_spot, with_answers, with_result, with_temporaries}
use Rattle.cs_progress.specs.declared.pause.Pause.{Pause}
use Rattle.cs_progress.specs.declared.pause.Pause.TheVariants as pause
use Rattle.cs_progress.specs.declared.progress.Progress.{Progress}
use Rattle.cs_progress.specs.Acting.{UsesAll}
use Rattle.cs_progress.specs.Answering.{answers_left}
use Rattle.cs_progress.specs.Locals.{HasLocalsAlone}
use Rattle.cs_progress.specs.Stepping.{IsCutTo, IsCutForEnd, WorksOn, Leaves, BeginsIn}
use Rattle.cs_progress.specs.Stepping.{next_act, IsDone, Waits}
use Rattle.cs_spots.specs.AtSpots.{StandsAt, EndsAt, TakesStep}
use Rattle.cs_spots.proofs.Beginning.{begins_in}
use Rattle.cs_spots.proofs.CutMeanings.{cut_once, cut_means, cut_shared, end_cut}
use Rattle.cs_spots.proofs.Going.{jumps_stay, next_jumps}
use Rattle.cs_spots.proofs.KeptStates.{knows_on, knows_cut, knows_moved, knows_returned, knows_answered, locals_moved, locals_answered}

-- equal acts after equal answers
module _ (cells : Path → InputKind → Cell) (one two : List ℤ) (first second : Act CodeState) (answers : one ≡ two) (same : first ≡ second) where
  uses_same : UsesAll cells one first → UsesAll cells two second
  uses_same uses = subst (λ given. UsesAll cells given second) answers (subst (UsesAll cells one) same uses)

  left_same : left_of cells one first ≡ left_of cells two second
  left_same i = left_of cells (answers i) (same i)

-- a step without an event uses no answer
goes_left : (cells : Path → InputKind → Cell) (answers : List ℤ) (next : CodeState) → left_of cells answers (Goes next) ≡ Goes next
unfolding left_of
goes_left cells answers next = refl

-- if no answer was used, all remain
all_left : (before state : State) (used : ℕ) (v : Valuation) → used ≡ 0 → state.answers ≡ before.answers
    → map (value_of v) before.answers ≡ answers_left state used v
all_left before state used v none same =
    sym (ap (λ count. answers_left state count v) none ∙ ap (map (value_of v)) same)

module _ (code : Code) (names : Naming) (program : TypedProgram) (budgets : RunBudgets) (known : ℕ → Bool) (before : State) where
  abbrev run : State → Valuation → CodeState
  run state v = meaning code names program state v

  abbrev acts : State → Valuation → Act CodeState
  acts = next_act code names program budgets

  module _ (operation : Operation) (kept : State) (is : IsCutTo (operation.temporary + takes operation.work) before kept)
      (stands : StandsAt code operation before.frame.spot) where
    abbrev number : ℕ
    number = operation.temporary + takes operation.work

    abbrev following : Point
    following = point_of code (spots.after before.frame.spot)

    abbrev works : CodeState → Act CodeState
    works m = do_work code program budgets operation.at operation.work m

    act_there : (state : State) (v : Valuation) → state.frame.spot ≡ before.frame.spot
        → acts state v ≡ works (cut number (to_do following (run state v)))
    act_there state v same =
        ap (λ (p : Point). step_at code program budgets p.operations p.end (run state v)) (ap (point_of code) same ∙ stands)

    act_before : (v : Valuation) → acts before v ≡ works (to_do following (run kept v))
    act_before v = act_there before v refl ∙ ap (λ m. works (to_do following m)) (sym (cut_means code names program v number before kept is))

    act_kept : (v : Valuation) → acts kept v ≡ works (to_do following (run kept v))
    act_kept v =
        act_there kept v (ap (λ (s : State). s.frame.spot) is)
        ∙ ap (λ m. works (to_do following m)) (sym (cut_means code names program v number kept kept (cut_once number before kept is)))

    same_answers : kept.answers ≡ before.answers
    same_answers = ap (λ (s : State). s.answers) is

    same_sets : before.constraints ≡ kept.constraints
    same_sets = sym (ap (λ (s : State). s.constraints) is)

    module _ (final : State) (earlier later : Progress) (fresh : earlier.used ≡ 0) where
      moved : (middle : State) (v : Valuation) (last : Spot) → middle.frame.spot ≡ before.frame.spot → final ≡ at_spot last middle
          → to_do following (run middle v) ≡ run (at_spot (spots.after before.frame.spot) (with_answers [] final)) v
      moved middle v last same to =
          ap (λ (s : Spot). to_do (point_of code (spots.after s)) (run middle v)) (sym same)
          ∙ ap (λ (s : Spot). run (at_spot (spots.after s) middle) v) same
          ∙ ap (λ (s : State). run (at_spot (spots.after before.frame.spot) (with_answers [] s)) v) (sym to)

      is_done : {T : Type 0} (done : T) → WorksOn code names program known kept final earlier later (Ok done) works
          → IsDone code names program budgets before (with_answers [] final) × HasLocalsAlone program names.bases known (with_answers [] final)
      is_done done on =
          let middle = on.middle in
          let (last, after, to) = on.moved_on in
          let stays = on.works.stays in
          let same : middle.frame.spot ≡ before.frame.spot = stays.spot ∙ ap (λ (s : State). s.frame.spot) is in
          let jumps = next_jumps code before.frame.spot last operation stands (subst (λ s. IsNext code s (Some last)) same after) in
          let there : final.frame.spot ≡ last = ap (λ (s : State). s.frame.spot) to in
          let function : last.function ≡ middle.frame.spot.function =
          jumps_stay code jumps ∙ ap (λ (s : Spot). s.function) (sym same) in (
            record {
              known = knows_answered before final
                  (knows_on before kept final (knows_cut _ before kept is) (knows_on kept middle final stays.known (knows_moved last middle final to)));
              function = ap (λ (s : Spot). s.function) there ∙ jumps_stay code jumps;
              answers = refl;
              spot = spots.after before.frame.spot;
              jumps = subst (JumpsTo code (spots.after before.frame.spot)) (sym there) jumps;
              goes = λ cells v fits uses.
                  let answers = all_left before kept earlier.used v fresh same_answers in
                  let led = on.works.computes.done following cells v (subst (Fits v) same_sets fits)
                  (uses_same cells _ _ _ _ answers (act_before v) uses) in
                  left_same cells _ _ _ _ answers (act_before v) ∙ led.0 ∙ goes_left cells _ _ ∙ ap Goes (moved middle v last same to);
            },
            locals_answered program names.bases known final
                (subst (HasLocalsAlone program names.bases known) (sym to) (locals_moved program names.bases known last middle function on.works.locals)),
          )

      waits_kept : {T : Type 0} (why : Pause) → WorksOn {T = T} code names program known kept final earlier later (Err why) works → why ≡ pause.Waits
          → Waits code names program budgets before kept later.first
      waits_kept why on so = record {
        known = knows_cut _ before kept is;
        function = ap (λ (s : State). s.frame.spot.function) is;
        answers = same_answers;
        same = λ v. act_kept v ∙ sym (act_before v);
        begins = λ cells v fits uses.
            let answers = all_left before kept earlier.used v fresh same_answers in
            subst (BeginsIn code names.bases kept v later.first) (sym (left_same cells _ _ _ _ answers (act_before v)))
            (begins_in code names.bases kept v later.first _
            (on.works.computes.waits so following cells v (subst (Fits v) same_sets fits) (uses_same cells _ _ _ _ answers (act_before v) uses)));
      }

      -- an operation is done, or waited for
      pub works_step : {T : Type 0} (answer : Result T Pause) → HasLocalsAlone program names.bases known kept
          → WorksOn code names program known kept final earlier later answer works
          → TakesStep code names program budgets known before final later answer
      works_step (Ok done) have on = record { done = is_done done on; waits = tt }
      works_step {T} (Err why) have on = record {
        done = tt;
        waits = λ so.
            subst (λ (s : State). Waits code names program budgets before s later.first × HasLocalsAlone program names.bases known s)
            (sym (on.unchanged so)) (waits_kept {T = T} why on so, have);
      }

  -- the end of a block, with the temporaries that it needs
  module _ (end : BlockEnd) (kept : State) (is : IsCutForEnd end before kept) (stands : EndsAt code end before.frame.spot) where
    cut_acts : (v : Valuation) → do_end code end (run before v) ≡ do_end code end (run kept v)
    cut_acts v = end_cut code names program v end before kept is

    shared : (temporaries : List Temporary) × (kept ≡ with_temporaries temporaries before)
    shared = cut_shared end before kept is

    end_there : (state : State) (v : Valuation) → state.frame.spot ≡ before.frame.spot → acts state v ≡ do_end code end (run state v)
    end_there state v same =
        ap (λ (p : Point). step_at code program budgets p.operations p.end (run state v)) (ap (point_of code) same ∙ stands)

    end_before : (v : Valuation) → acts before v ≡ do_end code end (run kept v)
    end_before v = end_there before v refl ∙ cut_acts v

    end_kept : (v : Valuation) → acts kept v ≡ do_end code end (run kept v)
    end_kept v = end_there kept v (ap (λ (s : State). s.frame.spot) shared.1)

    module _ (final : State) (earlier later : Progress) (fresh : earlier.used ≡ 0) where
      is_left : {T : Type 0} (done : T) → Leaves code names program known kept final earlier later (Ok done) (do_end code end)
          → IsDone code names program budgets before (with_answers [] final) × HasLocalsAlone program names.bases known (with_answers [] final)
      is_left done leaves =
          let (spot, way, leads) = leaves.done in
          let same_answers = ap (λ (s : State). s.answers) shared.1 in
          let same_sets = sym (ap (λ (s : State). s.constraints) shared.1) in (
            record {
              known = knows_answered before final (knows_on before kept final (knows_cut shared.0 before kept shared.1) leaves.keeps);
              function = leaves.function ∙ ap (λ (s : State). s.frame.spot.function) shared.1;
              answers = refl;
              spot = spot;
              jumps = way;
              goes = λ cells v fits uses.
                  let answers = all_left before kept earlier.used v fresh same_answers in
                  let led = leads cells v (subst (Fits v) same_sets fits) (uses_same cells _ _ _ _ answers (end_before v) uses) in
                  left_same cells _ _ _ _ answers (end_before v) ∙ led.0 ∙ goes_left cells _ _;
            },
            locals_answered program names.bases known final leaves.locals,
          )

      waits_left : {T : Type 0} (why : Pause) → Leaves {T = T} code names program known kept final earlier later (Err why) (do_end code end)
          → why ≡ pause.Waits → Waits code names program budgets before final later.first × HasLocalsAlone program names.bases known final
      waits_left why leaves so =
          let unchanged : final ≡ with_result final.result kept = leaves.unchanged so in
          let same_answers = ap (λ (s : State). s.answers) shared.1 in
          let same_sets = sym (ap (λ (s : State). s.constraints) shared.1) in (
            record {
              known = knows_on before kept final (knows_cut shared.0 before kept shared.1) (knows_returned final.result kept final unchanged);
              function = ap (λ (s : State). s.frame.spot.function) unchanged ∙ ap (λ (s : State). s.frame.spot.function) shared.1;
              answers = ap (λ (s : State). s.answers) unchanged ∙ same_answers;
              same = λ v. ap (λ (s : State). acts s v) unchanged ∙ end_kept v ∙ sym (end_before v);
              begins = λ cells v fits uses.
                  let answers = all_left before kept earlier.used v fresh same_answers in
                  subst (BeginsIn code names.bases final v later.first) (sym (left_same cells _ _ _ _ answers (end_before v)))
                  (leaves.waits so cells v (subst (Fits v) same_sets fits) (uses_same cells _ _ _ _ answers (end_before v) uses));
            },
            leaves.rests so,
          )

      -- the end of a block is left, or waited for
      pub ends_step : {T : Type 0} (answer : Result T Pause)
          → Leaves code names program known kept final earlier later answer (do_end code end)
          → TakesStep code names program budgets known before final later answer
      ends_step (Ok done) leaves = record { done = is_left done leaves; waits = tt }
      ends_step {T} (Err why) leaves = record { done = tt; waits = waits_left {T = T} why leaves }
