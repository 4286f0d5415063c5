-- Leaving the end of a block, for a block to which it leads or to wait: for the contracts of `ends`.
use Rattle.std.proofs.Common.{◌≡◌, ℕ, ℤ, Bool, List, [], map, Result, Ok, Err, IsErr, IsErrAnd, IfErr, OnOk, true≢false, refl, sym, ap, ◌∙◌}
use Rattle.std.proofs.Common.{subst}
use Rattle.cs_inputs.specs.declared.path.Path.{Path}
use Rattle.cs_ast.specs.TypedProgram.{TypedProgram}
use Rattle.cs_terms.specs.Term.{Valuation}
use Rattle.cs_constraints.specs.Constraints.{Fits}
use Rattle.cs_events.specs.declared.input.InputKind.{InputKind}
use Rattle.cs_events.specs.declared.outcome.Outcome.TheVariants.{Done}
use Rattle.cs_events.specs.Objects.{Cell}
use Rattle.cs_events.specs.Acts.{Act, Goes, Stops}
use Rattle.cs_event_runs.specs.Left.{left_of}
use Rattle.cs_meaning.specs.Machine.{Operand, to_do}
use Rattle.cs_meaning.specs.Calls.{returned_of, leave_to}
use Rattle.cs_cfg.specs.declared.code.Spot.{Spot}
use Rattle.cs_cfg.specs.Graph.{Point, Code}
use Rattle.cs_cfg.specs.Spots.{begins}
use Rattle.cs_cfg.specs.Working.{CodeState}
use Rattle.cs_cfg.specs.CodeSteps.{enters}
use Rattle.cs_cfg.proofs.SpotStates.{begins_block}
use Rattle.cs_state.specs.declared.frame.Frame.{Frame}
use Rattle.cs_state.specs.declared.state.State.{State}
use Rattle.cs_state.specs.declared.temporary.Temporary.{Temporary}
use Rattle.cs_state.specs.Cells.{operand_of}
use Rattle.cs_state.specs.Meaning.{frame_of, meaning}
use Rattle.cs_state.specs.Naming.{Naming}
use Rattle.cs_state.specs.Writes.{at_spot, with_result}
use Rattle.cs_progress.specs.declared.next.Next.{Next}
use Rattle.cs_progress.specs.declared.pause.Pause.{Pause}
use Rattle.cs_progress.specs.declared.pause.Pause.TheVariants as pause
use Rattle.cs_progress.specs.declared.progress.Progress.{Progress}
use Rattle.cs_progress.specs.Acting.{UsesAll, Leads}
use Rattle.cs_progress.specs.Answering.{answers_left}
use Rattle.cs_progress.specs.Leaving.{EndsRun}
use Rattle.cs_progress.specs.Locals.{AreIn, HasLocalsAlone}
use Rattle.cs_progress.specs.Operands.{IsDropped}
use Rattle.cs_progress.specs.Stepping.{BeginsIn, KeepsKnown, GoesTo, Leaves, result_in}
use Rattle.cs_progress.proofs.Carrying.{no_wait}
use Rattle.cs_progress.proofs.Composing.{leads_on}
use Rattle.cs_progress.proofs.KeptLocals.{dropped_locals}
use Rattle.cs_progress.proofs.Looks.{leads_same}
use Rattle.cs_spots.proofs.Going.{jumps_stay}
use Rattle.cs_spots.proofs.KeptStates.{knows_on, knows_cut, knows_moved, locals_moved, locals_returned}

module _ (code : Code) (names : Naming) (program : TypedProgram) (known : ℕ → Bool) (before after : State) (earlier later : Progress)
    {T : Type 0} (answer : Result T Pause) (act : CodeState → Act CodeState) where
  abbrev run : State → Valuation → CodeState
  run state v = meaning code names program state v

  -- under each valuation that fits, this comes first
  abbrev pub BeginsFirst : Type 0
  BeginsFirst = (cells : Path → InputKind → Cell) (v : Valuation) → Fits v before.constraints
      → UsesAll cells (answers_left before earlier.used v) (act (run before v))
      → BeginsIn code names.bases after v later.first (left_of cells (answers_left before earlier.used v) (act (run before v)))

  -- an error that is returned is a wait, or memory ran out
  pub waits_there : (why : Pause) → IsErr answer × IsErrAnd answer (λ e. e ≡ why)
      → HasLocalsAlone program names.bases known after → (why ≡ pause.Waits → (after ≡ with_result after.result before) × BeginsFirst)
      → Leaves code names program known before after earlier later answer act
  waits_there why is have waits = by_case answer is
    where
      by_case : (r : Result T Pause) → IsErr r × IsErrAnd r (λ e. e ≡ why) → Leaves code names program known before after earlier later r act
      by_case (Ok done) is = absurd (true≢false (sym is.0))
      by_case (Err e) is = record {
        done = tt;
        keeps = tt;
        function = tt;
        locals = tt;
        unchanged = λ so. (waits (sym is.1 ∙ so)).0;
        rests = λ so. have;
        waits = λ so. (waits (sym is.1 ∙ so)).1;
      }

  -- the run continues with a block
  pub goes_there : (block : ℕ) (middle : State) → KeepsKnown before middle → middle.frame.spot ≡ before.frame.spot
      → HasLocalsAlone program names.bases known middle → OnOk answer (GoesTo code block middle after) → IfErr answer (λ why. why ≡ pause.Memory)
      → ((cells : Path → InputKind → Cell) (v : Valuation) → Fits v before.constraints
      → Leads cells (answers_left before earlier.used v) (answers_left before later.used v) (act (run before v)) (Goes (enters code block (run middle v))))
      → Leaves code names program known before after earlier later answer act
  goes_there block middle knows stays have goes memory leads = by_case answer goes memory
    where
      stands : (v : Valuation) → after ≡ at_spot after.frame.spot middle
          → enters code block (run middle v) ≡ run (at_spot (begins middle.frame.spot.function block) after) v
      stands v moved =
          ap (λ (p : Point). to_do p (run middle v)) (sym (begins_block code middle.frame.spot.function block))
          ∙ ap (λ (s : State). run (at_spot (begins middle.frame.spot.function block) s) v) (sym moved)

      by_case : (r : Result T Pause) → OnOk r (GoesTo code block middle after) → IfErr r (λ why. why ≡ pause.Memory)
          → Leaves code names program known before after earlier later r act
      by_case (Err e) goes memory = record {
        done = tt;
        keeps = tt;
        function = tt;
        locals = tt;
        unchanged = no_wait e memory;
        rests = no_wait e memory;
        waits = no_wait e memory;
      }
      by_case (Ok done) goes memory =
          let function = jumps_stay code goes.jumps in
          record {
            done = (
              begins middle.frame.spot.function block,
              goes.jumps,
              λ cells v fits.
                  leads_on cells _ _ _ (act (run before v)) (Goes (enters code block (run middle v))) _ (leads cells v fits)
                  (leads_same cells _ _ _ (ap Goes (stands v goes.moved))),
            );
            keeps = knows_on before middle after knows (knows_moved after.frame.spot middle after goes.moved);
            function = function ∙ ap (λ (s : Spot). s.function) stays;
            locals = subst (HasLocalsAlone program names.bases known) (sym goes.moved)
                (locals_moved program names.bases known after.frame.spot middle function have);
            unchanged = tt;
            rests = tt;
            waits = tt;
          }

  -- the newest operand is popped before that
  pub drops_and_goes : (block : ℕ) (middle : State) → IsDropped 1 before middle → HasLocalsAlone program names.bases known before
      → OnOk answer (GoesTo code block middle after) → IfErr answer (λ why. why ≡ pause.Memory)
      → ((cells : Path → InputKind → Cell) (v : Valuation) → Fits v before.constraints
      → Leads cells (answers_left before earlier.used v) (answers_left before later.used v) (act (run before v)) (Goes (enters code block (run middle v))))
      → Leaves code names program known before after earlier later answer act
  drops_and_goes block middle dropped have =
      goes_there block middle (knows_cut _ before middle dropped) (ap (λ (s : State). s.frame.spot) dropped)
      (dropped_locals program names.bases known 1 before middle dropped have)

module _ (code : Code) (names : Naming) (program : TypedProgram) (before : State) (given : Temporary) (value : CodeState → Operand) where
  -- the state of a run whose last frame ends
  abbrev ending : Valuation → CodeState
  ending v = meaning code names program before v

  abbrev ends_act : CodeState → Act CodeState
  ends_act m = leave_to m.callers (value m) m

  stops : before.callers ≡ [] → (cells : Path → InputKind → Cell) (answers : List ℤ) (v : Valuation)
      → left_of cells answers (ends_act (ending v)) ≡ Stops (Done (returned_of (value (ending v))))
  unfolding left_of
  stops last cells answers v =
      ap (λ (callers : List Frame). left_of cells answers
      (leave_to (map (frame_of code names before v) callers) (value (ending v)) (ending v))) last

  -- the run ends with its only frame
  pub runs_out : (known : ℕ → Bool) (after : State) (earlier later : Progress) {T : Type 0} (answer : Result T Pause)
      → ((v : Valuation) → value (ending v) ≡ operand_of names.bases before.blocks v given)
      → HasLocalsAlone program names.bases known before → AreIn program names.bases known before.frame given
      → EndsRun before after later.first answer given
      → Leaves code names program known before after earlier later answer ends_act
  runs_out known after earlier later {T} answer is have inside ends =
      subst (λ (r : Result T Pause). Leaves code names program known before after earlier later r ends_act) (sym ends.waits) (record {
        done = tt;
        keeps = tt;
        function = tt;
        locals = tt;
        unchanged = λ so. ends.unchanged;
        rests = λ so.
            subst (HasLocalsAlone program names.bases known) (sym ends.unchanged)
            (locals_returned program names.bases known given after.result before ends.same inside have);
        waits = λ so cells v fits uses.
            subst (λ (first : Next). BeginsIn code names.bases after v first (left_of cells (answers_left before earlier.used v) (ends_act (ending v))))
            (sym ends.ends) (record {
              last = Done (returned_of (value (ending v)));
              stops = stops have.callers cells (answers_left before earlier.used v) v;
              same = refl;
              has_returned =
                  ap returned_of (is v) ∙ ends.has_returned names.bases before.blocks v
                  ∙ ap (λ (s : State). returned_of (result_in names.bases s.blocks v after.result)) (sym ends.unchanged);
            });
      })
