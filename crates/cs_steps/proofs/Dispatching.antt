-- Operations do their work: those that push, those of operators, and all before the frame continues. For the contracts of `work`.
use Rattle.std.proofs.Common.{◌≡◌, ◌<◌, ℕ, ℤ, pos, Bool, List, [], ◌∷◌, ◌++◌, Result, Ok, Err, IsErr, IsErrAnd, OnOk, IfErr}
use Rattle.std.proofs.Common.{true≢false, refl, sym, ap, ◌∙◌}
use Rattle.std.proofs.lemmas.Result.{on_ok_weaker}
use Rattle.cs_inputs.specs.declared.path.Path.{Path}
use Rattle.cs_ast.specs.TypedProgram.{TypedProgram}
use Rattle.cs_checker.specs.Answers.{constant}
use Rattle.cs_events.specs.declared.input.InputKind.{InputKind}
use Rattle.cs_events.specs.Objects.{Cell, LocalObject, PointerCell}
use Rattle.cs_events.specs.Touches.{Touch}
use Rattle.cs_events.specs.Acts.{Act, Goes, Touches}
use Rattle.cs_event_runs.specs.Left.{left_of}
use Rattle.cs_meaning.specs.Machine.{to_do, push, push_cell}
use Rattle.cs_cfg.specs.Graph.{Point, Code}
use Rattle.cs_cfg.specs.Working.{CodeState}
use Rattle.cs_regions.specs.declared.base.Base.{Base}
use Rattle.cs_regions.specs.declared.base.Base.TheVariants.{Local}
use Rattle.cs_store.specs.declared.value.Value.TheVariants.{At}
use Rattle.cs_state.specs.declared.state.State.{State}
use Rattle.cs_state.specs.declared.temporary.Temporary.{Temporary}
use Rattle.cs_state.specs.declared.temporary.Temporary.TheVariants.{Scalar}
use Rattle.cs_state.specs.Cells.{operand_of, pointer_to}
use Rattle.cs_state.specs.MeaningOfWrites.{MeansPushed}
use Rattle.cs_state.specs.Naming.{Naming, Extends}
use Rattle.cs_progress.specs.declared.pause.Pause.{Pause}
use Rattle.cs_progress.specs.declared.pause.Pause.TheVariants as pause
use Rattle.cs_progress.specs.declared.progress.Progress.{Progress}
use Rattle.cs_progress.specs.Acting.{UsesAll, Leads}
use Rattle.cs_progress.specs.Computing.{Computes}
use Rattle.cs_cfg.specs.IntegerCode.{count_of_locals}
use Rattle.cs_progress.specs.Locals.{AreIn, HasLocalsAlone}
use Rattle.cs_progress.specs.Operands.{IsPushed, IsPlacePushed}
use Rattle.cs_progress.specs.Stepping.{StaysInFrame, KeepsLocals, WaitsUnchanged, Works, WorksOn, IsMovedOn}
use Rattle.cs_progress.proofs.Looks.{leads_same}
use Rattle.cs_progress.proofs.Composing.{leads_on}
use Rattle.cs_progress.proofs.Carrying.{no_wait}
use Rattle.cs_progress.proofs.KeptLocals.{stays, pushed_locals}
use Rattle.cs_progress.proofs.KnownSymbols.{constant_over}
use Rattle.cs_operators.proofs.Computed.{stands, AllLead}
use Rattle.cs_steps.proofs.Working.{IsDone, works_done}

-- a touch isn't an event
pub leads_touched : (cells : Path → InputKind → Cell) (answers : List ℤ) (touch : Touch) (act : Act CodeState)
    → Leads cells answers answers (Touches touch act) act
unfolding left_of UsesAll
leads_touched cells answers touch act uses = (refl, uses)

module _ (code : Code) (names : Naming) (program : TypedProgram) (known : ℕ → Bool) (before : State) (earlier later : Progress)
    (act : CodeState → Act CodeState) where
  -- under each valuation that fits, the act of the run's states leads to another
  abbrev pub LeadsTo : (Point → CodeState → Act CodeState) → Type 0
  LeadsTo other = (todo : Point) → AllLead code names program before earlier.used later.used (λ v. act (stands code names program before todo v))
      (λ v. other todo (stands code names program before todo v))

  module _ (after : State) {T : Type 0} (answer : Result T Pause) (have : HasLocalsAlone program names.bases known before) where
    -- an operator's act is the work of its operation, after which the frame is the same, and all pointers still point to locals
    pub works_of : Computes code names program before after earlier later answer act → OnOk answer (StaysInFrame before after)
        → OnOk answer ((program : TypedProgram) (bases : List Base) (known : ℕ → Bool) → KeepsLocals program bases known before after)
        → WaitsUnchanged before after answer → Works code names program known before after earlier later answer act
    works_of computes in_frame keeps unchanged = record {
      computes = computes;
      stays = in_frame;
      locals = on_ok_weaker answer (λ kept. kept program names.bases known have) keeps;
      unchanged = unchanged;
    }

    -- one more operand
    pub works_pushed : (given : Temporary) → AreIn program names.bases known before.frame given → OnOk answer (IsPushed given before after)
        → OnOk answer (MeansPushed given before after) → IfErr answer (λ why. why ≡ pause.Memory)
        → ((todo : Point) → AllLead code names program before earlier.used later.used (λ v. act (stands code names program before todo v))
        (λ v. Goes (push (operand_of names.bases before.blocks v given) (stands code names program before todo v))))
        → Works code names program known before after earlier later answer act
    works_pushed given inside is means memory leads =
        works_done code names program known before after earlier later answer act (by_case answer is means) memory
      where
        by_case : (r : Result T Pause) → OnOk r (IsPushed given before after) → OnOk r (MeansPushed given before after)
            → OnOk r (IsDone code names program known before after earlier later answer act)
        by_case (Err why) is means = tt
        by_case (Ok x) is means = record {
          stays = stays (before.frame.temporaries ++ given ∷ []) before after is;
          locals = pushed_locals program names.bases known given before after inside is have;
          goes = λ todo cells v fits.
              leads_on cells _ _ _ (act (stands code names program before todo v)) _ _ (leads todo cells v fits)
              (leads_same cells _ _ _ (ap (λ m. Goes (to_do todo m)) (sym (means code names program v))));
        }

    -- the address of a local of the frame
    pub works_named : (given : Naming) (declaration : ℕ) → Extends given names → declaration < count_of_locals program before.frame.spot.function
        → OnOk answer (IsPlacePushed given.bases (Local before.frame.number declaration) before after)
        → IfErr answer (λ why. why ≡ pause.Memory)
        → LeadsTo (λ todo m. Goes (push_cell (PointerCell (LocalObject m.frame.number declaration) (pos 0)) m))
        → Works code names program known before after earlier later answer act
    works_named given declaration extends early placed memory leads =
        works_done code names program known before after earlier later answer act (by_case answer placed) memory
      where
        by_case : (r : Result T Pause) → OnOk r (IsPlacePushed given.bases (Local before.frame.number declaration) before after)
            → OnOk r (IsDone code names program known before after earlier later answer act)
        by_case (Err why) placed = tt
        by_case (Ok x) placed =
            let named = extends.bases placed.number (Local before.frame.number declaration) placed.named in
            let place : Temporary = Scalar (At placed.number (constant (pos 0))) in
            let inside : AreIn program names.bases known before.frame place =
            (record { declaration = declaration; early = early; named = named }, constant_over known (pos 0)) in
            record {
              stays = stays (before.frame.temporaries ++ place ∷ []) before after placed.pushed;
              locals = pushed_locals program names.bases known place before after inside placed.pushed have;
              goes = λ todo cells v fits.
                  let m = stands code names program before todo v in
                  leads_on cells _ _ _ (act m) _ _ (leads todo cells v fits)
                  (leads_same cells _ _ _ (ap (λ found. Goes (push_cell (pointer_to found (pos 0)) m)) (sym named)
                  ∙ ap (λ m. Goes (to_do todo m)) (sym (placed.means code names program v))));
            }

  -- only a touch
  pub works_met : HasLocalsAlone program names.bases known before → LeadsTo (λ todo m. Goes m)
      → Works {T = Unit {0}} code names program known before before earlier later (Ok tt) act
  works_met have leads = works_done code names program known before before earlier later (Ok tt) act (record {
    stays = record {
      known = record { model = refl; constraints = refl; counters = refl; asked = refl; phase = refl; blocks = refl };
      answers = refl;
      callers = refl;
      number = refl;
      spot = refl;
    };
    locals = have;
    goes = leads;
  }) tt

  -- nothing is claimed if memory runs out
  pub works_failed : {T : Type 0} (after : State) (why : Pause) → why ≡ pause.Memory
      → Works {T = T} code names program known before after earlier later (Err why) act
  works_failed after why memory = record {
    computes = record { done = tt; waits = no_wait why memory };
    stays = tt;
    locals = tt;
    unchanged = no_wait why memory;
  }

  -- the frame continues after the work
  pub works_on : (middle after : State) (answer : Result (Unit {0}) Pause)
      → Works {T = Unit {0}} code names program known before middle earlier later (Ok tt) act
      → OnOk answer (IsMovedOn code middle after) → IfErr answer (λ why. why ≡ pause.Memory)
      → WorksOn code names program known before after earlier later answer act
  works_on middle after (Ok done) works moved memory = record { middle = middle; works = works; moved_on = moved; unchanged = tt }
  works_on middle after (Err why) works moved memory = record {
    middle = middle;
    works = works_failed middle why memory;
    moved_on = tt;
    unchanged = no_wait why memory;
  }

  -- or it doesn't continue
  pub works_stopped : (after : State) (answer : Result (Unit {0}) Pause) (why : Pause) → IsErr answer × IsErrAnd answer (λ e. e ≡ why)
      → Works {T = Unit {0}} code names program known before after earlier later (Err why) act
      → WorksOn code names program known before after earlier later answer act
  works_stopped after (Ok done) why is works = absurd (true≢false (sym is.0))
  works_stopped after (Err e) why is works = record {
    middle = after;
    works = record {
      computes = record { done = tt; waits = λ waits. works.computes.waits (sym is.1 ∙ waits) };
      stays = tt;
      locals = tt;
      unchanged = λ waits. works.unchanged (sym is.1 ∙ waits);
    };
    moved_on = tt;
    unchanged = λ waits. works.unchanged (sym is.1 ∙ waits);
  }
